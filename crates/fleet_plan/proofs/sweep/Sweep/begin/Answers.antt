use Rattle.fleet_plan.proofs.Words.{sym, arith, with_items_is}
use Rattle.fleet_plan.proofs.SweepLaws.{come_first, first_meets}
use Rattle.fleet_plan.proofs.sweep.Sweep.begin.Goals as goal

pub returns : goal.returns
returns c =
    let places = c.self.inside.places in
    let same = with_items_is places c.fill_places.new.places (omega (arith, c.fill_places.auto.places, c.as_mut_slice-places.ensures.len, places.ok)) in
    rw (same, c.copy_from_slice.ensures.items)
    (come_first c.args.grid.now c.args.plan.now c.first_meeting.new.table c.fill_places.new.places _ (rw (sym c.self.view_is) at c.requires.fresh) c.fill_places.ensures (rw c.in_default.is at c.in_ok-i.ensures))

pub returns-in-Some : goal.returns-in-Some
returns-in-Some c =
    first_meets c.cells_have_places_of_their_own.ensures c.args.grid.now c.args.plan.now c.requires.on_map 0 c.fill_places.new.places (record { here = c.fill_places.ensures; earlier = λ d h. omega arith })
    c.in-Some.i c.in-Some.j (rw c.in-Some.is at c.in_ok-i.ensures)
