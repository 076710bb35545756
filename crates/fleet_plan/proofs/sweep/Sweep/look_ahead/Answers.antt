use Rattle.fleet_plan.proofs.Words.{sym, arith, with_items_is}
use Rattle.fleet_plan.proofs.MeetLaws.{entered_apart, told_in}
use Rattle.fleet_plan.proofs.SweepLaws.{found_is, nobody_yet, unwalked_yet, others_there, names_leavers, names_movers, others_entered, others_settled, come_to_as}
use Rattle.fleet_plan.proofs.sweep.Sweep.look_ahead.Goals as goal

pub fill_next-requires-clause-others : goal.fill_next-requires-clause-others
fill_next-requires-clause-others c =
    let has = come_to_as _ _ _ _ _ _ _ _ c.as_slice-places.ensures.value c.as_mut_slice-next.ensures.value c.as_mut_slice-ahead.ensures.value c.as_mut_slice-walks.ensures.value (rw (sym c.self.view_is) at c.requires.swept) in
    rw c.as_slice-agents.ensures.value (others_there c.args.grid.now c.args.plan.now c.self.inside.table c.as_slice-places.result.now c.as_mut_slice-next.result.now c.as_mut_slice-ahead.result.now c.as_mut_slice-walks.result.now c.self.inside.agents.items c.args.time has.swept has.fits.next)

pub fill_ahead-apart-requires-clause-agents : goal.fill_ahead-apart-requires-clause-agents
fill_ahead-apart-requires-clause-agents c =
    let has = come_to_as _ _ _ _ _ _ _ _ c.as_slice-places.ensures.value c.as_mut_slice-next.ensures.value c.as_mut_slice-ahead.ensures.value c.as_mut_slice-walks.ensures.value (rw (sym c.self.view_is) at c.requires.swept) in
    rw c.as_slice-agents.ensures.value (names_leavers c.args.grid.now c.args.plan.now c.self.inside.table c.as_slice-places.result.now c.as_mut_slice-next.result.now c.as_mut_slice-ahead.result.now c.as_mut_slice-walks.result.now c.self.inside.agents.items c.args.time has.swept has.fits.next c.fill_next.new.next c.fill_next.ensures)

pub fill_ahead-apart-requires-clause-ahead : goal.fill_ahead-apart-requires-clause-ahead
fill_ahead-apart-requires-clause-ahead c =
    let has = come_to_as _ _ _ _ _ _ _ _ c.as_slice-places.ensures.value c.as_mut_slice-next.ensures.value c.as_mut_slice-ahead.ensures.value c.as_mut_slice-walks.ensures.value (rw (sym c.self.view_is) at c.requires.swept) in
    nobody_yet c.args.grid.now c.args.plan.now c.self.inside.table c.as_slice-places.result.now c.as_mut_slice-next.result.now c.as_mut_slice-ahead.result.now c.as_mut_slice-walks.result.now c.self.inside.agents.items c.args.time has.swept has.fits.next has.fits.ahead

pub conflict_in-requires-clause-agents : goal.conflict_in-requires-clause-agents
conflict_in-requires-clause-agents c =
    let has = come_to_as _ _ _ _ _ _ _ _ c.as_slice-places.ensures.value c.as_mut_slice-next.ensures.value c.as_mut_slice-ahead.ensures.value c.as_mut_slice-walks.ensures.value (rw (sym c.self.view_is) at c.requires.swept) in
    rw c.as_slice-agents.ensures.value (names_movers c.args.grid.now c.args.plan.now c.self.inside.table c.as_slice-places.result.now c.as_mut_slice-next.result.now c.as_mut_slice-ahead.result.now c.as_mut_slice-walks.result.now c.self.inside.agents.items c.args.time has.swept has.fits.next c.fill_next.new.next c.fill_next.ensures c.fill_ahead-apart.new.ahead c.fill_ahead-apart.ensures.ahead)

pub conflict_in-requires-clause-walks : goal.conflict_in-requires-clause-walks
conflict_in-requires-clause-walks c =
    let has = come_to_as _ _ _ _ _ _ _ _ c.as_slice-places.ensures.value c.as_mut_slice-next.ensures.value c.as_mut_slice-ahead.ensures.value c.as_mut_slice-walks.ensures.value (rw (sym c.self.view_is) at c.requires.swept) in
    unwalked_yet c.args.grid.now c.args.plan.now c.self.inside.table c.as_slice-places.result.now c.as_mut_slice-next.result.now c.as_mut_slice-ahead.result.now c.as_mut_slice-walks.result.now c.self.inside.agents.items c.args.time has.swept has.fits.next c.fill_next.new.next c.fill_next.ensures c.fill_ahead-apart.new.ahead c.fill_ahead-apart.ensures.ahead has.fits.walks

pub returns-clause-found : goal.returns-clause-found
returns-clause-found c =
    let has = come_to_as _ _ _ _ _ _ _ _ c.as_slice-places.ensures.value c.as_mut_slice-next.ensures.value c.as_mut_slice-ahead.ensures.value c.as_mut_slice-walks.ensures.value (rw (sym c.self.view_is) at c.requires.swept) in
    let places = c.as_slice-places.result.now in
    let next = c.fill_next.new.next in
    let found = c.conflict_in.result in
    rw (with_items_is c.self.inside.next next (omega (arith, c.fill_next.auto.next, c.as_mut_slice-next.ensures.len, c.self.inside.next.ok))) (found_is c.cells_have_places_of_their_own.ensures c.args.grid.now c.args.plan.now c.requires.on_map c.args.time places next has.swept.sweep c.fill_next.ensures found
    (told_in places next c.fill_ahead-apart.new.ahead c.args.time (entered_apart c.self.inside.table places has.swept.entered) c.fill_ahead-apart.ensures.ahead found c.conflict_in.ensures.found))

pub returns-clause-ahead : goal.returns-clause-ahead
returns-clause-ahead c =
    let has = come_to_as _ _ _ _ _ _ _ _ c.as_slice-places.ensures.value c.as_mut_slice-next.ensures.value c.as_mut_slice-ahead.ensures.value c.as_mut_slice-walks.ensures.value (rw (sym c.self.view_is) at c.requires.swept) in
    let v = c.self.inside in
    let was = rw (sym c.self.view_is) at c.requires.swept in
    rw (
      with_items_is v.next c.fill_next.new.next (omega (arith, c.fill_next.auto.next, c.as_mut_slice-next.ensures.len, v.next.ok)),
      with_items_is v.ahead c.fill_ahead-apart.new.ahead (omega (arith, c.fill_ahead-apart.auto.ahead, c.as_mut_slice-ahead.ensures.len, v.ahead.ok)),
      with_items_is v.walks c.conflict_in.new.walks (omega (arith, c.conflict_in.auto.walks, c.as_mut_slice-walks.ensures.len, v.walks.ok)),
    )
    (record {
      fits = record {
        places = was.fits.places;
        next = c.fill_next.ensures.all;
        ahead = omega (arith, c.fill_ahead-apart.auto.ahead, has.fits.ahead);
        walks = omega (arith, c.conflict_in.auto.walks, has.fits.walks);
      };
      entered = others_entered c.args.grid.now c.args.plan.now v.table c.as_slice-places.result.now c.as_mut_slice-next.result.now c.as_mut_slice-ahead.result.now c.as_mut_slice-walks.result.now v.agents.items c.args.time has.swept has.fits.next c.fill_next.new.next c.fill_next.ensures;
      settled = rw (sym c.as_slice-places.ensures.value) (others_settled c.args.grid.now c.args.plan.now v.table c.as_slice-places.result.now c.as_mut_slice-next.result.now c.as_mut_slice-ahead.result.now c.as_mut_slice-walks.result.now v.agents.items c.args.time has.swept has.fits.next c.fill_next.new.next c.fill_next.ensures c.fill_ahead-apart.new.ahead c.fill_ahead-apart.ensures.ahead c.conflict_in.new.walks c.conflict_in.ensures.unwalked);
      covers = has.swept.covers;
    })
