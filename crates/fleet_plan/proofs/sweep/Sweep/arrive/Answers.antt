use Rattle.fleet_plan.proofs.Words.{ap, sym, ◌∙◌, length, arith, with_items_is, SweepRows}
use Rattle.fleet_plan.proofs.sweep.Sweep.arrive.Goals as goal

pub meeting-requires-clause-others : goal.meeting-requires-clause-others
meeting-requires-clause-others c =
    let has = rw (sym c.self.view_is) at c.requires.ahead in
    rw (c.as_slice-agents.ensures.value, c.as_slice-next.ensures.value) has.entered

pub returns-in-Some : goal.returns-in-Some
returns-in-Some c =
    rw (sym (c.as_slice-next.ensures.value ∙ ap (λ (rows : SweepRows). rows.next) c.self.view_is)) (rw c.in-Some.is at c.in_ok-pair.ensures)

pub settle-requires-clause-others : goal.settle-requires-clause-others
settle-requires-clause-others c =
    let has = rw (sym c.self.view_is) at c.requires.ahead in
    rw (c.as_slice-agents.ensures.value, c.as_slice-next.ensures.value, c.as_mut_slice-places.ensures.value, c.as_mut_slice-ahead.ensures.value, c.as_mut_slice-walks.ensures.value) has.settled

pub returns : goal.returns
returns c =
    let v = c.self.inside in
    let has = rw (sym c.self.view_is) at c.requires.ahead in
    rw (
      with_items_is v.places c.settle.new.places (omega (arith, c.settle.auto.places, c.as_mut_slice-places.ensures.len, v.places.ok)),
      with_items_is v.ahead c.settle.new.ahead (omega (arith, c.settle.auto.ahead, c.as_mut_slice-ahead.ensures.len, v.ahead.ok)),
      with_items_is v.walks c.settle.new.walks (omega (arith, c.settle.auto.walks, c.as_mut_slice-walks.ensures.len, v.walks.ok)),
    )
    (record {
      fits = record {
        places = omega (arith, c.settle.auto.places, ap length c.as_mut_slice-places.ensures.value, has.fits.places);
        next = has.fits.next;
        ahead = omega (arith, c.settle.auto.ahead, ap length c.as_mut_slice-ahead.ensures.value, has.fits.ahead);
        walks = omega (arith, c.settle.auto.walks, ap length c.as_mut_slice-walks.ensures.value, has.fits.walks);
      };
      next = ap (λ (rows : SweepRows). rows.next) c.self.view_is;
      entered = rw (sym c.as_slice-next.ensures.value) (rw c.in_default.is at c.in_ok-pair.ensures);
      settled = rw (sym c.as_slice-next.ensures.value) c.settle.ensures;
      covers = c.drop_arrived.ensures;
    })
