use Rattle.fleet_search.proofs.Words.{◌<◌, length, refl, sym, ap, subst, IsGround, cell_index, DistanceTable, IsOnGround}
use Rattle.fleet_search.proofs.Spread.{none-labelled, spread-begin}
use Rattle.fleet_search.proofs.distances.Distances.begin.Goals as goal

pub returns-clause-search : goal.returns-clause-search
returns-clause-search c =
    let r = c.renumber.new.self in
    let map = subst (λ (t : DistanceTable). IsGround t.grid) c.aim.ensures c.place-place.ensures.sizes in
    let on = subst (λ g. IsOnGround g c.args.goal) (sym (ap (λ (t : DistanceTable). t.grid) c.renumber.ensures.same)) c.requires in
    let within = subst (λ (t : DistanceTable). cell_index t.grid c.args.goal < length t.labels) c.aim.ensures (rw c.place-place.ensures.value at c.place-place.ensures.within) in
    rw (c.in_ok-push.ensures.put, c.set_label.ensures, c.place-place.ensures.value, c.aim.ensures) record {
      spread = spread-begin r c.args.start c.args.goal map (none-labelled r.grid r.labels r.search c.renumber.ensures.some c.renumber.ensures.fresh) on within;
      next = refl;
      start = refl;
      goal = refl;
    }
