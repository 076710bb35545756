use Rattle.fleet_search.proofs.Words.{◌≡◌, sym, ap, ◌∙◌, arith, none-some, same_Some, DistanceTable, manhattan}
use Rattle.fleet_search.proofs.Spread.{spread-passed}
use Rattle.fleet_search.proofs.distances.Distances.expand.Goals as goal

pub returns-in_default-clause-spread : goal.returns-in_default-clause-spread
returns-in_default-clause-spread c = spread-passed c.args.self.now c.args.left c.requires.spread (λ n here over. none-some n (c.in_default.ensures ∙ here))

pub returns-then-was_expanded-clause-spread : goal.returns-then-was_expanded-clause-spread
returns-then-was_expanded-clause-spread c = spread-passed c.args.self.now c.args.left c.requires.spread (λ n here over.
    let same : c.in-Some.distance ≡ n = same_Some c.in-Some.distance n (c.in-Some.ensures ∙ here) in
    let bound = ap (λ (d : DistanceTable). d.f_bound) c.self.view_is in
    let begin = ap (λ (d : DistanceTable). manhattan c.args.left d.start) c.self.view_is in
    omega (arith, same, over, bound, begin, c.if-was_expanded.true, c.from.ensures, c.manhattan.ensures.value))

pub label_around-requires-clause-left : goal.label_around-requires-clause-left
label_around-requires-clause-left c =
    let bound = ap (λ (d : DistanceTable). d.f_bound) c.self.view_is in
    let begin = ap (λ (d : DistanceTable). manhattan c.args.left d.start) c.self.view_is in
    record {
      spread = c.requires.spread;
      labelled = sym c.in-Some.ensures;
      on_ground = c.requires.cell;
      over = omega (arith, bound, begin, c.if-was_expanded.false, c.from.ensures, c.manhattan.ensures.value);
    }
