use Rattle.fleet_search.proofs.Words.{None, subst, arith, IsSpreadOf}
use Rattle.fleet_search.proofs.Spread.{spread-popped, taken, work-popped}
use Rattle.fleet_search.proofs.distances.Distances.expand_layer.Goals as goal

pub expand-requires-clause-spread : goal.expand-requires-clause-spread
expand-requires-clause-spread c = spread-popped c.in-Some.left c.pop.new.self (subst (IsSpreadOf None) c.in-Some.ensures.some c.loop-left.invariant.0)

pub expand-requires-clause-cell : goal.expand-requires-clause-cell
expand-requires-clause-cell c = taken c.in-Some.left c.pop.new.self (subst (IsSpreadOf None) c.in-Some.ensures.some c.loop-left.invariant.0)

pub loop-left-smaller : goal.loop-left-smaller
loop-left-smaller c =
    let less = work-popped c.loop-left.self c.pop.new.self c.in-Some.left c.in-Some.ensures.some in
    omega (arith, c.in_ok-expand.ensures.spread.work)
