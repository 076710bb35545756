use Rattle.fleet_search.proofs.Words.{None, IsSpreadOf, IsSameSearch, work_left}
use Rattle.fleet_search.proofs.distances.Distances.expand_layer.Given as goal

abbrev pub invariant-loop-left : goal.invariant-loop-left
invariant-loop-left l = IsSpreadOf None l.self × IsSameSearch l.initial.self l.self

abbrev pub decreases-loop-left : goal.decreases-loop-left
decreases-loop-left l = work_left l.self
