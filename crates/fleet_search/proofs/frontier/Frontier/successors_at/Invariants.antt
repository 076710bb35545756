use Rattle.fleet_search.proofs.Turning.{IsTurning}
use Rattle.fleet_search.proofs.frontier.Frontier.successors_at.Given as goal

abbrev pub invariant-loop-interval : goal.invariant-loop-interval
invariant-loop-interval l = IsTurning l.query l.bucket l.left l.neighbour.cell l.interval l.initial.self l.self
