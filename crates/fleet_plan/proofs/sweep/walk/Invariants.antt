use Rattle.std.proofs.Common.{sum_by}
use Rattle.fleet_plan.proofs.WalkLaws.{IsWalk, unmet_agents}
use Rattle.fleet_plan.proofs.sweep.walk.Given as goal

abbrev pub invariant-loop-next : goal.invariant-loop-next
invariant-loop-next l = IsWalk l.ahead l.fn.walks l.walks l.number l.first l.agent

abbrev pub decreases-loop-next : goal.decreases-loop-next
decreases-loop-next l = sum_by unmet_agents l.walks
