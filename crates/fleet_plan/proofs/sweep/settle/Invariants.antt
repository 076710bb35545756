use Rattle.fleet_plan.proofs.Words.{length, IsAgentSettled}
use Rattle.fleet_plan.proofs.RowLaws.{IsSoBut}
use Rattle.fleet_plan.proofs.sweep.settle.Given as goal

abbrev pub invariant-loop-i : goal.invariant-loop-i
invariant-loop-i l = IsSoBut l.agents l.i-index (length l.next) (IsAgentSettled l.places l.next l.ahead l.walks)
