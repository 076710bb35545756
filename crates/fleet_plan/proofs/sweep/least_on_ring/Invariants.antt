use Rattle.fleet_plan.proofs.WalkLaws.{AreWalked}
use Rattle.fleet_plan.proofs.sweep.least_on_ring.Given as goal

abbrev pub invariant-loop-number : goal.invariant-loop-number
invariant-loop-number l = AreWalked l.row l.ahead l.walks l.least l.number
