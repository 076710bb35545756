use Rattle.fleet_plan.proofs.Words.{ℕ, ◌<◌, EndsOnGoal}
use Rattle.fleet_plan.proofs.checking.first_wrong_goal.Given as goal

abbrev pub invariant-loop-i : goal.invariant-loop-i
invariant-loop-i l = (k : ℕ) → k < l.i → EndsOnGoal l.instance l.plan k
