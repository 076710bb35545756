use Rattle.fleet_plan.proofs.Words.{ℕ, ◌<◌, StartsOnStart}
use Rattle.fleet_plan.proofs.checking.first_wrong_start.Given as goal

abbrev pub invariant-loop-i : goal.invariant-loop-i
invariant-loop-i l = (k : ℕ) → k < l.i → StartsOnStart l.instance l.plan k
