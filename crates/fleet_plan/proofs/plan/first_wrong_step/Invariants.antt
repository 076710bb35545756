use Rattle.fleet_plan.proofs.Words.{ℕ, ◌<◌, is_passable, GoesRight}
use Rattle.fleet_plan.proofs.plan.first_wrong_step.Given as goal

abbrev pub invariant-loop-i : goal.invariant-loop-i
invariant-loop-i l = (k : ℕ) → k < l.i → GoesRight (is_passable l.grid) l.plan k
