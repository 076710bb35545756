use Rattle.fleet_plan.proofs.Words.{ℕ, ◌<◌, Exchange}
use Rattle.fleet_plan.proofs.sweep.first_exchange.Given as goal

abbrev pub invariant-loop-i : goal.invariant-loop-i
invariant-loop-i l = (j k : ℕ) → j < l.i → Exchange l.ahead j k → ⊥
