use Rattle.fleet_plan.proofs.Words.{ℕ, ◌<◌}
use Rattle.fleet_plan.specs.Apart.{HasFollowing}
use Rattle.fleet_plan.specs.Sweep.{HasComeTo}
use Rattle.fleet_plan.proofs.sweep.Sweep.is_apart.Given as goal

abbrev pub invariant-loop-time : goal.invariant-loop-time
invariant-loop-time l = record {
  come : HasComeTo l.grid l.plan l.time l.self;
  nobody : (x : ℕ) → x < l.time → HasFollowing l.plan x → ⊥;
}
