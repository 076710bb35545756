use Rattle.fleet_plan.proofs.Words.{◌≡◌, ℕ, ◌+◌, ◌<◌, ◌≤◌, true, length, is_same_cell, cell_at, end_of}
use Rattle.fleet_plan.proofs.plan.Path.cost.Given as goal

abbrev pub invariant-loop-time : goal.invariant-loop-time
invariant-loop-time l = record {
  within : l.time + 1 ≤ length l.self;
  goal : l.goal ≡ end_of l.self;
  same : (k : ℕ) → l.time ≤ k → k < length l.self → is_same_cell (end_of l.self) (cell_at l.self k) ≡ true;
}

abbrev pub decreases-loop-time : goal.decreases-loop-time
decreases-loop-time l = l.time
