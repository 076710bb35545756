use Rattle.fleet_plan.proofs.Words.{ℕ, ◌+◌, ◌<◌, slice_index, cell_index, cell_of}
use Rattle.fleet_plan.specs.Apart.{IsTakenFrom}
use Rattle.fleet_plan.proofs.sweep.Sweep.has_following.Given as goal

abbrev pub invariant-loop-i : goal.invariant-loop-i
invariant-loop-i l = (k : ℕ) → k < l.i-index → IsTakenFrom l.places (slice_index l.i-items k) (cell_index l.grid (cell_of l.plan (slice_index l.i-items k) (l.time + 1))) → ⊥
