use Rattle.fleet_plan.proofs.Words.{◌≡◌, ℕ, ◌<◌, slice_index, cell_index, cell_of}
use Rattle.fleet_plan.proofs.sweep.fill_places.Given as goal

abbrev pub invariant-loop-i : goal.invariant-loop-i
invariant-loop-i l = (k : ℕ) → k < l.i → slice_index l.places k ≡ cell_index l.grid (cell_of l.plan k l.time)
