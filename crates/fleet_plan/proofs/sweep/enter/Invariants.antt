use Rattle.fleet_plan.proofs.Words.{◌≡◌, length, slice_index, value_in}
use Rattle.fleet_plan.proofs.RowLaws.{IsSoBut}
use Rattle.fleet_plan.proofs.sweep.enter.Given as goal

abbrev pub invariant-loop-i : goal.invariant-loop-i
invariant-loop-i l = IsSoBut l.agents l.i-index (length l.places) (λ k. value_in l.table (slice_index l.places k) ≡ k)
