use Rattle.fleet_plan.proofs.Words.{◌≡◌, length, slice_index, cell_index, cell_of}
use Rattle.fleet_plan.proofs.RowLaws.{IsSoBut}
use Rattle.fleet_plan.proofs.sweep.fill_next.Given as goal

abbrev pub invariant-loop-i : goal.invariant-loop-i
invariant-loop-i l = IsSoBut l.agents l.i-index (length l.plan) (λ k. slice_index l.next k ≡ cell_index l.grid (cell_of l.plan k l.time))
