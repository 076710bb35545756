use Rattle.std.proofs.Common.{◌≡◌, ◌+◌, ◌-◌, ℕ, length}
use Rattle.fleet_grid.specs.Table.{items_at}
use Rattle.fleet_grid.proofs.table.extend_to.Given as goal

abbrev pub invariant-loop-alloc : goal.invariant-loop-alloc
invariant-loop-alloc g l = (k : ℕ) → items_at l.pages.items k ≡ items_at l.initial.pages.items k

abbrev pub decreases-loop-alloc : goal.decreases-loop-alloc
decreases-loop-alloc g l = (l.page + 1) - length l.pages.items
