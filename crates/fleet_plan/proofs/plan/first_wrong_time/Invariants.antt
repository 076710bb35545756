use Rattle.fleet_plan.proofs.Words.{ℕ, ◌<◌, ◌-◌, ◌≡◌, is_passable, cell_at, IsRightAt}
use Rattle.fleet_plan.proofs.plan.first_wrong_time.Given as goal

abbrev pub invariant-loop-time : goal.invariant-loop-time
invariant-loop-time l = (l.before ≡ cell_at l.path (l.time - 1)) × ((s : ℕ) → s < l.time → IsRightAt (is_passable l.grid) l.path s)
