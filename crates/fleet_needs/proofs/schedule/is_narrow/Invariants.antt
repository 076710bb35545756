use Rattle.fleet_needs.proofs.Words.{ℕ, ◌<◌, ◌≤◌, moves}
use Rattle.fleet_needs.proofs.schedule.is_narrow.Given as goal

abbrev pub invariant-loop-i : goal.invariant-loop-i
invariant-loop-i g l = (k : ℕ) → k < l.i → moves (g.P.ProgramView.program l.program) k ≤ 65535
