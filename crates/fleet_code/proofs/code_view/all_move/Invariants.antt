use Rattle.fleet_code.proofs.Words.{◌<◌, ℕ, MovesAlways}
use Rattle.fleet_code.proofs.code_view.all_move.Given as goal

abbrev pub invariant-loop-i : goal.invariant-loop-i
invariant-loop-i g l = (k : ℕ) → k < l.i → MovesAlways (g.P.ProgramView.program l.program) k
