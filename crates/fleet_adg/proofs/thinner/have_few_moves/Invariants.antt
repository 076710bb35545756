use Rattle.fleet_adg.proofs.Words.{◌<◌, ◌≤◌, ℕ, MAX_MOVES_V1, moves}
use Rattle.fleet_adg.proofs.thinner.have_few_moves.Given as goal

abbrev pub invariant-loop-i : goal.invariant-loop-i
invariant-loop-i g l = (k : ℕ) → k < l.i → moves (g.P.ProgramView.program l.program) k ≤ MAX_MOVES_V1
