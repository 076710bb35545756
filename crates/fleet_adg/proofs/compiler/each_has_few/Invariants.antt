use Rattle.fleet_adg.proofs.Words.{ℕ, ◌+◌, ◌<◌, ◌≤◌, MAX_MOVES, steps, moves_by}
use Rattle.fleet_adg.proofs.compiler.each_has_few.Given as goal

abbrev pub invariant-loop-i : goal.invariant-loop-i
invariant-loop-i l = (k : ℕ) → k < l.i → moves_by l.plan k (steps l.plan) + l.stays ≤ MAX_MOVES
