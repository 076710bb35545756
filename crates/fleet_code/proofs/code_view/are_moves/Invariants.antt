use Rattle.fleet_code.proofs.Words.{◌≡◌, ◌≤◌, ℕ, Some, IsTrue, Step, is_move, step_of}
use Rattle.fleet_code.proofs.code_view.are_moves.Given as goal

abbrev pub invariant-loop-finished : goal.invariant-loop-finished
invariant-loop-finished g l = record {
  moves : (n : ℕ) (s : Step) → n ≤ l.finished → step_of (g.P.ProgramView.program l.program) l.i n ≡ Some s → IsTrue (is_move s);
  at : l.at ≡ g.P.ProgramView.offset l.program l.i l.finished 0;
}
