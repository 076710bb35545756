use Rattle.fleet_verify.proofs.Words.{◌≡◌, length, is_passable, IsAhead}
use Rattle.fleet_verify.proofs.still.run_ahead.Given as goal

abbrev pub invariant-loop : goal.invariant-loop
invariant-loop g l = record {
  ahead : IsAhead (is_passable l.grid) (g.P.ProgramView.program l.program) l.ahead;
  queue : l.queue ≡ length (g.P.ProgramView.program l.program);
}
