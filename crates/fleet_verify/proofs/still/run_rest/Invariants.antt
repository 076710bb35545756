use Rattle.fleet_verify.proofs.Words.{length, is_passable, IsAhead}
use Rattle.fleet_verify.proofs.FewerLeft.{left_to}
use Rattle.fleet_verify.proofs.still.run_rest.Given as goal

abbrev pub invariant-loop-agent : goal.invariant-loop-agent
invariant-loop-agent g l = IsAhead (is_passable l.grid) (g.P.ProgramView.program l.program) l.ahead

abbrev pub decreases-loop-agent : goal.decreases-loop-agent
decreases-loop-agent g l = left_to (g.P.ProgramView.program l.program) l.ahead.rows.items (length (g.P.ProgramView.program l.program))
