use Rattle.fleet_verify.proofs.Words.{is_passable, AreAddedOnGround}
use Rattle.fleet_verify.proofs.UnderWay.{starts_of}
use Rattle.fleet_verify.proofs.unheld_run.add_starts.Given as goal

abbrev pub invariant-loop-agent : goal.invariant-loop-agent
invariant-loop-agent g l = AreAddedOnGround (is_passable l.grid) (g.P.ProgramView.program l.program) (starts_of l.agent) l.visits
