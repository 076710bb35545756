use Rattle.fleet_verify.proofs.Words.{is_passable, AreAdded, begun_in, AreOnGround}
use Rattle.fleet_verify.proofs.UnderWay.{IsUnderWay}
use Rattle.fleet_verify.proofs.unheld_run.run_on.Given as goal

abbrev pub invariant-loop-ticks : goal.invariant-loop-ticks
invariant-loop-ticks g l = record {
  under_way : IsUnderWay (g.P.ProgramView.program l.program) l.machine l.ticks;
  added : AreAdded (g.P.ProgramView.program l.program) (begun_in (g.P.ProgramView.program l.program) l.ticks) l.visits;
  on_ground : AreOnGround (is_passable l.grid) (g.P.ProgramView.program l.program) (begun_in (g.P.ProgramView.program l.program) l.ticks);
}
