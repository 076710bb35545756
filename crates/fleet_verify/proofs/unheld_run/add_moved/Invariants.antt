use Rattle.fleet_verify.proofs.Words.{◌++◌, ◌-◌, ◌≤◌, List, length, Visit, is_passable, AreAdded, moved_to, AreOnGround}
use Rattle.fleet_verify.proofs.unheld_run.add_moved.Given as goal

abbrev pub invariant-loop-agent : goal.invariant-loop-agent
invariant-loop-agent g l = record {
  added : (before : List Visit) → AreAdded (g.P.ProgramView.program l.program) before l.initial.visits
      → AreAdded (g.P.ProgramView.program l.program) (before ++ moved_to l.machine l.from) l.visits;
  on_ground : AreOnGround (is_passable l.grid) (g.P.ProgramView.program l.program) (moved_to l.machine l.from);
  within : l.from ≤ length (g.P.ProgramView.program l.program);
}

abbrev pub decreases-loop-agent : goal.decreases-loop-agent
decreases-loop-agent g l = length l.machine.moving - l.from
