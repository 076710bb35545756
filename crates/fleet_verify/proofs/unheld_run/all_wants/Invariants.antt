use Rattle.fleet_verify.proofs.Looking.{AreWantsBelow}
use Rattle.fleet_verify.proofs.unheld_run.all_wants.Given as goal

abbrev pub invariant-loop-i : goal.invariant-loop-i
invariant-loop-i g l = AreWantsBelow (g.P.ProgramView.program l.program) l.counts l.wants.items l.i
