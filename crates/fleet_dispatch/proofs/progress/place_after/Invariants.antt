use Rattle.fleet_dispatch.proofs.Cited.{◌≡◌, path}
use Rattle.fleet_dispatch.proofs.progress.place_after.Given as goal

abbrev pub invariant-loop-n : goal.invariant-loop-n
invariant-loop-n g l = l.place ≡ path (g.P.ProgramView.program l.program) l.i l.n
