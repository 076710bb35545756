use Rattle.fleet_dispatch.proofs.Cited.{◌≡◌, true, take, list_all, awaits_of, is_done}
use Rattle.fleet_dispatch.proofs.progress.Progress.missing.Given as goal

abbrev pub invariant-loop-k : goal.invariant-loop-k
invariant-loop-k g l = list_all (is_done l.self.done) (take l.k (awaits_of (g.P.ProgramView.program l.program) l.i l.n)) ≡ true
