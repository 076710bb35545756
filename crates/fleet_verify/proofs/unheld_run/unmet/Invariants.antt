use Rattle.fleet_verify.proofs.Words.{◌≡◌, ℕ, ◌<◌, ◌≤◌, slice_index, Some, slice_get, Await, awaits_of}
use Rattle.fleet_verify.proofs.unheld_run.unmet.Given as goal

abbrev pub invariant-loop-k : goal.invariant-loop-k
invariant-loop-k g l =
    (m : ℕ) (w : Await) → m < l.k → slice_get (awaits_of (g.P.ProgramView.program l.program) l.i l.number) m ≡ Some w → w.count ≤ slice_index l.counts w.agent
