use Rattle.fleet_verify.proofs.Words.{ℕ, ◌<◌, length, IsBlocked, WaitsBack}
use Rattle.fleet_verify.proofs.unheld_run.least_on_ring.Given as goal

abbrev pub invariant-loop-i : goal.invariant-loop-i
invariant-loop-i g l = (j : ℕ) → j < l.i → IsBlocked (g.P.ProgramView.program l.program) l.counts j → WaitsBack l.wants (length (g.P.ProgramView.program l.program)) j → ⊥
