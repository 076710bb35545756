use Rattle.fleet_verify.proofs.Words.{◌≡◌, ◌≤◌, ◌<◌, ℕ, Some, slice_get, Await, awaits_of, leaving}
use Rattle.fleet_verify.proofs.order.comes_after.Given as goal

abbrev pub invariant-loop-k : goal.invariant-loop-k
invariant-loop-k g l =
    (m : ℕ) (w : Await) → m < l.k → slice_get (awaits_of (g.P.ProgramView.program l.program) l.second.agent l.second.position) m ≡ Some w → w.agent ≡ l.first.agent → (leaving (g.P.ProgramView.program l.program) l.first).number ≤ w.count → ⊥
