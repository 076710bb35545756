use Rattle.fleet_verify.proofs.Words.{◌≤◌, ℕ, IsCriticalCost}
use Rattle.fleet_verify.proofs.times.Times.free_count.Given as goal

abbrev pub invariant-loop-finished : goal.invariant-loop-finished
invariant-loop-finished g l = record {
  free : (m : ℕ) → 1 ≤ m → m ≤ l.finished → IsCriticalCost (g.P.ProgramView.program l.self.program) (g.C.ActionCosts.cost l.self.costs) (record { agent = l.fn.i; number = m }) 0;
}
