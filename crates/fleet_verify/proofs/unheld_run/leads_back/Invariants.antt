use Rattle.fleet_verify.proofs.Words.{◌≡◌, ◌≢◌, ℕ, ◌≤◌, nth, next_of, IsBlocked}
use Rattle.fleet_verify.proofs.unheld_run.leads_back.Given as goal

abbrev pub invariant-loop-steps : goal.invariant-loop-steps
invariant-loop-steps g l = record {
  blocked : IsBlocked (g.P.ProgramView.program l.program) l.counts l.agent;
  agent : l.agent ≡ nth (next_of l.wants) l._steps l.i;
  apart : (k : ℕ) → 1 ≤ k → k ≤ l._steps → nth (next_of l.wants) k l.i ≢ l.i;
}
