use Rattle.fleet_verify.proofs.Words.{◌≡◌, ◌≢◌, ℕ, ◌≤◌, length, nth, next_of, IsBlocked}
use Rattle.fleet_verify.proofs.Waiting.{IsWaitTrail}
use Rattle.fleet_verify.proofs.unheld_run.ring_from.Given as goal

abbrev pub invariant-loop-steps : goal.invariant-loop-steps
invariant-loop-steps g l = record {
  blocked : IsBlocked (g.P.ProgramView.program l.program) l.counts l.agent;
  agent : l.agent ≡ nth (next_of l.wants) l._steps l.first;
  apart : (k : ℕ) → 1 ≤ k → k ≤ l._steps → nth (next_of l.wants) k l.first ≢ l.first;
  trail : IsWaitTrail l.counts l.wants l.first l.agent l.trail.items;
  not_back : 1 ≤ length l.trail.items → l.agent ≢ l.first;
}
