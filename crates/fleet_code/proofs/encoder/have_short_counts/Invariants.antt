use Rattle.fleet_code.proofs.Words.{◌≤◌, All, take, MAX_AWAIT_V1}
use Rattle.fleet_code.proofs.encoder.have_short_counts.Given as goal

abbrev pub invariant-loop-k : goal.invariant-loop-k
invariant-loop-k l = All (λ s. All (λ w. w.count ≤ MAX_AWAIT_V1) s.awaits) (take l.k l.actions)
