use Rattle.fleet_plan.proofs.Words.{length, IsTrue, ahead_of, IsAhead, Exchange, HasNone}
use Rattle.fleet_plan.proofs.RowLaws.{IsSoBut}
use Rattle.fleet_plan.proofs.sweep.fill_ahead.Given as goal

abbrev pub invariant-loop-i : goal.invariant-loop-i
invariant-loop-i l = record {
  each : IsSoBut l.agents l.i-index (length l.places) (λ k. IsAhead l.places l.next k (ahead_of l.ahead k));
  apart : IsTrue l.apart → HasNone (Exchange l.ahead);
}
