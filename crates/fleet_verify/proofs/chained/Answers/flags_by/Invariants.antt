use Rattle.fleet_verify.proofs.Words.{◌≡◌, ◌<◌, ℕ, false, length, get_or, Question, IsFlagOf}
use Rattle.fleet_verify.proofs.chained.Answers.flags_by.Given as goal

abbrev pub invariant-loop-k : goal.invariant-loop-k
invariant-loop-k l = record {
  all : length l.flags.items ≡ l.k;
  each : (j : ℕ) (q : Question) → j < l.k → IsFlagOf l.self (get_or l.questions j q) (get_or l.flags.items j false);
}
