use Rattle.fleet_verify.proofs.Words.{ℕ, nat_eq, get, IsFlagged, AnswersFirstBad}
use Rattle.fleet_verify.proofs.order.first_flagged.Given as goal

abbrev pub invariant-loop-k : goal.invariant-loop-k
invariant-loop-k l = (n : ℕ) → AnswersFirstBad (IsFlagged l.flags) l.pairs l.k n (get nat_eq l.found n)
