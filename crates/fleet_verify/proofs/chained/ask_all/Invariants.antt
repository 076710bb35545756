use Rattle.fleet_verify.proofs.Words.{◌≡◌, ◌<◌, ℕ, length, get_or, Question, IsAskedOf, OpenPair}
use Rattle.fleet_verify.proofs.chained.ask_all.Given as goal

abbrev pub invariant-loop-k : goal.invariant-loop-k
invariant-loop-k g l = record {
  all : length l.asked.items ≡ l.k;
  each : (j : ℕ) (o : OpenPair) (q : Question) → j < l.k → IsAskedOf (g.P.ProgramView.program l.program) (get_or l.pairs.items j o) (get_or l.asked.items j q);
}
