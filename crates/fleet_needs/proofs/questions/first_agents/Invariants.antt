use Rattle.fleet_needs.proofs.Words.{◌≡◌, ◌<◌, ℕ, true, false, IsFirstIn, IsAskedFor, length, get_or, question_of}
use Rattle.fleet_needs.proofs.questions.first_agents.Given as goal

abbrev pub invariant-loop-k : goal.invariant-loop-k
invariant-loop-k g l = record {
  all : length l.asked.items ≡ length (g.P.ProgramView.program l.program);
  only : (i : ℕ) → get_or l.asked.items i false ≡ true → IsFirstIn l.questions i;
  flagged : (k : ℕ) → k < l.k → IsAskedFor l.asked.items (question_of l.questions k);
}
