use Rattle.fleet_needs.proofs.Words.{◌≡◌, ◌≤◌, ℕ, get_or, AreJoined}
use Rattle.fleet_needs.proofs.counts.join_rows.Given as goal

abbrev pub invariant-loop-k : goal.invariant-loop-k
invariant-loop-k l = record {
  joined : AreJoined l.fn.row l.other l.row 0 l.k;
  rest : (k : ℕ) → l.k ≤ k → get_or l.row k 0 ≡ get_or l.fn.row k 0;
}
