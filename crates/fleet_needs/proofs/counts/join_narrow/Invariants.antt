use Rattle.std.proofs.Common.{◌≡◌, ◌<◌, ◌≤◌, ℕ, get_or, max}
use Rattle.fleet_needs.proofs.counts.join_narrow.Given as goal

abbrev pub invariant-loop-k : goal.invariant-loop-k
invariant-loop-k l = record {
  joined : (m : ℕ) → m < l.k → get_or l.row m 0 ≡ max (get_or l.fn.row m 0) (get_or l.other m 0);
  rest : (m : ℕ) → l.k ≤ m → get_or l.row m 0 ≡ get_or l.fn.row m 0;
}
