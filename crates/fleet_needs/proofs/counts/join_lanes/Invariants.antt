use Rattle.fleet_needs.proofs.Words.{◌≡◌, ◌≤◌, ◌-◌, ℕ, length, get_or, AreJoined}
use Rattle.fleet_needs.proofs.counts.join_lanes.Given as goal

abbrev pub invariant-loop-row : goal.invariant-loop-row
invariant-loop-row l = record {
  within : l.from ≤ length l.row;
  joined : AreJoined l.fn.row l.other l.row 0 l.from;
  rest : (k : ℕ) → l.from ≤ k → get_or l.row k 0 ≡ get_or l.fn.row k 0;
}

abbrev pub decreases-loop-row : goal.decreases-loop-row
decreases-loop-row l = length l.row - l.from
