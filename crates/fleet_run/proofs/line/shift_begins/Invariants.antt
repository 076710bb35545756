use Rattle.fleet_run.proofs.Words.{◌≡◌, ◌<◌, ◌≤◌, ◌+◌, ℕ, get_or}
use Rattle.fleet_run.proofs.line.shift_begins.Given as goal

abbrev pub invariant-loop-k : goal.invariant-loop-k
invariant-loop-k l = record {
  done : (j : ℕ) → j < l.k → get_or l.begins j 0 + l.from ≡ get_or l.fn.begins j 0 + l.to;
  rest : (j : ℕ) → l.k ≤ j → get_or l.begins j 0 ≡ get_or l.fn.begins j 0;
}
