use Rattle.fleet_needs.proofs.Words.{◌≡◌, ◌<◌, ℕ, [], length, row_in}
use Rattle.fleet_needs.proofs.critical.CriticalCosts.begin.Given as goal

abbrev pub invariant-loop-i : goal.invariant-loop-i
invariant-loop-i g l = record {
  all : length l.rows.items ≡ l.i;
  each : (k : ℕ) → k < l.i → row_in l.rows.items k ≡ record { costs = []; stage = record { met = 0; at = g.P.ProgramView.offset l.program k 0 0; greatest = 0 } };
}
