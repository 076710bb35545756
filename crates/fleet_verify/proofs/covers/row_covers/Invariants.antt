use Rattle.fleet_verify.proofs.Words.{◌≤◌, ◌-◌, length, AreCovered}
use Rattle.fleet_verify.proofs.covers.row_covers.Given as goal

abbrev pub invariant-loop-from : goal.invariant-loop-from
invariant-loop-from l = record {
  within : l.from ≤ length l.row;
  covered : AreCovered l.row l.other 0 l.from;
}

abbrev pub decreases-loop-from : goal.decreases-loop-from
decreases-loop-from l = length l.row - l.from
