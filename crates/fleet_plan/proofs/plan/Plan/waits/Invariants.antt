use Rattle.fleet_plan.proofs.Words.{◌≡◌, ◌≤◌, ◌*◌, take, sum_by, MAX_HORIZON, waits_of}
use Rattle.fleet_plan.proofs.plan.Plan.waits.Given as goal

abbrev pub invariant-loop-i : goal.invariant-loop-i
invariant-loop-i l = record {
  summed : l.waits ≡ sum_by waits_of (take l.i l.self);
  few : l.waits ≤ MAX_HORIZON * l.i;
}
