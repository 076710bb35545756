use Rattle.fleet_plan.proofs.Words.{◌≡◌, ◌≤◌, ◌*◌, take, sum_by, MAX_HORIZON, cost_of}
use Rattle.fleet_plan.proofs.plan.Plan.sum_of_costs.Given as goal

abbrev pub invariant-loop-i : goal.invariant-loop-i
invariant-loop-i l = record {
  summed : l.costs ≡ sum_by cost_of (take l.i l.self);
  few : l.costs ≤ MAX_HORIZON * l.i;
}
