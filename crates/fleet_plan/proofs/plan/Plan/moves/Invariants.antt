use Rattle.fleet_plan.proofs.Words.{◌≡◌, ◌≤◌, ◌*◌, take, sum_by, MAX_HORIZON, moves_of}
use Rattle.fleet_plan.proofs.plan.Plan.moves.Given as goal

abbrev pub invariant-loop-i : goal.invariant-loop-i
invariant-loop-i l = record {
  summed : l.moves ≡ sum_by moves_of (take l.i l.self);
  few : l.moves ≤ MAX_HORIZON * l.i;
}
