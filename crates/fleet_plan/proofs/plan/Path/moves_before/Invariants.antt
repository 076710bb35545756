use Rattle.fleet_plan.proofs.Words.{◌≡◌, ◌≤◌, moves_before}
use Rattle.fleet_plan.proofs.plan.Path.moves_before.Given as goal

abbrev pub invariant-loop-t : goal.invariant-loop-t
invariant-loop-t l = record {
  counted : l.moves ≡ moves_before l.self l.t;
  few : l.moves ≤ l.t;
}
