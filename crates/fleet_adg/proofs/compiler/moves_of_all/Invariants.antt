use Rattle.fleet_adg.proofs.Words.{◌≡◌, ◌≤◌, ◌*◌, sum_by, MAX_HORIZON, indices, steps, moves_by}
use Rattle.fleet_adg.proofs.compiler.moves_of_all.Given as goal

abbrev pub invariant-loop-i : goal.invariant-loop-i
invariant-loop-i l = record {
  counted : l.moves ≡ sum_by (λ i. moves_by l.plan i (steps l.plan)) (indices l.i);
  few : l.moves ≤ MAX_HORIZON * l.i;
}
