use Rattle.fleet_dispatch.proofs.Cited.{◌≡◌, ◌≤◌, path}
use Rattle.fleet_dispatch.proofs.progress.place_before.Given as goal

abbrev pub invariant-steps : goal.invariant-steps
invariant-steps g l = record {
  before : l.count ≤ l.at;
  within : l.at ≤ l.last;
  here : l.place ≡ path (g.P.ProgramView.program l.program) l.i l.at;
}

abbrev pub decreases-steps : goal.decreases-steps
decreases-steps g l = l.at
