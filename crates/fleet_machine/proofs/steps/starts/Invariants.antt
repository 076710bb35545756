use Rattle.std.proofs.Common.{◌≡◌, take}
use Rattle.fleet_model.specs.Machine.{opening}
use Rattle.fleet_machine.specs.Near.{AreNear}
use Rattle.fleet_machine.proofs.steps.starts.Given as goal

abbrev pub invariant-loop-i : goal.invariant-loop-i
invariant-loop-i g l = record {
  opening : l.agents.items ≡ take l.i (opening (g.P.ProgramView.program l.program));
  near : AreNear l.agents.items;
}
