use Rattle.std.proofs.Common.{◌≡◌, ◌≤◌, ◌+◌, ◌-◌, true, length, take}
use Rattle.std.specs.List.{list_all}
use Rattle.fleet_model.specs.Program.{awaits_of}
use Rattle.fleet_model.specs.Machine.{is_met}
use Rattle.fleet_machine.proofs.machine.Machine.read_on.Given as goal

abbrev pub invariant-awaits : goal.invariant-awaits
invariant-awaits g l = record {
  few : l.met ≤ length (awaits_of (g.P.ProgramView.program l.program) l.i (l.finished + 1));
  met : list_all (is_met l.self.configuration) (take l.met (awaits_of (g.P.ProgramView.program l.program) l.i (l.finished + 1))) ≡ true;
}

abbrev pub decreases-awaits : goal.decreases-awaits
decreases-awaits g l = length (awaits_of (g.P.ProgramView.program l.program) l.i (l.finished + 1)) - l.met
