use Rattle.std.proofs.Common.{◌≡◌}
use Rattle.fleet_model.specs.Program.{awaits_before}
use Rattle.fleet_model.proofs.program.ProgramView.awaits_before.Given as goal

abbrev pub invariant-loop-earlier : goal.invariant-loop-earlier
invariant-loop-earlier g l = l.before ≡ awaits_before (g.Self.ProgramView.program l.self) l.i l.earlier
