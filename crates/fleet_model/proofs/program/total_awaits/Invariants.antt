use Rattle.std.proofs.Common.{◌≡◌, take}
use Rattle.fleet_model.specs.Program.{total_awaits}
use Rattle.fleet_model.proofs.program.total_awaits.Given as goal

abbrev pub invariant-loop-i : goal.invariant-loop-i
invariant-loop-i g l = l.total ≡ total_awaits (take l.i (g.P.ProgramView.program l.p))
