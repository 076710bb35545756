use Rattle.std.proofs.Common.{◌≡◌, length}
use Rattle.fleet_tests.proofs.run_calls.tick_pair.Given as goal

abbrev pub invariant-loop-tick : goal.invariant-loop-tick
invariant-loop-tick g l = length (g.P.ProgramView.program l.fleet.accepted.program) ≡ 2
