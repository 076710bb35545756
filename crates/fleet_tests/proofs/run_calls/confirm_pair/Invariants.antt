use Rattle.std.proofs.Common.{◌≡◌, length}
use Rattle.fleet_tests.proofs.run_calls.confirm_pair.Given as goal

abbrev pub invariant-loop-report : goal.invariant-loop-report
invariant-loop-report g l = length (g.P.ProgramView.program l.fleet.accepted.program) ≡ 2
