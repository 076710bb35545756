use Rattle.std.proofs.Common.{All}
use Rattle.std.specs.List.Sorted.{IsStrictlyIncreasing}
use Rattle.fleet_tests.proofs.call_tests.many_ticks_are_written.Given as goal

abbrev pub invariant-loop : goal.invariant-loop
invariant-loop g l = All (λ row. IsStrictlyIncreasing row.items) l.rows.items
