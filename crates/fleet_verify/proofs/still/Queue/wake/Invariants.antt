use Rattle.std.proofs.Common.{◌≡◌}
use Rattle.fleet_verify.proofs.still.Queue.wake.Given as goal

abbrev pub invariant-loop : goal.invariant-loop
invariant-loop l = l.self ≡ l.initial.self
