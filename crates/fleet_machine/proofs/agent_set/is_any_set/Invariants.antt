use Rattle.std.proofs.Common.{◌≡◌, false}
use Rattle.fleet_machine.specs.AgentSet.{AreNoneIn}
use Rattle.fleet_machine.proofs.agent_set.is_any_set.Given as goal

abbrev pub invariant-loop-i : goal.invariant-loop-i
invariant-loop-i l = l.is_any ≡ false → AreNoneIn l.flags l.from l.i
