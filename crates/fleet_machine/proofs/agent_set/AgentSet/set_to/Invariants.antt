use Rattle.std.proofs.Common.{◌-◌, length}
use Rattle.fleet_machine.proofs.Flags.{IsFilledTo}
use Rattle.fleet_machine.proofs.agent_set.AgentSet.set_to.Given as goal

abbrev pub invariant-loop-i : goal.invariant-loop-i
invariant-loop-i l = IsFilledTo l.flags l.self l.from

abbrev pub decreases-loop-i : goal.decreases-loop-i
decreases-loop-i l = length l.flags - l.from
