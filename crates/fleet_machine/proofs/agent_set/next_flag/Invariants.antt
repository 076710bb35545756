use Rattle.std.proofs.Common.{◌-◌, ◌≤◌, length}
use Rattle.fleet_machine.specs.AgentSet.{AreNoneIn}
use Rattle.fleet_machine.proofs.agent_set.next_flag.Given as goal

abbrev pub invariant-loop-at : goal.invariant-loop-at
invariant-loop-at l = record {
  later : l.from ≤ l.at;
  clear : AreNoneIn l.flags l.from l.at;
}

abbrev pub decreases-loop-at : goal.decreases-loop-at
decreases-loop-at l = length l.flags - l.at
