use Rattle.std.proofs.Common.{◌≡◌, length}
use Rattle.fleet_machine.specs.AgentSet.{AreMarks}
use Rattle.fleet_machine.proofs.agent_set.clear_words.Given as goal

abbrev pub invariant-loop-at : goal.invariant-loop-at
invariant-loop-at l = record {
  long : length l.words ≡ length l.fn.words;
  marked : AreMarks l.words l.left;
}

abbrev pub decreases-loop-at : goal.decreases-loop-at
decreases-loop-at l = l.left
