use Rattle.fleet_machine.proofs.Copied.{AreAdded}
use Rattle.fleet_machine.proofs.agent_set.add_words.Given as goal

abbrev pub invariant-loop-at : goal.invariant-loop-at
invariant-loop-at l = AreAdded l.fn.words l.others l.words l.left

abbrev pub decreases-loop-at : goal.decreases-loop-at
decreases-loop-at l = l.left
