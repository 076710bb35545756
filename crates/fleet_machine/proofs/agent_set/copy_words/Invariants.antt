use Rattle.fleet_machine.proofs.Copied.{AreCopied}
use Rattle.fleet_machine.proofs.agent_set.copy_words.Given as goal

abbrev pub invariant-loop-at : goal.invariant-loop-at
invariant-loop-at l = AreCopied l.others l.words l.left

abbrev pub decreases-loop-at : goal.decreases-loop-at
decreases-loop-at l = l.left
