use Rattle.std.proofs.Common.{◌∙◌, refl, length-set}
use Rattle.fleet_machine.proofs.Copied.{marked_within, one_cleared, all_cleared}
use Rattle.fleet_machine.proofs.agent_set.clear_words.Goals as goal

pub loop-at-init : goal.loop-at-init
loop-at-init c = record { long = refl; marked = c.requires.marked }

pub bounds-words-at : goal.bounds-words-at
bounds-words-at c = marked_within c.loop-at.words c.loop-at.left c.in-Some.at c.loop-at.invariant.marked c.in-Some.ensures

pub loop-at-preserved : goal.loop-at-preserved
loop-at-preserved c = record {
  long = length-set c.loop-at.words c.in-Some.at 0 ∙ c.loop-at.invariant.long;
  marked = one_cleared c.loop-at.words c.loop-at.left c.in-Some.at c.without_bit-left.result c.loop-at.invariant.marked c.in-Some.ensures
      c.without_bit-left.ensures.here c.without_bit-left.ensures.others;
}

pub loop-at-smaller : goal.loop-at-smaller
loop-at-smaller c = c.without_bit-left.ensures.less c.in-Some.ensures.is_set

pub returns : goal.returns
returns c = all_cleared c.loop-at.words _ c.loop-at.invariant.long c.requires.few (rw c.in_default.ensures at c.loop-at.invariant.marked)
