use Rattle.std.proofs.Common.{arith}
use Rattle.fleet_machine.proofs.Copied.{none_added, one_added, all_added}
use Rattle.fleet_machine.proofs.agent_set.add_words.Goals as goal

pub loop-at-init : goal.loop-at-init
loop-at-init c = none_added c.args.words.now c.args.others.now c.args.marks c.requires.few c.requires.long c.requires.marked

pub bounds-others-at : goal.bounds-others-at
bounds-others-at c = c.loop-at.invariant.there c.in-Some.at c.in-Some.ensures.within c.in-Some.ensures.is_set

pub bounds-words-at : goal.bounds-words-at
bounds-words-at c = omega (arith, c.loop-at.invariant.long, c.loop-at.invariant.same_length, c.loop-at.invariant.there c.in-Some.at c.in-Some.ensures.within c.in-Some.ensures.is_set)

pub loop-at-preserved : goal.loop-at-preserved
loop-at-preserved c =
    one_added c.args.words.now c.args.others.now c.loop-at.words c.loop-at.left c.in-Some.at c.without_bit-left.result c.loop-at.invariant c.in-Some.ensures
    c.without_bit-left.ensures.here c.without_bit-left.ensures.others

pub loop-at-smaller : goal.loop-at-smaller
loop-at-smaller c = c.without_bit-left.ensures.less c.in-Some.ensures.is_set

pub returns-clause-long : goal.returns-clause-long
returns-clause-long c = c.loop-at.invariant.long

pub returns-clause-added : goal.returns-clause-added
returns-clause-added c = all_added c.args.words.now c.args.others.now c.loop-at.words (rw c.in_default.ensures at c.loop-at.invariant)
