use Rattle.std.proofs.Common.{◌/◌, slice_index, arith, refl}
use Rattle.fleet_machine.proofs.Bits.{past_words, first_found, first_none}
use Rattle.fleet_machine.proofs.Marked.{none_marked, word_there, word_filled, next_marked}
use Rattle.fleet_machine.proofs.agent_set.AgentSet.next.Goals as goal

pub returns-then-first-ge-WORDS : goal.returns-then-first-ge-WORDS
returns-then-first-ge-WORDS c =
    let long = c.self.invariant.bits.long in
    rw (← c.self.view_is) (past_words c.self.inside.words c.self.inside.agents c.self.invariant.bits c.args.from (omega (arith, c.if-first-ge-WORDS.true)))

pub returns-in-Some : goal.returns-in-Some
returns-in-Some c =
    let words = c.self.inside.words in
    rw (← c.self.view_is)
    (first_found words c.self.inside.agents c.self.invariant.bits c.args.from (slice_index words (c.args.from / 64)) refl c.in-Some.place (omega arith) c.in-Some.ensures)

pub returns-in_default-lowest : goal.returns-in_default-lowest
returns-in_default-lowest c =
    let words = c.self.inside.words in
    let clear = first_none words c.self.inside.agents c.self.invariant.bits c.args.from (slice_index words (c.args.from / 64)) refl c.in_default.ensures in
    rw (← c.self.view_is)
    (none_marked words c.self.inside.agents c.self.inside.filled c.args.from c.self.invariant.bits c.self.invariant.marked (omega arith) clear c.in_default-lowest.ensures)

pub bounds-self-inside-at : goal.bounds-self-inside-at
bounds-self-inside-at c =
    let words = c.self.inside.words in
    let long = c.self.invariant.bits.long in
    let clear = first_none words c.self.inside.agents c.self.invariant.bits c.args.from (slice_index words (c.args.from / 64)) refl c.in_default.ensures in
    let there = word_there words c.self.inside.agents c.self.inside.filled c.args.from c.self.invariant.bits c.self.invariant.marked (omega arith) clear c.in-Some-lowest.skipped c.in-Some-lowest.ensures in
    omega arith

pub returns-in_default-lowest-2 : goal.returns-in_default-lowest-2
returns-in_default-lowest-2 c =
    let words = c.self.inside.words in
    let clear = first_none words c.self.inside.agents c.self.invariant.bits c.args.from (slice_index words (c.args.from / 64)) refl c.in_default.ensures in
    absurd (word_filled words c.self.inside.agents c.self.inside.filled c.args.from c.self.invariant.bits c.self.invariant.marked (omega arith) clear c.in-Some-lowest.skipped c.in-Some-lowest.ensures
    c.in_default-lowest-2.ensures)

pub returns : goal.returns
returns c =
    let words = c.self.inside.words in
    let clear = first_none words c.self.inside.agents c.self.invariant.bits c.args.from (slice_index words (c.args.from / 64)) refl c.in_default.ensures in
    rw (← c.self.view_is)
    (next_marked words c.self.inside.agents c.self.inside.filled c.args.from c.self.invariant.bits c.self.invariant.marked (omega arith) clear c.in-Some-lowest.skipped c.in-Some-lowest.ensures c.in-Some-lowest-2.place c.in-Some-lowest-2.ensures)
