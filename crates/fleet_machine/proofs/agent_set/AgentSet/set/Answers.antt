use Rattle.std.proofs.Common.{◌/◌, set, sym, ◌∙◌, ap, arith, rules}
use Rattle.fleet_machine.proofs.Bits.{word_within, bits_with, flags_with, long_flags}
use Rattle.fleet_machine.proofs.Marked.{mark_written, marked_by}
use Rattle.fleet_machine.proofs.agent_set.AgentSet.set.Goals as goal

pub bounds-self-inside-at : goal.bounds-self-inside-at
bounds-self-inside-at c =
    let agent = rw (sym c.self.view_is, long_flags c.self.inside.words c.self.inside.agents) at c.requires in
    let few = c.self.invariant.bits.few in
    omega arith

pub bounds-self-inside-at-2 : goal.bounds-self-inside-at-2
bounds-self-inside-at-2 c =
    let agent = rw (sym c.self.view_is, long_flags c.self.inside.words c.self.inside.agents) at c.requires in
    let few = c.self.invariant.bits.few in
    omega arith

pub with_bit-self-inside-requires : goal.with_bit-self-inside-requires
with_bit-self-inside-requires c =
    let agent = rw (sym c.self.view_is, long_flags c.self.inside.words c.self.inside.agents) at c.requires in
    let few = c.self.invariant.bits.few in
    omega arith

pub invariant_of-self : goal.invariant_of-self
invariant_of-self c =
    let words = c.self.inside.words in
    let n = c.self.inside.agents in
    let agent = rw (sym c.self.view_is, long_flags words n) at c.requires in
    let within = word_within words n c.args.i c.self.invariant.bits agent in
    record {
      bits = bits_with words n c.args.i c.self.invariant.bits agent c.with_bit-word.result c.args.is_member c.with_bit-word.ensures.here c.with_bit-word.ensures.others;
      marked = mark_written words c.self.inside.filled (c.args.i / 64) c.with_bit-word.result c.with_bit-self-inside.result c.self.invariant.marked within
          (marked_by c.with_bit-word.result c.with_bit-self-inside.result (c.args.i / 64) (search rules)) c.with_bit-self-inside.ensures.others;
    }

pub returns : goal.returns
returns c =
    let words = c.self.inside.words in
    let n = c.self.inside.agents in
    let agent = rw (sym c.self.view_is, long_flags words n) at c.requires in
    flags_with words n c.args.i c.self.invariant.bits agent c.with_bit-word.result c.args.is_member c.with_bit-word.ensures.here c.with_bit-word.ensures.others
    ∙ ap (λ flags. set flags c.args.i c.args.is_member) c.self.view_is
