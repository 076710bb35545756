use Rattle.std.proofs.Common.{◌/◌, slice_index, sym, ◌∙◌, ap, arith, refl}
use Rattle.fleet_machine.specs.Machine.{flag_of}
use Rattle.fleet_machine.proofs.Bits.{flag_read, long_flags}
use Rattle.fleet_machine.proofs.agent_set.AgentSet.contains.Goals as goal

pub bounds-self-inside-i : goal.bounds-self-inside-i
bounds-self-inside-i c =
    let agent = rw (sym c.self.view_is, long_flags c.self.inside.words c.self.inside.agents) at c.requires in
    let few = c.self.invariant.bits.few in
    omega arith

pub returns : goal.returns
returns c =
    let words = c.self.inside.words in
    let agent = rw (sym c.self.view_is, long_flags words c.self.inside.agents) at c.requires in
    flag_read words c.self.inside.agents c.args.i c.self.invariant.bits agent (slice_index words (c.args.i / 64)) refl ∙ ap (λ flags. flag_of flags c.args.i) c.self.view_is
