use Rattle.std.proofs.Common.{◌∙◌, ap, sym, length}
use Rattle.fleet_machine.proofs.Bits.{same_agents}
use Rattle.fleet_machine.proofs.Copied.{bits_added, flags_added}
use Rattle.fleet_machine.proofs.agent_set.AgentSet.add.Goals as goal

pub invariant_of-self : goal.invariant_of-self
invariant_of-self c =
    let same = same_agents c.self.inside.words c.other.inside.words c.self.inside.agents c.other.inside.agents (ap length c.self.view_is ∙ c.requires ∙ sym (ap length c.other.view_is)) in
    bits_added c.self.inside.words c.other.inside.words c.add_words.new.words c.self.inside.filled c.other.inside.filled c.self.inside.agents
    c.self.invariant (rw same c.other.invariant) c.add_words.ensures.long c.add_words.ensures.added

pub returns-clause-members : goal.returns-clause-members
returns-clause-members c =
    let same = same_agents c.self.inside.words c.other.inside.words c.self.inside.agents c.other.inside.agents (ap length c.self.view_is ∙ c.requires ∙ sym (ap length c.other.view_is)) in
    rw (← c.self.view_is, ← c.other.view_is, ← same)
    (flags_added c.self.inside.words c.other.inside.words c.add_words.new.words c.self.inside.filled c.other.inside.filled c.self.inside.agents
    c.self.invariant (rw same c.other.invariant) c.add_words.ensures.long c.add_words.ensures.added)
