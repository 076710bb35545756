use Rattle.std.proofs.Common.{◌∙◌, ap, sym, length}
use Rattle.fleet_machine.specs.AgentSet.{flags_in}
use Rattle.fleet_machine.proofs.Bits.{same_agents}
use Rattle.fleet_machine.proofs.agent_set.AgentSet.copy_from.Goals as goal

pub invariant_of-self : goal.invariant_of-self
invariant_of-self c =
    let same = same_agents c.self.inside.words c.other.inside.words c.self.inside.agents c.other.inside.agents (ap length c.self.view_is ∙ c.requires ∙ sym (ap length c.other.view_is)) in
    rw (c.copy_words.ensures, same) c.other.invariant

pub returns : goal.returns
returns c =
    let same = same_agents c.self.inside.words c.other.inside.words c.self.inside.agents c.other.inside.agents (ap length c.self.view_is ∙ c.requires ∙ sym (ap length c.other.view_is)) in
    ap (λ words. flags_in words c.self.inside.agents) c.copy_words.ensures ∙ (ap (flags_in c.other.inside.words) same ∙ c.other.view_is)
