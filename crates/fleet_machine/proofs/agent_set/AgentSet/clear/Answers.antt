use Rattle.std.proofs.Common.{◌∙◌, ap, sym, replicate, length, false}
use Rattle.fleet_machine.proofs.Bits.{no_word, no_flags, no_bits, long_flags}
use Rattle.fleet_machine.proofs.Marked.{no_marks}
use Rattle.fleet_machine.proofs.agent_set.AgentSet.clear.Goals as goal

pub invariant_of-self : goal.invariant_of-self
invariant_of-self c =
    let bits = c.self.invariant.bits in
    record {
      bits = no_bits c.clear_words.new.words _ c.self.inside.agents c.clear_words.ensures bits.long bits.few;
      marked = no_marks c.clear_words.new.words (no_word c.clear_words.new.words _ c.self.inside.agents c.clear_words.ensures bits.long bits.few);
    }

pub returns : goal.returns
returns c =
    let bits = c.self.invariant.bits in
    no_flags c.clear_words.new.words _ c.self.inside.agents c.clear_words.ensures bits.long bits.few
    ∙ ap (λ n. replicate n false) (sym (long_flags c.self.inside.words c.self.inside.agents) ∙ ap length c.self.view_is)
