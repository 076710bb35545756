use Rattle.std.proofs.Common.{ℕ, List, ◌+◌, ◌/◌, replicate, refl}
use Rattle.fleet_model.specs.declared.limits.TheConstants.{MAX_AGENTS}
use Rattle.fleet_machine.proofs.Bits.{no_word, no_flags, no_bits}
use Rattle.fleet_machine.proofs.Marked.{no_marks}
use Rattle.fleet_machine.proofs.agent_set.AgentSet.new.Goals as goal

abbrev empty : List ℕ
empty = replicate (MAX_AGENTS / 64 + 1) 0

pub invariant_of-result : goal.invariant_of-result
invariant_of-result c = record {
  bits = no_bits empty _ c.args.agents refl refl c.requires;
  marked = no_marks empty (no_word empty _ c.args.agents refl refl c.requires);
}

pub returns : goal.returns
returns c = no_flags empty _ c.args.agents refl refl c.requires
