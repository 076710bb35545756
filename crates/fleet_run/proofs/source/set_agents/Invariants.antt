use Rattle.fleet_run.proofs.Words.{◌≡◌, ◌≤◌, List, ℕ, ◌++◌, length, option_map, slice_split, AreFlagsOf, is_space, agents_of}
use Rattle.fleet_run.proofs.source.set_agents.Given as goal

abbrev pub invariant-words : goal.invariant-words
invariant-words l = record {
  so_far : (held : List ℕ) × AreFlagsOf held l.flags
      × (agents_of l.agents 0 (slice_split is_space l.line) ≡ option_map (λ (more : List ℕ). held ++ more) (agents_of l.agents l.least (slice_split is_space l.rest)));
  few : l.least ≤ l.agents;
}

abbrev pub decreases-words : goal.decreases-words
decreases-words l = length l.rest
