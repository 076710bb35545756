-- How many agents a tick looks at.
use Rattle.std.specs.Prelude.{ℕ, ◌+◌, ◌-◌, ◌^◌, ◌<◌, ◌≤◌, Bool, false, not, ◌&&◌, length, filter}
use Rattle.std.specs.List.{list_any}
use Rattle.std.specs.Option.{option_map_or}
use Rattle.fleet_model.specs.Program.{Program}
use Rattle.fleet_model.specs.Machine.{Configuration, next_action, is_ready, is_moving, indices}

-- how many agents are ready
abbrev pub ready_in : Program → Configuration → ℕ
ready_in p c = length (filter (is_ready p c) (indices (length p)))

-- the next action of agent i awaits an agent that this tick moves
abbrev pub awaits_moving : Program → (ℕ → Bool) → Configuration → ℕ → Bool
awaits_moving p held c i = option_map_or (λ a. list_any (λ w. is_moving p held c w.agent) a.awaits) (next_action p c i) false

-- how many agents are not ready, and await one that this tick moves
abbrev pub awaiting_in : Program → (ℕ → Bool) → Configuration → ℕ
awaiting_in p held c = length (filter (λ i. not (is_ready p c i) && awaits_moving p held c i) (indices (length p)))

-- the greatest number of agents that is counted
abbrev pub most_looked : ℕ
most_looked = 2 ^ 64 - 1

-- the count of agents that were looked at goes on by at least r and at most r + q, or ends at the greatest number
pub record LooksAt (r q before after : ℕ) : Type 0 where
  pub kept : before ≤ after
  pub least : after < most_looked → before + r ≤ after
  pub most : after ≤ before + (r + q)
