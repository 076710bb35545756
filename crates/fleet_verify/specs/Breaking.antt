-- Whom a tick holds: those whose next action is not needed.
use Rattle.std.specs.Prelude.{ℕ, Bool, ◌&&◌, List, length, filter, slice_index, nat_lt, nat_le}
use Rattle.fleet_model.specs.Program.{Program, moves}
use Rattle.fleet_model.specs.Machine.{Configuration, count_at, indices}

-- by how many actions of each agent are needed: agent i has an action left, and the next one is not needed
abbrev pub is_held_by : Program → Configuration → List ℕ → ℕ → Bool
is_held_by p c needed i = nat_lt (count_at c i) (moves p i) && nat_le (slice_index needed i) (count_at c i)

-- the agents that are held so
abbrev pub held_row : Program → Configuration → List ℕ → List ℕ
held_row p c needed = filter (is_held_by p c needed) (indices (length p))
