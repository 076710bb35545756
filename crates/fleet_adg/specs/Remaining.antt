-- Agents of a program on their way over a map.
use Rattle.std.specs.Prelude.{◌≡◌, ℕ, ◌<◌, ◌≤◌, ℤ, pos, ◌≤ℤ◌, List, length, map}
use Rattle.fleet_model.specs.declared.limits.TheConstants.{MAX_COORDINATE}
use Rattle.fleet_model.specs.declared.task.Task.{Task}
use Rattle.fleet_model.specs.Program.{Program, start_of, goal_of, moves, IsWellFormed, AreInRange}
use Rattle.fleet_model.specs.Machine.{Configuration, place_at, count_at, indices}

-- the number of a column or a row that a cell may have
pub record IsCellNumber (n : ℤ) : Type 0 where
  pub least : pos 0 ≤ℤ n
  pub most : n ≤ℤ pos MAX_COORDINATE

-- each agent stands on a cell, and has finished no more actions than it has
pub record IsOnWay (p : Program) (c : Configuration) : Type 0 where
  pub formed : IsWellFormed p
  pub in_range : AreInRange p
  pub all : length c ≡ length p
  pub within : (i : ℕ) → count_at c i ≤ moves p i
  pub column : (i : ℕ) → i < length p → IsCellNumber (place_at c i).x
  pub row : (i : ℕ) → i < length p → IsCellNumber (place_at c i).y

-- the task of agent i: from its start to its goal
abbrev pub task_of : Program → ℕ → Task
task_of p i = record { start = start_of p i; goal = goal_of p i }

-- .. of all agents
abbrev pub tasks_of : Program → List Task
tasks_of p = map (task_of p) (indices (length p))
