-- Plans: for each agent a path, and what makes a plan free of conflict. Step x leads from time x to time x + 1.
use Rattle.std.specs.Prelude.{◌≡◌, ℕ, ◌+◌, ◌-◌, ◌<◌, ◌≤◌, min, max, Bool, IsTrue, List, [], ◌∷◌, length, get_or, All, slice_get, Some, ◌⊎◌}
use Rattle.fleet_model.specs.declared.limits.TheConstants.{MAX_AGENTS, MAX_HORIZON}
use Rattle.fleet_model.specs.declared.geometry.Cell.{Cell}
use Rattle.fleet_model.specs.declared.geometry.Place.{Place}
use Rattle.fleet_model.specs.declared.geometry.Dir.{Dir}
use Rattle.fleet_model.specs.declared.task.Task.{Task}
use Rattle.fleet_model.specs.Geometry.{place_of, moved}
use Rattle.fleet_model.specs.Program.{IsCell, origin}
use Rattle.fleet_model.specs.Conflict.{Motion, HasVertexConflict, HasSwappingConflict, HasCycleConflict}

-- the cells of an agent at times 0, 1, 2, ..
abbrev pub Path : Type 0
Path = List Cell

-- for each agent a path
abbrev pub Plan : Type 0
Plan = List Path

-- the cell of a path at time t: after its last cell an agent stays
unfoldable pub cell_at : Path → ℕ → Cell
cell_at path t = get_or path (min t (length path - 1)) origin

-- the cell of agent i at time t
unfoldable pub cell_of : Plan → ℕ → ℕ → Cell
cell_of plan i t = cell_at (get_or plan i []) t

-- the last cell of agent i
unfoldable pub last_cell : Plan → ℕ → Cell
last_cell plan i = cell_of plan i (length (get_or plan i []) - 1)

-- the greatest time of a last cell: the makespan
unfoldable pub steps : Plan → ℕ
steps [] = 0
steps (path ∷ plan) = max (length path - 1) (steps plan)

-- the places of the agents in time
abbrev pub motion_of : Plan → Motion
motion_of plan x i = place_of (cell_of plan i x)

-- d lies next to c in one of the four directions
abbrev pub AreNeighbours : Cell → Cell → Type 0
AreNeighbours c d = (e : Dir) × (place_of d ≡ moved (place_of c) e)

-- d is c or one of its neighbours
abbrev pub AreBeside : Cell → Cell → Type 0
AreBeside c d = (c ≡ d) ⊎ AreNeighbours c d

-- each path leads from start to goal over passable cells, by equal or neighbouring cells, and there is no vertex,
-- swapping or cycle conflict. After its last cell an agent stays, and it may follow another
pub record IsConflictFree (passable : Place → Bool) (tasks : List Task) (plan : Plan) : Type 0 where
  pub agents : length plan ≡ length tasks
  pub ends : (i : ℕ) (t : Task) → slice_get tasks i ≡ Some t → (cell_of plan i 0 ≡ t.start) × (last_cell plan i ≡ t.goal)
  pub on_ground : (i x : ℕ) → i < length plan → IsTrue (passable (place_of (cell_of plan i x)))
  pub successive : (i x : ℕ) → i < length plan → AreBeside (cell_of plan i x) (cell_of plan i (x + 1))
  pub vertex : (x i j : ℕ) → i < length plan → j < length plan → HasVertexConflict (motion_of plan) x i j → ⊥
  pub swapping : (x i j : ℕ) → i < length plan → j < length plan → HasSwappingConflict (motion_of plan) x i j → ⊥
  pub cycle : (x : ℕ) (ring : List ℕ) → All (λ i. i < length plan) ring → HasCycleConflict (motion_of plan) x ring → ⊥

-- a cell for each time from 0 to some time up to the horizon, with numbers that fit two bytes
pub record IsPath (path : Path) : Type 0 where
  pub some_cells : 1 ≤ length path
  pub few_cells : length path ≤ MAX_HORIZON + 1
  pub cells : All IsCell path

-- as many paths as there may be agents
pub record IsFleet (plan : Plan) : Type 0 where
  pub some_agents : 1 ≤ length plan
  pub few_agents : length plan ≤ MAX_AGENTS

-- a plan within the limits
pub record IsWithinLimits (plan : Plan) : Type 0 where
  pub fleet : IsFleet plan
  pub paths : All IsPath plan
