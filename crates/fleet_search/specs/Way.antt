-- Paths of one agent past agents whose paths are reserved.
use Rattle.std.specs.Prelude.{◌≡◌, ◌≢◌, ℕ, ◌+◌, ◌-◌, ◌<◌, List, [], ◌∷◌, ◌++◌, length, take, get_or, All, Contains}
use Rattle.fleet_model.specs.declared.geometry.Cell.{Cell}
use Rattle.fleet_model.specs.Conflict.{HasVertexConflict, HasSwappingConflict, HasCycleConflict}
use Rattle.fleet_plan.specs.Plan.{Plan, cell_at, cell_of, motion_of}

-- the reserved paths and one more, of the agent whose number is the number of reserved paths
abbrev pub with_path : Plan → List Cell → Plan
with_path reserved path = reserved ++ path ∷ []

-- the agent of the path takes part in no conflict with the reserved ones, at any time
pub record Fits (reserved : Plan) (path : List Cell) : Type 0 where
  pub vertex : (x j : ℕ) → j < length reserved → HasVertexConflict (motion_of (with_path reserved path)) x (length reserved) j → ⊥
  pub swapping : (x j : ℕ) → j < length reserved → HasSwappingConflict (motion_of (with_path reserved path)) x (length reserved) j → ⊥
  pub cycle : (x : ℕ) (ring : List ℕ) → All (λ i. i < length (with_path reserved path)) ring → Contains ring (length reserved) → HasCycleConflict (motion_of (with_path reserved path)) x ring → ⊥

-- each path fits those before it
abbrev pub FitTogether : Plan → Type 0
FitTogether plan = (i : ℕ) → i < length plan → Fits (take i plan) (get_or plan i [])

-- no two or more agents of the plan are in conflict, at any time
pub record AreConflictFree (plan : Plan) : Type 0 where
  pub vertex : (x i j : ℕ) → i < length plan → j < length plan → HasVertexConflict (motion_of plan) x i j → ⊥
  pub swapping : (x i j : ℕ) → i < length plan → j < length plan → HasSwappingConflict (motion_of plan) x i j → ⊥
  pub cycle : (x : ℕ) (ring : List ℕ) → All (λ i. i < length plan) ring → HasCycleConflict (motion_of plan) x ring → ⊥

-- in step t each agent of the list leaves the cell that the one before it enters; the first leaves c, and the last
-- enters d
abbrev pub Follow : Plan → ℕ → Cell → List ℕ → Cell → Type 0
Follow reserved t c [] d = c ≡ d
Follow reserved t c (j ∷ js) d =
    (j < length reserved) × (cell_of reserved j t ≡ c) × (cell_of reserved j (t + 1) ≢ c) × Follow reserved t (cell_of reserved j (t + 1)) js d

-- in step t an agent may go from the one cell to the other: nobody stands there at its end, and the agents that make
-- room do not close a ring
pub record StepFits (reserved : Plan) (t : ℕ) (from to : Cell) : Type 0 where
  pub vertex : (j : ℕ) → j < length reserved → cell_of reserved j (t + 1) ≢ to
  pub ring : from ≢ to → (js : List ℕ) → Follow reserved t to js from → ⊥

-- nobody stands on the first cell at time 0, and each step fits
pub record EachStepFits (reserved : Plan) (path : List Cell) : Type 0 where
  pub first : (j : ℕ) → j < length reserved → cell_of reserved j 0 ≢ cell_at path 0
  pub steps : (t : ℕ) → StepFits reserved t (cell_at path t) (cell_at path (t + 1))

-- the time of the last cell
abbrev pub arrival : List Cell → ℕ
arrival path = length path - 1
