-- The outcome of planning in one order.
use Rattle.std.specs.Prelude.{◌≡◌, ℕ, ◌<◌, ◌≤◌, Bool, true, false, List, [], ◌∷◌, ◌++◌, length, get_or, take, drop, slice_get, Some, IsPermutation, Vec}
use Rattle.std.specs.declared.alloc.Global.{Global}
use Rattle.fleet_model.specs.Machine.{indices}
use Rattle.fleet_model.specs.declared.geometry.Cell.{Cell}
use Rattle.fleet_model.specs.declared.task.Task.{Task}
use Rattle.fleet_plan.specs.Plan.{Plan}
use Rattle.fleet_plan.specs.Checked.{CheckedParts}
use Rattle.fleet_search.specs.Way.{Fits}
use Rattle.fleet_search.specs.Earliest.{IsEarliest, IsInfeasible}
use Rattle.fleet_grid.specs.Ground.{is_passable}
use Rattle.fleet_search.specs.InTurn.{IsPrioritisedPlan}
use Rattle.fleet_search.specs.Orders.{tasks_by, paths_by, to_front, IsStuckInOrder}
use Rattle.fleet_search.specs.declared.orders.Problem.{Problem}
use Rattle.fleet_search.specs.declared.orders.Tables.{Tables}
use Rattle.fleet_search.specs.declared.orders.Turn.{Turn}
use Rattle.fleet_search.specs.declared.orders.Attempt.{Attempt}
use Rattle.fleet_search.specs.declared.orders.Attempt.TheVariants.{Made, Stuck}

-- the tables are for the map of the problem
abbrev pub AreTables : Problem → Tables → Type 0
AreTables problem tables = tables.distances.grid ≡ problem.grid.now

-- the agents of the instance, each once
abbrev pub IsOrderOf : Problem → List ℕ → Type 0
IsOrderOf problem order = IsPermutation (indices (length problem.instance.now)) order

-- the agent's earliest path past the old ones that arrives by the horizon is the last of the new ones; or it has none,
-- and they stay
abbrev pub IsPathAdded : Problem → ℕ → (horizon : ℕ) → (old new : Plan) → Bool → Type 0
IsPathAdded problem agent horizon old new true =
    (path : List Cell) × (new ≡ old ++ path ∷ [])
    × ((task : Task) → slice_get problem.instance.now agent ≡ Some task → IsEarliest (is_passable problem.grid.now) old task.start task.goal horizon path)
IsPathAdded problem agent horizon old new false =
    (new ≡ old) × ((task : Task) → slice_get problem.instance.now agent ≡ Some task → IsInfeasible (is_passable problem.grid.now) old task.start task.goal horizon)

-- the same, and the tables stay those of the map
pub record HasAddedPath (problem : Problem) (agent horizon : ℕ) (old new : Plan) (after : Tables) (found : Bool) : Type 0 where
  pub tables : AreTables problem after
  pub added : IsPathAdded problem agent horizon old new found

-- the path was the agent's earliest past some others
abbrev pub IsOldPath : Problem → ℕ → List Cell → Type 0
IsOldPath problem agent path =
    (task : Task) → slice_get problem.instance.now agent ≡ Some task
    → (others : Plan) × IsEarliest (is_passable problem.grid.now) others task.start task.goal problem.horizon path

-- so many of the paths came after the old ones, each of which fits those before it; the next one does not
pub record ArePathsKept (old new paths : Plan) (kept : ℕ) : Type 0 where
  pub bound : kept ≤ length paths
  pub added : new ≡ old ++ take kept paths
  pub fit : (i : ℕ) → i < kept → Fits (old ++ take i paths) (get_or paths i [])
  pub misfit : kept < length paths → Fits (old ++ take kept paths) (get_or paths kept []) → ⊥

-- paths of the agents after the first one of the order, each the earliest against those before it
abbrev pub IsMadeAfterFirst : Problem → List ℕ → Plan → Type 0
IsMadeAfterFirst problem order paths =
    IsPrioritisedPlan (is_passable problem.grid.now) (drop 1 (tasks_by order problem.instance.now)) problem.horizon (length paths) paths

-- the paths are those of the agents before the place in the order, each the earliest against those before it
abbrev pub IsMadeBefore : Problem → List ℕ → (place : ℕ) → Plan → Type 0
IsMadeBefore problem order place paths = IsPrioritisedPlan (is_passable problem.grid.now) (tasks_by order problem.instance.now) problem.horizon place paths

-- the order has each agent once, and the paths are those of agents after its first, each the earliest without that one
pub record IsTurnOf (problem : Problem) (order : List ℕ) (kept : Plan) : Type 0 where
  pub each_once : IsOrderOf problem order
  pub made : IsMadeAfterFirst problem order kept
  pub fewer : length kept < length order

-- .. of a turn
abbrev pub IsTurn : Problem → Turn → Type 0
IsTurn problem turn = IsTurnOf problem turn.order.items turn.kept.items

-- it is the turn of the order in which the agent at the place comes first, with these paths
pub record IsNextTurn (problem : Problem) (old : Turn) (place : ℕ) (paths : Vec (List Cell) Global) (new : Turn) : Type 0 where
  pub turn : IsTurn problem new
  pub next : new.order.items ≡ to_front old.order.items place
  pub kept : new.kept ≡ paths

-- it is the first turn: the agents come in the order of their numbers
pub record IsFirstTurn (problem : Problem) (t : Turn) : Type 0 where
  pub first : t.order.items ≡ indices (length problem.instance.now)
  pub turn : IsTurn problem t

-- a path for each agent, which stand so in the order
pub record AreByNumber (problem : Problem) (order : List ℕ) (paths plan : Plan) : Type 0 where
  pub agents : length plan ≡ length problem.instance.now
  pub same : paths_by order plan ≡ paths

-- the plan is for the map and the instance of the problem
pub record IsFor (problem : Problem) (checked : CheckedParts) : Type 0 where
  pub grid : checked.grid ≡ problem.grid.now
  pub instance : checked.instance ≡ problem.instance.now

-- paths of the agents, as they stand in the order, each the earliest against those before it: of all of them, or of
-- those before one that is left without a path
abbrev pub AreReservedInOrder : Problem → List ℕ → Plan → (all : Bool) → Type 0
AreReservedInOrder problem order paths true = IsMadeBefore problem order (length order) paths
AreReservedInOrder problem order paths false =
    IsStuckInOrder (is_passable problem.grid.now) problem.instance.now problem.horizon order (length paths)
    × IsMadeBefore problem order (length paths) paths

-- the paths of the outcome are such: of all agents if it is made, and else of those before one without a path
abbrev pub IsAttempt : Problem → List ℕ → Attempt → Type 0
IsAttempt problem order (Made paths) = AreReservedInOrder problem order paths.items true
IsAttempt problem order (Stuck paths) = AreReservedInOrder problem order paths.items false
