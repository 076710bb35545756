-- Plans that are made agent by agent in several orders: an agent that is left without a path comes first in the next
-- one.
use Rattle.std.specs.Prelude.{◌≡◌, ℕ, zero, suc, ◌≤◌, ◌+◌, ◌-◌, Bool, List, [], ◌∷◌, length, map, get_or, IsPermutation, slice_get, Some}
use Rattle.std.specs.List.{remove}
use Rattle.fleet_model.specs.Machine.{indices}
use Rattle.fleet_model.specs.declared.geometry.Place.{Place}
use Rattle.fleet_model.specs.declared.task.Task.{Task}
use Rattle.fleet_model.specs.Program.{origin}
use Rattle.fleet_plan.specs.Plan.{Plan}
use Rattle.fleet_search.specs.InTurn.{IsPrioritisedPlan, HasNoPathFor}

-- the task that stands for those past the end of a list
pub no_task : Task
no_task = record { start = origin; goal = origin }

-- the tasks of the agents in this order
abbrev pub tasks_by : List ℕ → List Task → List Task
tasks_by order tasks = map (λ agent. get_or tasks agent no_task) order

-- the paths of the agents in this order
abbrev pub paths_by : List ℕ → Plan → Plan
paths_by order plan = map (λ agent. get_or plan agent []) order

-- the agent at the place comes first, and the others follow as they did
abbrev pub to_front : List ℕ → ℕ → List ℕ
to_front order place = get_or order place 0 ∷ remove order place

-- in the order each path is the earliest against those before it
abbrev pub IsMadeInOrder : (Place → Bool) → List Task → ℕ → List ℕ → Plan → Type 0
IsMadeInOrder passable tasks horizon order plan =
    IsPrioritisedPlan passable (tasks_by order tasks) horizon (length order) (paths_by order plan)

-- paths so made for the agents before it in the order leave the agent at the place none
abbrev pub IsStuckInOrder : (Place → Bool) → List Task → ℕ → List ℕ → ℕ → Type 0
IsStuckInOrder passable tasks horizon order place = HasNoPathFor passable (tasks_by order tasks) horizon place

-- the order comes after so many others: none comes before that of the agents' numbers, and after an order that leaves
-- an agent without a path comes the one in which that agent is first
unfoldable pub IsOrderAfter : (Place → Bool) → List Task → ℕ → ℕ → List ℕ → Type 0
IsOrderAfter passable tasks horizon zero order = order ≡ indices (length tasks)
IsOrderAfter passable tasks horizon (suc n) order =
    (before : List ℕ) × (place : ℕ) × IsOrderAfter passable tasks horizon n before × IsStuckInOrder passable tasks horizon before place × (order ≡ to_front before place)

-- in one of the first `tries` orders (the first if that is 0) each path is the earliest against those before it
pub record IsMadeInTries (passable : Place → Bool) (tasks : List Task) (horizon tries : ℕ) (plan : Plan) : Type 0 where
  pub agents : length plan ≡ length tasks
  pub order : List ℕ
  pub each_once : IsPermutation (indices (length tasks)) order
  pub failed : ℕ
  pub few : failed ≤ tries - 1
  pub after : IsOrderAfter passable tasks horizon failed order
  pub made : IsMadeInOrder passable tasks horizon order plan

-- the plan is so made, in the last of this many orders, in each of which but that one an agent is left without a path
pub record IsMadeInTry (passable : Place → Bool) (tasks : List Task) (horizon tries tried : ℕ) (plan : Plan) : Type 0 where
  pub made : IsMadeInTries passable tasks horizon tries plan
  pub last : tried ≡ made.failed + 1

-- in the last of the first `tries` orders (the first if that is 0) those before the agent leave it without a path
pub record IsStuckInTries (passable : Place → Bool) (tasks : List Task) (horizon tries agent : ℕ) : Type 0 where
  pub order : List ℕ
  pub each_once : IsPermutation (indices (length tasks)) order
  pub after : IsOrderAfter passable tasks horizon (tries - 1) order
  pub place : ℕ
  pub here : slice_get order place ≡ Some agent
  pub stuck : IsStuckInOrder passable tasks horizon order place
