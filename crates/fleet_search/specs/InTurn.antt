-- Plans that are made agent by agent.
use Rattle.std.specs.Prelude.{◌≡◌, ℕ, ◌<◌, Bool, List, [], length, take, get_or, slice_get, Some}
use Rattle.fleet_model.specs.declared.geometry.Place.{Place}
use Rattle.fleet_model.specs.declared.task.Task.{Task}
use Rattle.fleet_plan.specs.Plan.{Plan}
use Rattle.fleet_search.specs.Earliest.{IsEarliest, IsInfeasible}

-- paths for the first n agents, each of them earliest against those before it
pub record IsPrioritisedPlan (passable : Place → Bool) (tasks : List Task) (horizon n : ℕ) (plan : Plan) : Type 0 where
  pub agents : length plan ≡ n
  pub each : (i : ℕ) (task : Task) → i < n → slice_get tasks i ≡ Some task → IsEarliest passable (take i plan) task.start task.goal horizon (get_or plan i [])

-- paths so made for the agents before it leave the agent none
pub record HasNoPathFor (passable : Place → Bool) (tasks : List Task) (horizon agent : ℕ) : Type 0 where
  pub task : Task
  pub here : slice_get tasks agent ≡ Some task
  pub plan : Plan
  pub before : IsPrioritisedPlan passable tasks horizon agent plan
  pub stuck : IsInfeasible passable plan task.start task.goal horizon
