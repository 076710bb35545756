-- What a checked plan keeps.
use Rattle.std.specs.Prelude.{List}
use Rattle.fleet_model.specs.declared.task.Task.{Task}
use Rattle.fleet_grid.specs.Ground.{Ground, is_passable}
use Rattle.fleet_plan.specs.Plan.{Plan, IsConflictFree, IsWithinLimits}

-- a plan with the map and the tasks that it was checked for
pub record CheckedParts : Type 0 where
  pub plan : Plan
  pub grid : Ground
  pub instance : List Task

-- the plan is within the limits and free of conflict for the map and the tasks
pub record IsCheckedFor (g : Ground) (tasks : List Task) (plan : Plan) : Type 0 where
  pub limits : IsWithinLimits plan
  pub free : IsConflictFree (is_passable g) tasks plan
