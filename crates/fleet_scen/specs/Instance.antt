-- The tasks of a fleet.
use Rattle.std.specs.Prelude.{◌≢◌, ◌≤◌, List, length, AllPairs}
use Rattle.fleet_model.specs.declared.limits.TheConstants.{MAX_AGENTS}
use Rattle.fleet_model.specs.declared.task.Task.{Task}

-- no two agents begin on one cell, and no two end on one
pub record AreTasksApart (tasks : List Task) : Type 0 where
  pub starts : AllPairs (λ s t. s.start ≢ t.start) tasks
  pub goals : AllPairs (λ s t. s.goal ≢ t.goal) tasks

-- 1 to 1,024 tasks, of which no two share a start or a goal
pub record IsInstance (tasks : List Task) : Type 0 where
  pub some : 1 ≤ length tasks
  pub few : length tasks ≤ MAX_AGENTS
  pub apart : AreTasksApart tasks
