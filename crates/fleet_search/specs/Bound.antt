-- How far the goals of the agents are, for each agent alone on the map.
use Rattle.std.specs.Prelude.{◌≡◌, ℕ, Bool, List, [], length, get_or, slice_get, Some, sum_by, ◌<◌}
use Rattle.fleet_model.specs.declared.geometry.Cell.{Cell}
use Rattle.fleet_model.specs.declared.geometry.Place.{Place}
use Rattle.fleet_model.specs.declared.task.Task.{Task}
use Rattle.fleet_model.specs.declared.limits.TheConstants.{MAX_HORIZON}
use Rattle.fleet_search.specs.Way.{arrival}
use Rattle.fleet_search.specs.Earliest.{IsEarliest}

-- the distance: the earliest time at which an agent that is alone on the map arrives
pub record IsDistance (passable : Place → Bool) (start goal : Cell) (n : ℕ) : Type 0 where
  pub path : List Cell
  pub earliest : IsEarliest passable [] start goal MAX_HORIZON path
  pub time : arrival path ≡ n

-- the sum of the distances of the first n tasks
pub record IsSumOfDistances (passable : Place → Bool) (tasks : List Task) (n total : ℕ) : Type 0 where
  pub distances : List ℕ
  pub all : length distances ≡ n
  pub each : (i : ℕ) (task : Task) → i < n → slice_get tasks i ≡ Some task → IsDistance passable task.start task.goal (get_or distances i 0)
  pub sum : total ≡ sum_by (λ d. d) distances

-- the sum of the distances of all tasks
abbrev pub IsBound : (Place → Bool) → List Task → ℕ → Type 0
IsBound passable tasks bound = IsSumOfDistances passable tasks (length tasks) bound
