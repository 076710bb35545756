-- What a verifier accepts.
use Rattle.std.specs.Prelude.{◌≡◌, ℕ, ◌<◌, ◌≤◌, Bool, IsTrue, List, length, slice_get, Some}
use Rattle.fleet_model.specs.declared.geometry.Place.{Place}
use Rattle.fleet_model.specs.declared.program.ActionId.{ActionId}
use Rattle.fleet_model.specs.declared.program.Visit.{Visit}
use Rattle.fleet_model.specs.declared.task.Task.{Task}
use Rattle.fleet_model.specs.Geometry.{place_of}
use Rattle.fleet_model.specs.Program.{Program, start_of, goal_of, moves, path, AreInRange}
use Rattle.fleet_model.specs.Chain.{IsNumbering}
use Rattle.fleet_model.specs.Visit.{ComesAfter, IsOrderly}

-- the program has an agent for each task, with its start and its goal
pub record HasTasks (tasks : List Task) (p : Program) : Type 0 where
  pub agents : length p ≡ length tasks
  pub ends : (i : ℕ) (t : Task) → slice_get tasks i ≡ Some t
      → (start_of p i ≡ t.start) × (goal_of p i ≡ t.goal)

-- for the passable places of a map and the tasks of an instance: the program has an agent for each task, every place of
-- every path is passable, every path ends on its goal, and every await can be met
pub record IsRight (passable : Place → Bool) (tasks : List Task) (p : Program) : Type 0 where
  pub for_tasks : HasTasks tasks p
  pub on_ground : (i n : ℕ) → i < length p → n ≤ moves p i → IsTrue (passable (path p i n))
  pub arrives : (i : ℕ) → i < length p → path p i (moves p i) ≡ place_of (goal_of p i)
  pub in_range : AreInRange p

-- right for a map and an instance, with a numbering, and orderly; After says which visit of a place may come directly
-- after which
pub record IsAcceptedBy (After : Program → Visit → Visit → Type 0)
    (passable : Place → Bool) (tasks : List Task) (p : Program) : Type 0 where
  pub right : IsRight passable tasks p
  pub numbering : (number : ActionId → ℕ) × IsNumbering p number
  pub orderly : IsOrderly After p

-- accepted for a map and an instance
abbrev pub IsAccepted : (Place → Bool) → List Task → Program → Type 0
IsAccepted = IsAcceptedBy ComesAfter
