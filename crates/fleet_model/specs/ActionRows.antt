-- The actions of an agent as three rows: the code of the step of each, how many awaits stand up to the end of each, and
-- the awaits of all, one action after the other.
use Rattle.std.specs.Prelude.{◌≡◌, ℕ, ◌≤◌, List, [], ◌∷◌, length, map, slice_range}
use Rattle.fleet_model.specs.declared.geometry.Dir.TheVariants.{North, East, South, West}
use Rattle.fleet_model.specs.declared.geometry.Step.{Step}
use Rattle.fleet_model.specs.declared.geometry.Step.TheVariants.{Go, Dwell}
use Rattle.fleet_model.specs.declared.geometry.StepCode.{StepCode}
use Rattle.fleet_model.specs.declared.geometry.StepCode.TheVariants.{North as ToNorth, East as ToEast, South as ToSouth, West as ToWest, Stay}
use Rattle.fleet_model.specs.declared.program.Await.{Await}
use Rattle.fleet_model.specs.declared.program.Action.{Action}

-- the step that has this code
abbrev pub coded_step : StepCode → Step
coded_step ToNorth = Go North
coded_step ToEast = Go East
coded_step ToSouth = Go South
coded_step ToWest = Go West
coded_step Stay = Dwell

-- the steps that have these codes
abbrev pub steps_in : List StepCode → List Step
steps_in codes = map coded_step codes

-- the actions that have these steps, if so many awaits stand before those of the first
abbrev pub actions_after : ℕ → List Step → List ℕ → List Await → List Action
actions_after begin [] ends awaits = []
actions_after begin (s ∷ steps) [] awaits = []
actions_after begin (s ∷ steps) (e ∷ ends) awaits =
    record { step = s; awaits = slice_range awaits begin e } ∷ actions_after e steps ends awaits

-- the actions in these rows
abbrev pub actions_in : List Step → List ℕ → List Await → List Action
actions_in steps ends awaits = actions_after 0 steps ends awaits

-- each end is at least the one before it, the first is at least begin, and the last is n
abbrev pub RiseTo : ℕ → List ℕ → ℕ → Type 0
RiseTo begin [] n = begin ≡ n
RiseTo begin (e ∷ ends) n = (begin ≤ e) × RiseTo e ends n

-- every step has an end, no end is below the one before it, and the last action ends after all awaits
pub record AreRows (steps : List Step) (ends : List ℕ) (awaits : List Await) : Type 0 where
  pub count : length ends ≡ length steps
  pub rising : RiseTo 0 ends (length awaits)
