-- Cells of reserved paths at times.
use Rattle.std.specs.Prelude.{◌≡◌, ◌≢◌, ℕ, ◌<◌, ◌≤◌, List, length}
use Rattle.fleet_model.specs.declared.geometry.Cell.{Cell}
use Rattle.fleet_plan.specs.Plan.{Plan, cell_of}
use Rattle.fleet_search.specs.Way.{Follow}

-- agent j stands on the cell at the time
pub record StandsOn (plan : Plan) (t : ℕ) (c : Cell) (j : ℕ) : Type 0 where
  pub agent : j < length plan
  pub on : cell_of plan j t ≡ c

-- nobody stands on the cell at the time
abbrev pub IsUnoccupied : Plan → ℕ → Cell → Type 0
IsUnoccupied plan t c = (j : ℕ) → j < length plan → cell_of plan j t ≢ c

-- nobody stands on the cell from the time on
abbrev pub IsFreeFrom : Plan → Cell → ℕ → Type 0
IsFreeFrom plan c t = (u : ℕ) → t ≤ u → IsUnoccupied plan u c

-- those who make room for the one that enters the cell close a ring with the one that leaves the other
abbrev pub LeadsBack : Plan → ℕ → Cell → Cell → Type 0
LeadsBack plan t from to = (js : List ℕ) × Follow plan t to js from

-- nobody stands on the cell from one time to another
abbrev pub IsFreeOn : Plan → Cell → ℕ → ℕ → Type 0
IsFreeOn plan c s t = (u : ℕ) → s ≤ u → u ≤ t → IsUnoccupied plan u c
