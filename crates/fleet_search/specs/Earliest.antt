-- The earliest paths of one agent past reserved ones.
use Rattle.std.specs.Prelude.{◌≡◌, ℕ, ◌+◌, ◌≤◌, Bool, IsTrue, List, length}
use Rattle.fleet_model.specs.declared.geometry.Cell.{Cell}
use Rattle.fleet_model.specs.declared.geometry.Place.{Place}
use Rattle.fleet_model.specs.Geometry.{place_of}
use Rattle.fleet_plan.specs.Plan.{Plan, cell_at, AreBeside}
use Rattle.fleet_search.specs.Way.{Fits, arrival}

-- a path from start to goal over passable cells, by equal or neighbouring cells, that fits the reserved ones and stays
-- on the goal for good
pub record IsFeasiblePath (passable : Place → Bool) (reserved : Plan) (start goal : Cell) (path : List Cell) : Type 0 where
  pub some_cells : 1 ≤ length path
  pub starts : cell_at path 0 ≡ start
  pub ends : cell_at path (arrival path) ≡ goal
  pub on_ground : (t : ℕ) → IsTrue (passable (place_of (cell_at path t)))
  pub successive : (t : ℕ) → AreBeside (cell_at path t) (cell_at path (t + 1))
  pub fits : Fits reserved path

-- a feasible path that arrives by the horizon, and none arrives sooner
pub record IsEarliest (passable : Place → Bool) (reserved : Plan) (start goal : Cell) (horizon : ℕ) (path : List Cell) : Type 0 where
  pub way : IsFeasiblePath passable reserved start goal path
  pub in_time : arrival path ≤ horizon
  pub none_sooner : (other : List Cell) → IsFeasiblePath passable reserved start goal other → arrival path ≤ arrival other

-- no feasible path arrives by the horizon
abbrev pub IsInfeasible : (Place → Bool) → Plan → Cell → Cell → ℕ → Type 0
IsInfeasible passable reserved start goal horizon = (path : List Cell) → IsFeasiblePath passable reserved start goal path → arrival path ≤ horizon → ⊥
