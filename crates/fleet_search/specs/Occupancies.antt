-- The occupancies of agents on cells, one after another.
use Rattle.std.specs.Prelude.{◌≡◌, ◌≢◌, ℕ, ◌<◌, ◌≤◌, ◌⊎◌, ◌==◌, not, List, length, get_or}
use Rattle.std.specs.List.{filter, insert}
use Rattle.std.specs.List.Sorted.{IsNonDecreasingBy}
use Rattle.fleet_model.specs.declared.geometry.Cell.{Cell}
use Rattle.fleet_model.specs.declared.limits.TheConstants.{MAX_HORIZON}
use Rattle.fleet_plan.specs.Plan.{Plan, cell_of}
use Rattle.fleet_search.specs.declared.intervals.Occupancy.{Occupancy}
use Rattle.fleet_search.specs.declared.intervals.TheConstants.{FOREVER}
use Rattle.fleet_search.specs.declared.reservations.ReservationTable.{ReservationTable}
use Rattle.fleet_grid.specs.Lists.{list_at, key_of_cell}
use Rattle.fleet_search.specs.Way.{FitTogether}
use Rattle.fleet_search.specs.Reserved.{StandsOn}

-- the occupancy that stands for those past the end of a list
abbrev pub no_occupancy : Occupancy
no_occupancy = record { from = 0; until = 0; agent = 0 }

-- the occupancy of this number
abbrev pub occupancy_at : List Occupancy → ℕ → Occupancy
occupancy_at occupancies i = get_or occupancies i no_occupancy

-- the occupancy includes the time
abbrev pub IsDuring : Occupancy → ℕ → Type 0
IsDuring occupancy t = (occupancy.from ≤ t) × ((t ≤ occupancy.until) ⊎ (occupancy.until ≡ FOREVER))

-- the agent is on the cell throughout
pub record IsOccupancyOn (plan : Plan) (c : Cell) (occupancy : Occupancy) : Type 0 where
  pub agent : occupancy.agent < length plan
  pub early : occupancy.from ≤ MAX_HORIZON
  pub some_time : occupancy.from ≤ occupancy.until
  pub on : (t : ℕ) → IsDuring occupancy t → cell_of plan occupancy.agent t ≡ c

-- the occupancies on the cell are these, one after another
pub record AreOccupanciesOn (plan : Plan) (c : Cell) (occupancies : List Occupancy) : Type 0 where
  pub each : (i : ℕ) → i < length occupancies → IsOccupancyOn plan c (occupancy_at occupancies i)
  pub apart : (i k : ℕ) → i < k → k < length occupancies → (occupancy_at occupancies i).until < (occupancy_at occupancies k).from
  pub all : (t j : ℕ) → StandsOn plan t c j → (i : ℕ) × (i < length occupancies) × IsDuring (occupancy_at occupancies i) t

-- ---- reservation tables

-- the occupancies on the cell
abbrev pub occupancies_of : ReservationTable → Cell → List Occupancy
occupancies_of t c = list_at t.lists (key_of_cell c)

-- the occupancies on each cell
abbrev pub HaveOccupancies : Plan → ReservationTable → Type 0
HaveOccupancies plan t = (c : Cell) → AreOccupanciesOn plan c (occupancies_of t c)

-- each path fits those before it, and the occupancies of all stand in the reservation table
pub record AreReserved (paths : Plan) (table : ReservationTable) : Type 0 where
  pub together : FitTogether paths
  pub occupancies : HaveOccupancies paths table

-- the occupancies begin one after another
abbrev pub AreInOrder : List Occupancy → Type 0
AreInOrder = IsNonDecreasingBy (λ s. s.from)

-- the occupancy was put in, behind those that begin no later
pub record IsPutIn (old new : List Occupancy) (occupancy : Occupancy) : Type 0 where
  pub index : ℕ
  pub bound : index ≤ length old
  pub is : new ≡ insert old index occupancy
  pub before : (i : ℕ) → i < index → (occupancy_at old i).from ≤ occupancy.from
  pub after : (i : ℕ) → index ≤ i → i < length old → occupancy.from < (occupancy_at old i).from

-- the occupancy was put in on the cell, and the others have the same
pub record IsOccupancyAdded (old new : ReservationTable) (cell : Cell) (occupancy : Occupancy) : Type 0 where
  pub here : IsPutIn (occupancies_of old cell) (occupancies_of new cell) occupancy
  pub others : (c : Cell) → c ≢ cell → occupancies_of new c ≡ occupancies_of old c

-- the occupancies without those of the agent
abbrev pub without : ℕ → List Occupancy → List Occupancy
without agent = filter (λ s. not (s.agent == agent))
