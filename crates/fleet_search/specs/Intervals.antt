-- Safe intervals between the occupancies of agents on a cell: times at which nobody is there.
use Rattle.std.specs.Prelude.{◌≡◌, ℕ, ◌<◌, ◌≤◌, List, length}
use Rattle.fleet_search.specs.declared.intervals.Occupancy.{Occupancy}
use Rattle.fleet_search.specs.declared.intervals.TheConstants.{FOREVER}
use Rattle.fleet_search.specs.Occupancies.{occupancy_at}

-- each occupancy begins after those before it have ended
pub record AreSuccessive (occupancies : List Occupancy) : Type 0 where
  pub some_time : (i : ℕ) → i < length occupancies → (occupancy_at occupancies i).from ≤ (occupancy_at occupancies i).until
  pub apart : (i k : ℕ) → i < k → k < length occupancies → (occupancy_at occupancies i).until < (occupancy_at occupancies k).from

-- the occupancy is over at the time
abbrev pub HasPassed : Occupancy → ℕ → Type 0
HasPassed occupancy t = (occupancy.until < t) × (occupancy.until < FOREVER)

-- the time is in the safe interval of this number: so many occupancies are over, and the others are still to come
pub record IsInInterval (occupancies : List Occupancy) (interval : ℕ) (t : ℕ) : Type 0 where
  pub bound : interval ≤ length occupancies
  pub over : (i : ℕ) → i < interval → HasPassed (occupancy_at occupancies i) t
  pub to_come : (i : ℕ) → interval ≤ i → i < length occupancies → t < (occupancy_at occupancies i).from

-- so many occupancies begin at the time or before
pub record AreBegun (occupancies : List Occupancy) (t : ℕ) (n : ℕ) : Type 0 where
  pub bound : n ≤ length occupancies
  pub begun : (i : ℕ) → i < n → (occupancy_at occupancies i).from ≤ t
  pub to_come : (i : ℕ) → n ≤ i → i < length occupancies → t < (occupancy_at occupancies i).from

-- the first time in the safe interval from the one on
pub record IsEarliestWithin (occupancies : List Occupancy) (interval : ℕ) (from t : ℕ) : Type 0 where
  pub later : from ≤ t
  pub inside : IsInInterval occupancies interval t
  pub first : (s : ℕ) → from ≤ s → IsInInterval occupancies interval s → t ≤ s

-- the first of the occupancies that come after the time begins at this one, or there is none
pub record IsEndAfter (occupancies : List Occupancy) (t until : ℕ) : Type 0 where
  pub next : ℕ
  pub begun : AreBegun occupancies t next
  pub here : next < length occupancies → until ≡ (occupancy_at occupancies next).from
  pub none : length occupancies ≤ next → until ≡ FOREVER
