-- The actions that two visits need through chains, as a count for each agent.
use Rattle.std.specs.Prelude.{◌≡◌, ℕ, ◌<◌, ◌≤◌, Bool, List, length, slice_index, sum_by, ◌⊎◌, ◌↔◌, Contains, IsTrue, IsFalse}
use Rattle.fleet_model.specs.declared.program.Await.{Await}
use Rattle.fleet_model.specs.declared.program.Visit.{Visit}
use Rattle.fleet_model.specs.Program.{Program, awaits_of}
use Rattle.fleet_model.specs.Machine.{indices}
use Rattle.fleet_model.specs.Breaking.{IsNeededFor}
use Rattle.fleet_model.specs.Visit.{IsVisit}

-- of each agent so many actions are needed, its first ones
abbrev pub AreNeeded : Program → Visit → Visit → (ℕ → ℕ) → Type 0
AreNeeded p v w needed = (i c : ℕ) → IsNeededFor p v w (record { agent = i; number = c }) ↔ ((1 ≤ c) × (c ≤ needed i))

-- a row of these counts
pub record IsNeededRow (p : Program) (v w : Visit) (row : List ℕ) : Type 0 where
  pub all : length row ≡ length p
  pub needed : AreNeeded p v w (slice_index row)

-- both are visits of the program
pub record AreTwoVisits (p : Program) (v w : Visit) : Type 0 where
  pub first : IsVisit p v
  pub second : IsVisit p w

-- a row of so many zeros
pub record AreZeros (n : ℕ) (row : List ℕ) : Type 0 where
  pub all : length row ≡ n
  pub zero : (j : ℕ) → slice_index row j ≡ 0

-- the row is raised to the counts that action n of agent i awaits, and no further
pub record IsRaised (p : Program) (i n : ℕ) (old new : List ℕ) : Type 0 where
  pub keeps : (j : ℕ) → slice_index old j ≤ slice_index new j
  pub covers : (w : Await) → Contains (awaits_of p i n) w → w.count ≤ slice_index new w.agent
  pub only : (j : ℕ) → (slice_index new j ≡ slice_index old j) ⊎ ((w : Await) × Contains (awaits_of p i n) w × (w.agent ≡ j) × (w.count ≡ slice_index new j))

-- of each agent the first actions that are known as needed, and of these the first that were looked at: all that they
-- await is known
pub record IsLooking (p : Program) (v w : Visit) (needed looked : List ℕ) : Type 0 where
  pub wide : length needed ≡ length p
  pub long : length looked ≡ length p
  pub first : v.position ≤ slice_index needed v.agent
  pub second : w.position ≤ slice_index needed w.agent
  pub sound : (j c : ℕ) → 1 ≤ c → c ≤ slice_index needed j → IsNeededFor p v w (record { agent = j; number = c })
  pub within : (j : ℕ) → slice_index looked j ≤ slice_index needed j
  pub closed : (j c : ℕ) (a : Await) → 1 ≤ c → c ≤ slice_index looked j → Contains (awaits_of p j c) a → a.count ≤ slice_index needed a.agent

-- how many actions of all agents were looked at
unfoldable pub looked_sum : Program → List ℕ → ℕ
looked_sum p looked = sum_by (slice_index looked) (indices (length p))

-- of each agent one action more was looked at, if one was left, and whether that is so of any
pub record HasLookedOn (p : Program) (needed looked more seen : List ℕ) (any : Bool) : Type 0 where
  pub looking : (v w : Visit) → IsLooking p v w needed looked → IsLooking p v w more seen
  pub some : IsTrue any → looked_sum p looked < looked_sum p seen
  pub none : IsFalse any → (j : ℕ) → j < length p → slice_index more j ≤ slice_index seen j
