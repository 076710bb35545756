-- Actions finished in any order that respects needs, and the costs of their critical paths.
use Rattle.std.specs.Prelude.{◌≡◌, ℕ, ◌+◌, ◌<◌, ◌≤◌, ◌⊎◌, List, length, set, slice_get, slice_index, Some, Contains}
use Rattle.fleet_needs.specs.Words.{ActionId, Await, Program, moves, awaits_of, awaited, DirectlyNeeds}
use Rattle.fleet_needs.specs.Critical.{Finished, IsNumberedTo, IsNotedCost, noted_in, row_in}
use Rattle.fleet_needs.specs.declared.critical.Stage.{Stage}
use Rattle.fleet_needs.specs.declared.critical.TheConstants.{MAX_LEVEL}

-- ---- what an agent may do next

-- the action of agent i after so many
abbrev pub after : ℕ → ℕ → ActionId
after i n = record { agent = i; number = n + 1 }

-- no more than this is noted of the action's critical path
abbrev pub CostsUpTo : Program → (ActionId → ℕ) → ℕ → ActionId → Type 0
CostsUpTo p cost m b = (n : ℕ) × (n ≤ m) × IsNotedCost p cost b n

-- m is the greatest cost of the critical paths of the action before a and of those that its first k awaits name, or 0
pub record IsGreatestTo (p : Program) (cost : ActionId → ℕ) (a : ActionId) (k m : ℕ) : Type 0 where
  pub some : (m ≡ 0) ⊎ ((b : ActionId) × DirectlyNeeds p a b × IsNotedCost p cost b m)
  pub before : (b : ActionId) → (a.agent ≡ b.agent) × (a.number ≡ b.number + 1) × (1 ≤ b.number) → CostsUpTo p cost m b
  pub awaits : (j : ℕ) (w : Await) → j < k → slice_get (awaits_of p a.agent a.number) j ≡ Some w → CostsUpTo p cost m (awaited w)

-- agent i has come so far after n actions
pub record IsStage (p : Program) (cost : ActionId → ℕ) (offset : (i finished k : ℕ) → ℕ) (i n : ℕ) (s : Stage) : Type 0 where
  pub within : s.met ≤ length (awaits_of p i (n + 1))
  pub at : s.at ≡ offset i n s.met
  pub greatest : IsGreatestTo p cost (after i n) s.met s.greatest

-- agent i has finished the actions whose costs are in the row, and has come so far with the next one
pub record IsRun (p : Program) (cost : ActionId → ℕ) (offset : (i finished k : ℕ) → ℕ) (i : ℕ) (row : Finished) : Type 0 where
  pub few : length row.costs ≤ moves p i
  pub noted : (n : ℕ) → n < length row.costs → IsNotedCost p cost (after i n) (slice_index row.costs n)
  pub next : IsStage p cost offset i (length row.costs) row.stage

-- the agents have come so far in a program whose actions have numbers
pub record IsCostWalk (p : Program) (cost : ActionId → ℕ) (offset : (i finished k : ℕ) → ℕ) (walk : List Finished) : Type 0 where
  pub numbered : IsNumberedTo p MAX_LEVEL
  pub rows : length walk ≡ length p
  pub each : (i : ℕ) → i < length p → IsRun p cost offset i (row_in walk i)

-- ---- how it goes on

-- agent i has finished n actions more, and all others are as they were
pub record HasGoneOn (old new : List Finished) (i n : ℕ) : Type 0 where
  pub row : Finished
  pub is : new ≡ set old i row
  pub more : length row.costs ≡ noted_in old i + n

-- the action that the await names is not finished
abbrev pub IsOpen : List Finished → Await → Type 0
IsOpen rows goal = noted_in rows goal.agent < goal.count

-- the next action of agent i has this await, which is not met
pub record IsUnmet (p : Program) (rows : List Finished) (i : ℕ) (goal : Await) : Type 0 where
  pub await : Contains (awaits_of p i (noted_in rows i + 1)) goal
  pub unfinished : IsOpen rows goal
