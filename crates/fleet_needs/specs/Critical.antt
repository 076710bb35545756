-- The cost of the critical path of each action, as it is noted.
use Rattle.std.specs.Prelude.{◌≡◌, ℕ, ◌-◌, ◌*◌, ◌<◌, ◌≤◌, List, [], length, get_or, slice_index}
use Rattle.fleet_needs.specs.Words.{ActionId, Program, moves, AreInRange, IsAction, IsCriticalCost, IsNumbering}
use Rattle.fleet_needs.specs.declared.critical.Stage.{Stage}
use Rattle.fleet_needs.specs.declared.critical.TheConstants.{MAX_COST, MAX_LEVEL}

-- the awaits of the program are in range, and its actions have numbers that rise along chains, of which none is greater
pub record IsNumberedTo (p : Program) (most : ℕ) : Type 0 where
  pub range : AreInRange p
  pub number : ActionId → ℕ
  pub rising : IsNumbering p number
  pub upto : (a : ActionId) → IsAction p a → number a ≤ most

-- the action's critical path costs so much; and no more than so many of the dearest actions as any number of it
pub record IsNotedCost (p : Program) (cost : ActionId → ℕ) (a : ActionId) (m : ℕ) : Type 0 where
  pub critical : IsCriticalCost p cost a m
  pub few : (number : ActionId → ℕ) → IsNumbering p number → m ≤ number a * MAX_COST

-- what an agent has finished: the costs of the critical paths of its first actions; and how far it has come with the
-- next
pub record Finished : Type 0 where
  pub costs : List ℕ
  pub stage : Stage

-- what is read past all agents
abbrev pub no_row : Finished
no_row = record { costs = []; stage = record { met = 0; at = 0; greatest = 0 } }

-- what agent i has finished
abbrev pub row_in : List Finished → ℕ → Finished
row_in rows i = get_or rows i no_row

-- how many actions that are
abbrev pub noted_in : List Finished → ℕ → ℕ
noted_in rows i = length (row_in rows i).costs

-- the cost that is noted of the action
abbrev pub critical_cost : List Finished → ActionId → ℕ
critical_cost rows a = slice_index (row_in rows a.agent).costs (a.number - 1)

-- there is an entry for each action of the program
pub record HasEntries (p : Program) (rows : List Finished) : Type 0 where
  pub all : length rows ≡ length p
  pub each : (i : ℕ) → i < length p → moves p i ≤ noted_in rows i

-- it is the cost of the action's critical path
pub record AreCriticalCosts (p : Program) (cost : ActionId → ℕ) (m : List Finished) : Type 0 where
  pub entries : HasEntries p m
  pub each : (a : ActionId) → IsAction p a → IsCriticalCost p cost a (critical_cost m a)

-- the awaits of the program are in range, and each action has a number, of 32 bits, that is greater than those of what
-- it directly needs
pub record AreLevels (p : Program) (m : List Finished) : Type 0 where
  pub range : AreInRange p
  pub entries : HasEntries p m
  pub rising : IsNumbering p (critical_cost m)
  pub most : (a : ActionId) → IsAction p a → critical_cost m a ≤ MAX_LEVEL
