-- For each agent of a program a row of numbers, one for each of its actions: the costs of their critical paths.
use Rattle.std.specs.Prelude.{◌≡◌, ℕ, ◌<◌, List, length}
use Rattle.fleet_model.specs.declared.program.ActionId.{ActionId}
use Rattle.fleet_model.specs.Program.{Program, moves}
use Rattle.fleet_model.specs.Chain.{IsAction, IsCriticalCost, unit_cost}
use Rattle.fleet_verify.specs.Ahead.{count_in, level_in}

-- each agent has a row, each of its actions an entry there: the cost of the action's critical path
pub record AreCostRows (p : Program) (cost : ActionId → ℕ) (rows : List (List ℕ)) : Type 0 where
  pub all : length rows ≡ length p
  pub whole : (i : ℕ) → i < length p → count_in rows i ≡ moves p i
  pub each : (a : ActionId) → IsAction p a → IsCriticalCost p cost a (level_in rows a)

-- the entries are the levels of the actions
abbrev pub HasLevels : Program → List (List ℕ) → Type 0
HasLevels p rows = AreCostRows p unit_cost rows
