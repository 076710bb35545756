-- The parts of an accepted program.
use Rattle.std.specs.Prelude.{ℕ, Bool, List}
use Rattle.fleet_model.specs.declared.task.Task.{Task}
use Rattle.fleet_model.specs.Program.{Program}
use Rattle.fleet_model.specs.Chain.{IsLongestChain}
use Rattle.fleet_model.specs.Accepted.{IsAccepted}
use Rattle.fleet_grid.specs.Ground.{Ground, is_passable}

-- a program, the map and the tasks that it is accepted for, the number of actions of its longest chain, and whether the
-- levels of its actions are kept
pub record AcceptedParts (P : Type 0) : Type 0 where
  pub program : P
  pub grid : Ground
  pub instance : List Task
  pub chain : ℕ
  pub has_levels : Bool

-- the program is accepted, and its longest chain has so many actions
pub record IsAcceptedFor (grid : Ground) (tasks : List Task) (p : Program) (chain : ℕ) : Type 0 where
  pub accepted : IsAccepted (is_passable grid) tasks p
  pub longest : IsLongestChain p chain
