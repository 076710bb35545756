-- Agents that never stay.
use Rattle.std.specs.Prelude.{◌≡◌, ℕ, Some, IsTrue}
use Rattle.fleet_model.specs.declared.geometry.Step.{Step}
use Rattle.fleet_model.specs.Geometry.{is_move}
use Rattle.fleet_model.specs.Program.{Program, step_of}

-- each action of agent i is a move
abbrev pub MovesAlways : Program → ℕ → Type 0
MovesAlways p i = (n : ℕ) (s : Step) → step_of p i n ≡ Some s → IsTrue (is_move s)
