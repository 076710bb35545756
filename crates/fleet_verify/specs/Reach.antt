-- The actions at which chains of needs begin.
use Rattle.std.specs.Prelude.{◌≡◌, ℕ, ◌≤◌, ◌⊎◌}
use Rattle.fleet_model.specs.declared.program.ActionId.{ActionId}
use Rattle.fleet_model.specs.Program.{Program}
use Rattle.fleet_model.specs.Chain.{Reaches}
use Rattle.fleet_needs.specs.Pieces.{ArePiecesOf}
use Rattle.fleet_verify.specs.declared.reach.Reach.{Reach}

-- n is the greatest number of an action of agent j that begins a chain which ends with the action, or 0 if there is
-- none
pub record IsGreatest (p : Program) (a : ActionId) (j n : ℕ) : Type 0 where
  pub some : (n ≡ 0) ⊎ Reaches p (record { agent = j; number = n }) a
  pub most : (c : ℕ) → Reaches p (record { agent = j; number = c }) a → c ≤ n

-- the reach was made of the program, and answers for its actions and agents
abbrev pub IsReachOf : Program → Reach → Type 0
IsReachOf p reach = ArePiecesOf p reach.pieces
