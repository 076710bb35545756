-- The actions of an agent as bytes of a version, while they are found.
use Rattle.std.specs.Prelude.{ℕ, List, length}
use Rattle.std.specs.List.{flat_map}
use Rattle.fleet_model.specs.declared.program.Action.{Action}
use Rattle.fleet_code.specs.declared.format.Version.{Version}
use Rattle.fleet_code.specs.Spelling.{action}

-- the bytes, and of how many actions they are
pub record Written : Type 0 where
  pub bytes : List ℕ
  pub count : ℕ

-- the bytes of these actions
abbrev pub written : Version → List Action → Written
written v actions = record { bytes = flat_map (action v) actions; count = length actions }
