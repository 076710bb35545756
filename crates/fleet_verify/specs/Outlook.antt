-- What agents that ran ahead tell of a program.
use Rattle.std.specs.Prelude.{◌⊎◌, All, Bool, List, IfSome}
use Rattle.fleet_model.specs.declared.task.Task.{Task}
use Rattle.fleet_model.specs.Program.{Program}
use Rattle.fleet_grid.specs.Ground.{Ground}
use Rattle.fleet_model.specs.declared.geometry.Place.{Place}
use Rattle.fleet_verify.specs.Ahead.{IsAhead, HaveFinished, NobodyGoesOn}
use Rattle.fleet_verify.specs.Walk.{LeavesGround}
use Rattle.fleet_verify.specs.declared.ahead.Ahead.{Ahead}
use Rattle.fleet_verify.specs.Chained.{AreKnown}
use Rattle.fleet_verify.specs.OpenPairs.{IsChained}
use Rattle.fleet_verify.specs.Parts.{IsAcceptedFor}
use Rattle.fleet_verify.specs.LevelRows.{HasLevels}
use Rattle.fleet_verify.specs.declared.ahead.Outlook.{Outlook}
use Rattle.fleet_verify.specs.declared.ahead.Outlook.TheVariants.{Accepted, Unknown}

-- it is accepted and has these levels, or its questions were answered so
abbrev pub IsOutlook : Ground → List Task → Program → Outlook → Type 0
IsOutlook grid tasks p (Accepted chain levels) = IsAcceptedFor grid tasks p chain × IfSome levels (HasLevels p)
IsOutlook grid tasks p (Unknown known) = AreKnown p known

-- it is accepted
abbrev pub IsFound : Outlook → Type 0
IsFound (Accepted chain levels) = Unit {0}
IsFound (Unknown known) = ⊥

-- some agents have run ahead until nobody could go on, and then not all had finished and stood where they are to end,
-- or some open pair has no chain
pub record IsUnfinished (passable : Place → Bool) (tasks : List Task) (p : Program) : Type 0 where
  pub agents : Ahead
  pub ahead : IsAhead passable p agents
  pub still : NobodyGoesOn p agents.rows.items
  pub lacks : HaveFinished tasks p agents.rows.items → ¬ All (IsChained p) agents.pairs.items

-- it is accepted, unless some path leaves passable ground, or the agents do not all come to their ends, or lack a chain
abbrev pub IsFoundUnless : (Place → Bool) → List Task → Program → Outlook → Type 0
IsFoundUnless passable tasks p (Accepted chain levels) = Unit {0}
IsFoundUnless passable tasks p (Unknown known) = LeavesGround passable p ⊎ IsUnfinished passable tasks p
