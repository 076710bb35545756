-- What the texts of a map and of a scenario stand for, and which fault of theirs is first.
use Rattle.std.specs.Prelude.{◌≢◌, ℕ, List, Option, Some, None, if◌then◌else◌, nat_eq}
use Rattle.fleet_model.specs.declared.task.Task.{Task}
use Rattle.fleet_grid.specs.Ground.{Ground}
use Rattle.fleet_grid.specs.MapText.{IsMapText, IsFirstMapFault}
use Rattle.fleet_grid.specs.declared.fault.MapFault.TheVariants as m
use Rattle.fleet_scen.specs.ScenText.{IsScenText, IsFirstScenFault}
use Rattle.fleet_scen.specs.declared.fault.ScenFault.TheVariants as s
use Rattle.fleet_c.specs.declared.fault.CallFault.{CallFault}
use Rattle.fleet_c.specs.declared.fault.CallFault.TheVariants as f

-- the first so many agents of a scenario are asked for, or all where the number is 0
abbrev pub asked_of : ℕ → Option ℕ
asked_of agents = if nat_eq agents 0 then None else Some agents

-- the texts stand for this ground and these tasks
pub record AreTextsOf (map scen : List ℕ) (agents : ℕ) (g : Ground) (tasks : List Task) : Type 0 where
  pub ground : IsMapText map g
  pub tasks_read : IsScenText scen g (asked_of agents) tasks

-- the first fault of the map's text, or of the scenario's on that map; or memory ran out
abbrev pub IsTextsStop : (map scen : List ℕ) → ℕ → CallFault → Type 0
IsTextsStop map scen agents f.OutOfMemory = Unit {0}
IsTextsStop map scen agents (f.Map fault) = fault ≢ m.OutOfMemory → IsFirstMapFault map fault
IsTextsStop map scen agents (f.Scen fault) = (g : Ground) × IsMapText map g × (fault ≢ s.OutOfMemory → IsFirstScenFault scen g (asked_of agents) fault)
IsTextsStop map scen agents _ = ⊥
