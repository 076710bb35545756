-- Why a run from a map, a scenario, bytes and holds is refused.
use Rattle.std.specs.Prelude.{◌≡◌, ◌≢◌, ℕ, List, None, Err}
use Rattle.fleet_model.specs.declared.task.Task.{Task}
use Rattle.fleet_model.specs.Program.{Program}
use Rattle.fleet_grid.specs.Ground.{Ground, is_passable}
use Rattle.fleet_grid.specs.MapText.{IsMapText, IsFirstMapFault}
use Rattle.fleet_grid.specs.declared.fault.MapFault.TheVariants as m
use Rattle.fleet_scen.specs.ScenText.{IsScenText, IsFirstScenFault}
use Rattle.fleet_scen.specs.declared.fault.ScenFault.TheVariants as s
use Rattle.fleet_code.specs.Spelling.{Spells}
use Rattle.fleet_code.specs.LoadFaults.{IsFirstLoadFault}
use Rattle.fleet_code.specs.declared.fault.LoadFault.TheVariants as l
use Rattle.fleet_verify.specs.Parts.{IsAcceptedFor}
use Rattle.fleet_verify.specs.Promises.{IsRefusedRightly}
use Rattle.fleet_text.specs.Sink.{SinkState}
use Rattle.fleet_run.specs.Trace.{Traces}
use Rattle.fleet_example.specs.declared.library.Stop.{Stop}
use Rattle.fleet_example.specs.declared.library.Stop.TheVariants as f

-- The first step that refuses, and why. Before the run nothing is written: the first fault is that of the map, of the
-- scenario on it, of the bytes, or of the program that they spell; or the run of that stopped. Memory may run out in
-- any step, and stands in place of any fault
abbrev pub IsRunStop : (map scen bytes held : List ℕ) (out out' : SinkState) → Stop → Type 0
IsRunStop map scen bytes held out out' (f.Map fault) = (out' ≡ out) × (fault ≢ m.OutOfMemory → IsFirstMapFault map fault)
IsRunStop map scen bytes held out out' (f.Scen fault) =
    (out' ≡ out) × ((g : Ground) × IsMapText map g × (fault ≢ s.OutOfMemory → IsFirstScenFault scen g None fault))
IsRunStop map scen bytes held out out' (f.Load fault) =
    (out' ≡ out) × (fault ≢ l.OutOfMemory → IsFirstLoadFault bytes fault) × ((g : Ground) × (tasks : List Task) × IsMapText map g × IsScenText scen g None tasks)
IsRunStop map scen bytes held out out' (f.Verify fault) =
    (out' ≡ out) × ((g : Ground) × (tasks : List Task) × IsMapText map g × IsScenText scen g None tasks × ((p : Program) × Spells bytes p × IsRefusedRightly (is_passable g) tasks p fault))
IsRunStop map scen bytes held out out' (f.Run fault) =
    (g : Ground) × (tasks : List Task) × IsMapText map g × IsScenText scen g None tasks × ((p : Program) × (chain : ℕ) × Spells bytes p × IsAcceptedFor g tasks p chain × Traces p chain held out out' (Err fault))
IsRunStop map scen bytes held out out' (f.Dispatch fault) = ⊥
