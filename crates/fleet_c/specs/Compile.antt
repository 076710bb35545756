-- The bytes of the program of a plan of texts.
use Rattle.std.specs.Prelude.{◌≡◌, ◌≢◌, ℕ, List, Ok, Err, if◌then◌else◌, nat_eq}
use Rattle.fleet_model.specs.declared.task.Task.{Task}
use Rattle.fleet_model.specs.declared.deps.Deps.{Deps}
use Rattle.fleet_model.specs.declared.deps.Deps.TheVariants.{All, Last}
use Rattle.fleet_model.specs.Program.{Program}
use Rattle.fleet_model.specs.Accepted.{IsAccepted}
use Rattle.fleet_grid.specs.Ground.{Ground, is_passable}
use Rattle.fleet_plan.specs.Plan.{Plan}
use Rattle.fleet_verify.specs.Reduced.{RunEqually}
use Rattle.fleet_adg.specs.Compiled.{compiled_staying, compiled_staying_if_few}
use Rattle.fleet_adg.specs.declared.fault.CompileFault.TheVariants as c
use Rattle.fleet_code.specs.Spelling.{SpellsShortest}
use Rattle.fleet_c.specs.declared.answer.TheConstants.{DONE}
use Rattle.fleet_c.specs.Texts.{AreTextsOf}
use Rattle.fleet_c.specs.Check.{IsFreePlan, IsPlanStop, IsCheckStop}
use Rattle.fleet_c.specs.declared.fault.CallFault.{CallFault}
use Rattle.fleet_c.specs.declared.fault.CallFault.TheVariants as f

-- which leavings actions await, by the caller's number
abbrev pub deps_of : ℕ → Deps
deps_of number = if nat_eq number 0 then Last else All

-- The text stands for a plan that is free of conflict. The program is that of the plan with so many stays after the
-- moves of each agent; it is accepted, and runs as it would with either kind of awaits
pub record IsProgramOf (g : Ground) (tasks : List Task) (text : List ℕ) (deps : Deps) (dwell : ℕ) (program : Program) : Type 0 where
  pub plan : Plan
  pub free : IsFreePlan g tasks text plan
  pub compiled : compiled_staying_if_few plan deps dwell ≡ Ok program
  pub accepted : IsAccepted (is_passable g) tasks program
  pub equally : (other : Deps) → RunEqually program (compiled_staying plan other dwell)

-- the first fault of the plan's text, or of the plan; or the plan, which is free of conflict, has too many actions; or
-- memory ran out
abbrev pub IsProgramStop : Ground → List Task → List ℕ → Deps → ℕ → CallFault → Type 0
IsProgramStop g tasks text deps dwell (f.Compile fault) =
    (plan : Plan) × IsFreePlan g tasks text plan × (fault ≢ c.OutOfMemory → compiled_staying_if_few plan deps dwell ≡ Err fault)
IsProgramStop g tasks text deps dwell fault = IsPlanStop g tasks text fault

-- the texts stand for a map, for tasks and for a plan, and the bytes spell its program, in version 1 if that has bytes
-- for it
pub record CompilesTexts (map scen : List ℕ) (agents : ℕ) (text : List ℕ) (deps : Deps) (dwell : ℕ) (bytes : List ℕ) : Type 0 where
  pub ground : Ground
  pub tasks : List Task
  pub texts : AreTextsOf map scen agents ground tasks
  pub program : Program
  pub compiled : IsProgramOf ground tasks text deps dwell program
  pub spelled : SpellsShortest bytes program

-- the first fault of the texts, judged in this order: map, scenario, plan text, plan, program; or memory ran out
abbrev pub IsCompileStop : (map scen : List ℕ) → ℕ → List ℕ → Deps → ℕ → CallFault → Type 0
IsCompileStop map scen agents text deps dwell (f.Compile fault) =
    (g : Ground) × (tasks : List Task) × AreTextsOf map scen agents g tasks × IsProgramStop g tasks text deps dwell (f.Compile fault)
IsCompileStop map scen agents text deps dwell fault = IsCheckStop map scen agents text fault

-- the bytes of the program of such texts (CompilesTexts), with the status of a call that answers
abbrev pub CompilesTo : (map scen : List ℕ) → ℕ → List ℕ → Deps → ℕ → (bytes : List ℕ) → ℕ → Type 0
CompilesTo map scen agents text deps dwell bytes done = CompilesTexts map scen agents text deps dwell bytes × (done ≡ DONE)
