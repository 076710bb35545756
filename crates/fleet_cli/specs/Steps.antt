-- What commands are made of: what the texts of a map, a scenario and a program stand for, and what is made for them.
use Rattle.std.specs.Prelude.{ℕ, List, Option, ◌≡◌, ◌≢◌, max, Bool, None, Some, Result, Ok, Err}
use Rattle.fleet_model.specs.declared.{task.Task.Task, geometry.Place.Place, deps.Deps.Deps, deps.Deps.TheVariants.Last}
use Rattle.fleet_grid.specs.{Ground.Ground, Ground.is_passable, MapText.IsMapText, MapText.IsFirstMapFault}
use Rattle.fleet_grid.specs.declared.fault.MapFault.TheVariants as m
use Rattle.fleet_scen.specs.ScenText.{IsScenText, IsFirstScenFault}
use Rattle.fleet_scen.specs.declared.fault.ScenFault.TheVariants as s
use Rattle.fleet_cli.specs.declared.{files.FileTexts.FileTexts, steps.TheConstants.NO_CHAIN, steps.PlanNumbers.PlanNumbers, steps.Problem.Problem, fault.Fault.Fault}
use Rattle.fleet_args.specs.declared.{commands.Tries.Tries, commands.Best.Best}
use Rattle.fleet_model.specs.{Program.Program, Chain.IsLongestChain, Accepted.IsAccepted}
use Rattle.fleet_plan.specs.{Plan.Plan, Plan.steps, Plan.IsConflictFree, Numbers.sum_of_costs}
use Rattle.fleet_search.specs.{Orders.IsMadeInTry, Orders.IsStuckInTries, Best.IsBestInTries}
use Rattle.fleet_search.specs.declared.fault.PlanStop.TheVariants as p
use Rattle.fleet_adg.specs.{Compiled.compiled_if_few, declared.fault.CompileFault.CompileFault}
use Rattle.fleet_code.specs.{Spelling.SpellsIn, Spelling.Spells, LoadFaults.IsFirstLoadFault, declared.format.Version.TheVariants.One}
use Rattle.fleet_args.specs.declared.commands.Best.TheVariants as best
use Rattle.fleet_code.specs.declared.fault.LoadFault.TheVariants as l
use Rattle.fleet_verify.specs.{Parts.IsAcceptedFor, Faults.IsFault}
use Rattle.fleet_cli.specs.declared.fault.Fault.TheVariants as f

-- the texts stand for this ground and these tasks
pub record AreTextsOf (map scen : List ℕ) (asked : Option ℕ) (g : Ground) (tasks : List Task) : Type 0 where
  pub ground : IsMapText map g
  pub tasks_read : IsScenText scen g asked tasks

-- the longest chain of the program has so many actions; if there is no program, this number stands for it
abbrev pub IsChainIn : Result Program CompileFault → ℕ → Type 0
IsChainIn (Ok program) chain = IsLongestChain program chain
IsChainIn (Err fault) chain = chain ≡ NO_CHAIN

-- by what a plan is the best: the longest chain of its program, in which a move into a cell awaits the latest leaving
-- of it; or its sum of costs
abbrev pub IsMeasure : Best → Plan → ℕ → Type 0
IsMeasure best.Chain plan measure = IsChainIn (compiled_if_few plan Last) measure
IsMeasure best.Cost plan measure = measure ≡ sum_of_costs plan

-- in one of the first orders of the agents, of which so many are tried at most, each path is the earliest against those
-- before it; or so many are tried in any case, and of the plans that are so made this one is the first with the least
-- measure. So many were tried
abbrev pub IsMadeBy : (Place → Bool) → List Task → ℕ → ℕ → Option Best → (tried : ℕ) → Plan → Type 0
IsMadeBy passable tasks horizon count None tried plan = IsMadeInTry passable tasks horizon count tried plan
IsMadeBy passable tasks horizon count (Some best) tried plan =
    (tried ≡ max count 1) × ((measure : ℕ) × IsBestInTries passable tasks horizon (IsMeasure best) count plan measure)

-- the plan is so made, and it is free of conflict
pub record IsPlannedFor (g : Ground) (tasks : List Task) (horizon : ℕ) (tries : Tries) (tried : ℕ) (plan : Plan) : Type 0 where
  pub made : IsMadeBy (is_passable g) tasks horizon tries.count tries.best tried plan
  pub free : IsConflictFree (is_passable g) tasks plan

-- the program is that of such a plan, which has these numbers, and it is accepted
pub record IsMadeFor (g : Ground) (tasks : List Task) (horizon : ℕ) (tries : Tries) (deps : Deps) (numbers : PlanNumbers) (program : Program) : Type 0 where
  pub plan : Plan
  pub planned : IsPlannedFor g tasks horizon tries numbers.tried plan
  pub steps : numbers.steps ≡ steps plan
  pub cost : numbers.cost ≡ sum_of_costs plan
  pub compiled : compiled_if_few plan deps ≡ Ok program
  pub accepted : IsAccepted (is_passable g) tasks program

-- the bytes are the spelling, in version 1, of the program of such a plan
pub record SpellsMade (g : Ground) (tasks : List Task) (horizon : ℕ) (tries : Tries) (deps : Deps) (numbers : PlanNumbers) (bytes : List ℕ) : Type 0 where
  pub program : Program
  pub made : IsMadeFor g tasks horizon tries deps numbers program
  pub spelled : SpellsIn One bytes program

-- in the last of so many orders an agent is left without a path by those before it; or memory ran out
abbrev pub IsPlanningRefusal : Ground → List Task → ℕ → Tries → Fault → Type 0
IsPlanningRefusal g tasks horizon tries (f.Search stop) = (agent : ℕ) × (stop ≡ p.NoPath agent) × IsStuckInTries (is_passable g) tasks horizon tries.count agent
IsPlanningRefusal g tasks horizon tries f.Memory = Unit {0}
IsPlanningRefusal g tasks horizon tries _ = ⊥

-- no plan is made; or the agents of the plan make too many moves
abbrev pub IsMakingRefusal : Ground → List Task → ℕ → Tries → Deps → Fault → Type 0
IsMakingRefusal g tasks horizon tries deps (f.Compile fault) = (plan : Plan) × (tried : ℕ) × IsPlannedFor g tasks horizon tries tried plan × (compiled_if_few plan deps ≡ Err fault)
IsMakingRefusal g tasks horizon tries deps fault = IsPlanningRefusal g tasks horizon tries fault

-- the bytes spell this program, which is accepted for the map and the tasks, with a longest chain of so many actions
pub record Accepts (bytes : List ℕ) (g : Ground) (tasks : List Task) (p : Program) (chain : ℕ) : Type 0 where
  pub spelled : Spells bytes p
  pub accepted_for : IsAcceptedFor g tasks p chain

-- the problem has these texts, which stand for its ground and its tasks
abbrev pub IsProblemOf : FileTexts → Option ℕ → Problem → Type 0
IsProblemOf texts asked problem = (problem.texts ≡ texts) × AreTextsOf texts.map.items texts.scen.items asked problem.grid problem.instance

-- the bytes of the problem spell a program that is accepted for it, and this holds of it and of its longest chain
abbrev pub AcceptsProgram : Problem → (Program → ℕ → Type 0) → Type 0
AcceptsProgram problem Holds = (p : Program) × (chain : ℕ) × Accepts problem.texts.subject.items problem.grid problem.instance p chain × Holds p chain

-- the texts of a map and a scenario are refused: the first fault of the map's text, or of the scenario's on that map.
-- Memory may run out in any step, and stands in place of any fault
abbrev pub IsProblemRefusal : FileTexts → Option ℕ → Fault → Type 0
IsProblemRefusal texts asked (f.Map fault) = fault ≢ m.OutOfMemory → IsFirstMapFault texts.map.items fault
IsProblemRefusal texts asked (f.Scen fault) = (g : Ground) × IsMapText texts.map.items g × (fault ≢ s.OutOfMemory → IsFirstScenFault texts.scen.items g asked fault)
IsProblemRefusal texts asked f.Memory = Unit {0}
IsProblemRefusal texts asked _ = ⊥

-- the bytes spell no program: this is their first fault
abbrev pub IsLoadRefusal : List ℕ → Fault → Type 0
IsLoadRefusal bytes (f.Load fault) = fault ≢ l.OutOfMemory → IsFirstLoadFault bytes fault
IsLoadRefusal bytes f.Memory = Unit {0}
IsLoadRefusal bytes _ = ⊥

-- the bytes of the problem are refused, or the program that they spell
abbrev pub IsAcceptRefusal : Problem → Fault → Type 0
IsAcceptRefusal problem (f.Verify fault) = (p : Program) × Spells problem.texts.subject.items p × IsFault (is_passable problem.grid) problem.instance p fault
IsAcceptRefusal problem fault = IsLoadRefusal problem.texts.subject.items fault
