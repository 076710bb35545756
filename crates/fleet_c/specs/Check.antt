-- A plan of a text that is free of conflict for a map and an instance of texts.
use Rattle.std.specs.Prelude.{◌≡◌, ◌≢◌, ℕ, List, length}
use Rattle.fleet_model.specs.declared.task.Task.{Task}
use Rattle.fleet_grid.specs.Ground.{Ground, is_passable}
use Rattle.fleet_plan.specs.Plan.{Plan, steps, IsConflictFree}
use Rattle.fleet_plan.specs.PlanText.{IsPlanText, IsFirstTextFault}
use Rattle.fleet_plan.specs.FirstFault.{IsFirstPlanFault}
use Rattle.fleet_plan.specs.declared.text_fault.TextFault.TheVariants as t
use Rattle.fleet_plan.specs.declared.plan_fault.PlanFault.TheVariants as p
use Rattle.fleet_c.specs.Texts.{AreTextsOf, IsTextsStop}
use Rattle.fleet_c.specs.declared.check.FleetChecked.{FleetChecked}
use Rattle.fleet_c.specs.declared.fault.CallFault.{CallFault}
use Rattle.fleet_c.specs.declared.fault.CallFault.TheVariants as f

-- the text stands for the plan, which is free of conflict for the ground and the tasks
pub record IsFreePlan (g : Ground) (tasks : List Task) (text : List ℕ) (plan : Plan) : Type 0 where
  pub plan_read : IsPlanText text plan
  pub free : IsConflictFree (is_passable g) tasks plan

-- the first fault of the plan's text, or of the plan for the ground and the tasks; or memory ran out
abbrev pub IsPlanStop : Ground → List Task → List ℕ → CallFault → Type 0
IsPlanStop g tasks text f.OutOfMemory = Unit {0}
IsPlanStop g tasks text (f.Text fault) = fault ≢ t.OutOfMemory → IsFirstTextFault text fault
IsPlanStop g tasks text (f.Check fault) = (plan : Plan) × IsPlanText text plan × (fault ≢ p.OutOfMemory → IsFirstPlanFault (is_passable g) tasks plan fault)
IsPlanStop g tasks text _ = ⊥

-- the texts stand for a map, for tasks and for a plan that is free of conflict, and these are its agents and its steps
pub record ChecksTexts (map scen : List ℕ) (agents : ℕ) (text : List ℕ) (checked : FleetChecked) : Type 0 where
  pub ground : Ground
  pub tasks : List Task
  pub texts : AreTextsOf map scen agents ground tasks
  pub plan : Plan
  pub free : IsFreePlan ground tasks text plan
  pub agents_of : checked.agents ≡ length plan
  pub steps_of : checked.steps ≡ steps plan

-- the first fault of the texts, judged in this order: map, scenario, plan text, plan; or memory ran out
abbrev pub IsCheckStop : (map scen : List ℕ) → ℕ → List ℕ → CallFault → Type 0
IsCheckStop map scen agents text (f.Text fault) = (g : Ground) × (tasks : List Task) × AreTextsOf map scen agents g tasks × IsPlanStop g tasks text (f.Text fault)
IsCheckStop map scen agents text (f.Check fault) = (g : Ground) × (tasks : List Task) × AreTextsOf map scen agents g tasks × IsPlanStop g tasks text (f.Check fault)
IsCheckStop map scen agents text fault = IsTextsStop map scen agents fault
