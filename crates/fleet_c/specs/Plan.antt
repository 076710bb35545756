-- A plan that is made for a map and an instance of texts.
use Rattle.std.specs.Prelude.{◌≡◌, ℕ, List}
use Rattle.fleet_model.specs.declared.task.Task.{Task}
use Rattle.fleet_grid.specs.Ground.{Ground, is_passable}
use Rattle.fleet_plan.specs.Plan.{Plan, IsConflictFree}
use Rattle.fleet_plan.specs.PlanText.{plan_text}
use Rattle.fleet_search.specs.Orders.{IsMadeInTries, IsStuckInTries}
use Rattle.fleet_search.specs.declared.fault.PlanStop.TheVariants as p
use Rattle.fleet_c.specs.declared.answer.TheConstants.{DONE}
use Rattle.fleet_c.specs.Texts.{AreTextsOf, IsTextsStop}
use Rattle.fleet_c.specs.declared.fault.CallFault.{CallFault}
use Rattle.fleet_c.specs.declared.fault.CallFault.TheVariants as f

-- the texts stand for a map and for tasks; the plan is made for them in one of the first orders of the agents, is free
-- of conflict, and is written so
pub record PlansTexts (map scen : List ℕ) (agents horizon tries : ℕ) (text : List ℕ) : Type 0 where
  pub ground : Ground
  pub tasks : List Task
  pub texts : AreTextsOf map scen agents ground tasks
  pub plan : Plan
  pub made : IsMadeInTries (is_passable ground) tasks horizon tries plan
  pub free : IsConflictFree (is_passable ground) tasks plan
  pub written : text ≡ plan_text plan

-- the first fault of the texts; or an agent that is left without a path by those before it in the last of so many
-- orders; or memory ran out
abbrev pub IsPlannerStop : (map scen : List ℕ) → (agents horizon tries : ℕ) → CallFault → Type 0
IsPlannerStop map scen agents horizon tries (f.Search stop) =
    (g : Ground) × (tasks : List Task) × AreTextsOf map scen agents g tasks
    × ((agent : ℕ) → stop ≡ p.NoPath agent → IsStuckInTries (is_passable g) tasks horizon tries agent)
IsPlannerStop map scen agents horizon tries fault = IsTextsStop map scen agents fault

-- the plan of such texts (PlansTexts), with the status of a call that answers
abbrev pub PlansTo : (map scen : List ℕ) → (agents horizon tries : ℕ) → (text : List ℕ) → ℕ → Type 0
PlansTo map scen agents horizon tries text done = PlansTexts map scen agents horizon tries text × (done ≡ DONE)
