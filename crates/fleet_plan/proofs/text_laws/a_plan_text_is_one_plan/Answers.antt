use Rattle.fleet_plan.proofs.Words.{lines, one_value}
use Rattle.fleet_plan.proofs.PlanLaws.{limits}
use Rattle.fleet_plan.proofs.PlanFaults.{tells}
use Rattle.fleet_plan.proofs.text_laws.a_plan_text_is_one_plan.Goals as goal

pub returns-clause-one : goal.returns-clause-one
returns-clause-one c = λ text. one_value (tells (lines text))

pub returns-clause-limits : goal.returns-clause-limits
returns-clause-limits c = λ text p a. limits (lines text) p a
