use Rattle.fleet_plan.proofs.Words.{lines, one_verdict}
use Rattle.fleet_plan.proofs.PlanFaults.{tells}
use Rattle.fleet_plan.proofs.text_laws.a_text_is_a_plan_or_has_a_first_fault.Goals as goal

pub returns : goal.returns
returns c = λ text. one_verdict (tells (lines text))
