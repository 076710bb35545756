use Rattle.fleet_plan.proofs.Words.{subst, sym, Bytes, lines, one_value, plan_text, IsPlanText}
use Rattle.fleet_plan.proofs.PlanFaults.{tells}
use Rattle.fleet_plan.proofs.Written.{plan_again}
use Rattle.fleet_plan.proofs.text_laws.a_written_plan_is_read.Goals as goal

pub returns-clause-read : goal.returns-clause-read
returns-clause-read c = λ p h. plan_again p h

pub returns-clause-no_other : goal.returns-clause-no_other
returns-clause-no_other c = λ p q h a. one_value (tells (lines (plan_text p))) q p a (plan_again p h)

pub returns-clause-one_text : goal.returns-clause-one_text
returns-clause-one_text c = λ p q h k e. one_value (tells (lines (plan_text p))) p q (plan_again p h) (subst (λ (text : Bytes). IsPlanText text q) (sym e) (plan_again q k))
