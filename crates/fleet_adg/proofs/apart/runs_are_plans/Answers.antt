use Rattle.fleet_adg.proofs.RunPlan.{free, apart, same, plan_steps, checked, again}
use Rattle.fleet_adg.proofs.apart.runs_are_plans.Goals as goal

pub returns-clause-free : goal.returns-clause-free
returns-clause-free c = free

pub returns-clause-apart : goal.returns-clause-apart
returns-clause-apart c = apart

pub returns-clause-same : goal.returns-clause-same
returns-clause-same c = same

pub returns-clause-steps : goal.returns-clause-steps
returns-clause-steps c p holds f l = (plan_steps p holds f).1 l

pub returns-clause-checked : goal.returns-clause-checked
returns-clause-checked c g tasks p ok ground formed holds f fin short = checked g tasks p ok ground formed holds f fin short

pub returns-clause-again : goal.returns-clause-again
returns-clause-again c = again
