use Rattle.fleet_plan.proofs.Words.{ap, ◌∙◌, range_with_len}
use Rattle.fleet_plan.proofs.RowLaws.{covers_all}
use Rattle.fleet_plan.proofs.sweep.agents_of.Goals as goal

pub returns : goal.returns
returns c = covers_all c.args.plan.now _ c.agents.ensures.limits.fleet.few_agents (c.in_ok-agents.ensures ∙ ap (range_with_len 0) c.agents.ensures.count)
