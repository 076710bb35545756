use Rattle.std.proofs.Common.{true, ◌∙◌, arith}
use Rattle.std.proofs.lemmas.List.{take-replicate}
use Rattle.fleet_machine.proofs.agent_set.AgentSet.of_all.Goals as goal

pub returns : goal.returns
returns c = c.set_to.ensures ∙ take-replicate c.args.agents 1024 true (omega arith)
