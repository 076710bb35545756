use Rattle.std.proofs.Common.{◌++◌, ◌∷◌, [], ap, ◌∙◌, sym}
use Rattle.fleet_model.proofs.Indices.{indices-more}
use Rattle.fleet_model.proofs.program.agent_numbers.Goals as goal

pub loop-agent-preserved : goal.loop-agent-preserved
loop-agent-preserved c = c.in_ok-push.ensures.items ∙ ap (λ z. z ++ c.loop-agent.agent ∷ []) c.loop-agent.invariant ∙ sym (indices-more c.loop-agent.agent)
