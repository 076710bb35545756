use Rattle.fleet_verify.proofs.Words.{ap, arith, ◌∙◌, take_all, counts_of}
use Rattle.fleet_verify.proofs.Waiting.{counts_more}
use Rattle.fleet_verify.proofs.unheld_run.counts_of.Goals as goal

pub loop-agent-preserved : goal.loop-agent-preserved
loop-agent-preserved c = c.in_ok-push.ensures.items ∙ counts_more c.args.agents.now c.loop-agent.agent-index _ c.loop-agent.counts.items (omega arith) c.loop-agent.invariant

pub loop-agent-init : goal.loop-agent-init
loop-agent-init c =
    c.in_ok-counts.ensures.items

pub returns : goal.returns
returns c =
    c.loop-agent.invariant ∙ ap counts_of (take_all c.loop-agent.agent-index c.args.agents.now c.loop-agent-test.false)
