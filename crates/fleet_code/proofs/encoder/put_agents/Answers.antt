use Rattle.fleet_code.proofs.Words.{◌∙◌, sym, subst, agent, IsSpellableAgent}
use Rattle.fleet_code.proofs.Written.{written_more, written_all}
use Rattle.fleet_code.proofs.encoder.put_agents.Goals as goal

pub put_agent-requires : goal.put_agent-requires
put_agent-requires c = subst (IsSpellableAgent c.args.version) (sym c.agent-item.is) (c.requires c.loop-agent.agent-index c.agent-item.result c.loop-agent-test.true)

pub loop-agent-preserved : goal.loop-agent-preserved
loop-agent-preserved c =
    c.in_ok-put_agent.ensures ∙ written_more (agent c.args.version) c.args.agents.now c.loop-agent.agent-index c.agent-item.result c.args.out.now.items c.loop-agent.out.items c.loop-agent-test.true c.agent-item.is c.loop-agent.invariant

pub returns : goal.returns
returns c = written_all (agent c.args.version) c.args.agents.now c.loop-agent.agent-index c.args.out.now.items c.loop-agent.out.items c.loop-agent-test.false c.loop-agent.invariant
