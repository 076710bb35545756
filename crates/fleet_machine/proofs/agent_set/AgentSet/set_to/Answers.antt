use Rattle.fleet_machine.proofs.Flags.{all_filled}
use Rattle.fleet_machine.proofs.agent_set.AgentSet.set_to.Goals as goal

pub returns : goal.returns
returns c = all_filled c.args.flags.now c.loop-i.self c.loop-i.from c.loop-i.invariant c.in_default.ensures
