use Rattle.fleet_machine.proofs.Bits.{cut_here, cut_others, cut_less}
use Rattle.fleet_machine.proofs.agent_set.without_bit.Goals as goal

pub returns-clause-here : goal.returns-clause-here
returns-clause-here c = cut_here c.args.word c.args.place c.requires

pub returns-clause-others : goal.returns-clause-others
returns-clause-others c = cut_others c.args.word c.args.place c.requires

pub returns-clause-less : goal.returns-clause-less
returns-clause-less c = cut_less c.args.word c.args.place c.requires
