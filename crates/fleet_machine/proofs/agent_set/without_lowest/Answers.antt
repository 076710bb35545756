use Rattle.std.proofs.Common.{arith}
use Rattle.fleet_machine.proofs.Bits.{some_bit, lowest_cut, lowest_others}
use Rattle.fleet_machine.proofs.agent_set.without_lowest.Goals as goal

pub overflow_sub-result : goal.overflow_sub-result
overflow_sub-result c = omega (arith, some_bit c.args.word c.args.place c.requires)

pub returns-clause-here : goal.returns-clause-here
returns-clause-here c = lowest_cut c.args.word c.args.place c.requires

pub returns-clause-others : goal.returns-clause-others
returns-clause-others c = lowest_others c.args.word c.args.place c.requires
