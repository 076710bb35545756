use Rattle.std.proofs.Common.{◌∙◌}
use Rattle.fleet_machine.proofs.Bits.{put_here, put_others}
use Rattle.fleet_machine.proofs.agent_set.with_bit.Goals as goal

pub returns-clause-here : goal.returns-clause-here
returns-clause-here c = rw c.bit.ensures (put_here c.without_bit.result c.args.place c.requires c.args.is_set c.without_bit.ensures.here)

pub returns-clause-others : goal.returns-clause-others
returns-clause-others c = λ k lt other. rw c.bit.ensures (put_others c.without_bit.result c.args.place c.requires c.args.is_set k lt other) ∙ c.without_bit.ensures.others k lt other
