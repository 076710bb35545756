use Rattle.fleet_plan.proofs.RowLaws.{covers_on}
use Rattle.fleet_plan.proofs.sweep.drop_arrived.Goals as goal

pub keep_under_way-requires : goal.keep_under_way-requires
keep_under_way-requires c = c.requires.covers.agents

pub returns-then-is_due : goal.returns-then-is_due
returns-then-is_due c = covers_on c.args.plan.now c.args.time c.args.agents.now.items c.keep_under_way.new.agents.items c.requires.covers c.keep_under_way.ensures
