use Rattle.fleet_plan.proofs.SweepLaws.{all_on_map}
use Rattle.fleet_plan.proofs.sweep.first_conflict.Goals as goal

pub run-requires-clause-on_map : goal.run-requires-clause-on_map
run-requires-clause-on_map c = all_on_map c.args.grid.now c.width-width.ensures.sizes c.args.plan.now c.requires
