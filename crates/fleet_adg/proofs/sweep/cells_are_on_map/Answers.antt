use Rattle.fleet_adg.proofs.SweepSteps.{plan_on_map}
use Rattle.fleet_adg.proofs.sweep.cells_are_on_map.Goals as goal

pub returns : goal.returns
returns c = plan_on_map c.args.checked.now.grid c.args.checked.now.instance c.args.checked.now.plan (rw c.grid.ensures at c.width-width.ensures.sizes) c.plan-plan.ensures.checked.free
