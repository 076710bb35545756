use Rattle.fleet_plan.proofs.Words.{arith, cost_of}
use Rattle.fleet_plan.proofs.Counted.{summed_more}
use Rattle.fleet_plan.proofs.plan.Plan.sum_of_costs.Goals as goal

pub loop-i-preserved : goal.loop-i-preserved
loop-i-preserved c = record {
  summed = summed_more cost_of c.args.self.now c.loop-i.i c.loop-i.costs c.cost-costs.result c.path.result.now c.path.ensures c.loop-i.invariant.summed c.cost-costs.ensures.time;
  few = omega (arith, c.loop-i.invariant.few, c.cost-costs.ensures.limit);
}
