use Rattle.fleet_plan.proofs.Words.{arith, waits_of}
use Rattle.fleet_plan.proofs.Counted.{summed_more}
use Rattle.fleet_plan.proofs.plan.Plan.waits.Goals as goal

pub loop-i-preserved : goal.loop-i-preserved
loop-i-preserved c = record {
  summed = summed_more waits_of c.args.self.now c.loop-i.i c.loop-i.waits c.waits-waits.result c.path.result.now c.path.ensures c.loop-i.invariant.summed c.waits-waits.ensures.count;
  few = omega (arith, c.loop-i.invariant.few, c.waits-waits.ensures.limit);
}
