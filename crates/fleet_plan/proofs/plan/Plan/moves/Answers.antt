use Rattle.fleet_plan.proofs.Words.{arith, moves_of}
use Rattle.fleet_plan.proofs.Counted.{summed_more}
use Rattle.fleet_plan.proofs.plan.Plan.moves.Goals as goal

pub loop-i-preserved : goal.loop-i-preserved
loop-i-preserved c = record {
  summed = summed_more moves_of c.args.self.now c.loop-i.i c.loop-i.moves c.moves-moves.result c.path.result.now c.path.ensures c.loop-i.invariant.summed c.moves-moves.ensures.count;
  few = omega (arith, c.loop-i.invariant.few, c.moves-moves.ensures.limit);
}
