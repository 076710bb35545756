use Rattle.std.proofs.Common.{◌≡◌, cond, arith, rules}
use Rattle.fleet_verify.proofs.CriticalPaths.{misses, one_at_most, one_stopped}
use Rattle.fleet_verify.proofs.stopped.stopped_agents.Goals as goal

pub loop-i-preserved : goal.loop-i-preserved
loop-i-preserved g c =
    let p = g.P.ProgramView.program c.args.program.now in
    let is : c.from-stopped.result ≡ cond (misses p c.args.counts.now c.loop-i.i) 1 0 = search rules in
    record {
      counted = one_stopped p c.args.counts.now c.loop-i.i c.loop-i.stopped c.loop-i.invariant.counted c.from-stopped.result is;
      few = omega (arith, c.loop-i.invariant.few, is, one_at_most (misses p c.args.counts.now c.loop-i.i));
    }
