use Rattle.std.proofs.Common.{◌≡◌, arith}
use Rattle.fleet_plan.proofs.Counted.{cost_is}
use Rattle.fleet_plan.proofs.plan.Path.cost.Goals as goal

pub returns-clause-time : goal.returns-clause-time
returns-clause-time c =
    let over : c.loop-time.time ≡ 0 = omega (arith, c.loop-time-test.false) in
    cost_is c.args.self.now 0 (omega arith) (λ k h l. c.loop-time.invariant.same k (omega arith) l) (λ some. absurd (omega arith))
