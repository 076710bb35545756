use Rattle.fleet_plan.proofs.Words.{◌≤◌, rules, arith, MAX_HORIZON}
use Rattle.fleet_plan.proofs.SweepLaws.{few_steps, swept_all}
use Rattle.fleet_plan.proofs.sweep.Sweep.run.Goals as goal

pub overflow_add-end : goal.overflow_add-end
overflow_add-end c =
    let few : c.steps-end.result ≤ MAX_HORIZON = omega (arith, c.steps-end.ensures.time, few_steps c.args.plan.now c.steps-end.ensures.limits.paths) in
    search rules

pub step-requires-clause-time : goal.step-requires-clause-time
step-requires-clause-time c =
    omega (arith, c.steps-end.ensures.time, few_steps c.args.plan.now c.steps-end.ensures.limits.paths, c.loop-time-test.true)

pub returns : goal.returns
returns c =
    swept_all c.args.plan.now c.loop-time.time c.loop-time.invariant.swept.sweep.earlier (omega (arith, c.steps-end.ensures.time, c.loop-time-test.false))
