use Rattle.fleet_adg.proofs.Words.{◌+◌, ◌<◌, All, length, filter, sym, ap, subst, ◌∙◌, arith, indices, AreLeavingsAt, all_bytes_by, is_under_way}
use Rattle.fleet_adg.proofs.Limits.{steps_few}
use Rattle.fleet_adg.proofs.SweepSteps.{agents_below, under_way_later}
use Rattle.fleet_adg.proofs.sweep.sweep.Goals as goal

pub loop-time-init : goal.loop-time-init
loop-time-init c =
    let plan = c.args.plan.now in
    let all = c.in_ok-agents.ensures ∙ ap indices c.agents.ensures.count in
    record {
      agents = ap (filter (is_under_way plan 0)) all;
      below = subst (All (λ i. i < length plan)) (sym all) (agents_below plan);
      leavings = c.requires.leavings;
      actions = c.requires.actions;
    }

pub list_moves-requires-clause-agents : goal.list_moves-requires-clause-agents
list_moves-requires-clause-agents c = rw c.deref.ensures.value (c.drop_arrived.ensures.same ∙ c.loop-time.invariant.agents)

pub list_moves-requires-clause-time : goal.list_moves-requires-clause-time
list_moves-requires-clause-time c =
    omega (arith, c.loop-time-test.true, c.steps-time-end.ensures.time, steps_few c.args.plan.now c.steps-time-end.ensures.limits)

pub make_moves-requires-clause-time : goal.make_moves-requires-clause-time
make_moves-requires-clause-time c =
    omega (arith, c.loop-time-test.true, c.steps-time-end.ensures.time, steps_few c.args.plan.now c.steps-time-end.ensures.limits)

pub loop-time-preserved : goal.loop-time-preserved
loop-time-preserved c =
    let plan = c.args.plan.now in
    let t = c.loop-time.time in
    let kind = c.loop-time.invariant.leavings.kind in
    let made = c.in_ok-make_moves.ensures in
    record {
      agents = under_way_later plan t c.drop_arrived.new.agents.items (c.drop_arrived.ensures.same ∙ c.loop-time.invariant.agents);
      below = c.drop_arrived.ensures.below;
      leavings = subst (λ d. AreLeavingsAt c.args.grid.now plan d (t + 1) c.make_moves.new.leavings) kind made.leavings;
      actions = made.actions ∙ ap (λ d. all_bytes_by plan d c.args.version (t + 1)) kind;
    }
