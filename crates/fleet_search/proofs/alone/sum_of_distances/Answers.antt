use Rattle.std.proofs.Common.{◌∙◌, ◌<◌, length, ap, arith}
use Rattle.fleet_search.proofs.AloneLaws.{bound_step, not_cut_off}
use Rattle.fleet_search.proofs.alone.sum_of_distances.Goals as goal

pub unreachable-requires : goal.unreachable-requires
unreachable-requires c =
    let tasks = c.args.checked.now.instance in
    let is = c.instance-instance.ensures in
    let within : c.loop-agent.agent < length tasks = omega (arith, c.agents-agent-end.ensures.count, c.loop-agent-test.true, c.loop-agent.auto.agent-end, ap length is) in
    not_cut_off c.args.checked.now.grid c.loop-agent.tables.distances.grid tasks c.instance-instance.result.now c.args.checked.now.plan c.loop-agent.agent c.start.result c.goal.result
    c.loop-agent.invariant.grid is within c.start.ensures c.goal.ensures c.plan-plan.ensures.checked (c.in-Err-NoPath.ensures.no_path c.in-Err-NoPath.field-0-is)

pub loop-agent-preserved : goal.loop-agent-preserved
loop-agent-preserved c =
    let tasks = c.args.checked.now.instance in
    let is = c.instance-instance.ensures in
    let within : c.loop-agent.agent < length tasks = omega (arith, c.agents-agent-end.ensures.count, c.loop-agent-test.true, c.loop-agent.auto.agent-end, ap length is) in
    record {
      nobody = c.in-Ok.ensures.nobody;
      grid = c.in-Ok.ensures.grid ∙ c.loop-agent.invariant.grid;
      summed = bound_step c.args.checked.now.grid c.loop-agent.tables.distances.grid tasks c.instance-instance.result.now c.loop-agent.agent c.loop-agent.sum c.in-Ok.moves c.start.result c.goal.result
          c.loop-agent.invariant.grid is within c.start.ensures c.goal.ensures c.loop-agent.invariant.summed c.in-Ok.ensures.ok;
      few = omega (arith, c.loop-agent.invariant.few, c.in-Ok.ensures.limit);
    }
