use Rattle.fleet_verify.proofs.Words.{◌<◌, length, arith, below_more, is_passable, EndsRight, StandsRight, AwaitsRight}
use Rattle.fleet_verify.proofs.Positions.{one_agent_more}
use Rattle.fleet_verify.proofs.agents.judge_paths.Goals as goal

pub loop-agent-preserved : goal.loop-agent-preserved
loop-agent-preserved g c =
    let p = g.P.ProgramView.program c.args.program.now in
    let i = c.loop-agent.agent in
    let judged = c.judge_path-path in
    let inside : i < length p = omega (arith, c.agents-agent-end.ensures.count) in
    record {
      ends = below_more (EndsRight c.args.instance.now p) i c.loop-agent.invariant.ends (c.ends_right.ensures.0 c.if-not-ends_right.false);
      off_ground = one_agent_more p (StandsRight (is_passable c.args.grid.now) p) i c.loop-agent.off_ground judged.result.off_ground c.or_action-off_ground.result
          c.loop-agent.invariant.off_ground judged.ensures.off_ground inside c.or_action-off_ground.ensures;
      out_of_range = one_agent_more p (AwaitsRight p) i c.loop-agent.out_of_range judged.result.out_of_range c.or_action-out_of_range.result
          c.loop-agent.invariant.out_of_range judged.ensures.out_of_range inside c.or_action-out_of_range.ensures;
    }
