use Rattle.fleet_run.proofs.Words.{rules, length, arith, agent_text}
use Rattle.fleet_run.proofs.Rehearsed.{one_text_more, refused_in_text}
use Rattle.fleet_run.proofs.listing.put_program.Goals as goal

pub returns-in_err-put_agent : goal.returns-in_err-put_agent
returns-in_err-put_agent g c =
    refused_in_text (agent_text (g.P.ProgramView.program c.args.program.now)) _ _ _ c.loop-i.i c.loop-i.invariant.written _
    (length (g.P.ProgramView.program c.args.program.now)) (omega (arith, c.agents-i-end.ensures.count)) (search rules) c.in_err-put_agent.ensures

pub loop-i-preserved : goal.loop-i-preserved
loop-i-preserved g c = record {
  written = one_text_more (agent_text (g.P.ProgramView.program c.args.program.now)) _ _ _ c.loop-i.i c.loop-i.invariant.written c.in_ok-put_agent.ensures;
}
