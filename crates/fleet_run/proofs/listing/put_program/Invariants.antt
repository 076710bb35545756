use Rattle.fleet_run.proofs.Words.{Takes, agent_text, texts_below}
use Rattle.fleet_run.proofs.listing.put_program.Given as goal

abbrev pub invariant-loop-i : goal.invariant-loop-i
invariant-loop-i g l = record {
  written : Takes (g.O.TraceOut.state l.fn.out) (g.O.TraceOut.state l.out) (texts_below (agent_text (g.P.ProgramView.program l.program)) l.i);
}
