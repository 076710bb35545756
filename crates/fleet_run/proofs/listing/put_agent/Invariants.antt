use Rattle.fleet_run.proofs.Words.{◌≡◌, ◌+◌, path, Takes, action_line, texts_below}
use Rattle.fleet_run.proofs.listing.put_agent.Given as goal

abbrev pub invariant-loop-n : goal.invariant-loop-n
invariant-loop-n g l = record {
  written : Takes (g.O.TraceOut.state l.initial.out) (g.O.TraceOut.state l.out) (texts_below (λ n. action_line (g.P.ProgramView.program l.program) l.i (n + 1)) l.n);
  there : l.place ≡ path (g.P.ProgramView.program l.program) l.i l.n;
}
