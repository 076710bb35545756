use Rattle.fleet_run.proofs.Words.{map, take, awaits_of, PassesOn, next_words, await_text}
use Rattle.fleet_run.proofs.listing.put_action.Given as goal

abbrev pub invariant-loop-k : goal.invariant-loop-k
invariant-loop-k g l = record {
  written : PassesOn (g.O.TraceOut.state l.initial.out) (g.O.TraceOut.state l.out) l.initial.row l.row
      (next_words (map await_text (take l.k (awaits_of (g.P.ProgramView.program l.program) l.agent l.number))));
}
