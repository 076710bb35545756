use Rattle.fleet_run.proofs.Words.{slice_index, Takes, texts_below, label_line}
use Rattle.fleet_run.proofs.times_text.put_counts.Given as goal

abbrev pub invariant-loop-i : goal.invariant-loop-i
invariant-loop-i g l = record {
  written : Takes (g.O.TraceOut.state l.fn.out) (g.O.TraceOut.state l.out) (texts_below (λ i. label_line i (slice_index l.counts i)) l.i);
}
