use Rattle.fleet_run.proofs.Words.{rules, length, slice_index, arith, label_line}
use Rattle.fleet_run.proofs.Rehearsed.{one_text_more, refused_in_text}
use Rattle.fleet_run.proofs.times_text.put_counts.Goals as goal

pub returns-in_err-put_line : goal.returns-in_err-put_line
returns-in_err-put_line g c =
    refused_in_text (λ i. label_line i (slice_index c.args.counts.now i)) _ _ _ c.loop-i.i c.loop-i.invariant.written _
    (length c.args.counts.now) (omega arith) (search rules) (rw c.from.ensures at c.in_err-put_line.ensures)

pub loop-i-preserved : goal.loop-i-preserved
loop-i-preserved g c = record {
  written = one_text_more (λ i. label_line i (slice_index c.args.counts.now i)) _ _ _ c.loop-i.i c.loop-i.invariant.written (rw c.from.ensures at c.in_ok-put_line.ensures);
}
