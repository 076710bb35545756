use Rattle.std.proofs.Common.{arith}
use Rattle.fleet_text.proofs.SinkLemmas.{gathers_err}
use Rattle.fleet_text.proofs.NumberedLemmas.{passed_numbered, stops_within_numbered}
use Rattle.fleet_text.proofs.numbered.put_by_tens.Goals as goal

pub returns-in_err-add_ten : goal.returns-in_err-add_ten
returns-in_err-add_ten g c =
    gathers_err _ _ _ _ _ _ c.from_residual.ensures.0
    (stops_within_numbered _ _ _ _ _ c.args.owner c.args.first c.loop-done.done c.min-here.result c.args.count (omega (arith, c.from-count.ensures, c.min-here.ensures))
    (rw c.from-first.ensures at c.loop-done.invariant.written) (rw c.from-first.ensures at c.in_err-add_ten.ensures))

pub loop-done-preserved : goal.loop-done-preserved
loop-done-preserved g c = record {
  within = omega (arith, c.min-here.ensures);
  written = passed_numbered _ _ _ _ _ _ c.args.owner c.from-first.result c.loop-done.done c.min-here.result c.loop-done.invariant.written c.in_ok-add_ten.ensures;
}
