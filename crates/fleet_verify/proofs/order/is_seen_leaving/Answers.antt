use Rattle.fleet_verify.proofs.Words.{ap, refl, arith, is_move, past_moves}
use Rattle.fleet_verify.proofs.Leaving.{left_by, in_still}
use Rattle.fleet_verify.proofs.order.is_seen_leaving.Goals as goal

pub returns-then-is_at_end : goal.returns-then-is_at_end
returns-then-is_at_end g c = (
  (λ t. omega (arith, c.if-is_at_end.true, past_moves (g.P.ProgramView.program c.args.program.now) c.args.visit.agent c.args.visit.position c.loop-finished.finished c.loop-finished.invariant.from (omega arith))),
  (λ l. refl),
)

pub returns-in-Go : goal.returns-in-Go
returns-in-Go g c = (
  (λ t. omega (arith, left_by (g.P.ProgramView.program c.args.program.now) c.args.visit.agent c.args.visit.position c.loop-finished.finished c.step.result c.step.ensures (ap is_move c.in-Go.is) c.loop-finished.invariant.from)),
  (λ l. refl),
)

pub loop-finished-preserved : goal.loop-finished-preserved
loop-finished-preserved g c = record {
  from = omega (arith, c.loop-finished.invariant.from);
  staying = in_still (g.P.ProgramView.program c.args.program.now) c.args.visit.agent c.args.visit.position c.loop-finished.finished c.step.result c.step.ensures (ap is_move c.in-Dwell.is) c.loop-finished.invariant.from c.loop-finished.invariant.staying;
}
