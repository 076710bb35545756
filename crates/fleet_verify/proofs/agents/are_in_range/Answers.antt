use Rattle.fleet_verify.proofs.Words.{awaited_agent, arith}
use Rattle.fleet_verify.proofs.Ranges.{in_range_more, in_range_all, out_of_range}
use Rattle.fleet_verify.proofs.agents.are_in_range.Goals as goal

pub moves-requires : goal.moves-requires
moves-requires g c = awaited_agent (g.P.ProgramView.program c.args.program.now) c.args.agent c.args.action c.loop-k.k c.await_at-awaited.result c.requires.well_formed c.await_at-awaited.ensures

pub returns-then-is_beyond : goal.returns-then-is_beyond
returns-then-is_beyond g c = (
  (λ h. absurd (cc)),
  (λ right. absurd (out_of_range (g.P.ProgramView.program c.args.program.now) c.args.agent c.args.action c.loop-k.k c.await_at-awaited.result c.await_at-awaited.ensures (omega arith) right)),
)

pub loop-k-preserved : goal.loop-k-preserved
loop-k-preserved g c = in_range_more (g.P.ProgramView.program c.args.program.now) c.requires.well_formed c.args.agent c.args.action c.loop-k.k c.await_at-awaited.result c.loop-k.invariant c.await_at-awaited.ensures (omega arith)

pub returns : goal.returns
returns g c = (
  (λ h. in_range_all (g.P.ProgramView.program c.args.program.now) c.args.agent c.args.action c.loop-k.k c.loop-k.invariant (omega arith)),
  (λ right. Rattle.std.proofs.Common.refl),
)
