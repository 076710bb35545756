use Rattle.fleet_verify.proofs.Words.{arith, awaited}
use Rattle.fleet_verify.proofs.Asked.{awaited_reaches}
use Rattle.fleet_verify.proofs.chained.awaits.Goals as goal

pub returns-then-is_late : goal.returns-then-is_late
returns-then-is_late g c = λ _.
    awaited_reaches (g.P.ProgramView.program c.args.program.now) c.requires.range c.args.first (awaited c.args.wait) c.loop-k.k c.await_at-needed.result c.requires.action c.await_at-needed.ensures c.requires.first
    (omega (arith, c.if-is_of_agent.true)) (omega (arith, c.if-is_late.true))
