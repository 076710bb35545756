use Rattle.fleet_verify.proofs.Words.{awaited_agent, ◌<◌, length, arith}
use Rattle.fleet_verify.proofs.Looking.{raised_low, raised_more, raised_all}
use Rattle.fleet_verify.proofs.needed.raise.Goals as goal
use Rattle.fleet_verify.proofs.needed.raise.Goals.{then-is_short, else-is_short}

pub prove-unreachable-requires : goal.prove-unreachable-requires
prove-unreachable-requires g c =
    omega (arith, awaited_agent (g.P.ProgramView.program c.args.program.now) c.args.agent c.args.number c.loop-k.k c.await_at-awaited.result c.requires.well_formed c.await_at-awaited.ensures, c.agents-agents.ensures.count)

pub loop-k-preserved : goal.loop-k-preserved
loop-k-preserved g c =
    let p = g.P.ProgramView.program c.args.program.now in
    let inside : c.await_at-awaited.result.agent < length c.loop-k.row =
    omega (arith, awaited_agent p c.args.agent c.args.number c.loop-k.k c.await_at-awaited.result c.requires.well_formed c.await_at-awaited.ensures) in
    elim c.if-is_short.branch [
      | then-is_short w ↦ rw w.row-is (raised_more p c.args.agent c.args.number c.args.row.now c.loop-k.row c.loop-k.k c.await_at-awaited.result c.loop-k.invariant c.await_at-awaited.ensures (omega (arith, w.if-is_short.true)) inside)
      | else-is_short w ↦ rw w.row-is (raised_low p c.args.agent c.args.number c.args.row.now c.loop-k.row c.loop-k.k c.await_at-awaited.result c.loop-k.invariant c.await_at-awaited.ensures (omega (arith, w.if-is_short.false)))
    ]

pub returns : goal.returns
returns g c = raised_all (g.P.ProgramView.program c.args.program.now) c.args.agent c.args.number c.args.row.now c.loop-k.row c.loop-k.k c.loop-k.invariant (omega arith)
