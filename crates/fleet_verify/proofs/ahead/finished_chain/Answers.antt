use Rattle.std.proofs.Common.{◌≡◌, ◌-◌, ℕ, List, length, slice_index, subst, arith}
use Rattle.fleet_verify.proofs.Beginning.{done_more}
use Rattle.fleet_verify.proofs.ahead.finished_chain.Goals as goal

pub loop-agent-preserved : goal.loop-agent-preserved
loop-agent-preserved g c =
    let p = g.P.ProgramView.program c.args.program.now in
    let i = c.loop-agent.agent in
    done_more c.args.instance.now p c.args.ahead.now.rows.items i c.loop-agent.chain c.loop-agent.invariant
    (c.has_finished.ensures.0 c.if-not-has_finished.false)
    (c.ends_right.ensures.0 c.if-not-ends_right.false) c.last.result c.max-chain.result
    (subst (λ (row : List ℕ). c.last.result ≡ slice_index row (length row - 1)) c.row_of.ensures c.last.ensures) c.max-chain.ensures

pub returns-clause-done : goal.returns-clause-done
returns-clause-done g c = (c.loop-agent.agent, omega (arith, c.agents-agent-end.ensures.count), c.loop-agent.invariant)
