use Rattle.fleet_verify.proofs.Words.{◌≡◌, ◌<◌, length, ap, sym, ◌∙◌, arith, Standing, moves, path, count_at, below_more, EndsRight}
use Rattle.fleet_verify.proofs.RunCounts.{finished_all}
use Rattle.fleet_verify.proofs.UnderWay.{on_path, within_moves}
use Rattle.fleet_verify.proofs.agents.has_arrived.Goals as goal

pub ends_right-requires-clause-end : goal.ends_right-requires-clause-end
ends_right-requires-clause-end g c =
    let p = g.P.ProgramView.program c.args.program.now in
    let d = c.args.machine.now.configuration in
    let i = c.loop-agent.agent in
    let agent : i < length p = omega (arith, c.agents-agent-end.ensures.count) in
    let all : count_at d i ≡ moves p i = omega (arith, finished_all p d (sym c.is_finished.ensures ∙ c.if-not-is_finished.false) i agent, within_moves p d c.requires.reached i) in
    ap (λ (s : Standing). s.place) c.agent.ensures.standing ∙ (on_path p d c.requires.reached i agent ∙ ap (path p i) all)

pub loop-agent-preserved : goal.loop-agent-preserved
loop-agent-preserved g c = below_more (EndsRight c.args.instance.now (g.P.ProgramView.program c.args.program.now)) c.loop-agent.agent c.loop-agent.invariant (c.ends_right.ensures.0 c.if-not-ends_right.false)
