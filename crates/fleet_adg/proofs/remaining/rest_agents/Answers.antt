use Rattle.fleet_adg.proofs.Words.{◌≡◌, ℕ, length, map, subst, ◌∙◌, arith, indices, cell_at, rest_agent}
use Rattle.fleet_adg.proofs.RestMade.{agent_more}
use Rattle.fleet_adg.proofs.remaining.rest_agents.Goals as goal

pub loop-i-preserved : goal.loop-i-preserved
loop-i-preserved g c =
    let p = g.P.ProgramView.program c.args.program.now in
    let st = c.args.standings.now in
    record { made = c.in_ok-push.ensures.items ∙ agent_more (rest_agent (cell_at st) p st) c.loop-i.i c.loop-i.agents.items c.loop-i.invariant.made _ c.in_ok-rest_agent.ensures }

pub returns : goal.returns
returns g c =
    let p = g.P.ProgramView.program c.args.program.now in
    let st = c.args.standings.now in
    let all : c.loop-i.i ≡ length p = omega (arith, c.loop-i-test.false, c.agents-count.ensures.count) in
    subst (λ (n : ℕ). c.loop-i.agents.items ≡ map (rest_agent (cell_at st) p st) (indices n)) all c.loop-i.invariant.made
