use Rattle.fleet_dispatch.proofs.Cited.{◌≡◌, ◌∙◌, length, arith}
use Rattle.fleet_dispatch.proofs.progress.places_after.Goals as goal

pub returns : goal.returns
returns g c =
    let inv = c.loop-i.invariant in
    let all : c.loop-i.i ≡ length (g.P.ProgramView.program c.args.program.now) = omega (arith, c.loop-i-test.false, c.loop-i.auto.i-end, c.agents-count.ensures.count) in
    record { agents = inv.long ∙ all; places = λ i q agent. inv.there i q (omega (arith, agent, all)) }
