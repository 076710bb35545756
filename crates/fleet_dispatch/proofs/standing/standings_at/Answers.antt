use Rattle.fleet_dispatch.proofs.Cited.{◌≡◌, ◌∙◌, refl, ap, length, map, arith, indices, path, count_of}
use Rattle.fleet_dispatch.proofs.Stood.{standing_from_parts, standing_more}
use Rattle.fleet_dispatch.proofs.standing.standings_at.Goals as goal

pub loop-i-preserved : goal.loop-i-preserved
loop-i-preserved g c =
    let p = g.P.ProgramView.program c.args.program.now in
    let done = c.args.done.now in
    standing_more (λ j. record { place = path p j (count_of done j); count = count_of done j }) c.loop-i.i c.loop-i.standings.items _ _ c.loop-i.invariant c.in_ok-push.ensures.items
    (standing_from_parts _ _ c.place_after-place.ensures refl)

pub returns : goal.returns
returns g c =
    let p = g.P.ProgramView.program c.args.program.now in
    let done = c.args.done.now in
    let all : c.loop-i.i ≡ length p = omega (arith, c.agents-agents.ensures.count) in
    c.loop-i.invariant ∙ ap (λ n. map (λ j. record { place = path p j (count_of done j); count = count_of done j }) (indices n)) all
