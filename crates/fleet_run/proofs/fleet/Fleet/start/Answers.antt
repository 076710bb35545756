use Rattle.fleet_run.proofs.Words.{◌≡◌, length, ap, arith, ◌∙◌, length-map, Standing, opening}
use Rattle.fleet_machine.proofs.Opened.{opening_at}
use Rattle.fleet_run.proofs.fleet.Fleet.start.Goals as goal

pub returns-clause-counts : goal.returns-clause-counts
returns-clause-counts g c =
    let p = g.P.ProgramView.program c.args.accepted.program in
    let here : c.in-Ok.machine.configuration ≡ opening p = c.in-Ok.ensures.opening ∙ ap (λ q. opening (g.P.ProgramView.program q)) c.program.ensures.program in
    let agents : length (opening p) ≡ length p = length-map p _ in
    rw here (λ k d inside. ap (λ (s : Standing). s.count) (opening_at p k d (omega (arith, inside, agents))))
