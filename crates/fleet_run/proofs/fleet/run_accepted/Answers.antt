use Rattle.std.proofs.Common.{◌≡◌, length, ap, ◌∙◌}
use Rattle.fleet_run.proofs.TraceLemmas.{traces}
use Rattle.fleet_run.proofs.fleet.run_accepted.Goals as goal

pub returns : goal.returns
returns g c =
    let agents : c.agents.result ≡ length (g.P.ProgramView.program c.args.accepted.program) = c.agents.ensures.count ∙ ap (λ p. length (g.P.ProgramView.program p)) c.program.ensures.program in
    let started = c.in-Ok.ensures.started in
    traces c.args.holds.now (g.P.ProgramView.program c.args.accepted.program) c.args.accepted.chain c.agents.result c.new-source.result _ _ _ _ agents c.new-source.ensures
    (g.P.ProgramView.program c.in-Ok.fleet.accepted.program) c.in-Ok.fleet.accepted.chain (ap (λ f. g.P.ProgramView.program f.accepted.program) started) (ap (λ f. f.accepted.chain) started)
    c.drive.result c.drive.ensures.outcome c.drive.ensures.in_time
