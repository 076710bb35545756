use Rattle.std.proofs.Common.{ap, length, List, ◌∙◌, arith}
use Rattle.std.specs.Prelude.{sum_by}
use Rattle.std.proofs.lemmas.List.{take_all}
use Rattle.fleet_model.specs.declared.program.Action.{Action}
use Rattle.fleet_model.specs.Program.{actions_of}
use Rattle.fleet_model.proofs.program.agent_awaits.Goals as goal

pub returns : goal.returns
returns g c =
    let actions : List Action = actions_of (g.P.ProgramView.program c.args.p.now) c.args.i in
    c.awaits_before.ensures ∙ ap (sum_by (λ (s : Action). length s.awaits)) (take_all c.moves.result actions (omega (arith, c.moves.ensures)))
