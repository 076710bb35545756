use Rattle.std.proofs.Common.{rules, ◌≡◌, List, length, take, ap, arith}
use Rattle.std.specs.Prelude.{sum_by}
use Rattle.std.proofs.lemmas.List.Sums.{sum_by-take-le}
use Rattle.fleet_model.specs.declared.program.Action.{Action}
use Rattle.fleet_model.specs.Program.{actions_of}
use Rattle.fleet_model.proofs.Totals.{awaits_fit}
use Rattle.fleet_model.proofs.program.ProgramProgramView.awaits_before.Goals as goal

pub overflow_cast-result : goal.overflow_cast-result
overflow_cast-result c =
    let p = c.args.self.now in
    let same : c.agent.result.now.actions ≡ actions_of p c.args.i = search rules in
    let own = ap (λ (xs : List Action). sum_by (λ (s : Action). length s.awaits) (take c.args.finished xs)) same in
    let part = sum_by-take-le (λ (s : Action). length s.awaits) (actions_of p c.args.i) c.args.finished in
    let fits = awaits_fit p c.args.i c.agent.ensures.well_formed in
    omega (arith, c.awaits_before.ensures, own, part, fits)
