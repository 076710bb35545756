use Rattle.std.proofs.Common.{◌≡◌, ◌≤◌, ◌∷◌, List, length, take, get_or, ap, ◌∙◌, arith}
use Rattle.std.specs.Prelude.{sum_by}
use Rattle.fleet_model.specs.declared.program.Action.{Action}
use Rattle.fleet_model.specs.ActionRows.{steps_in}
use Rattle.fleet_model.proofs.ActionRows.{actions_long, sum_there}
use Rattle.fleet_model.proofs.program.Actions.awaits_before.Goals as goal

pub begin_of-requires : goal.begin_of-requires
begin_of-requires c =
    let s = c.self.inside in
    omega (arith, c.requires, c.deref.ensures.len, s.ends.ok.0, c.self.invariant.count, actions_long (steps_in s.codes.items) s.ends.items s.awaits.items c.self.invariant, ap length c.self.view_is)

pub returns : goal.returns
returns c =
    let s = c.self.inside in
    let within : c.args.count ≤ length (steps_in s.codes.items) = omega (arith, c.requires, actions_long (steps_in s.codes.items) s.ends.items s.awaits.items c.self.invariant, ap length c.self.view_is) in
    let begin : c.begin_of.result ≡ get_or (0 ∷ s.ends.items) c.args.count 0 = rw c.deref.ensures.value at c.begin_of.ensures in
    begin ∙ sum_there (steps_in s.codes.items) s.ends.items s.awaits.items c.args.count c.self.invariant within ∙ ap (λ (xs : List Action). sum_by (λ (a : Action). length a.awaits) (take c.args.count xs)) c.self.view_is
