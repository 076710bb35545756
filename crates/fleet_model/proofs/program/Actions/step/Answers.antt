use Rattle.std.proofs.Common.{◌<◌, length, ap, arith}
use Rattle.fleet_model.specs.ActionRows.{steps_in}
use Rattle.fleet_model.proofs.ActionRows.{actions_long, codes_long, code_there, step_there}
use Rattle.fleet_model.proofs.program.Actions.step.Goals as goal

pub index-requires : goal.index-requires
index-requires c =
    let s = c.self.inside in
    omega (arith, c.requires, s.codes.ok.0, codes_long s.codes.items s.ends.items s.awaits.items c.self.invariant, ap length c.self.view_is)

pub returns : goal.returns
returns c =
    let s = c.self.inside in
    let within : c.args.k < length (steps_in s.codes.items) = omega (arith, c.requires, actions_long (steps_in s.codes.items) s.ends.items s.awaits.items c.self.invariant, ap length c.self.view_is) in
    rw c.self.view_is at (step_there (steps_in s.codes.items) s.ends.items s.awaits.items c.args.k c.step.result c.self.invariant within
    (code_there s.codes.items c.args.k c.index.result.now c.step.result within c.index.ensures c.step.ensures))
