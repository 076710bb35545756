use Rattle.std.proofs.Common.{length, ap, arith}
use Rattle.fleet_model.proofs.ActionRows.{codes_long}
use Rattle.fleet_model.proofs.program.Actions.len.Goals as goal

pub returns : goal.returns
returns c =
    let s = c.self.inside in
    omega (arith, c.len.ensures, s.codes.ok.0, codes_long s.codes.items s.ends.items s.awaits.items c.self.invariant, ap length c.self.view_is)
