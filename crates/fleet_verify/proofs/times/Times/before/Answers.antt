use Rattle.std.proofs.Common.{refl, arith}
use Rattle.fleet_verify.proofs.CriticalPaths.{before_some, before_none}
use Rattle.fleet_verify.proofs.times.Times.before.Goals as goal

pub returns-in-Some-clause-some : goal.returns-in-Some-clause-some
returns-in-Some-clause-some g c =
    let p = g.P.ProgramView.program c.args.self.now.program in
    let cost = g.C.ActionCosts.cost c.args.self.now.costs in
    before_some p cost c.args.action c.args.end (cost c.args.action) c.begin-time.result c.requires.end refl (omega (arith, c.begin-time.ensures)) c.known.ensures.in_range c.requires.action c.in-Some.found c.in-Some.ensures.some

pub returns-in-None-clause-none : goal.returns-in-None-clause-none
returns-in-None-clause-none g c =
    let p = g.P.ProgramView.program c.args.self.now.program in
    let cost = g.C.ActionCosts.cost c.args.self.now.costs in
    before_none p cost c.args.action c.args.end (cost c.args.action) c.begin-time.result c.requires.end refl (omega (arith, c.begin-time.ensures)) c.known.ensures.critical c.in-None.ensures.none
