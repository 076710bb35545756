use Rattle.fleet_verify.proofs.Words.{subst, HaveArrivedAt}
use Rattle.fleet_verify.proofs.Timed.{one_cost}
use Rattle.fleet_verify.proofs.CriticalPaths.{arrived_none}
use Rattle.fleet_verify.proofs.times.Times.last_arrival.Goals as goal

pub returns-in-Some : goal.returns-in-Some
returns-in-Some g c =
    let p = g.P.ProgramView.program c.args.self.now.program in
    let cost = g.C.ActionCosts.cost c.args.self.now.costs in
    let l = c.in-Some.ensures.some in
    subst (HaveArrivedAt p cost) (one_cost p cost c.in-Some.action l.end c.end.result l.critical c.end.ensures) l.arrival

pub returns-in-None : goal.returns-in-None
returns-in-None g c = arrived_none (g.P.ProgramView.program c.args.self.now.program) (g.C.ActionCosts.cost c.args.self.now.costs) c.in-None.ensures.none
