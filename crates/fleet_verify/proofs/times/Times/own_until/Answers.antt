use Rattle.fleet_verify.proofs.Words.{◌≡◌, ◌-◌, sym, subst, arith, ActionId, IsCriticalCost}
use Rattle.fleet_verify.proofs.Timed.{one_cost}
use Rattle.fleet_verify.proofs.Members.{same_action}
use Rattle.fleet_verify.proofs.times.Times.own_until.Goals as goal

pub returns-else-end-time-clause-none : goal.returns-else-end-time-clause-none
returns-else-end-time-clause-none g c = λ a h.
    let p = g.P.ProgramView.program c.args.self.now.program in
    let cost = g.C.ActionCosts.cost c.args.self.now.costs in
    let b : ActionId = record { agent = c.args.action.agent; number = c.args.action.number - 1 } in
    let same : a ≡ b = same_action a b (sym h.agent) (omega (arith, h.before)) in
    c.if-end-time.false (one_cost p cost b c.end-end.result c.args.time c.end-end.ensures (subst (λ x. IsCriticalCost p cost x c.args.time) same h.critical))
