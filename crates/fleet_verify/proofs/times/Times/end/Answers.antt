use Rattle.fleet_verify.proofs.Words.{sym, subst, arith, IsAction, IsCriticalCost, TimesParts, AreTimes}
use Rattle.fleet_verify.proofs.times.Times.end.Goals as goal

pub cost-requires : goal.cost-requires
cost-requires g c = record {
  entries = (rw c.in-Costs.is at c.self.invariant.critical).entries;
  action = subst (λ (t : TimesParts _ _). IsAction (g.P.ProgramView.program t.program) c.args.action) (sym c.self.view_is) c.requires;
}

pub returns-in-Costs : goal.returns-in-Costs
returns-in-Costs g c =
    let p = g.P.ProgramView.program c.args.self.now.program in
    let cost = g.C.ActionCosts.cost c.args.self.now.costs in
    let h = subst (λ (v : TimesParts _ _). AreTimes (g.P.ProgramView.program v.program) (g.C.ActionCosts.cost v.costs) c.self.inside.ends) c.self.view_is c.self.invariant in
    subst (IsCriticalCost p cost c.args.action) (sym c.cost.ensures) ((rw c.in-Costs.is at h.critical).each c.args.action c.requires)

pub returns-in-Levels : goal.returns-in-Levels
returns-in-Levels g c =
    let p = g.P.ProgramView.program c.args.self.now.program in
    let cost = g.C.ActionCosts.cost c.args.self.now.costs in
    let h = subst (λ (v : TimesParts _ _). AreTimes (g.P.ProgramView.program v.program) (g.C.ActionCosts.cost v.costs) c.self.inside.ends) c.self.view_is c.self.invariant in
    subst (IsCriticalCost p cost c.args.action) (sym c.level.ensures) ((rw c.in-Levels.is at h.critical).0.each c.args.action c.requires)

pub level-requires : goal.level-requires
level-requires g c =
    let h = (rw c.in-Levels.is at c.self.invariant.critical).0 in
    let act = subst (λ (t : TimesParts _ _). IsAction (g.P.ProgramView.program t.program) c.args.action) (sym c.self.view_is) c.requires in
    let whole = h.whole c.args.action.agent act.agent in
    record { agent = omega (arith, act.agent, h.all); ranked = record { first = act.first; last = omega (arith, act.last, whole) } }
