use Rattle.fleet_verify.proofs.Words.{ap, arith, TimesParts, own_cost}
use Rattle.fleet_verify.proofs.times.Times.begin.Goals as goal

pub overflow_sub-result : goal.overflow_sub-result
overflow_sub-result g c =
    let p = g.P.ProgramView.program c.args.self.now.program in
    let cost = g.C.ActionCosts.cost c.args.self.now.costs in
    let view = ap (λ (t : TimesParts _ _). g.C.ActionCosts.cost t.costs c.args.action) c.self.view_is in
    let low = own_cost p cost c.args.action c.args.end c.requires.action c.requires.end in
    omega (arith, view, low, c.cost.ensures.cost, c.from-own.ensures)

pub returns : goal.returns
returns g c =
    let p = g.P.ProgramView.program c.args.self.now.program in
    let cost = g.C.ActionCosts.cost c.args.self.now.costs in
    let view = ap (λ (t : TimesParts _ _). g.C.ActionCosts.cost t.costs c.args.action) c.self.view_is in
    let low = own_cost p cost c.args.action c.args.end c.requires.action c.requires.end in
    omega (arith, view, low, c.cost.ensures.cost, c.from-own.ensures)
