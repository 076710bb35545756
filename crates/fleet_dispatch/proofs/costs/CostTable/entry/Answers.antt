use Rattle.fleet_dispatch.proofs.Cited.{◌≡◌, ◌≤◌, sym, subst, rules, arith, common_steps, MAX_COST, entry, lists_of}
use Rattle.fleet_dispatch.proofs.costs.CostTable.entry.Goals as goal

pub returns-in-Some-get-clause-low : goal.returns-in-Some-get-clause-low
returns-in-Some-get-clause-low c =
    let e : c.in-Some-get.cost.now ≡ entry (lists_of c.self.inside.rows.items) c.args.agent c.args.number = first_of (search rules, grind (arith, common_steps)) in
    subst (λ k. k ≤ MAX_COST) (sym e) (c.self.invariant c.args.agent c.args.number)
