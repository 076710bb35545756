use Rattle.fleet_search.proofs.Words.{ap, subst, arith, IsGround, DistanceTable, manhattan}
use Rattle.fleet_search.proofs.Spread.{manhattan-few}
use Rattle.fleet_search.proofs.distances.Distances.least_moves.Goals as goal

pub returns-clause-limit : goal.returns-clause-limit
returns-clause-limit c =
    let s = c.args.self.now in
    let map = subst (λ (t : DistanceTable). IsGround t.grid) c.self.view_is c.self.invariant.map in
    let near = manhattan-few s.grid c.args.cell s.goal map c.requires.cell c.requires.goal in
    let goal = ap (λ (t : DistanceTable). manhattan c.args.cell t.goal) c.self.view_is in
    let f_bound = ap (λ (t : DistanceTable). t.f_bound) c.self.view_is in
    omega (arith, near, goal, f_bound, c.requires.few, c.manhattan-2.ensures.value)
