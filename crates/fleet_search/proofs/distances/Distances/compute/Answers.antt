use Rattle.fleet_search.proofs.Words.{◌≡◌, ◌≤◌, ◌⊎◌, [], inl, inr, ap, ◌∙◌, subst, arith, DistanceTable, IsReady, AreDistances}
use Rattle.fleet_search.proofs.Spread.{distances-of}
use Rattle.fleet_search.proofs.distances.Distances.compute.Goals as goal

pub returns-clause-distances : goal.returns-clause-distances
returns-clause-distances c =
    let e = c.in_ok-expand_layers.ensures.search in
    let t = c.expand_layers.new.self in
    let f_bound = c.bound.new.self.f_bound in
    let low : (f_bound ≤ t.f_bound) ⊎ ((t.layer ≡ []) × (t.next ≡ [])) = elim c.bound.ensures.low [ inl l ↦ inr (l, e.next) | inr l ↦ inl l ] in
    let few = c.bound.ensures.few in
    let d : DistanceTable = record t { f_bound = f_bound; layer = []; next = [] } in
    let same : c.forget_lists.new.self ≡ d = c.forget_lists.ensures ∙ ap (λ (b : DistanceTable). record b { layer = []; next = [] }) c.bound.ensures.same in
    let ready = subst (λ (t : DistanceTable). IsReady t.grid t.labels t.search) (c.self.view_is ∙ same) c.self.invariant in
    let distances = distances-of d t.f_bound t.layer t.next ready e.spread low (omega arith) in
    let grid = c.expand_layers.ensures.grid ∙ c.begin.ensures.grid in
    let goal = e.goal ∙ c.in_ok-begin.ensures.search.goal in
    rw same (subst (λ g. AreDistances g d c.args.goal) grid (subst (AreDistances t.grid d) goal distances))
