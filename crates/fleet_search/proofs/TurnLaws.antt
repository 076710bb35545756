-- Turns of orders, one after another.
use Rattle.fleet_search.proofs.Words.{◌≡◌, ℕ, ◌+◌, ◌-◌, ◌<◌, ◌≤◌, max, List, [], length, drop, get_or, IsPermutation, ◌⊎◌, refl, sym, ap, ◌∙◌, subst, arith, length-range_with_len, IsPermutation-refl, indices, is_passable, Plan, IsPrioritisedPlan, tasks_by, to_front, IsMadeInOrder, IsOrderAfter, IsStuckInOrder, IsMadeInTry, IsStuckInTries, IsOrderOf, IsMadeBefore, IsTurnOf, Problem}
use Rattle.fleet_search.proofs.OrderLaws.{order-length, order_with_raised, order_after-none, stuck_in_tries, stuck_within}
use Rattle.fleet_search.proofs.KeptPaths.{none_made, made_after_raise}

-- the first turn
pub first_turn : (problem : Problem) (order : List ℕ) (kept : Plan) (n : ℕ) → order ≡ indices n → n ≡ length problem.instance.now → 1 ≤ n → kept ≡ [] → IsTurnOf problem order kept
first_turn problem order kept n is all some none =
    let each : order ≡ indices (length problem.instance.now) = is ∙ ap indices all in
    let long : length order ≡ n = ap length is ∙ length-range_with_len 0 n in
    let short : length kept ≡ 0 = ap length none in
    record {
      each_once = subst (IsPermutation (indices (length problem.instance.now))) (sym each) (IsPermutation-refl (indices (length problem.instance.now)));
      made = subst (λ z. IsPrioritisedPlan (is_passable problem.grid.now) (drop 1 (tasks_by order problem.instance.now)) problem.horizon (length z) z) (sym none)
          (none_made (is_passable problem.grid.now) (drop 1 (tasks_by order problem.instance.now)) problem.horizon);
      fewer = omega arith;
    }

pub first_after_none : (problem : Problem) (order : List ℕ) → order ≡ indices (length problem.instance.now) → IsOrderAfter (is_passable problem.grid.now) problem.instance.now problem.horizon 0 order
first_after_none problem order first =
    subst (IsOrderAfter (is_passable problem.grid.now) problem.instance.now problem.horizon 0) (sym first) (order_after-none (is_passable problem.grid.now) problem.instance.now problem.horizon)

-- an agent comes first
pub turn_next : (problem : Problem) (order next : List ℕ) (kept : Plan) (place : ℕ) → IsOrderOf problem order → place < length order → next ≡ to_front order place → IsMadeBefore problem order place kept → IsTurnOf problem next kept
turn_next problem order next kept place each within is made =
    let long = made.agents in
    let few : length kept < length order = omega arith in
    let raised : IsPermutation (indices (length problem.instance.now)) next = subst (IsPermutation (indices (length problem.instance.now))) (sym is) (order_with_raised (length problem.instance.now) order place each within) in
    let at : next ≡ to_front order (length kept) = is ∙ ap (to_front order) (sym long) in
    let before = order-length (length problem.instance.now) order each in
    let after = order-length (length problem.instance.now) next raised in
    record {
      each_once = raised;
      made = subst (λ z. IsPrioritisedPlan (is_passable problem.grid.now) (drop 1 (tasks_by z problem.instance.now)) problem.horizon (length kept) kept) (sym at)
          (made_after_raise (is_passable problem.grid.now) problem.instance.now problem.horizon order kept few (rw long made));
      fewer = omega (arith, before, after, few);
    }

-- the plan of an order that comes after so many failed ones
pub made_in_try : (problem : Problem) (order : List ℕ) (plan : Plan) (tries failed : ℕ) → IsOrderOf problem order → failed < max tries 1 → IsOrderAfter (is_passable problem.grid.now) problem.instance.now problem.horizon failed order → length plan ≡ length problem.instance.now → IsMadeInOrder (is_passable problem.grid.now) problem.instance.now problem.horizon order plan → IsMadeInTry (is_passable problem.grid.now) problem.instance.now problem.horizon tries (failed + 1) plan
made_in_try problem order plan tries failed each more after agents made = record {
  made = record { agents = agents; order = order; each_once = each; failed = failed; few = omega arith; after = after; made = made };
  last = refl;
}

-- no order comes after this one, which leaves the agent without a path that would come first in the next
pub stuck_in_turn : (problem : Problem) (order next : List ℕ) (tries failed place agent : ℕ) → IsOrderOf problem order → failed ≤ tries - 1 → IsOrderAfter (is_passable problem.grid.now) problem.instance.now problem.horizon failed order → IsStuckInOrder (is_passable problem.grid.now) problem.instance.now problem.horizon order place → next ≡ to_front order place → agent ≡ get_or next 0 0 → (place ≡ 0) ⊎ (tries ≤ failed + 1) → IsStuckInTries (is_passable problem.grid.now) problem.instance.now problem.horizon tries agent
stuck_in_turn problem order next tries failed place agent each few after stuck is first last =
    let passable = is_passable problem.grid.now in
    let tasks = problem.instance.now in
    let inside = stuck_within passable tasks problem.horizon order place stuck in
    stuck_in_tries passable tasks problem.horizon tries failed order place agent few each after stuck inside (first ∙ ap (λ z. get_or z 0 0) is) last
