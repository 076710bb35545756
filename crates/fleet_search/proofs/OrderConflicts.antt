-- What is free of conflict in one order of the agents is so in each.
use Rattle.fleet_search.proofs.Words.{◌≡◌, ◌≢◌, ◌==◌, ℕ, suc, ◌+◌, ◌-◌, ◌<◌, ◌≤◌, Bool, false, IsTrue, List, [], ◌∷◌, length, map, get_or, All, IsPermutation, Some, ◌⊎◌, inl, inr, sym, ap, ◌∙◌, subst, arith, slice_get, AllByRecursion, cases_lt, eqb-false, ne_eqb, slice_get-get_or, slice_get_within, get_or-map, get_or_default, get_or_past, length-map, indices, Place, place_of, Task, Motion, HasVertexConflict, HasSwappingConflict, HasCycleConflict, after_in, Plan, cell_at, cell_of, last_cell, motion_of, AreNeighbours, IsConflictFree, no_task, tasks_by, paths_by, IsMadeInOrder, IsPrioritisedPlan}
use Rattle.std.specs.List.{IsDistinct}
use Rattle.fleet_search.proofs.InTurnLaws.{in_turn_free}
use Rattle.fleet_search.proofs.OrderLaws.{order-length, place_of_agent, task_in_order, get_or-by}

-- ---- agents by other numbers

module _ (p q : Motion) (n : ℕ) (f : ℕ → ℕ) (apart : (i j : ℕ) → i < n → j < n → i ≢ j → f i ≢ f j) (same : (x i : ℕ) → i < n → p x i ≡ q x (f i)) where
  vertex-by : (x i j : ℕ) → i < n → j < n → HasVertexConflict p x i j → HasVertexConflict q x (f i) (f j)
  vertex-by x i j a b w = record { apart = apart i j a b w.apart; same = sym (same x i a) ∙ w.same ∙ same x j b }

  swapping-by : (x i j : ℕ) → i < n → j < n → HasSwappingConflict p x i j → HasSwappingConflict q x (f i) (f j)
  swapping-by x i j a b w = record {
    apart = apart i j a b w.apart;
    there = sym (same (x + 1) i a) ∙ w.there ∙ same x j b;
    back = sym (same (x + 1) j b) ∙ w.back ∙ same x i a;
    changed = λ e. w.changed (same x i a ∙ e ∙ sym (same x j b));
  }

  head-apart : (a : ℕ) (ring : List ℕ) → a < n → ((k e : ℕ) → k < length ring → get_or ring k e < n) → AllByRecursion (λ y. (a == y) ≡ false) ring → AllByRecursion (λ y. (f a == y) ≡ false) (map f ring)
  head-apart a [] h inside d = tt
  head-apart a (b ∷ ring) h inside d =
      (ne_eqb (f a) (f b) (apart a b h (inside 0 0 (omega arith)) (eqb-false a b d.0)), head-apart a ring h (λ k e l. inside (suc k) e (omega arith)) d.1)

  distinct-by : (ring : List ℕ) → ((k e : ℕ) → k < length ring → get_or ring k e < n) → IsDistinct ◌==◌ ring → IsDistinct ◌==◌ (map f ring)
  unfolding IsDistinct
  distinct-by [] inside d = tt
  distinct-by (a ∷ ring) inside d =
      (head-apart a ring (inside 0 0 (omega arith)) (λ k e l. inside (suc k) e (omega arith)) d.0, distinct-by ring (λ k e l. inside (suc k) e (omega arith)) d.1)

  module _ (ring : List ℕ) (inside : (k e : ℕ) → k < length ring → get_or ring k e < n) where
    at : (k : ℕ) → k < length ring → get_or (map f ring) k 0 ≡ f (get_or ring k 0)
    at k h = get_or-map f ring k 0 0 h

    after : (k : ℕ) → 0 < length ring → after_in (map f ring) k ≡ f (after_in ring k)
    after k some = elim (cases_lt (k + 1) (length ring)) [
      | inl h ↦ get_or-map f ring (k + 1) (get_or ring 0 0) (get_or (map f ring) 0 0) h
      | inr h ↦
          let long : length (map f ring) ≤ k + 1 = subst (λ z. z ≤ k + 1) (sym (length-map ring f)) h in
          get_or_past (map f ring) (k + 1) (get_or (map f ring) 0 0) long ∙ at 0 some ∙ ap f (sym (get_or_past ring (k + 1) (get_or ring 0 0) h))
    ]

    after-inside : (k : ℕ) → 0 < length ring → after_in ring k < n
    after-inside k some = elim (cases_lt (k + 1) (length ring)) [
      | inl h ↦ inside (k + 1) (get_or ring 0 0) h
      | inr h ↦ subst (λ z. z < n) (sym (get_or_past ring (k + 1) (get_or ring 0 0) h)) (inside 0 0 some)
    ]

    cycle-by : (x : ℕ) → HasCycleConflict p x ring → HasCycleConflict q x (map f ring)
    cycle-by x w =
        let some : 0 < length ring = (let t = w.three in omega arith) in
        record {
          three = subst (λ z. 3 ≤ z) (sym (length-map ring f)) w.three;
          distinct = distinct-by ring inside w.distinct;
          next = λ k h.
              let l : k < length ring = subst (λ z. k < z) (length-map ring f) h in
              ap (q (x + 1)) (at k l) ∙ sym (same (x + 1) (get_or ring k 0) (inside k 0 l)) ∙ w.next k l ∙ same x (after_in ring k) (after-inside k some) ∙ ap (q x) (sym (after k some));
          moves = λ k h e.
              let l : k < length ring = subst (λ z. k < z) (length-map ring f) h in
              w.moves k l (same (x + 1) (get_or ring k 0) (inside k 0 l) ∙ ap (q (x + 1)) (sym (at k l)) ∙ e ∙ ap (q x) (at k l) ∙ sym (same x (get_or ring k 0) (inside k 0 l)));
        }

-- ---- the order in which a plan is made

module _ (passable : Place → Bool) (tasks : List Task) (plan : Plan) (order : List ℕ) (each : IsPermutation (indices (length tasks)) order) (agents : length plan ≡ length tasks) where
  place_by : (i : ℕ) → (i < length tasks) ⊎ (length tasks ≤ i) → ℕ
  place_by i (inl h) = (place_of_agent (length tasks) order each i h).0
  place_by i (inr h) = 0

  place : ℕ → ℕ
  place i = place_by i (cases_lt i (length tasks))

  place_by-below : (i : ℕ) (c : (i < length tasks) ⊎ (length tasks ≤ i)) → i < length tasks → place_by i c < length order
  unfolding place_by
  place_by-below i (inl h) l = (place_of_agent (length tasks) order each i h).1
  place_by-below i (inr h) l = absurd (omega arith)

  place_by-is : (i : ℕ) (c : (i < length tasks) ⊎ (length tasks ≤ i)) → i < length tasks → get_or order (place_by i c) 0 ≡ i
  unfolding place_by
  place_by-is i (inl h) l =
      let w = place_of_agent (length tasks) order each i h in
      get_or_default order w.0 0 i w.1 ∙ w.2
  place_by-is i (inr h) l = absurd (omega arith)

  place-below : (i : ℕ) → i < length tasks → place i < length order
  unfolding place
  place-below i h = place_by-below i (cases_lt i (length tasks)) h

  place-is : (i : ℕ) → i < length tasks → get_or order (place i) 0 ≡ i
  unfolding place
  place-is i h = place_by-is i (cases_lt i (length tasks)) h

  places_apart : (i j : ℕ) → i < length tasks → j < length tasks → i ≢ j → place i ≢ place j
  places_apart i j a b ne e = ne (sym (place-is i a) ∙ ap (λ z. get_or order z 0) e ∙ place-is j b)

  same_path : (i : ℕ) → i < length tasks → get_or (paths_by order plan) (place i) [] ≡ get_or plan i []
  same_path i h = get_or-by plan [] [] order (place i) (place-below i h) ∙ ap (λ z. get_or plan z []) (place-is i h)

  same_cell : (x i : ℕ) → i < length tasks → motion_of plan x i ≡ motion_of (paths_by order plan) x (place i)
  unfolding cell_of
  same_cell x i h = ap (λ p. place_of (cell_at p x)) (sym (same_path i h))

  same_task : (i : ℕ) (t : Task) → slice_get tasks i ≡ Some t → slice_get (tasks_by order tasks) (place i) ≡ Some t
  same_task i t e =
      let l : i < length tasks = slice_get_within tasks i t e in
      let at : slice_get order (place i) ≡ Some i = slice_get-get_or order (place i) 0 (place-below i l) ∙ ap Some (place-is i l) in
      task_in_order tasks order (place i) i at l ∙ e

  long : length (paths_by order plan) ≡ length tasks
  long = length-map order (λ a. get_or plan a []) ∙ order-length (length tasks) order each

  there : (i : ℕ) → i < length plan → place i < length (paths_by order plan)
  there i h = subst (λ z. place i < z) (sym (length-map order (λ a. get_or plan a []))) (place-below i (subst (λ z. i < z) agents h))

  here : (i : ℕ) → i < length plan → i < length tasks
  here i h = subst (λ z. i < z) agents h

  rings : (ring : List ℕ) → All (λ i. i < length plan) ring → All (λ i. i < length (paths_by order plan)) (map place ring)
  rings ring inside k d h =
      let l : k < length ring = subst (λ z. k < z) (length-map ring place) h in
      subst (λ z. z < length (paths_by order plan)) (sym (get_or-map place ring k 0 d l)) (there (get_or ring k 0) (inside k 0 l))

  pub free_by : IsConflictFree passable (tasks_by order tasks) (paths_by order plan) → IsConflictFree passable tasks plan
  unfolding cell_of last_cell
  free_by free = record {
    agents = agents;
    ends = λ i t e.
        let l : i < length tasks = slice_get_within tasks i t e in
        subst (λ p. (cell_at p 0 ≡ t.start) × (cell_at p (length p - 1) ≡ t.goal)) (same_path i l) (free.ends (place i) t (same_task i t e));
    on_ground = λ i x h. subst (λ p. IsTrue (passable (place_of (cell_at p x)))) (same_path i (here i h)) (free.on_ground (place i) x (there i h));
    successive = λ i x h. subst (λ p. (cell_at p x ≡ cell_at p (x + 1)) ⊎ AreNeighbours (cell_at p x) (cell_at p (x + 1))) (same_path i (here i h)) (free.successive (place i) x (there i h));
    vertex = λ x i j a b w. free.vertex x (place i) (place j) (there i a) (there j b) (vertex-by (motion_of plan) (motion_of (paths_by order plan)) (length tasks) place places_apart same_cell x i j (here i a) (here j b) w);
    swapping = λ x i j a b w. free.swapping x (place i) (place j) (there i a) (there j b) (swapping-by (motion_of plan) (motion_of (paths_by order plan)) (length tasks) place places_apart same_cell x i j (here i a) (here j b) w);
    cycle = λ x ring inside w. free.cycle x (map place ring) (rings ring inside)
        (cycle-by (motion_of plan) (motion_of (paths_by order plan)) (length tasks) place places_apart same_cell ring (λ k e h. here (get_or ring k e) (inside k e h)) x w);
  }

pub in_order_free : (passable : Place → Bool) (tasks : List Task) (horizon : ℕ) (order : List ℕ) (plan : Plan) → IsPermutation (indices (length tasks)) order → length plan ≡ length tasks → IsMadeInOrder passable tasks horizon order plan → IsConflictFree passable tasks plan
in_order_free passable tasks horizon order plan each agents m =
    let made : IsPrioritisedPlan passable (tasks_by order tasks) horizon (length (tasks_by order tasks)) (paths_by order plan) =
    subst (λ z. IsPrioritisedPlan passable (tasks_by order tasks) horizon z (paths_by order plan)) (sym (length-map order (λ a. get_or tasks a no_task))) m in
    free_by passable tasks plan order each agents (in_turn_free passable (tasks_by order tasks) horizon (paths_by order plan) made)
