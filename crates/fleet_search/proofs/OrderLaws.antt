-- Orders in which each agent is once, and what is planned in them.
use Rattle.fleet_search.proofs.Words.{◌≡◌, ◌≢◌, ℕ, zero, suc, ◌+◌, ◌-◌, ◌<◌, ◌≤◌, Bool, false, List, [], ◌∷◌, ◌++◌, length, map, take, drop, get_or, All, Contains, IsPermutation, insert, remove, eqb, Some, inl, inr, refl, sym, ap, ◌∙◌, subst, arith, add-one, take-append-drop, append_assoc, zero-add, suc-add, take_at, ext_get_or, set, ◌⊎◌, get_or-set_same, get_or-set_other, slice_get, option_map, range_with_len, AllByRecursion, cases_eq, eqb-false, ne_eqb, slice_get-get_or, slice_get-map, get_or_from_slice_get, slice_get_within, get_or-map, length-map, length_push, get_or_push, get_or_append_left, length-range_with_len, get_or-range_with_len, length_permutation, All-permutation, Contains-permutation, IsPermutation-sym, IsPermutation-trans, IsPermutation-insert, IsDistinct-IsPermutation, apart_from_distinct, indices, Cell, Place, Task, Plan, IsPrioritisedPlan, HasNoPathFor, no_task, tasks_by, paths_by, to_front, IsMadeInOrder, IsStuckInOrder, IsOrderAfter, IsMadeInTries, IsStuckInTries}
use Rattle.std.specs.List.{IsDistinct}

-- ---- each agent once

get_or-indices : (n i d : ℕ) → i < n → get_or (indices n) i d ≡ i
get_or-indices n i d h =
    let e : get_or (indices n) i d ≡ 0 + i = get_or-range_with_len 0 n i d h in
    omega arith

pub order-length : (n : ℕ) (order : List ℕ) → IsPermutation (indices n) order → length order ≡ n
order-length n order p = length_permutation (indices n) order p ∙ length-range_with_len 0 n

pub agents_below : (n : ℕ) (order : List ℕ) → IsPermutation (indices n) order → (k d : ℕ) → k < length order → get_or order k d < n
agents_below n order p = All-permutation (λ a. a < n) (indices n) order p below
  where
    below : All (λ a. a < n) (indices n)
    below k d h =
        let few : k < n = omega (arith, length-range_with_len 0 n) in
        let e : get_or (indices n) k d ≡ 0 + k = get_or-range_with_len 0 n k d few in
        omega arith

-- the place of an agent in the order
pub place_of_agent : (n : ℕ) (order : List ℕ) → IsPermutation (indices n) order → (i : ℕ) → i < n → Contains order i
place_of_agent n order p i h = Contains-permutation (indices n) order i p
    (i, subst (λ z. i < z) (sym (length-range_with_len 0 n)) h, get_or-indices n i i h)

later_apart : (a b n : ℕ) → a < b → AllByRecursion (λ y. eqb a y ≡ false) (range_with_len b n)
later_apart a b zero h = tt
later_apart a b (suc n) h = (ne a b h, later_apart a (b + 1) n (omega arith))
  where
    ne : (a b : ℕ) → a < b → eqb a b ≡ false
    ne a b l = grind arith

range-distinct : (a n : ℕ) → IsDistinct eqb (range_with_len a n)
unfolding IsDistinct
range-distinct a zero = tt
range-distinct a (suc n) = (later_apart a (a + 1) n (omega arith), range-distinct (a + 1) n)

eqb-flips : (a b : ℕ) → eqb a b ≡ eqb b a
eqb-flips a b = elim (cases_eq a b) [
  | inl e ↦ subst (λ z. eqb a z ≡ eqb z a) e refl
  | inr ne ↦ ne_eqb a b ne ∙ sym (ne_eqb b a (λ e. ne (sym e)))
]

pub agents_apart : (n : ℕ) (order : List ℕ) → IsPermutation (indices n) order → (i k d : ℕ) → i < k → k < length order → get_or order i d ≢ get_or order k d
agents_apart n order p i k d l h =
    eqb-false _ _ (apart_from_distinct eqb order i k d (IsDistinct-IsPermutation eqb eqb-flips (indices n) order p (range-distinct 0 n)) l h)

-- ---- an agent comes first

inserted_again : {X : Type 0} (xs : List X) (i : ℕ) (d : X) → i < length xs → insert (remove xs i) i (get_or xs i d) ≡ xs
inserted_again [] i d h = absurd (omega arith)
inserted_again (x ∷ xs) zero d h = refl
inserted_again (x ∷ xs) (suc i) d h = ap (λ z. x ∷ z) (inserted_again xs i d (omega arith))

pub order_with_raised : (n : ℕ) (order : List ℕ) (place : ℕ) → IsPermutation (indices n) order → place < length order → IsPermutation (indices n) (to_front order place)
order_with_raised n order place p h =
    let back : IsPermutation (to_front order place) (insert (remove order place) place (get_or order place 0)) = IsPermutation-insert (remove order place) place (get_or order place 0) in
    IsPermutation-trans _ _ _ p (IsPermutation-sym _ _ (subst (IsPermutation (to_front order place)) (inserted_again order place 0 h) back))

order_with_raised-first : (order : List ℕ) → 0 < length order → to_front order 0 ≡ order
order_with_raised-first [] h = absurd (omega arith)
order_with_raised-first (a ∷ order) h = refl

-- ---- orders in turn

module _ (passable : Place → Bool) (tasks : List Task) (horizon : ℕ) where
  pub order_after-more : (n place : ℕ) (before order : List ℕ) → IsOrderAfter passable tasks horizon n before → IsStuckInOrder passable tasks horizon before place → order ≡ to_front before place → IsOrderAfter passable tasks horizon (n + 1) order
  unfolding IsOrderAfter
  order_after-more n place before order after stuck e = rw add-one (before, place, after, stuck, e)

  -- if the first agent has no path, the order comes again and again
  pub order_after-again : (n more : ℕ) (order : List ℕ) → 0 < length order → IsOrderAfter passable tasks horizon n order → IsStuckInOrder passable tasks horizon order 0 → IsOrderAfter passable tasks horizon (more + n) order
  unfolding IsOrderAfter
  order_after-again n zero order h after stuck = rw zero-add after
  order_after-again n (suc more) order h after stuck = rw suc-add
      (order, 0, order_after-again n more order h after stuck, stuck, sym (order_with_raised-first order h))

  pub order_after-none : IsOrderAfter passable tasks horizon 0 (indices (length tasks))
  unfolding IsOrderAfter
  order_after-none = refl

  pub order_after-none_is : (order : List ℕ) → IsOrderAfter passable tasks horizon 0 order → order ≡ indices (length tasks)
  unfolding IsOrderAfter
  order_after-none_is order after = after

-- ---- one order

pub get_or-by : {X : Type 0} (xs : List X) (d e : X) (order : List ℕ) (k : ℕ) → k < length order → get_or (map (λ a. get_or xs a d) order) k e ≡ get_or xs (get_or order k 0) d
get_or-by xs d e order k h = get_or-map (λ a. get_or xs a d) order k 0 e h

map-indices : {X : Type 0} (xs : List X) (d : X) → map (λ a. get_or xs a d) (indices (length xs)) ≡ xs
map-indices xs d = ext_get_or d _ xs (length-map (indices (length xs)) (λ a. get_or xs a d) ∙ length-range_with_len 0 (length xs)) same
  where
    same : (i : ℕ) → i < length (map (λ a. get_or xs a d) (indices (length xs))) → get_or (map (λ a. get_or xs a d) (indices (length xs))) i d ≡ get_or xs i d
    same i h =
        let few : i < length (indices (length xs)) = subst (λ z. i < z) (length-map (indices (length xs)) (λ a. get_or xs a d)) h in
        let few' : i < length xs = subst (λ z. i < z) (length-range_with_len 0 (length xs)) few in
        get_or-by xs d d (indices (length xs)) i few ∙ ap (λ z. get_or xs z d) (get_or-indices (length xs) i 0 few')

pub task_in_order : (tasks : List Task) (order : List ℕ) (place agent : ℕ) → slice_get order place ≡ Some agent → agent < length tasks → slice_get (tasks_by order tasks) place ≡ slice_get tasks agent
task_in_order tasks order place agent e h =
    slice_get-map (λ a. get_or tasks a no_task) order place ∙ ap (option_map (λ a. get_or tasks a no_task)) e ∙ sym (slice_get-get_or tasks agent no_task h)

module _ (passable : Place → Bool) (tasks : List Task) (horizon : ℕ) where
  pub one_try-made : (plan : Plan) → IsMadeInTries passable tasks horizon 1 plan → IsPrioritisedPlan passable tasks horizon (length tasks) plan
  one_try-made plan m =
      let none : m.failed ≡ 0 = (let f : m.failed ≤ 1 - 1 = m.few in omega arith) in
      let is : m.order ≡ indices (length tasks) = order_after-none_is passable tasks horizon m.order (subst (λ z. IsOrderAfter passable tasks horizon z m.order) none m.after) in
      let made : IsMadeInOrder passable tasks horizon (indices (length tasks)) plan = subst (λ z. IsMadeInOrder passable tasks horizon z plan) is m.made in
      let by_paths : paths_by (indices (length tasks)) plan ≡ plan = ap (λ z. paths_by (indices z) plan) (sym m.agents) ∙ map-indices plan [] in
      subst (IsPrioritisedPlan passable tasks horizon (length tasks)) by_paths
      (subst (λ z. IsPrioritisedPlan passable tasks horizon z (paths_by (indices (length tasks)) plan)) (length-range_with_len 0 (length tasks))
      (subst (λ z. IsPrioritisedPlan passable z horizon (length (indices (length tasks))) (paths_by (indices (length tasks)) plan)) (map-indices tasks no_task) made))

  pub one_try-stuck : (agent : ℕ) → IsStuckInTries passable tasks horizon 1 agent → HasNoPathFor passable tasks horizon agent
  one_try-stuck agent s =
      let is : s.order ≡ indices (length tasks) = order_after-none_is passable tasks horizon s.order s.after in
      let here : slice_get (indices (length tasks)) s.place ≡ Some agent = subst (λ z. slice_get z s.place ≡ Some agent) is s.here in
      let few : s.place < length tasks = subst (λ z. s.place < z) (length-range_with_len 0 (length tasks)) (slice_get_within (indices (length tasks)) s.place agent here) in
      let same : s.place ≡ agent = sym (get_or-indices (length tasks) s.place 0 few) ∙ get_or_from_slice_get (indices (length tasks)) s.place agent 0 here in
      let stuck : HasNoPathFor passable (tasks_by (indices (length tasks)) tasks) horizon s.place = subst (λ z. IsStuckInOrder passable tasks horizon z s.place) is s.stuck in
      subst (HasNoPathFor passable tasks horizon) same (subst (λ z. HasNoPathFor passable z horizon s.place) (map-indices tasks no_task) stuck)

-- the last of so many orders leaves the agent at the place without a path: there are no more, or the agent is first
-- already
pub stuck_in_tries : (passable : Place → Bool) (tasks : List Task) (horizon tries failed : ℕ) (order : List ℕ) (place agent : ℕ) → failed ≤ tries - 1 → IsPermutation (indices (length tasks)) order → IsOrderAfter passable tasks horizon failed order → IsStuckInOrder passable tasks horizon order place → place < length order → agent ≡ get_or order place 0 → (place ≡ 0) ⊎ (tries ≤ failed + 1) → IsStuckInTries passable tasks horizon tries agent
stuck_in_tries passable tasks horizon tries failed order place agent few each after stuck l is last = record {
  order = order;
  each_once = each;
  after = elim last [
    | inl first ↦
        let some : 0 < length order = omega arith in
        let again : IsOrderAfter passable tasks horizon ((tries - 1 - failed) + failed) order = order_after-again passable tasks horizon failed (tries - 1 - failed) order some after (subst (IsStuckInOrder passable tasks horizon order) first stuck) in
        let e : (tries - 1 - failed) + failed ≡ tries - 1 = omega arith in
        subst (λ z. IsOrderAfter passable tasks horizon z order) e again
    | inr none ↦
        let e : failed ≡ tries - 1 = omega arith in
        subst (λ z. IsOrderAfter passable tasks horizon z order) e after
  ];
  place = place;
  here = slice_get-get_or order place 0 l ∙ ap Some (sym is);
  stuck = stuck;
}

-- the place of an agent that is stuck is one of the order
pub stuck_within : (passable : Place → Bool) (tasks : List Task) (horizon : ℕ) (order : List ℕ) (place : ℕ) → IsStuckInOrder passable tasks horizon order place → place < length order
stuck_within passable tasks horizon order place s =
    subst (λ z. place < z) (length-map order (λ a. get_or tasks a no_task)) (slice_get_within (tasks_by order tasks) place s.task s.here)

-- ---- paths by the agents' numbers

pub last_left : (paths old rest : Plan) (path : List Cell) → old ≡ take (length old) paths → old ≡ rest ++ path ∷ [] → (rest ≡ take (length rest) paths) × (path ≡ get_or paths (length rest) [])
last_left paths old rest path front items =
    let whole : paths ≡ (rest ++ path ∷ []) ++ drop (length old) paths = sym (take-append-drop (length old) paths) ∙ ap (λ z. z ++ drop (length old) paths) (sym front ∙ items) in
    let whole' : paths ≡ rest ++ (path ∷ drop (length old) paths) = whole ∙ append_assoc rest (path ∷ []) (drop (length old) paths) in
    let inside : length rest < length (rest ++ path ∷ []) = omega (arith, length_push rest path) in (
      sym (ap (take (length rest)) whole' ∙ take_at rest (path ∷ drop (length old) paths) (length rest) refl),
      sym (ap (λ z. get_or z (length rest) []) whole ∙ get_or_append_left (rest ++ path ∷ []) (drop (length old) paths) [] (length rest) inside ∙ get_or_push rest path [] (length rest) refl),
    )

-- the paths of the order from this place on stand at their agents
abbrev pub ArePlaced : List ℕ → (paths plan : Plan) → ℕ → Type 0
ArePlaced order paths plan from = (k : ℕ) → from ≤ k → k < length order → get_or plan (get_or order k 0) [] ≡ get_or paths k []

pub placed-more : (n : ℕ) (order : List ℕ) → IsPermutation (indices n) order → (paths plan : Plan) (from agent : ℕ) (path : List Cell) → length plan ≡ n → from < length order → agent ≡ get_or order from 0 → path ≡ get_or paths from [] → ArePlaced order paths plan (from + 1) → ArePlaced order paths (set plan agent path) from
placed-more n order p paths plan from agent path long l is e done k a b = elim (cases_eq k from) [
  | inl same ↦
      let here : get_or order k 0 ≡ agent = ap (λ z. get_or order z 0) same ∙ sym is in
      let below : get_or order from 0 < n = agents_below n order p from 0 l in
      let in_plan : agent < length plan = omega arith in
      ap (λ z. get_or (set plan agent path) z []) here ∙ get_or-set_same plan agent path [] in_plan ∙ e ∙ ap (λ z. get_or paths z []) (sym same)
  | inr ne ↦
      let later : from < k = omega arith in
      let apart : get_or order from 0 ≢ get_or order k 0 = agents_apart n order p from k 0 later b in
      get_or-set_other plan agent (get_or order k 0) path [] (λ s. apart (sym is ∙ sym s)) ∙ done k (omega arith) b
]

pub all_placed : (order : List ℕ) (paths plan : Plan) → length paths ≡ length order → ArePlaced order paths plan 0 → paths_by order plan ≡ paths
all_placed order paths plan long done = ext_get_or [] (paths_by order plan) paths (length-map order (λ a. get_or plan a []) ∙ sym long) same
  where
    same : (i : ℕ) → i < length (paths_by order plan) → get_or (paths_by order plan) i [] ≡ get_or paths i []
    same i h =
        let l : i < length order = subst (λ z. i < z) (length-map order (λ a. get_or plan a [])) h in
        get_or-by plan [] [] order i l ∙ done i (omega arith) l
