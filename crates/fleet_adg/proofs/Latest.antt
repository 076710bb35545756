-- What is awaited, said by visits: under `Last` the leaving of the latest visit, under `All` the last leaving by each
-- other agent.
use Rattle.fleet_adg.proofs.Words.{◌≡◌, ◌≢◌, ℕ, suc, ◌+◌, ◌<◌, Bool, true, cond, not, ◌==◌, List, [], ◌∷◌, filter, filter_map, length, Contains, Some, option_map, option_and_then, option_to_list, is_some, inl, inr, refl, sym, ap, ◌∙◌, subst, arith, add-one, cases_lt, both_ways, false_from_ne_true, eq-eqb, ne_eqb, eqb-false, not-true, not_from_false, All-from_recursion, All-filter, filter_passes, All-contains, Cell, Place, Await, Deps, indices, Task, Plan, cell_of, IsConflictFree, last_below, changes_in, moves_by, leaves, await_of, leaver, last_leaving_by, last_leaving, leavings, entry_awaits, IsLatestVisit, IsLastLeaving, filter_has}
use Rattle.fleet_adg.proofs.Basics.{last_cases, last_below-some, last_below-at}
use Rattle.fleet_adg.proofs.Moves.{changes_in-ne, changes_in-from_ne, only_one}
use Rattle.fleet_adg.proofs.Entry.{contains_filter_map, all_filter_map, option_map-some, leaves-from, leaver-at, leaver-some, some-from, last_leaving-at}

module _ (passable : Place → Bool) (tasks : List Task) (plan : Plan) (free : IsConflictFree passable tasks plan) where
  -- who stood last on the cell that i enters has left it
  left_it : (i x s j : ℕ) → i < length plan → changes_in plan i x ≡ true → IsLatestVisit plan (cell_of plan i (x + 1)) (x + 1) j s → changes_in plan j s ≡ true
  left_it i x s j bi c v = changes_in-from_ne plan j s (λ e. elim (cases_lt s x) [
    | inl m ↦ v.since (suc s) j (omega arith) (omega arith) v.agent (sym e ∙ v.on)
    | inr m ↦
        let z : s ≡ x = omega (arith, v.before) in
        let t : suc s ≡ x + 1 = omega arith in
        let same : j ≡ i = only_one passable tasks plan free (x + 1) j i v.agent bi (ap (cell_of plan j) (sym t) ∙ sym e ∙ v.on) in
        changes_in-ne plan i x c (ap (cell_of plan i) (sym z) ∙ ap (λ k. cell_of plan k s) (sym same) ∙ v.on ∙ ap (cell_of plan i) (add-one x))
  ])

  last_leaving-visit : (i x s j : ℕ) → i < length plan → changes_in plan i x ≡ true → IsLatestVisit plan (cell_of plan i (x + 1)) (x + 1) j s → last_leaving plan (cell_of plan i (x + 1)) (x + 1) ≡ Some (await_of plan s j)
  last_leaving-visit i x s j bi c v =
      let q = cell_of plan i (x + 1) in
      last_leaving-at plan q (x + 1) s j v.before (leaver-at plan q s j (λ k b e. only_one passable tasks plan free s k j b v.agent (e ∙ sym v.on)) v.agent (leaves-from plan q s j v.on (left_it i x s j bi c v))) v.since

  pub entry-last : (i x s j : ℕ) → i < length plan → changes_in plan i x ≡ true → IsLatestVisit plan (cell_of plan i (x + 1)) (x + 1) j s → j ≢ i → entry_awaits plan Deps.Last i x ≡ await_of plan s j ∷ []
  unfolding entry_awaits leavings await_of
  entry-last i x s j bi c v ne = ap (λ o. filter (λ w. not (w.agent == i)) (option_to_list o)) (last_leaving-visit i x s j bi c v) ∙ ap (λ b. cond b (await_of plan s j ∷ []) []) (not_from_false (j == i) (ne_eqb j i ne))

  pub entry-own : (i x s : ℕ) → i < length plan → changes_in plan i x ≡ true → IsLatestVisit plan (cell_of plan i (x + 1)) (x + 1) i s → entry_awaits plan Deps.Last i x ≡ []
  unfolding entry_awaits leavings await_of
  entry-own i x s bi c v = ap (λ o. filter (λ w. not (w.agent == i)) (option_to_list o)) (last_leaving-visit i x s i bi c v) ∙ ap (λ b. cond (not b) (await_of plan s i ∷ []) []) (eq-eqb i i refl)

pub entry-none : (plan : Plan) (i x : ℕ) → ((u k : ℕ) → u < x + 1 → k < length plan → cell_of plan k u ≢ cell_of plan i (x + 1)) → entry_awaits plan Deps.Last i x ≡ []
unfolding entry_awaits leavings last_leaving
entry-none plan i x nobody =
    let q = cell_of plan i (x + 1) in
    elim (last_cases (λ y. is_some (leaver plan q y)) (x + 1)) [
      | inl w ↦
          let v = some-from (leaver plan q w.0) w.2.passes in
          let at = leaver-some plan q w.0 v.0 v.1 in
          absurd (nobody w.0 v.0 w.2.below at.0 at.1)
      | inr w ↦ ap (λ o. filter (λ w. not (w.agent == i)) (option_to_list (option_and_then (λ y. option_map (await_of plan y) (leaver plan q y)) o))) w.0
    ]

last_by-is : (plan : Plan) (q : Cell) (t j : ℕ) (w : Await) → j < length plan → last_leaving_by plan q t j ≡ Some w → IsLastLeaving plan q t w
unfolding last_leaving_by await_of
last_by-is plan q t j w b e =
    let s = option_map-some (λ y. await_of plan y j) (last_below (λ y. leaves plan q y j) t) w e in
    let l = last_below-some (λ y. leaves plan q y j) t s.0 s.1 in
    subst (IsLastLeaving plan q t) s.2 (record { agent = b; step = s.0; before = l.below; left = l.passes; last = λ y p r. false_from_ne_true (leaves plan q y j) (l.last y p r); count = refl })

last_by-from : (plan : Plan) (q : Cell) (t : ℕ) (w : Await) → IsLastLeaving plan q t w → last_leaving_by plan q t w.agent ≡ Some w
unfolding last_leaving_by await_of
last_by-from plan q t w h =
    let m = last_below-at (λ y. leaves plan q y w.agent) t h.step h.before h.left in
    let same : m.0 ≡ h.step = elim (cases_lt h.step m.0) [ inl l ↦ absurd (both_ways (leaves plan q m.0 w.agent) (h.last m.0 l m.3.below) m.3.passes) | inr l ↦ omega (arith, m.2) ] in
    let made : record { agent = w.agent; count = moves_by plan w.agent (h.step + 1) } ≡ w = (λ i. record { agent = w.agent; count = sym h.count i }) in
    ap (option_map (λ y. await_of plan y w.agent)) (m.1 ∙ ap Some same) ∙ ap Some made

pub entry-all_only : (plan : Plan) (i x : ℕ) (w : Await) → Contains (entry_awaits plan Deps.All i x) w → (w.agent ≢ i) × IsLastLeaving plan (cell_of plan i (x + 1)) (x + 1) w
unfolding entry_awaits leavings
entry-all_only plan i x w c =
    let q = cell_of plan i (x + 1) in
    let h = last_leaving_by plan q (x + 1) in
    let test = λ (w : Await). not (w.agent == i) in
    let ws = filter_map h (indices (length plan)) in
    let each = All-from_recursion (IsLastLeaving plan q (x + 1)) ws (all_filter_map (IsLastLeaving plan q (x + 1)) h 0 (length plan) (λ j w l e. last_by-is plan q (x + 1) j w (omega arith) e)) in
    (eqb-false w.agent i (not-true (w.agent == i) (All-contains (λ w. test w ≡ true) (filter test ws) w (filter_passes test ws) c)), All-contains (IsLastLeaving plan q (x + 1)) (filter test ws) w (All-filter test (IsLastLeaving plan q (x + 1)) ws each) c)

pub entry-all_each : (plan : Plan) (i x : ℕ) (w : Await) → w.agent ≢ i → IsLastLeaving plan (cell_of plan i (x + 1)) (x + 1) w → Contains (entry_awaits plan Deps.All i x) w
unfolding entry_awaits leavings
entry-all_each plan i x w ne h =
    let q = cell_of plan i (x + 1) in
    filter_has (λ w. not (w.agent == i)) (filter_map (last_leaving_by plan q (x + 1)) (indices (length plan))) w (contains_filter_map (last_leaving_by plan q (x + 1)) 0 (length plan) w.agent w (omega arith) (omega (arith, h.agent)) (last_by-from plan q (x + 1) w h)) (not_from_false (w.agent == i) (ne_eqb w.agent i ne))
