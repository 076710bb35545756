-- The agents that follow each other in one step of a plan without swapping and cycle conflict: how many are ahead of
-- one.
use Rattle.fleet_adg.proofs.Words.{◌≡◌, ◌≢◌, ℕ, zero, suc, ◌+◌, ◌<◌, ◌≤◌, Bool, true, cond, List, map, length, get_or, Option, Some, None, ◌⊎◌, inl, inr, sym, ap, ◌∙◌, subst, arith, add-one, ◌==◌, range_with_len, cases_lt, cases_Bool, ne_eqb, none-some, get_or_past, length-map-range_with_len, get_or-map-range_with_len, Place, is_same_cell, place_of, Task, Plan, cell_of, motion_of, IsConflictFree, last_below, changes_in, is_same_cell-true, is_same_cell-eq, place_of-injective}
use Rattle.std.proofs.lemmas.Map.Keys.{IsDistinct-from_apart}
use Rattle.fleet_model.specs.Conflict.{after_in, HasCycleConflict}
use Rattle.fleet_adg.proofs.Basics.{last_below-some, last_below-at}
use Rattle.fleet_adg.proofs.Moves.{changes_in-ne}
use Rattle.fleet_adg.proofs.Depth.{depth, IsLoop, depth-lt, depth_next}

-- the agent that stood on the cell that i enters in step x
pub ahead : Plan → ℕ → ℕ → Option ℕ
ahead plan x i = cond (changes_in plan i x) (last_below (λ j. is_same_cell (cell_of plan j x) (cell_of plan i (suc x))) (length plan)) None

-- what it is
pub record StandsAhead (plan : Plan) (x i j : ℕ) : Type 0 where
  pub changes : changes_in plan i x ≡ true
  pub below : j < length plan
  pub there : cell_of plan i (suc x) ≡ cell_of plan j x

pub ahead-some : (plan : Plan) (x i j : ℕ) → ahead plan x i ≡ Some j → StandsAhead plan x i j
unfolding ahead
ahead-some plan x i j e =
    let test = λ (j : ℕ). is_same_cell (cell_of plan j x) (cell_of plan i (suc x)) in
    elim (cases_Bool (changes_in plan i x)) [
      | inl c ↦
          let f : last_below test (length plan) ≡ Some j = sym (ap (λ b. cond b (last_below test (length plan)) None) c) ∙ e in
          let l = last_below-some test (length plan) j f in
          record { changes = c; below = l.below; there = sym (is_same_cell-true (cell_of plan j x) (cell_of plan i (suc x)) l.passes) }
      | inr c ↦ absurd (none-some j (sym (ap (λ b. cond b (last_below test (length plan)) None) c) ∙ e))
    ]

-- the agents of a ring are agents
ring_inside : (n m : ℕ) (w : ℕ → ℕ) → ((k : ℕ) → k < m → w (suc k) < n) → w m ≡ w 0 → (k : ℕ) → k < m → w k < n
ring_inside n zero w below back zero h = absurd (omega arith)
ring_inside n (suc m) w below back zero h = subst (λ z. z < n) back (below m (omega arith))
ring_inside n m w below back (suc k) h = below k (omega arith)

-- three or more in a ring are a cycle conflict
cycle_from : (plan : Plan) (x m : ℕ) (w : ℕ → ℕ) → 3 ≤ m → ((k : ℕ) → k < m → cell_of plan (w k) (suc x) ≡ cell_of plan (w (suc k)) x) → ((k : ℕ) → k < m → cell_of plan (w k) x ≢ cell_of plan (w k) (suc x)) → w m ≡ w 0 → ((a b : ℕ) → a < b → b < m → w a ≢ w b) → HasCycleConflict (motion_of plan) x (map w (range_with_len 0 m))
cycle_from plan x m w three there moves back apart =
    let ring = map w (range_with_len 0 m) in
    let long : length ring ≡ m = length-map-range_with_len w 0 m in
    let at = λ (k d : ℕ) (h : k < m). get_or-map-range_with_len w 0 m k k d h (omega arith) in
    record {
      three = omega (arith, long);
      distinct = IsDistinct-from_apart ◌==◌ ring (λ a b d l h. ne_eqb (get_or ring a d) (get_or ring b d) (λ e. apart a b l (omega (arith, long)) (sym (at a d (omega (arith, long))) ∙ e ∙ at b d (omega (arith, long)))));
      next = λ k h.
          let l : k < m = omega (arith, long) in
          let after : after_in ring k ≡ w (suc k) = after_is k l in
          rw add-one (ap (λ z. place_of (cell_of plan z (suc x))) (at k 0 l) ∙ ap place_of (there k l) ∙ ap (λ z. place_of (cell_of plan z x)) (sym after));
      moves = λ k h e.
          let l : k < m = omega (arith, long) in
          let same : cell_of plan (get_or ring k 0) (x + 1) ≡ cell_of plan (get_or ring k 0) x = place_of-injective (cell_of plan (get_or ring k 0) (x + 1)) (cell_of plan (get_or ring k 0) x) e in
          moves k l (sym (ap (λ z. cell_of plan z x) (at k 0 l)) ∙ sym (rw add-one at same) ∙ ap (λ z. cell_of plan z (suc x)) (at k 0 l));
    }
  where
    after_is : (k : ℕ) → k < m → after_in (map w (range_with_len 0 m)) k ≡ w (suc k)
    after_is k l = elim (cases_lt (suc k) m) [
      | inl h ↦ rw add-one (get_or-map-range_with_len w 0 m (suc k) (suc k) (get_or (map w (range_with_len 0 m)) 0 0) h (omega arith))
      | inr h ↦
          let e : suc k ≡ m = omega arith in
          rw add-one (get_or_past (map w (range_with_len 0 m)) (suc k) (get_or (map w (range_with_len 0 m)) 0 0) (omega (arith, length-map-range_with_len w 0 m)) ∙ get_or-map-range_with_len w 0 m 0 0 0 (omega arith) (omega arith) ∙ sym back ∙ ap w (sym e))
    ]

module _ (passable : Place → Bool) (tasks : List Task) (plan : Plan) (free : IsConflictFree passable tasks plan) where
  -- one agent on a cell
  pub only_one : (x i j : ℕ) → i < length plan → j < length plan → cell_of plan i x ≡ cell_of plan j x → i ≡ j
  only_one x i j p q e = elim (cases_eq i j) [ inl h ↦ h | inr h ↦ absurd (free.vertex x i j p q (record { apart = h; same = ap place_of e })) ]
    where
      cases_eq : (a b : ℕ) → (a ≡ b) ⊎ (a ≢ b)
      cases_eq a b = package.Rattle.std.proofs.lemmas.Bool.cases_eq a b

  pub ahead-at : (x i j : ℕ) → j < length plan → changes_in plan i x ≡ true → cell_of plan i (suc x) ≡ cell_of plan j x → ahead plan x i ≡ Some j
  unfolding ahead
  ahead-at x i j p c e =
      let test = λ (j : ℕ). is_same_cell (cell_of plan j x) (cell_of plan i (suc x)) in
      let w = last_below-at test (length plan) j p (is_same_cell-eq (cell_of plan j x) (cell_of plan i (suc x)) (sym e)) in
      let same : w.0 ≡ j = only_one x w.0 j w.3.below p (is_same_cell-true (cell_of plan w.0 x) (cell_of plan i (suc x)) w.3.passes ∙ e) in
      ap (λ b. cond b (last_below test (length plan)) None) c ∙ w.1 ∙ ap Some same

  no_ring : (x m : ℕ) (w : ℕ → ℕ) → IsLoop (ahead plan x) m w → ⊥
  no_ring x m w r =
      let next = λ (k : ℕ) (l : k < m). ahead-some plan x (w k) (w (suc k)) (r.1 k l) in
      let there = λ (k : ℕ) (l : k < m). (next k l).there in
      let moves = λ (k : ℕ) (l : k < m). changes_in-ne plan (w k) x (next k l).changes in
      let below = λ (k : ℕ) (l : k < m). (next k l).below in
      elim (sizes m) [
        | inl e ↦
            let one : 1 ≡ m = omega (arith, r.0) in
            let l : 0 < m = omega (arith, r.0) in
            moves 0 l (sym (there 0 l ∙ ap (λ z. cell_of plan z x) (ap w one ∙ r.2)))
        | inr s ↦ elim s [
          | inl e ↦
              let l0 : 0 < m = omega arith in
              let l1 : 1 < m = omega arith in
              let back : w 2 ≡ w 0 = ap w (sym e) ∙ r.2 in
              let w0_below : w 0 < length plan = subst (λ z. z < length plan) back (below 1 l1) in
              free.swapping x (w 0) (w 1) w0_below (below 0 l0) (record {
                apart = r.3 0 1 (omega arith) l1;
                there = rw add-one (ap place_of (there 0 l0));
                back = rw add-one (ap place_of (there 1 l1 ∙ ap (λ z. cell_of plan z x) back));
                changed = λ same. moves 0 l0 (place_of-injective (cell_of plan (w 0) x) (cell_of plan (w 1) x) same ∙ sym (there 0 l0));
              })
          | inr l ↦
              let inside = ring_inside (length plan) m w below r.2 in
              let long : length (map w (range_with_len 0 m)) ≡ m = length-map-range_with_len w 0 m in
              free.cycle x (map w (range_with_len 0 m)) (λ k d h. subst (λ z. z < length plan) (sym (get_or-map-range_with_len w 0 m k k d (omega (arith, long)) (omega arith))) (inside k (omega (arith, long)))) (cycle_from plan x m w l there moves r.2 r.3)
        ]
      ]
    where
      sizes : (m : ℕ) → (m ≤ 1) ⊎ ((m ≡ 2) ⊎ (3 ≤ m))
      sizes m = grind arith

  -- how many are ahead of agent i in step x, one after the other
  pub depth_of-lt : (x i : ℕ) → i < length plan → depth (ahead plan x) (length plan) i < length plan
  depth_of-lt x i h = depth-lt (ahead plan x) (no_ring x) (length plan) i h (λ k j e. (ahead-some plan x k j e).below)

  pub depth_of-ahead : (x i j : ℕ) → i < length plan → j < length plan → changes_in plan i x ≡ true → cell_of plan i (suc x) ≡ cell_of plan j x → depth (ahead plan x) (length plan) i ≡ suc (depth (ahead plan x) (length plan) j)
  depth_of-ahead x i j h l c e = depth_next (ahead plan x) (no_ring x) (length plan) i j h (λ k j e. (ahead-some plan x k j e).below) (ahead-at x i j l c e)
