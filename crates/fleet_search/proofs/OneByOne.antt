-- Paths that each fit those before them are free of conflict.
use Rattle.fleet_search.proofs.Words.{◌≡◌, ◌≢◌, ℕ, zero, suc, ◌+◌, ◌<◌, ◌≤◌, List, [], ◌∷◌, length, get_or, take, All, Contains, ◌⊎◌, inl, inr, sym, ap, ◌∙◌, subst, arith, add-one, cases_eq, cases_lt, get_or_past, get_or_push, take_more, take_all, take_at, take-append-le, get_or_append_left, Cell, place_of, Motion, HasVertexConflict, HasSwappingConflict, HasCycleConflict, after_in, Plan, motion_of, with_path, Fits, FitTogether, AreConflictFree}
use Rattle.fleet_search.proofs.Steps.{with_path-old, length-with_path}

-- ---- conflicts among agents that move alike

module _ (p q : Motion) (n : ℕ) (same : (x i : ℕ) → i < n → p x i ≡ q x i) where
  vertex-as : (x i j : ℕ) → i < n → j < n → HasVertexConflict p x i j → HasVertexConflict q x i j
  vertex-as x i j a b w = record { apart = w.apart; same = sym (same x i a) ∙ w.same ∙ same x j b }

  swapping-as : (x i j : ℕ) → i < n → j < n → HasSwappingConflict p x i j → HasSwappingConflict q x i j
  swapping-as x i j a b w = record {
    apart = w.apart;
    there = sym (same (x + 1) i a) ∙ w.there ∙ same x j b;
    back = sym (same (x + 1) j b) ∙ w.back ∙ same x i a;
    changed = λ e. w.changed (same x i a ∙ e ∙ sym (same x j b));
  }

  cycle-as : (x : ℕ) (ring : List ℕ) → ((k e : ℕ) → k < length ring → get_or ring k e < n) → HasCycleConflict p x ring → HasCycleConflict q x ring
  cycle-as x ring inside w = record {
    three = w.three;
    distinct = w.distinct;
    next = λ k h. sym (same (x + 1) (get_or ring k 0) (inside k 0 h)) ∙ w.next k h ∙ same x (after_in ring k) (after k);
    moves = λ k h e. w.moves k h (same (x + 1) (get_or ring k 0) (inside k 0 h) ∙ e ∙ sym (same x (get_or ring k 0) (inside k 0 h)));
  }
    where
      long : 3 ≤ length ring
      long = w.three

      after : (k : ℕ) → after_in ring k < n
      after k = elim (cases_lt (k + 1) (length ring)) [
        | inl h ↦ inside (k + 1) (get_or ring 0 0) h
        | inr h ↦ subst (λ z. z < n) (sym (get_or_past ring (k + 1) (get_or ring 0 0) h)) (inside 0 0 (omega arith))
      ]

swapping-turned : (p : Motion) (x i j : ℕ) → HasSwappingConflict p x i j → HasSwappingConflict p x j i
swapping-turned p x i j w = record { apart = λ e. w.apart (sym e); there = w.back; back = w.there; changed = λ e. w.changed (sym e) }

-- a number is in a list, or differs from each of it
abbrev IsInOrNot : List ℕ → ℕ → Type 0
IsInOrNot ring n = Contains ring n ⊎ ((k e : ℕ) → k < length ring → get_or ring k e ≢ n)

in_or_not-more : (a : ℕ) (ring : List ℕ) (n : ℕ) → a ≢ n → IsInOrNot ring n → IsInOrNot (a ∷ ring) n
in_or_not-more a ring n ne (inl w) = inl (suc w.0, omega (arith, w.1), w.2)
in_or_not-more a ring n ne (inr w) = inr (differ w)
  where
    differ : ((k e : ℕ) → k < length ring → get_or ring k e ≢ n) → (k e : ℕ) → k < length (a ∷ ring) → get_or (a ∷ ring) k e ≢ n
    differ w zero e h = ne
    differ w (suc k) e h = w k e (omega arith)

in_or_not : (ring : List ℕ) (n : ℕ) → IsInOrNot ring n
in_or_not [] n = inr (λ k e h. absurd (omega arith))
in_or_not (a ∷ ring) n = elim (cases_eq a n) [
  | inl e ↦ inl (0, omega arith, e)
  | inr ne ↦ in_or_not-more a ring n ne (in_or_not ring n)
]

-- ---- one more path

module _ (xs : Plan) (path : List Cell) (free : AreConflictFree xs) (fits : Fits xs path) where
  alike : (x i : ℕ) → i < length xs → motion_of (with_path xs path) x i ≡ motion_of xs x i
  alike x i h = ap place_of (with_path-old xs path i x h)

  is_last : (i : ℕ) → i < length (with_path xs path) → (i < length xs) ⊎ (i ≡ length xs)
  is_last i h = elim (cases_lt i (length xs)) [ inl l ↦ inl l | inr l ↦ inr (omega (arith, length-with_path xs path)) ]

  no_vertex : (x i j : ℕ) → i < length (with_path xs path) → j < length (with_path xs path) → HasVertexConflict (motion_of (with_path xs path)) x i j → ⊥
  no_vertex x i j a b w = elim (is_last i a) [
    | inl p ↦ elim (is_last j b) [
      | inl q ↦ free.vertex x i j p q (vertex-as (motion_of (with_path xs path)) (motion_of xs) (length xs) alike x i j p q w)
      | inr q ↦ fits.vertex x i p (subst (λ z. HasVertexConflict (motion_of (with_path xs path)) x z i) q (record { apart = λ e. w.apart (sym e); same = sym w.same }))
    ]
    | inr p ↦ elim (is_last j b) [
      | inl q ↦ fits.vertex x j q (subst (λ z. HasVertexConflict (motion_of (with_path xs path)) x z j) p w)
      | inr q ↦ w.apart (p ∙ sym q)
    ]
  ]

  no_swapping : (x i j : ℕ) → i < length (with_path xs path) → j < length (with_path xs path) → HasSwappingConflict (motion_of (with_path xs path)) x i j → ⊥
  no_swapping x i j a b w = elim (is_last i a) [
    | inl p ↦ elim (is_last j b) [
      | inl q ↦ free.swapping x i j p q (swapping-as (motion_of (with_path xs path)) (motion_of xs) (length xs) alike x i j p q w)
      | inr q ↦ fits.swapping x i p (subst (λ z. HasSwappingConflict (motion_of (with_path xs path)) x z i) q (swapping-turned (motion_of (with_path xs path)) x i j w))
    ]
    | inr p ↦ elim (is_last j b) [
      | inl q ↦ fits.swapping x j q (subst (λ z. HasSwappingConflict (motion_of (with_path xs path)) x z j) p w)
      | inr q ↦ w.apart (p ∙ sym q)
    ]
  ]

  no_cycle : (x : ℕ) (ring : List ℕ) → All (λ i. i < length (with_path xs path)) ring → HasCycleConflict (motion_of (with_path xs path)) x ring → ⊥
  no_cycle x ring inside w = elim (in_or_not ring (length xs)) [
    | inl has ↦ fits.cycle x ring inside has w
    | inr none ↦
        let below = λ (k e : ℕ) (h : k < length ring). old k e h none in
        free.cycle x ring (λ k d h. below k d h) (cycle-as (motion_of (with_path xs path)) (motion_of xs) (length xs) alike x ring below w)
  ]
    where
      old : (k e : ℕ) → k < length ring → ((k e : ℕ) → k < length ring → get_or ring k e ≢ length xs) → get_or ring k e < length xs
      old k e h none =
          let a : get_or ring k e < length (with_path xs path) = inside k e h in
          let ne : get_or ring k e ≢ length xs = none k e h in
          omega (arith, length-with_path xs path)

  pub with_path_free : AreConflictFree (with_path xs path)
  with_path_free = record { vertex = no_vertex; swapping = no_swapping; cycle = no_cycle }

pub none_free : AreConflictFree []
none_free = record {
  vertex = λ x i j a b w. absurd (omega arith);
  swapping = λ x i j a b w. absurd (omega arith);
  cycle = λ x ring inside w. absurd (let long : 3 ≤ length ring = w.three in let h : get_or ring 0 0 < 0 = inside 0 0 (omega arith) in omega arith);
}

front-free : (plan : Plan) → FitTogether plan → (n : ℕ) → n ≤ length plan → AreConflictFree (take n plan)
front-free plan fit zero h = none_free
front-free plan fit (suc n) h =
    let e : take (suc n) plan ≡ with_path (take n plan) (get_or plan n []) = ap (λ z. take z plan) (sym (add-one n)) ∙ take_more plan n [] (omega arith) in
    subst AreConflictFree (sym e) (with_path_free (take n plan) (get_or plan n []) (front-free plan fit n (omega arith)) (fit n (omega arith)))

pub one_by_one : (plan : Plan) → FitTogether plan → AreConflictFree plan
one_by_one plan fit = subst AreConflictFree (take_all (length plan) plan (omega arith)) (front-free plan fit (length plan) (omega arith))

-- one more that fits
pub FitTogether-push : (plan : Plan) (path : List Cell) → FitTogether plan → Fits plan path → FitTogether (with_path plan path)
FitTogether-push plan path fit fits i h = elim (is_last' (cases_lt i (length plan))) [
  | inl l ↦
      let front : take i (with_path plan path) ≡ take i plan = take-append-le i plan (path ∷ []) (omega arith) in
      let at : get_or (with_path plan path) i [] ≡ get_or plan i [] = get_or_append_left plan (path ∷ []) [] i l in
      subst (λ z. Fits z (get_or (with_path plan path) i [])) (sym front) (subst (Fits (take i plan)) (sym at) (fit i l))
  | inr e ↦
      let front : take i (with_path plan path) ≡ plan = take_at plan (path ∷ []) i (sym e) in
      let at : get_or (with_path plan path) i [] ≡ path = get_or_push plan path [] i (sym e) in
      subst (λ z. Fits z (get_or (with_path plan path) i [])) (sym front) (subst (Fits plan) (sym at) fits)
]
  where
    is_last' : (i < length plan) ⊎ (length plan ≤ i) → (i < length plan) ⊎ (i ≡ length plan)
    is_last' (inl l) = inl l
    is_last' (inr l) = inr (omega (arith, length-with_path plan path))
