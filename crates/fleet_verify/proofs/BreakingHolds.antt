-- Holds that bring two agents onto one cell: that there are such, and how they are found by counts.
use Rattle.fleet_verify.proofs.Words.{◌≡◌, ℕ, suc, ◌+◌, ◌<◌, ◌≤◌, Bool, true, List, [], ◌∷◌, length, get_or, refl, ap₂, ◌∙◌, subst, arith, inl, inr, zero, false, ◌-◌, ◌++◌, sym, ap, slice_index, add-one, Contains, filter, ◌⊎◌, ◌==◌, ◌↔◌, nat_lt, nat_le, range_with_len, list_any, IsStrictlyIncreasing, AllPairs-from_increasing, IsStrictlyIncreasing-filter, length-range_with_len, get_or-range_with_len, cases_lt, cases_eq, eqb-true, eq-eqb, or_cases, or_left, or_right, cases_order, le-leb, leb-true, ltb-true, lt-ltb, and_parts, and_from, Place, ActionId, Visit, Program, moves, awaits_of, AreInRange, total_moves, count_at, place_at, Holds, is_held, is_among, opening, run, Configuration, tick, IsDone, IsAction, Reaches, IsNumbering, DirectlyNeeds, awaited, next_move, IsVisitOf, entering, leaving, AreUnordered, IsVisit, IsNeededFor, IsHeldBack, AreBreakingHolds, MeetOn, IsPrepared, tick_agree, stays_to, Reaches-refl, Reaches-rises, Reaches-need, indices-more, filter-append, append-nil, get_or_past, get_or_append_left, get_or_push, length_push, ext_get_or, Await, ◌≢◌, set, get_or-set_same, get_or-set_other, both_ways, entry_level, IsRow, is_held_by, held_row, AreNeeded}
use Rattle.fleet_verify.proofs.Members.{filter_has, filter_from, contains_head, contains_later, contains_cases, contains_none}
use Rattle.fleet_verify.proofs.Waiting.{Moves, step, IsReadyTo}
use Rattle.fleet_verify.proofs.RunCounts.{count_past, count_opening, run_place, longest_exists, finish_exists, unheld_is_longest, longest_small}
use Rattle.fleet_verify.proofs.Listing.{rank_rises}
use Rattle.fleet_verify.proofs.Finish.{count_within, count_grows, Reaches-done, run_numbers, finished_says, done_after, done_first}
use Rattle.fleet_verify.proofs.Looking.{needed_action, needed_on}
use Rattle.fleet_verify.proofs.Decide.{Reaches-dec, before_in}

-- ---- rows of agents in rising order

rising_tail : (x : ℕ) (xs : List ℕ) → IsStrictlyIncreasing (x ∷ xs) → IsStrictlyIncreasing xs
rising_tail x xs h k l =
    let e : suc k + 1 ≡ suc (k + 1) = omega arith in
    let g : get_or xs k 0 < get_or (x ∷ xs) (suc k + 1) 0 = h (suc k) (omega arith) in
    subst (λ n. get_or xs k 0 < get_or (x ∷ xs) n 0) e g

below_tail : (x : ℕ) (xs : List ℕ) → IsStrictlyIncreasing (x ∷ xs) → (y : ℕ) → Contains xs y → x < y
below_tail x xs h y (k, l, e) =
    let g : x < get_or xs k y = AllPairs-from_increasing (x ∷ xs) h 0 (suc k) y (omega arith) (omega arith) in
    subst (λ z. x < z) e g

-- two rising rows with the same members are the same
pub same_rising : (xs ys : List ℕ) → IsStrictlyIncreasing xs → IsStrictlyIncreasing ys → ((z : ℕ) → Contains xs z → Contains ys z) → ((z : ℕ) → Contains ys z → Contains xs z) → xs ≡ ys
same_rising [] [] h g there back = refl
same_rising [] (y ∷ ys) h g there back = absurd (contains_none y (back y (contains_head y ys)))
same_rising (x ∷ xs) [] h g there back = absurd (contains_none x (there x (contains_head x xs)))
same_rising (x ∷ xs) (y ∷ ys) h g there back =
    ap₂ (λ z zs. z ∷ zs) same (same_rising xs ys (rising_tail x xs h) (rising_tail y ys g) forth again)
  where
    low : y ≤ x
    low = elim (contains_cases y ys x (there x (contains_head x xs))) [ inl e ↦ omega arith | inr c ↦ (let l : y < x = below_tail y ys g x c in omega arith) ]

    high : x ≤ y
    high = elim (contains_cases x xs y (back y (contains_head y ys))) [ inl e ↦ omega arith | inr c ↦ (let l : x < y = below_tail x xs h y c in omega arith) ]

    same : x ≡ y
    same = let a : y ≤ x = low in let b : x ≤ y = high in omega arith

    forth : (z : ℕ) → Contains xs z → Contains ys z
    forth z c =
        let s : x ≡ y = same in
        let l : x < z = below_tail x xs h z c in
        elim (contains_cases y ys z (there z (contains_later x xs z c))) [ inl e ↦ absurd (omega arith) | inr d ↦ d ]

    again : (z : ℕ) → Contains ys z → Contains xs z
    again z c =
        let s : x ≡ y = same in
        let l : y < z = below_tail y ys g z c in
        elim (contains_cases x xs z (back z (contains_later y ys z c))) [ inl e ↦ absurd (omega arith) | inr d ↦ d ]

-- the numbers below n that pass a test
abbrev pub those_below : (ℕ → Bool) → ℕ → List ℕ
those_below test n = filter test (range_with_len 0 n)

range_rises : (n : ℕ) → IsStrictlyIncreasing (range_with_len 0 n)
range_rises n k l =
    let short : k + 1 < n = (let e : length (range_with_len 0 n) ≡ n = length-range_with_len 0 n in omega arith) in
    let a : get_or (range_with_len 0 n) k 0 ≡ 0 + k = get_or-range_with_len 0 n k 0 (omega arith) in
    let b : get_or (range_with_len 0 n) (k + 1) 0 ≡ 0 + (k + 1) = get_or-range_with_len 0 n (k + 1) 0 short in
    omega arith

pub those_rise : (test : ℕ → Bool) (n : ℕ) → IsStrictlyIncreasing (those_below test n)
those_rise test n = IsStrictlyIncreasing-filter test (range_with_len 0 n) (range_rises n)

range_all : (n i : ℕ) → i < n → Contains (range_with_len 0 n) i
range_all n i l = (i, (let g : length (range_with_len 0 n) ≡ n = length-range_with_len 0 n in omega arith), get_or-range_with_len 0 n i i l ∙ (omega arith))

pub those_has : (test : ℕ → Bool) (n i : ℕ) → Contains (those_below test n) i → test i ≡ true
those_has test n i c = (filter_from test (range_with_len 0 n) i c).1

pub those_keep : (test : ℕ → Bool) (n i : ℕ) → i < n → test i ≡ true → Contains (those_below test n) i
those_keep test n i l h = filter_has test (range_with_len 0 n) i (range_all n i l) h

-- one number more
pub those_more : (test : ℕ → Bool) (row : List ℕ) (i : ℕ) → row ≡ those_below test i → (b : Bool) → b ≡ test i → b ≡ true → row ++ i ∷ [] ≡ those_below test (i + 1)
those_more test row i e b is passes = let t : test i ≡ true = sym is ∙ passes in rw (indices-more i, filter-append, t, e) refl

pub those_same : (test : ℕ → Bool) (row : List ℕ) (i : ℕ) → row ≡ those_below test i → (b : Bool) → b ≡ test i → b ≡ false → row ≡ those_below test (i + 1)
those_same test row i e b is fails = let t : test i ≡ false = sym is ∙ fails in rw (indices-more i, filter-append, t) (e ∙ sym (append-nil (those_below test i)))

pub tested_more : (test : ℕ → Bool) (flags : List Bool) (i : ℕ) (b : Bool) → i < length flags → b ≡ test i → ((j : ℕ) → j < i → get_or flags j false ≡ test j) → (j : ℕ) → j < i + 1 → get_or (set flags i b) j false ≡ test j
tested_more test flags i b within is each j l = elim (cases_lt j i) [
  | inl less ↦ (let other : j ≢ i = omega (arith, less) in get_or-set_other flags i j b false other ∙ each j less)
  | inr high ↦ let e : j ≡ i = omega (arith, l, high) in subst (λ (k : ℕ). get_or (set flags i b) k false ≡ test k) (sym e) (get_or-set_same flags i b false within ∙ is)
]

-- ---- holds that bring two agents onto one cell

-- a row of agents, and whether it holds one
pub any_Contains : (i : ℕ) (row : List ℕ) → list_any (λ j. j == i) row ≡ true → Contains row i
any_Contains i [] h = absurd (let e : ⊥ = cc in e)
any_Contains i (j ∷ row) h =
    elim (or_cases (j == i) (list_any (λ k. k == i) row) h) [
      | inl e ↦ (let same : j ≡ i = eqb-true j i e in subst (λ k. Contains (j ∷ row) k) same (contains_head j row))
      | inr g ↦ contains_later j row i (any_Contains i row g)
    ]

pub Contains-any : (i : ℕ) (row : List ℕ) → Contains row i → list_any (λ j. j == i) row ≡ true
Contains-any i [] h = absurd (contains_none i h)
Contains-any i (j ∷ row) h =
    elim (contains_cases j row i h) [
      | inl e ↦ or_left (j == i) (list_any (λ k. k == i) row) (eq-eqb j i e)
      | inr g ↦ or_right (j == i) (list_any (λ k. k == i) row) (Contains-any i row g)
    ]

-- an action that is not needed is not finished while the holds last
unneeded_stays : (p : Program) (v w : Visit) (holds : Holds) → AreBreakingHolds p v w holds → (t : ℕ) → t ≤ length holds → (a : ActionId) → 1 ≤ a.number → (IsNeededFor p v w a → ⊥) → count_at (run p holds t) a.agent < a.number
unneeded_stays p v w holds h zero l a f n = let e : count_at (run p holds 0) a.agent ≡ 0 = count_opening p holds a.agent in omega arith
unneeded_stays p v w holds h (suc t) l a f n =
    let before : count_at (run p holds t) a.agent < a.number = unneeded_stays p v w holds h t (omega arith) a f n in
    elim (cases_lt a.agent (length p)) [
      | inr g ↦ (let e : count_at (run p holds (suc t)) a.agent ≡ 0 = count_past p holds (suc t) a.agent g in omega arith)
      | inl g ↦ (elim (step p holds t a.agent g) [
        | inr s ↦ (let e : count_at (run p holds (suc t)) a.agent ≡ count_at (run p holds t) a.agent = s.count in omega arith)
        | inl m ↦ (elim (cases_eq (count_at (run p holds t) a.agent + 1) a.number) [
          | inr apart ↦ (let e : count_at (run p holds (suc t)) a.agent ≡ suc (count_at (run p holds t) a.agent) = m.count in omega arith)
          | inl same ↦ absurd (moved m same)
        ])
      ])
    ]
  where
    moved : Moves p (is_held holds t) (run p holds t) (run p holds (suc t)) a.agent → count_at (run p holds t) a.agent + 1 ≡ a.number → ⊥
    moved m same =
        let back : IsHeldBack p v w (run p holds t) a.agent = record { left = m.ready.left; unneeded = λ k. n (subst (λ x. IsNeededFor p v w (record { agent = a.agent; number = x })) same k) } in
        let held : is_held holds t a.agent ≡ true = Contains-any a.agent (get_or holds t []) ((h.rows t a.agent (omega arith)).1 back) in
        let free : is_held holds t a.agent ≡ false = m.free in
        cc

-- an agent comes as far as its visit, and does not leave it
arrived : (p : Program) (q : Place) (v w u : Visit) → IsVisitOf p q u → (holds : Holds) → AreBreakingHolds p v w holds → (IsNeededFor p v w (leaving p u) → ⊥) → (1 ≤ u.position → IsNeededFor p v w (entering u)) → place_at (run p holds (length holds)) u.agent ≡ q
arrived p q v w u h holds b beyond here =
    run_place p holds (length holds) u.agent h.agent
    ∙ stays_to p u.agent u.position n (above (cases_lt u.position 1)) (count_within p holds (length holds) u.agent) below
    ∙ h.place
  where
    n : ℕ
    n = count_at (run p holds (length holds)) u.agent

    below : n < next_move p u.agent u.position
    below = unneeded_stays p v w holds b (length holds) (omega arith) (leaving p u) (omega arith) beyond

    above : (u.position < 1) ⊎ (1 ≤ u.position) → u.position ≤ n
    above (inl f) = omega arith
    above (inr f) = b.prepared (entering u) (here f)

-- the action that leaves a visit is not needed for entering it
own_not_back : (p : Program) (number : ActionId → ℕ) → IsNumbering p number → (v : Visit) → Reaches p (leaving p v) (entering v) → ⊥
own_not_back p number s v r =
    let up : entry_level number v < entry_level number v = rank_rises p number s v v r in
    omega arith

entering_action : (p : Program) (q : Place) (v : Visit) → IsVisitOf p q v → 1 ≤ v.position → IsAction p (entering v)
entering_action p q v h f = record { agent = h.agent; first = f; last = h.position }

pub breaking_conflict : (p : Program) (number : ActionId → ℕ) → IsNumbering p number → (q : Place) (v w : Visit) → AreUnordered p q v w → (holds : Holds) → AreBreakingHolds p v w holds → MeetOn p q v w holds
breaking_conflict p number s q v w u holds b = (
  arrived p q v w v u.first holds b
      (λ k. elim k [ inl r ↦ own_not_back p number s v r | inr r ↦ u.forth r ])
      (λ f. inl (Reaches-refl p (entering v) (entering_action p q v u.first f))),
  arrived p q v w w u.second holds b
      (λ k. elim k [ inl r ↦ u.back r | inr r ↦ own_not_back p number s w r ])
      (λ f. inr (Reaches-refl p (entering w) (entering_action p q w u.second f))),
)

pub moves_within : (p : Program) (i : ℕ) → 0 < moves p i → i < length p
moves_within [] i l = absurd (omega arith)
moves_within (a ∷ p) zero l = omega arith
moves_within (a ∷ p) (suc i) l = let h : i < length p = moves_within p i l in omega arith

-- the ticks of a run depend on the rows before them
pub run_same : (p : Program) (h k : Holds) (t : ℕ) → ((s : ℕ) → s < t → get_or h s [] ≡ get_or k s []) → run p h t ≡ run p k t
run_same p h k zero e = refl
run_same p h k (suc t) e =
    ap₂ (λ row c. tick p (λ i. list_any (λ j. j == i) row) c) (e t (omega arith)) (run_same p h k t (λ s l. e s (omega arith)))

-- an action whose needs are finished, and whose agent is not held, is finished after the tick
pub next_done : (p : Program) → AreInRange p → (holds : Holds) (t : ℕ) (a : ActionId) → IsAction p a → ((b : ActionId) → IsAction p b → DirectlyNeeds p a b → IsDone (run p holds t) b) → (a.number ≡ suc (count_at (run p holds t) a.agent) → is_held holds t a.agent ≡ true → ⊥) → IsDone (run p holds (suc t)) a
next_done p range holds t a h prior free =
    elim (cases_lt n a.number) [
      | inr l ↦ (let up : n ≤ count_at (run p holds (suc t)) a.agent = count_grows p holds t a.agent in omega arith)
      | inl l ↦ go (same l)
    ]
  where
    n : ℕ
    n = count_at (run p holds t) a.agent

    own : (a.number ≡ 1) ⊎ ((a.number < 1) ⊎ (1 < a.number)) → a.number ≤ suc n
    own (inl e) = omega arith
    own (inr (inl e)) = omega arith
    own (inr (inr e)) =
        let first : 1 ≤ a.number - 1 = omega arith in
        let last : a.number ≤ moves p a.agent = h.last in
        let before : a.number - 1 ≤ n = prior (before_in a) (record { agent = h.agent; first = first; last = omega arith }) (inl (refl, omega arith, first)) in
        omega arith

    same : n < a.number → a.number ≡ suc n
    same l = let g : a.number ≤ suc n = own (cases_order a.number 1) in omega arith

    met : a.number ≡ suc n → (w : Await) → Contains (awaits_of p a.agent (suc n)) w → (w.count < 1) ⊎ (1 ≤ w.count) → w.count ≤ count_at (run p holds t) w.agent
    met e w c (inl z) = omega arith
    met e w c (inr f) =
        let d : Contains (awaits_of p a.agent a.number) w = subst (λ m. Contains (awaits_of p a.agent m) w) (sym e) c in
        let r = range a.agent a.number w d in
        prior (awaited w) (record { agent = r.agent; first = f; last = r.last }) (inr d)

    ready : a.number ≡ suc n → IsReadyTo p (run p holds t) a.agent
    ready e = let l : a.number ≤ moves p a.agent = h.last in record { left = omega arith; met = λ w c. met e w c (cases_lt w.count 1) }

    go : a.number ≡ suc n → IsDone (run p holds (suc t)) a
    go e =
        elim (step p holds t a.agent h.agent) [
          | inl m ↦ (let g : count_at (run p holds (suc t)) a.agent ≡ suc n = m.count in omega arith)
          | inr s ↦ absurd (free e (s.why (ready e)))
        ]

-- what needs only such actions, none of which is held when it is next, is finished in the order of their numbers
pub progress : (p : Program) (number : ActionId → ℕ) → IsNumbering p number → AreInRange p → (holds : Holds) (P : ActionId → Type 0) → ((a b : ActionId) → IsAction p a → IsAction p b → P a → DirectlyNeeds p a b → P b) → (start n : ℕ) → ((t i : ℕ) → t < n → P (record { agent = i; number = suc (count_at (run p holds (start + t)) i) }) → is_held holds (start + t) i ≡ true → ⊥) → (a : ActionId) → IsAction p a → P a → number a ≤ n → IsDone (run p holds (start + n)) a
progress p number s range holds P closed start zero free a h k l = absurd (let f : 1 ≤ number a = s.positive a h in omega arith)
progress p number s range holds P closed start (suc n) free a h k l =
    let e : suc (start + n) ≡ start + suc n = omega arith in
    subst (λ t. IsDone (run p holds t) a) e
    (next_done p range holds (start + n) a h
    (λ b g d. progress p number s range holds P closed start n (λ t i m. free t i (omega arith)) b g (closed a b h g k d) (let up : number b < number a = s.rising a b h g d in omega arith))
    (λ same held. free n a.agent (omega arith) (subst (λ m. P (record { agent = a.agent; number = m })) same k) held))

-- the rows of two lists of breaking holds are the same as far as both go
row_agrees : (p : Program) (v w : Visit) (h k : Holds) → AreBreakingHolds p v w h → AreBreakingHolds p v w k → (t : ℕ) → t < length h → t < length k → ((s : ℕ) → s < t → get_or h s [] ≡ get_or k s []) → get_or h t [] ≡ get_or k t []
row_agrees p v w h k a b t l m before =
    let config : run p h t ≡ run p k t = run_same p h k t before in
    same_rising (get_or h t []) (get_or k t []) (a.rising t) (b.rising t)
    (λ z c. (b.rows t z m).1 (subst (λ x. IsHeldBack p v w x z) config ((a.rows t z l).0 c)))
    (λ z c. (a.rows t z l).1 (subst (λ x. IsHeldBack p v w x z) (sym config) ((b.rows t z m).0 c)))

rows_agree : (p : Program) (v w : Visit) (h k : Holds) → AreBreakingHolds p v w h → AreBreakingHolds p v w k → (t : ℕ) → t ≤ length h → t ≤ length k → (s : ℕ) → s < t → get_or h s [] ≡ get_or k s []
rows_agree p v w h k a b zero l m s n = absurd (omega arith)
rows_agree p v w h k a b (suc t) l m s n =
    elim (cases_lt s t) [
      | inl g ↦ rows_agree p v w h k a b t (omega arith) (omega arith) s g
      | inr g ↦ (let e : t ≡ s = omega arith in
          subst (λ x. get_or h x [] ≡ get_or k x []) e
          (row_agrees p v w h k a b t l m (rows_agree p v w h k a b t (omega arith) (omega arith))))
    ]

-- the shorter one ends in a configuration in which the longer one had ended
not_shorter : (p : Program) (v w : Visit) (h k : Holds) → AreBreakingHolds p v w h → AreBreakingHolds p v w k → length h < length k → ⊥
not_shorter p v w h k a b l =
    let config : run p h (length h) ≡ run p k (length h) = run_same p h k (length h) (rows_agree p v w h k a b (length h) (omega arith) (omega arith)) in
    b.sooner (length h) l (subst (IsPrepared p v w) config a.prepared)

pub breaking_unique : (p : Program) (v w : Visit) (h k : Holds) → AreBreakingHolds p v w h → AreBreakingHolds p v w k → h ≡ k
breaking_unique p v w h k a b =
    elim (cases_order (length h) (length k)) [
      | inl e ↦ ext_get_or [] h k e (λ i l. rows_agree p v w h k a b (length h) (omega arith) (omega arith) i l)
      | inr (inl l) ↦ absurd (not_shorter p v w h k a b l)
      | inr (inr l) ↦ absurd (not_shorter p v w k h b a l)
    ]

-- what a decision says
is_yes : {A : Type 0} → Dec A → Bool
is_yes (yes h) = true
is_yes (no n) = false

from_yes : {A : Type 0} (d : Dec A) → is_yes d ≡ true → A
unfolding is_yes
from_yes (yes h) e = h
from_yes (no n) e = absurd (let f : ⊥ = cc in f)

to_yes : {A : Type 0} (d : Dec A) → A → is_yes d ≡ true
unfolding is_yes
to_yes (yes h) a = refl
to_yes (no n) a = absurd (n a)

held-dec : (p : Program) (number : ActionId → ℕ) → IsNumbering p number → (v w : Visit) (c : Configuration) (i : ℕ) → Dec (IsHeldBack p v w c i)
held-dec p number s v w c i =
    elim (cases_lt (count_at c i) (moves p i)) [
      | inr l ↦ no (λ h. let g : count_at c i < moves p i = h.left in omega arith)
      | inl l ↦ (elim (Reaches-dec p number s next (entering v)) [
        | yes r ↦ no (λ h. h.unneeded (inl r))
        | no m ↦ (elim (Reaches-dec p number s next (entering w)) [
          | yes r ↦ no (λ h. h.unneeded (inr r))
          | no n ↦ yes (record { left = l; unneeded = λ k. elim k [ inl r ↦ m r | inr r ↦ n r ] })
        ])
      ])
    ]
  where
    next : ActionId
    next = record { agent = i; number = count_at c i + 1 }

-- the row of a configuration
row_of_configuration : (p : Program) (number : ActionId → ℕ) → IsNumbering p number → (v w : Visit) (c : Configuration) → List ℕ
row_of_configuration p number s v w c = those_below (λ i. is_yes (held-dec p number s v w c i)) (length p)

row_rises : (p : Program) (number : ActionId → ℕ) (s : IsNumbering p number) (v w : Visit) (c : Configuration) → IsStrictlyIncreasing (row_of_configuration p number s v w c)
unfolding row_of_configuration
row_rises p number s v w c = those_rise (λ i. is_yes (held-dec p number s v w c i)) (length p)

row_has : (p : Program) (number : ActionId → ℕ) (s : IsNumbering p number) (v w : Visit) (c : Configuration) (i : ℕ) → Contains (row_of_configuration p number s v w c) i ↔ IsHeldBack p v w c i
unfolding row_of_configuration
row_has p number s v w c i = (
  (λ h. from_yes (held-dec p number s v w c i) (those_has (λ j. is_yes (held-dec p number s v w c j)) (length p) i h)),
  (λ h. let l : count_at c i < moves p i = h.left in those_keep (λ j. is_yes (held-dec p number s v w c j)) (length p) i (moves_within p i (omega arith)) (to_yes (held-dec p number s v w c i) h)),
)

-- a list of holds that is right so far
pub record IsBegun (p : Program) (v w : Visit) (holds : Holds) : Type 0 where
  pub rising : (t : ℕ) → IsStrictlyIncreasing (get_or holds t [])
  pub rows : (t i : ℕ) → t < length holds → Contains (get_or holds t []) i ↔ IsHeldBack p v w (run p holds t) i
  pub sooner : (t : ℕ) → t < length holds → IsPrepared p v w (run p holds t) → ⊥

-- one more row
pub grown : (p : Program) (v w : Visit) (holds : Holds) → IsBegun p v w holds → (IsPrepared p v w (run p holds (length holds)) → ⊥) → (row : List ℕ) → IsStrictlyIncreasing row → ((i : ℕ) → Contains row i ↔ IsHeldBack p v w (run p holds (length holds)) i) → IsBegun p v w (holds ++ row ∷ [])
grown p v w holds b open_yet row rises has = record {
  rising = λ t. rising_at t (cases_order t n);
  rows = λ t i l. rows_at t i l (cases_order t n);
  sooner = λ t l. sooner_at t l (cases_order t n);
}
  where
    n : ℕ
    n = length holds

    more : Holds
    more = holds ++ row ∷ []

    longer : length more ≡ n + 1
    longer = length_push holds row

    old_row : (t : ℕ) → t < n → get_or more t [] ≡ get_or holds t []
    old_row t l = get_or_append_left holds (row ∷ []) [] t l

    new_row : get_or more n [] ≡ row
    new_row = get_or_push holds row [] n refl

    config : (t : ℕ) → t ≤ n → run p more t ≡ run p holds t
    config t l = run_same p more holds t (λ x m. old_row x (omega arith))

    rising_at : (t : ℕ) → (t ≡ n) ⊎ ((t < n) ⊎ (n < t)) → IsStrictlyIncreasing (get_or more t [])
    rising_at t (inl e) = subst (λ r. IsStrictlyIncreasing r) (sym (ap (λ x. get_or more x []) e ∙ new_row)) rises
    rising_at t (inr (inl l)) = subst (λ r. IsStrictlyIncreasing r) (sym (old_row t l)) (b.rising t)
    rising_at t (inr (inr l)) = subst (λ r. IsStrictlyIncreasing r) (sym (get_or_past more t [] (let e : length more ≡ n + 1 = longer in omega arith))) (λ k m. absurd (omega arith))

    rows_at : (t i : ℕ) → t < length more → (t ≡ n) ⊎ ((t < n) ⊎ (n < t)) → Contains (get_or more t []) i ↔ IsHeldBack p v w (run p more t) i
    rows_at t i l (inl e) =
        subst (λ x. Contains (get_or more x []) i ↔ IsHeldBack p v w (run p more x) i) (sym e)
        (subst (λ r. Contains r i ↔ IsHeldBack p v w (run p more n) i) (sym new_row)
        (subst (λ c. Contains row i ↔ IsHeldBack p v w c i) (sym (config n (omega arith))) (has i)))
    rows_at t i l (inr (inl m)) =
        subst (λ r. Contains r i ↔ IsHeldBack p v w (run p more t) i) (sym (old_row t m))
        (subst (λ c. Contains (get_or holds t []) i ↔ IsHeldBack p v w c i) (sym (config t (omega arith))) (b.rows t i m))
    rows_at t i l (inr (inr m)) = absurd (let e : length more ≡ n + 1 = longer in omega arith)

    sooner_at : (t : ℕ) → t < length more → (t ≡ n) ⊎ ((t < n) ⊎ (n < t)) → IsPrepared p v w (run p more t) → ⊥
    sooner_at t l (inl e) h = open_yet (subst (IsPrepared p v w) (ap (run p more) e ∙ config n (omega arith)) h)
    sooner_at t l (inr (inl m)) h = b.sooner t m (subst (IsPrepared p v w) (config t (omega arith)) h)
    sooner_at t l (inr (inr m)) h = let e : length more ≡ n + 1 = longer in omega arith

needed_closed : (p : Program) (v w : Visit) (a b : ActionId) → IsAction p a → IsAction p b → IsNeededFor p v w a → DirectlyNeeds p a b → IsNeededFor p v w b
needed_closed p v w a b h g k n = needed_on p v w b a (Reaches-need p b a g h n) k

needed_low : (p : Program) (number : ActionId → ℕ) → IsNumbering p number → (v w : Visit) (a : ActionId) → IsNeededFor p v w a → number a ≤ number (entering v) + number (entering w)
needed_low p number s v w a (inl r) = let l : number a ≤ number (entering v) = Reaches-rises p number s a (entering v) r in omega arith
needed_low p number s v w a (inr r) = let l : number a ≤ number (entering w) = Reaches-rises p number s a (entering w) r in omega arith

-- after as many ticks as the greatest number all that is needed is finished
pub prepared_at : (p : Program) (number : ActionId → ℕ) → IsNumbering p number → AreInRange p → (v w : Visit) (holds : Holds) → IsBegun p v w holds → (n : ℕ) → n ≤ length holds → ((a : ActionId) → IsNeededFor p v w a → number a ≤ n) → IsPrepared p v w (run p holds n)
prepared_at p number s range v w holds b n within low a k =
    let e : 0 + n ≡ n = omega arith in
    subst (λ t. IsDone (run p holds t) a) e
    (progress p number s range holds (IsNeededFor p v w) (needed_closed p v w) 0 n free a (needed_action p v w a k) k (low a k))
  where
    free_at : (t i : ℕ) → t < n → IsNeededFor p v w (record { agent = i; number = suc (count_at (run p holds t) i) }) → is_held holds t i ≡ true → ⊥
    free_at t i m g h =
        let e : suc (count_at (run p holds t) i) ≡ count_at (run p holds t) i + 1 = omega arith in
        ((b.rows t i (omega arith)).0 (any_Contains i (get_or holds t []) h)).unneeded (subst (λ n. IsNeededFor p v w (record { agent = i; number = n })) e g)

    free : (t i : ℕ) → t < n → IsNeededFor p v w (record { agent = i; number = suc (count_at (run p holds (0 + t)) i) }) → is_held holds (0 + t) i ≡ true → ⊥
    free t i m = let e : t ≡ 0 + t = omega arith in subst (λ x. IsNeededFor p v w (record { agent = i; number = suc (count_at (run p holds x) i) }) → is_held holds x i ≡ true → ⊥) e (free_at t i m)

-- so a list that is right so far has no more rows than the greatest number of what is needed
pub begun_short : (p : Program) (number : ActionId → ℕ) → IsNumbering p number → AreInRange p → (v w : Visit) (holds : Holds) → IsBegun p v w holds → (n : ℕ) → ((a : ActionId) → IsNeededFor p v w a → number a ≤ n) → length holds ≤ n
begun_short p number s range v w holds b n low =
    elim (cases_lt n (length holds)) [
      | inr l ↦ l
      | inl l ↦ absurd (b.sooner n l (prepared_at p number s range v w holds b n (omega arith) low))
    ]

-- all that is needed is finished if both entering actions are
pub prepared-dec : (p : Program) (v w : Visit) (holds : Holds) (t : ℕ) → IsVisit p v → IsVisit p w → Dec (IsPrepared p v w (run p holds t))
prepared-dec p v w holds t a b =
    elim (cases_lt (count_at (run p holds t) v.agent) v.position) [
      | inl l ↦ no (λ h. let f : IsDone (run p holds t) (entering v) = h (entering v) (inl (Reaches-refl p (entering v) (record { agent = a.agent; first = omega arith; last = a.position }))) in omega arith)
      | inr l ↦ (elim (cases_lt (count_at (run p holds t) w.agent) w.position) [
        | inl m ↦ no (λ h. let f : IsDone (run p holds t) (entering w) = h (entering w) (inr (Reaches-refl p (entering w) (record { agent = b.agent; first = omega arith; last = b.position }))) in omega arith)
        | inr m ↦ yes (λ x k. elim k [ inl r ↦ Reaches-done p holds t x (entering v) r l | inr r ↦ Reaches-done p holds t x (entering w) r m ])
      ])
    ]

grow : (p : Program) (number : ActionId → ℕ) → IsNumbering p number → AreInRange p → (v w : Visit) → IsVisit p v → IsVisit p w → (fuel : ℕ) (holds : Holds) → IsBegun p v w holds → number (entering v) + number (entering w) ≤ length holds + fuel → (h : Holds) × AreBreakingHolds p v w h
grow p number s range v w a b zero holds g l =
    (holds, record { rising = g.rising; rows = g.rows; sooner = g.sooner; prepared = prepared_at p number s range v w holds g (length holds) (omega arith) (λ a k. let m : number a ≤ number (entering v) + number (entering w) = needed_low p number s v w a k in omega arith) })
grow p number s range v w a b (suc fuel) holds g l =
    elim (prepared-dec p v w holds (length holds) a b) [
      | yes h ↦ (holds, record { rising = g.rising; rows = g.rows; sooner = g.sooner; prepared = h })
      | no n ↦ grow p number s range v w a b fuel (holds ++ row_of_configuration p number s v w (run p holds (length holds)) ∷ [])
          (grown p v w holds g n (row_of_configuration p number s v w (run p holds (length holds))) (row_rises p number s v w (run p holds (length holds))) (row_has p number s v w (run p holds (length holds))))
          (let e : length (holds ++ row_of_configuration p number s v w (run p holds (length holds)) ∷ []) ≡ length holds + 1 = length_push holds (row_of_configuration p number s v w (run p holds (length holds))) in omega arith)
    ]

pub breaking_made : (p : Program) (number : ActionId → ℕ) → IsNumbering p number → AreInRange p → (v w : Visit) → IsVisit p v → IsVisit p w → (h : Holds) × AreBreakingHolds p v w h
breaking_made p number s range v w a b =
    grow p number s range v w a b (number (entering v) + number (entering w)) [] (record {
      rising = λ t k m. absurd (omega arith);
      rows = λ t i l. absurd (omega arith);
      sooner = λ t l. absurd (omega arith);
    }) (omega arith)

-- with the rows of the two entering actions: what is needed, whom to hold, and when to end
pub needed_by_rows : (p : Program) (v w : Visit) (first second : ℕ → ℕ) → IsRow p (entering v) first → IsRow p (entering w) second → (i c : ℕ) → IsNeededFor p v w (record { agent = i; number = c }) ↔ ((1 ≤ c) × ((c ≤ first i) ⊎ (c ≤ second i)))
needed_by_rows p v w first second f s i c = (into, λ (m, h). out m h)
  where
    into : IsNeededFor p v w (record { agent = i; number = c }) → (1 ≤ c) × ((c ≤ first i) ⊎ (c ≤ second i))
    into (inl r) = (((f i c).0 r).0, inl (((f i c).0 r).1))
    into (inr r) = (((s i c).0 r).0, inr (((s i c).0 r).1))

    out : 1 ≤ c → (c ≤ first i) ⊎ (c ≤ second i) → IsNeededFor p v w (record { agent = i; number = c })
    out m (inl l) = inl ((f i c).1 (m, l))
    out m (inr l) = inr ((s i c).1 (m, l))

pub held_by_rows : (p : Program) (v w : Visit) (first second : ℕ → ℕ) → IsRow p (entering v) first → IsRow p (entering w) second → (c : Configuration) (i : ℕ) → IsHeldBack p v w c i ↔ ((count_at c i < moves p i) × (first i ≤ count_at c i) × (second i ≤ count_at c i))
held_by_rows p v w first second f s c i = (into, (λ (l, g, h). out l g h))
  where
    next : IsNeededFor p v w (record { agent = i; number = count_at c i + 1 }) ↔ ((1 ≤ count_at c i + 1) × ((count_at c i + 1 ≤ first i) ⊎ (count_at c i + 1 ≤ second i)))
    next = needed_by_rows p v w first second f s i (count_at c i + 1)

    into : IsHeldBack p v w c i → (count_at c i < moves p i) × (first i ≤ count_at c i) × (second i ≤ count_at c i)
    into h = (
      h.left,
      elim (cases_lt (count_at c i) (first i)) [ inr l ↦ l | inl l ↦ absurd (h.unneeded (next.1 (omega arith, inl (omega arith)))) ],
      elim (cases_lt (count_at c i) (second i)) [ inr l ↦ l | inl l ↦ absurd (h.unneeded (next.1 (omega arith, inr (omega arith)))) ],
    )

    out : count_at c i < moves p i → first i ≤ count_at c i → second i ≤ count_at c i → IsHeldBack p v w c i
    out l g h = record { left = l; unneeded = λ k. elim ((next.0 k).1) [ inl m ↦ omega arith | inr m ↦ omega arith ] }

pub prepared_by_counts : (p : Program) (v w : Visit) → IsVisit p v → IsVisit p w → (holds : Holds) (t : ℕ) → IsPrepared p v w (run p holds t) ↔ ((v.position ≤ count_at (run p holds t) v.agent) × (w.position ≤ count_at (run p holds t) w.agent))
prepared_by_counts p v w a b holds t = (into, λ (l, m). out l m)
  where
    into : IsPrepared p v w (run p holds t) → (v.position ≤ count_at (run p holds t) v.agent) × (w.position ≤ count_at (run p holds t) w.agent)
    into h = (
      elim (cases_lt v.position 1) [ inl l ↦ omega arith | inr l ↦ h (entering v) (inl (Reaches-refl p (entering v) (record { agent = a.agent; first = l; last = a.position }))) ],
      elim (cases_lt w.position 1) [ inl l ↦ omega arith | inr l ↦ h (entering w) (inr (Reaches-refl p (entering w) (record { agent = b.agent; first = l; last = b.position }))) ],
    )

    out : v.position ≤ count_at (run p holds t) v.agent → w.position ≤ count_at (run p holds t) w.agent → IsPrepared p v w (run p holds t)
    out l m x (inl r) = Reaches-done p holds t x (entering v) r l
    out l m x (inr r) = Reaches-done p holds t x (entering w) r m

pub breaking_short : (p : Program) (number : ActionId → ℕ) → IsNumbering p number → AreInRange p → (v w : Visit) (holds : Holds) → AreBreakingHolds p v w holds → (n : ℕ) → number (entering v) ≤ n → number (entering w) ≤ n → length holds ≤ n
breaking_short p number s range v w holds b n l m =
    begun_short p number s range v w holds (record { rising = b.rising; rows = b.rows; sooner = b.sooner }) n low
  where
    low : (a : ActionId) → IsNeededFor p v w a → number a ≤ n
    low a (inl r) = let g : number a ≤ number (entering v) = Reaches-rises p number s a (entering v) r in omega arith
    low a (inr r) = let g : number a ≤ number (entering w) = Reaches-rises p number s a (entering w) r in omega arith

-- ---- what the code of breaking holds rests on

-- those that are held are the ones that are held back
held_has : (p : Program) (v w : Visit) (needed : List ℕ) → AreNeeded p v w (slice_index needed) → (c : Configuration) (i : ℕ) → Contains (held_row p c needed) i ↔ IsHeldBack p v w c i
held_has p v w needed f c i = (
  (λ k.
      let both = and_parts (nat_lt (count_at c i) (moves p i)) (nat_le (slice_index needed i) (count_at c i)) (those_has (is_held_by p c needed) (length p) i k) in
      let past = leb-true (slice_index needed i) (count_at c i) both.1 in
      record { left = ltb-true (count_at c i) (moves p i) both.0; unneeded = λ r. omega (arith, ((f i (count_at c i + 1)).0 r).1, past) }),
  (λ h.
      let left : count_at c i < moves p i = h.left in
      let past : slice_index needed i ≤ count_at c i = elim (cases_lt (count_at c i) (slice_index needed i)) [ inr l ↦ l | inl l ↦ absurd (h.unneeded ((f i (count_at c i + 1)).1 (omega arith, omega arith))) ] in
      those_keep (is_held_by p c needed) (length p) i (moves_within p i (omega arith)) (and_from _ _ (lt-ltb (count_at c i) (moves p i) left) (le-leb (slice_index needed i) (count_at c i) past))),
)

-- one tick more
pub meeting_step : (p : Program) (v w : Visit) (needed : List ℕ) → IsVisit p v → IsVisit p w → AreNeeded p v w (slice_index needed) → (holds : Holds) → IsBegun p v w holds
    → (c d : Configuration) → c ≡ run p holds (length holds) → ((v.position ≤ count_at c v.agent) × (w.position ≤ count_at c w.agent) → ⊥) → d ≡ tick p (is_held_by p c needed) c
    → (more : Holds) → more ≡ holds ++ held_row p c needed ∷ [] → IsBegun p v w more × (d ≡ run p more (length more)) × (length more ≡ length holds + 1)
meeting_step p v w needed a b f holds g c d here open_yet next more is =
    subst (λ h. IsBegun p v w h × (d ≡ run p h (length h)) × (length h ≡ length holds + 1)) (sym is)
    (grown p v w holds g not_prepared row (those_rise test (length p)) has, next ∙ ticked ∙ ap (run p longer) (sym (long ∙ add-one n)), long)
  where
    n : ℕ
    n = length holds

    test : ℕ → Bool
    test = is_held_by p c needed

    row : List ℕ
    row = held_row p c needed

    longer : Holds
    longer = holds ++ row ∷ []

    long : length longer ≡ n + 1
    long = length_push holds row

    not_prepared : IsPrepared p v w (run p holds n) → ⊥
    not_prepared h = open_yet (subst (λ x. (v.position ≤ count_at x v.agent) × (w.position ≤ count_at x w.agent)) (sym here) ((prepared_by_counts p v w a b holds n).0 h))

    has : (i : ℕ) → Contains row i ↔ IsHeldBack p v w (run p holds n) i
    has i = subst (λ x. Contains row i ↔ IsHeldBack p v w x i) here (held_has p v w needed f c i)

    this : get_or longer n [] ≡ row
    this = get_or_push holds row [] n refl

    agree : (i : ℕ) → i < length p → test i ≡ is_among (get_or longer n []) i
    agree i l =
        both_ways (test i) (is_among (get_or longer n []) i)
        (λ t. subst (λ r. is_among r i ≡ true) (sym this) (Contains-any i row (those_keep test (length p) i l t)))
        (λ t. those_has test (length p) i (any_Contains i row (subst (λ r. is_among r i ≡ true) this t)))

    ticked : tick p test c ≡ run p longer (suc n)
    ticked =
        tick_agree p test (is_held longer n) c agree
        ∙ ap (tick p (is_held longer n)) (here ∙ sym (run_same p longer holds n (λ x l. get_or_append_left holds (row ∷ []) [] x l)))

-- the end: both have arrived, or the ticks are as many as the levels
pub meeting_arrived : (p : Program) (v w : Visit) → IsVisit p v → IsVisit p w → (holds : Holds) → IsBegun p v w holds → (c : Configuration) → c ≡ run p holds (length holds)
    → (v.position ≤ count_at c v.agent) × (w.position ≤ count_at c w.agent) → AreBreakingHolds p v w holds
meeting_arrived p v w a b holds g c here h =
    record { rising = g.rising; rows = g.rows; sooner = g.sooner; prepared = (prepared_by_counts p v w a b holds (length holds)).1 (subst (λ x. (v.position ≤ count_at x v.agent) × (w.position ≤ count_at x w.agent)) here h) }

meeting_late : (p : Program) (v w : Visit) (number : ActionId → ℕ) → IsNumbering p number → AreInRange p → (holds : Holds) → IsBegun p v w holds → ((a : ActionId) → IsNeededFor p v w a → number a ≤ length holds) → AreBreakingHolds p v w holds
meeting_late p v w number s range holds g low = record { rising = g.rising; rows = g.rows; sooner = g.sooner; prepared = prepared_at p number s range v w holds g (length holds) (omega arith) low }

-- with a numbering there is one by numbers up to that of all actions
pub short_numbers : (p : Program) → AreInRange p → (number : ActionId → ℕ) → IsNumbering p number → (short : ActionId → ℕ) × IsNumbering p short × ((a : ActionId) → IsAction p a → short a ≤ total_moves p)
short_numbers p range number s =
    let long = longest_exists p range number s in
    let f = finish_exists p [] range long.0 long.1.most in
    let few : f.0 ≤ total_moves p = longest_small p range number s f.0 (unheld_is_longest p range f.0 f.1) in (
      done_after p [] f.0,
      run_numbers p [] f.0 f.1.holds,
      (λ a k.
          let l : done_after p [] f.0 a ≤ f.0 = (done_first p [] f.0 f.1.holds a k).least f.0 (le-leb a.number (count_at (run p [] f.0) a.agent) (finished_says p (run p [] f.0) f.1.holds a k)) in
          omega arith),
    )

-- after as many ticks as there are actions all that is needed is finished
pub meeting_last : (p : Program) (v w : Visit) → (number : ActionId → ℕ) × IsNumbering p number → AreInRange p → (holds : Holds) → IsBegun p v w holds → total_moves p ≤ length holds → AreBreakingHolds p v w holds
meeting_last p v w (number, s) range holds g l =
    let short = short_numbers p range number s in
    meeting_late p v w short.0 short.1 range holds g (λ a k. omega (arith, short.2 a (needed_action p v w a k)))

pub meeting_start : (p : Program) (v w : Visit) (holds : Holds) → holds ≡ [] → (c : Configuration) → c ≡ opening p → IsBegun p v w holds × (c ≡ run p holds (length holds)) × (length holds ≡ 0)
meeting_start p v w holds e c here =
    subst (λ h. IsBegun p v w h × (c ≡ run p h (length h)) × (length h ≡ 0)) (sym e)
    (record { rising = λ t k m. absurd (omega arith); rows = λ t i l. absurd (omega arith); sooner = λ t l. absurd (omega arith) }, here, refl)
