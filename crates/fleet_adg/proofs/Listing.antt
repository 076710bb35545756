-- The visits of a cell in a compiled program, listed by the time of entering: each but the first awaits that the one
-- before has left.
use Rattle.fleet_adg.proofs.Words.{◌≡◌, ◌≢◌, ℕ, zero, suc, ◌+◌, ◌<◌, ◌≤◌, Bool, true, false, List, [], ◌∷◌, ◌++◌, length, get_or, slice_get, All, Contains, Some, ◌⊎◌, inl, inr, refl, sym, ap, ◌∙◌, subst, arith, add-one, ℤ, pos, negsuc, cases_lt, cases_Bool, cases_eq, none-some, slice_get_within, get_or_from_slice_get, slice_get-get_or, length_push, get_or_push, get_or_append_left, All-push, All-weaker, All-nil, Contains-append_left, Contains-push, Cell, Place, Visit, Deps, is_same_cell, place_of, awaits_of, path, IsVisitOf, ListsVisits, Adjacent, ComesAfterByAwait, IsOrderly, Task, Plan, cell_of, steps, IsConflictFree, changes_in, moves_by, compiled, is_same_cell-true, is_same_cell-eq, place_of-injective, goes_next, goes_enters}
use Rattle.fleet_adg.proofs.Basics.{last_cases}
use Rattle.fleet_adg.proofs.Moves.{changes_in-same, changes_in-end, moves_by-yes, moves_by-no, moves_by-mono, time_of_count}
use Rattle.fleet_adg.proofs.Follow.{only_one}
use Rattle.fleet_adg.proofs.Entry.{entry-complete}
use Rattle.fleet_adg.proofs.Programs.{length-compiled, moves-compiled, action_in-step, path-compiled, goes-compiled}

-- ---- lists

adjacent_push : (R : Visit → Visit → Type 0) (us : List Visit) (u v : Visit) → Adjacent R (us ++ u ∷ []) → R u v → Adjacent R ((us ++ u ∷ []) ++ v ∷ [])
adjacent_push R [] u v a r = (r, tt)
adjacent_push R (x ∷ []) u v (p, a) r = (p, (r, tt))
adjacent_push R (x ∷ y ∷ us) u v (p, a) r = (p, adjacent_push R (y ∷ us) u v a r)

-- each element stands once
abbrev Once : List Visit → Type 0
Once vs = (j k : ℕ) (v : Visit) → slice_get vs j ≡ Some v → slice_get vs k ≡ Some v → j ≡ k

push_cases : (vs : List Visit) (u : Visit) (k : ℕ) (v : Visit) → slice_get (vs ++ u ∷ []) k ≡ Some v → (slice_get vs k ≡ Some v) ⊎ ((k ≡ length vs) × (u ≡ v))
push_cases vs u k v e =
    let l : k < length vs + 1 = omega (arith, slice_get_within (vs ++ u ∷ []) k v e, length_push vs u) in
    let g : get_or (vs ++ u ∷ []) k v ≡ v = get_or_from_slice_get (vs ++ u ∷ []) k v v e in
    elim (cases_lt k (length vs)) [
      | inl m ↦ inl (slice_get-get_or vs k v m ∙ ap Some (sym (get_or_append_left vs (u ∷ []) v k m) ∙ g))
      | inr m ↦ let z : k ≡ length vs = omega arith in inr (z, sym (get_or_push vs u v k (sym z)) ∙ g)
    ]

once_push : (vs : List Visit) (u : Visit) → Once vs → ((k : ℕ) → slice_get vs k ≡ Some u → ⊥) → Once (vs ++ u ∷ [])
once_push vs u once new j k v p q =
    elim (push_cases vs u j v p) [
      | inl a ↦ elim (push_cases vs u k v q) [
        | inl b ↦ once j k v a b
        | inr b ↦ absurd (new j (a ∙ ap Some (sym b.1)))
      ]
      | inr a ↦ elim (push_cases vs u k v q) [
        | inl b ↦ absurd (new k (b ∙ ap Some (sym a.1)))
        | inr b ↦ omega (arith, a.0, b.0)
      ]
    ]

-- ---- the listing

-- the visit that agent i makes at time t
abbrev visit_at : Plan → ℕ → ℕ → Visit
visit_at plan i t = record { agent = i; position = moves_by plan i t }

record IsVisitTo (plan : Plan) (q : Cell) (t : ℕ) (v : Visit) : Type 0 where
  agent : v.agent < length plan
  time : (s : ℕ) × (s ≤ t) × (cell_of plan v.agent s ≡ q) × (v.position ≡ moves_by plan v.agent s)

-- nobody stands on q after time s, up to time t
abbrev IsDeserted : Plan → Cell → ℕ → ℕ → Type 0
IsDeserted plan q s t = (u k : ℕ) → s < u → u ≤ t → k < length plan → cell_of plan k u ≢ q

-- the last visit of the list is by j, who stood on q at time s, and nobody since
record EndsWith (plan : Plan) (q : Cell) (t : ℕ) (vs : List Visit) : Type 0 where
  before : List Visit
  agent : ℕ
  time : ℕ
  is : vs ≡ before ++ visit_at plan agent time ∷ []
  below : agent < length plan
  past : time ≤ t
  on : cell_of plan agent time ≡ q
  left : IsDeserted plan q time t

-- the visits of q that are begun up to time t
record IsListingTo (plan : Plan) (deps : Deps) (q : Cell) (t : ℕ) (vs : List Visit) : Type 0 where
  all : (i s : ℕ) → i < length plan → s ≤ t → cell_of plan i s ≡ q → Contains vs (visit_at plan i s)
  only : All (IsVisitTo plan q t) vs
  once : Once vs
  adjacent : Adjacent (ComesAfterByAwait (compiled plan deps)) vs
  end : ((vs ≡ []) × ((u k : ℕ) → u ≤ t → k < length plan → cell_of plan k u ≢ q)) ⊎ EndsWith plan q t vs

later : (plan : Plan) (q : Cell) (t : ℕ) (v : Visit) → IsVisitTo plan q t v → IsVisitTo plan q (suc t) v
later plan q t v h = record { agent = h.agent; time = (h.time.0, omega (arith, h.time.1), h.time.2, h.time.3) }

same_visit : (plan : Plan) (i j s t : ℕ) → i ≡ j → moves_by plan i s ≡ moves_by plan i t → visit_at plan i s ≡ visit_at plan j t
same_visit plan i j s t e m = ap (λ p. record { agent = i; position = p }) m ∙ ap (λ k. visit_at plan k t) e

module _ (passable : Place → Bool) (tasks : List Task) (plan : Plan) (free : IsConflictFree passable tasks plan) (deps : Deps) where
  -- who stands on q at time t, if anybody
  who : (q : Cell) (t : ℕ) → ((i : ℕ) × (i < length plan) × (cell_of plan i t ≡ q)) ⊎ ((k : ℕ) → k < length plan → cell_of plan k t ≢ q)
  who q t = elim (last_cases (λ j. is_same_cell (cell_of plan j t) q) (length plan)) [
    | inl w ↦ inl (w.0, w.2.below, is_same_cell-true (cell_of plan w.0 t) q w.2.passes)
    | inr w ↦ inr (λ k b e. w.1 k b (is_same_cell-eq (cell_of plan k t) q e))
  ]

  alone : (q : Cell) (t i j : ℕ) → i < length plan → j < length plan → cell_of plan i t ≡ q → cell_of plan j t ≡ q → i ≡ j
  alone q t i j p r e f = only_one passable tasks plan free t i j p r (e ∙ sym f)

  first_listing : (q : Cell) → (vs : List Visit) × IsListingTo plan deps q zero vs
  first_listing q = elim (who q zero) [
    | inl w ↦ (
      visit_at plan w.0 zero ∷ [],
      record {
        all = λ i s b l e.
            let z : s ≡ zero = omega arith in
            let same : w.0 ≡ i = alone q zero w.0 i w.1 b w.2 (ap (cell_of plan i) (sym z) ∙ e) in
            (zero, omega arith, same_visit plan w.0 i zero s same (ap (moves_by plan w.0) (sym z)));
        only = All-push (IsVisitTo plan q zero) [] (visit_at plan w.0 zero) (All-nil (IsVisitTo plan q zero)) (record { agent = w.1; time = (zero, omega arith, w.2, refl) });
        once = λ j k v p r. omega (arith, slice_get_within (visit_at plan w.0 zero ∷ []) j v p, slice_get_within (visit_at plan w.0 zero ∷ []) k v r);
        adjacent = tt;
        end = inr (record { before = []; agent = w.0; time = zero; is = refl; below = w.1; past = omega arith; on = w.2; left = λ u k p r b e. omega arith });
      },
    )
    | inr w ↦ (
      [],
      record {
        all = λ i s b l e. let z : s ≡ zero = omega arith in absurd (w i b (ap (cell_of plan i) (sym z) ∙ e));
        only = All-nil (IsVisitTo plan q zero);
        once = λ j k v p r. absurd (none-some v p);
        adjacent = tt;
        end = inl (refl, λ u k l b e. let z : u ≡ zero = omega arith in w k b (ap (cell_of plan k) (sym z) ∙ e));
      },
    )
  ]

  -- nobody stands on q at time t + 1
  none_listing : (q : Cell) (t : ℕ) (vs : List Visit) → IsListingTo plan deps q t vs → ((k : ℕ) → k < length plan → cell_of plan k (suc t) ≢ q) → IsListingTo plan deps q (suc t) vs
  none_listing q t vs h nobody =
      let at = λ (u k : ℕ) (b : k < length plan) (e : cell_of plan k u ≡ q) (z : u ≡ suc t). nobody k b (ap (cell_of plan k) (sym z) ∙ e) in
      record {
        all = λ i s b l e. h.all i s b (let ne : s ≢ suc t = at s i b e in omega arith) e;
        only = All-weaker (IsVisitTo plan q t) (IsVisitTo plan q (suc t)) (later plan q t) vs h.only;
        once = h.once;
        adjacent = h.adjacent;
        end = elim h.end [
          | inl w ↦ inl (w.0, λ u k l b e. w.1 u k (let ne : u ≢ suc t = at u k b e in omega arith) b e)
          | inr w ↦ inr (record { before = w.before; agent = w.agent; time = w.time; is = w.is; below = w.below; past = omega (arith, w.past); on = w.on; left = λ u k p r b e. w.left u k p (let ne : u ≢ suc t = at u k b e in omega arith) b e })
        ];
      }

  -- agent i stays on q in step t
  stay_listing : (q : Cell) (t : ℕ) (vs : List Visit) → IsListingTo plan deps q t vs → (i : ℕ) → i < length plan → cell_of plan i (suc t) ≡ q → changes_in plan i t ≡ false → IsListingTo plan deps q (suc t) vs
  stay_listing q t vs h i b on c =
      let was : cell_of plan i t ≡ q = changes_in-same plan i t c ∙ on in
      record {
        all = λ k s bk l e. elim (cases_lt t s) [
          | inl m ↦
              let z : s ≡ suc t = omega arith in
              let same : i ≡ k = alone q (suc t) i k b bk on (ap (cell_of plan k) (sym z) ∙ e) in
              subst (Contains vs) (same_visit plan i k t s same (sym (moves_by-no plan i t c) ∙ ap (moves_by plan i) (sym z))) (h.all i t b (omega arith) was)
          | inr m ↦ h.all k s bk m e
        ];
        only = All-weaker (IsVisitTo plan q t) (IsVisitTo plan q (suc t)) (later plan q t) vs h.only;
        once = h.once;
        adjacent = h.adjacent;
        end = elim h.end [
          | inl w ↦ absurd (w.1 t i (omega arith) b was)
          | inr w ↦
              let last : w.time ≡ t = elim (cases_lt w.time t) [ inl m ↦ absurd (w.left t i m (omega arith) b was) | inr m ↦ omega (arith, w.past) ] in
              let same : w.agent ≡ i = alone q t w.agent i w.below b (ap (cell_of plan w.agent) (sym last) ∙ w.on) was in
              inr (record {
                before = w.before;
                agent = i;
                time = suc t;
                is = w.is ∙ ap (λ v. w.before ++ v ∷ []) (ap (visit_at plan w.agent) last ∙ ap (λ k. visit_at plan k t) same ∙ same_visit plan i i t (suc t) refl (sym (moves_by-no plan i t c)));
                below = b;
                past = omega arith;
                on = on;
                left = λ u k p r bk e. omega arith;
              })
        ];
      }

  -- the visit that agent i begins in step t comes after the one before
  comes_after : (q : Cell) (t i j s : ℕ) → i < length plan → j < length plan → s ≤ t → cell_of plan i (suc t) ≡ q → changes_in plan i t ≡ true → cell_of plan j s ≡ q → IsDeserted plan q s t → ComesAfterByAwait (compiled plan deps) (visit_at plan j s) (visit_at plan i (suc t))
  comes_after q t i j s bi bj l on c was left = elim (cases_eq j i) [
    | inl e ↦ inl (e, subst (λ k. moves_by plan k s < moves_by plan i (suc t)) (sym e) (omega (arith, moves_by-yes plan i t c, moves_by-mono plan i s t l)))
    | inr ne ↦
        let w = entry-complete passable tasks plan free deps i t s j bi bj ne l (was ∙ sym on) (λ u k p r b e. left u k p r b (e ∙ on)) in
        let a = action_in-step plan deps i t bi (changes_in-end plan i t c) c in
        inr (w.0, subst (λ zs. Contains zs w.0) (sym a.awaits ∙ ap (awaits_of (compiled plan deps) i) (sym (moves_by-yes plan i t c))) w.1, w.2, subst (λ m. m ≤ w.0.count) (sym (goes_next (compiled plan deps) j (moves_by plan j s) (goes-compiled plan deps j bj))) (rw add-one w.3))
  ]

  -- agent i comes to q in step t
  enter_listing : (q : Cell) (t : ℕ) (vs : List Visit) → IsListingTo plan deps q t vs → (i : ℕ) → i < length plan → cell_of plan i (suc t) ≡ q → changes_in plan i t ≡ true → IsListingTo plan deps q (suc t) (vs ++ visit_at plan i (suc t) ∷ [])
  enter_listing q t vs h i b on c =
      let v = visit_at plan i (suc t) in
      record {
        all = λ k s bk l e. elim (cases_lt t s) [
          | inl m ↦
              let z : s ≡ suc t = omega arith in
              let same : i ≡ k = alone q (suc t) i k b bk on (ap (cell_of plan k) (sym z) ∙ e) in
              subst (Contains (vs ++ v ∷ [])) (same_visit plan i k (suc t) s same (ap (moves_by plan i) (sym z))) (Contains-push vs v)
          | inr m ↦ Contains-append_left vs (v ∷ []) (visit_at plan k s) (h.all k s bk m e)
        ];
        only = All-push (IsVisitTo plan q (suc t)) vs v (All-weaker (IsVisitTo plan q t) (IsVisitTo plan q (suc t)) (later plan q t) vs h.only) (record { agent = b; time = (suc t, omega arith, on, refl) });
        once = once_push vs v h.once (λ k e.
            let at = h.only k v (slice_get_within vs k v e) in
            let w = subst (IsVisitTo plan q t) (get_or_from_slice_get vs k v v e) at in
            omega (arith, w.time.1, w.time.3, moves_by-yes plan i t c, moves_by-mono plan i w.time.0 t w.time.1));
        adjacent = elim h.end [
          | inl w ↦ subst (λ zs. Adjacent (ComesAfterByAwait (compiled plan deps)) (zs ++ v ∷ [])) (sym w.0) tt
          | inr w ↦ subst (λ zs. Adjacent (ComesAfterByAwait (compiled plan deps)) (zs ++ v ∷ [])) (sym w.is) (adjacent_push (ComesAfterByAwait (compiled plan deps)) w.before (visit_at plan w.agent w.time) v (subst (Adjacent (ComesAfterByAwait (compiled plan deps))) w.is h.adjacent) (comes_after q t i w.agent w.time b w.below w.past on c w.on w.left))
        ];
        end = inr (record { before = vs; agent = i; time = suc t; is = refl; below = b; past = omega arith; on = on; left = λ u k p r bk e. omega arith });
      }

  listing_to : (q : Cell) (t : ℕ) → (vs : List Visit) × IsListingTo plan deps q t vs
  listing_to q zero = first_listing q
  listing_to q (suc t) =
      let before = listing_to q t in
      elim (who q (suc t)) [
        | inl w ↦ elim (cases_Bool (changes_in plan w.0 t)) [
          | inl c ↦ (before.0 ++ visit_at plan w.0 (suc t) ∷ [], enter_listing q t before.0 before.1 w.0 w.1 w.2 c)
          | inr c ↦ (before.0, stay_listing q t before.0 before.1 w.0 w.1 w.2 c)
        ]
        | inr w ↦ (before.0, none_listing q t before.0 before.1 w)
      ]

  -- ---- as the visits of the program

  -- the time of a visit
  time_of_visit : (q : Place) (v : Visit) → IsVisitOf (compiled plan deps) q v → (v.agent < length plan) × (s : ℕ) × (s ≤ steps plan) × (moves_by plan v.agent s ≡ v.position) × (place_of (cell_of plan v.agent s) ≡ q)
  time_of_visit q v h =
      let b : v.agent < length plan = omega (arith, h.agent, length-compiled plan deps) in
      let w = time_of_count plan v.agent (steps plan) v.position (omega (arith, h.position, moves-compiled plan deps v.agent b)) in
      (b, w.0, w.1, w.2, sym (path-compiled passable tasks plan free deps v.agent w.0 b w.1) ∙ ap (path (compiled plan deps) v.agent) w.2 ∙ h.place)

  is_visit : (q : Cell) (v : Visit) → IsVisitTo plan q (steps plan) v → IsVisitOf (compiled plan deps) (place_of q) v
  is_visit q v h = record {
    agent = omega (arith, h.agent, length-compiled plan deps);
    position = omega (arith, h.time.3, moves-compiled plan deps v.agent h.agent, moves_by-mono plan v.agent h.time.0 (steps plan) h.time.1);
    entered = goes_enters (compiled plan deps) v.agent v.position (goes-compiled plan deps v.agent h.agent) (omega (arith, h.time.3, moves-compiled plan deps v.agent h.agent, moves_by-mono plan v.agent h.time.0 (steps plan) h.time.1));
    place = ap (path (compiled plan deps) v.agent) h.time.3 ∙ path-compiled passable tasks plan free deps v.agent h.time.0 h.agent h.time.1 ∙ ap place_of h.time.2;
  }

  lists_visits : (q : Cell) (vs : List Visit) → IsListingTo plan deps q (steps plan) vs → ListsVisits (compiled plan deps) (place_of q) vs
  lists_visits q vs h = record {
    all = λ v m.
        let w = time_of_visit (place_of q) v m in
        let same : visit_at plan v.agent w.1 ≡ v = (λ i. record { agent = v.agent; position = w.3 i }) in
        subst (Contains vs) same (h.all v.agent w.1 w.0 w.2 (place_of-injective (cell_of plan v.agent w.1) q w.4));
    only = All-weaker (IsVisitTo plan q (steps plan)) (IsVisitOf (compiled plan deps) (place_of q)) (is_visit q) vs h.only;
    once = h.once;
  }

  cell_or_none : (q : Place) → ((c : Cell) × (place_of c ≡ q)) ⊎ ((c : Cell) → place_of c ≢ q)
  cell_or_none q = go q.x q.y refl refl
    where
      go : (x y : ℤ) → q.x ≡ x → q.y ≡ y → ((c : Cell) × (place_of c ≡ q)) ⊎ ((c : Cell) → place_of c ≢ q)
      go (pos a) (pos b) ex ey = inl (record { x = a; y = b }, λ i. record { x = sym ex i; y = sym ey i })
      go (pos a) (negsuc b) ex ey = inr (λ c e. let h = ap (λ (p : Place). p.y) e in cc)
      go (negsuc a) y ex ey = inr (λ c e. let h = ap (λ (p : Place). p.x) e in cc)

  pub compiled-orderly : IsOrderly ComesAfterByAwait (compiled plan deps)
  compiled-orderly q = elim (cell_or_none q) [
    | inl w ↦
        let l = listing_to w.0 (steps plan) in
        (l.0, subst (λ z. ListsVisits (compiled plan deps) z l.0) w.1 (lists_visits w.0 l.0 l.1), l.1.adjacent)
    | inr none ↦ (
      [],
      record {
        all = λ v m. let w = time_of_visit q v m in absurd (none (cell_of plan v.agent w.1) w.4);
        only = All-nil (IsVisitOf (compiled plan deps) q);
        once = λ j k v p r. absurd (none-some v p);
      },
      tt,
    )
  ]
