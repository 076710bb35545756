-- The run without holds.
use Rattle.fleet_verify.proofs.Words.{◌≡◌, ℕ, zero, suc, ◌+◌, ◌-◌, ◌<◌, ◌≤◌, Bool, true, false, List, [], ◌∷◌, ◌++◌, length, map, get_or, nat_le, refl, ap, sym, ◌∙◌, subst, arith, inl, inr, leb-true, le-leb, add-one, ◌≢◌, IsTrue, All, slice_get, Some, ◌==◌, ◌⊎◌, leb-false, false-eqb, Contains, AllPairs, cases_eq, cases_lt, get_or_default, append_assoc, append-nil, Contains-push, Contains-push_cases, Contains-append_left, all_pairs_push, get_or-map-range_with_len, length-map-range_with_len, ActionId, Visit, count_at, indices, run, is_held, is_ready, is_finished, IsLeast, Holds, Program, moves, AreInRange, path, IsAction, IsLevel, EndsChain, entering, is_entry, ListsVisits, Adjacent, ComesAfterByChain, IsOrderly, slice_get-get_or, slice_get_within, same_Some, Place, Motion, HasVertexConflict, HasFollowingConflict, HasCycleConflict, motion, IsFree, HasBegun, HasLeft, IsOwnedInTurn, IsDistinct, AreLevels, entry_level, IsBefore, begun_by, begun_in}
use Rattle.fleet_verify.proofs.RunCounts.{counts, readies, run_counts, count_opening, run_place, run_held, held_at_most, finished_all, unfinished_ends, ends_in_time, within_moves}
use Rattle.fleet_verify.proofs.Waiting.{step, ready_says, ready_from}
use Rattle.fleet_verify.proofs.Finish.{count_grows, count_grows_to, count_within, done_after, done_first}
use Rattle.fleet_verify.proofs.Listing.{entry_start, entry_later}
use Rattle.fleet_verify.proofs.UnderWay.{begun_yes, begun_no}
use Rattle.fleet_verify.proofs.Members.{same_visit}
use Rattle.fleet_verify.proofs.Owned.{all_left_before, no_vertex, no_following}

-- what a tick without holds finishes ends a chain of as many actions as there were ticks, and no longer one
pub tick_level : (p : Program) → AreInRange p → (t : ℕ) (b : ActionId) → IsAction p b → count_at (run p [] t) b.agent < b.number → b.number ≤ count_at (run p [] (suc t)) b.agent → IsLevel p b (suc t)
tick_level p range t b act not_yet done =
    let r = unfinished_ends p (is_held []) (readies p []) (counts p []) (run_counts p []) range (Rattle.fleet_model.specs.Machine.held_ticks p []) (run_held p []) t b act not_yet in
    let e : r.0 ≡ suc t = omega (arith, r.1, held_at_most p [] t) in
    record {
      some = subst (λ (m : ℕ). EndsChain p m b) e r.2;
      most = λ m h. ends_in_time p (is_held []) (readies p []) (counts p []) (run_counts p []) range (suc t) m b h done;
    }

pub levels_are : (p : Program) → AreInRange p → (f : ℕ) → is_finished p (run p [] f) ≡ true → AreLevels p (done_after p [] f)
levels_are p range f fin a act = go (done_after p [] f a) (done_first p [] f fin a act)
  where
    go : (n : ℕ) → IsLeast (λ t. nat_le a.number (count_at (run p [] t) a.agent)) n → IsLevel p a n
    go zero l = absurd (let e : count_at (run p [] 0) a.agent ≡ 0 = count_opening p [] a.agent in let h = leb-true a.number (count_at (run p [] 0) a.agent) l.holds in let k : 1 ≤ a.number = act.first in omega arith)
    go (suc t) l = elim (cases_lt (count_at (run p [] t) a.agent) a.number) [
      | inl not_yet ↦ tick_level p range t a act not_yet (leb-true a.number (count_at (run p [] (suc t)) a.agent) l.holds)
      | inr h ↦ absurd (let g : suc t ≤ t = l.least t (le-leb a.number (count_at (run p [] t) a.agent) h) in omega arith)
    ]

-- who is ready finishes an action, and everybody else stays
pub ready_moves : (p : Program) (t n : ℕ) → n < length p → is_ready p (run p [] t) n ≡ true → count_at (run p [] (suc t)) n ≡ suc (count_at (run p [] t) n)
ready_moves p t n l e = elim (step p [] t n l) [ inl m ↦ m.count | inr s ↦ absurd (let h = s.why (ready_says p (run p [] t) n e) in cc) ]

pub unready_stays : (p : Program) (t n : ℕ) → n < length p → is_ready p (run p [] t) n ≡ false → count_at (run p [] (suc t)) n ≡ count_at (run p [] t) n
unready_stays p t n l e = elim (step p [] t n l) [ inl m ↦ absurd (let h = ready_from p (run p [] t) n m.ready in cc) | inr s ↦ s.count ]

module _ (p : Program) (f : ℕ) (fin : is_finished p (run p [] f) ≡ true) where
  abbrev pub level : ActionId → ℕ
  level = done_after p [] f

  entry_action : (v : Visit) → v.agent < length p → 1 ≤ v.position → v.position ≤ moves p v.agent → IsAction p (entering v)
  entry_action v a b c = record { agent = a; first = b; last = c }

  -- a visit that has begun has no higher level than there were ticks
  pub level_by : (v : Visit) (s : ℕ) → v.agent < length p → v.position ≤ count_at (run p [] s) v.agent → entry_level level v ≤ s
  level_by v s a h = elim (cases_eq v.position 0) [
    | inl e ↦ omega (arith, entry_start level v e)
    | inr ne ↦
        let act = entry_action v a (omega arith) (omega (arith, count_within p [] s v.agent)) in
        omega (arith, entry_later level v (omega arith), (done_first p [] f fin (entering v) act).least s (le-leb v.position (count_at (run p [] s) v.agent) h))
  ]

  -- one that begins in a tick has that level
  pub level_at : (v : Visit) (t : ℕ) → v.agent < length p → count_at (run p [] t) v.agent < v.position → v.position ≤ count_at (run p [] (suc t)) v.agent → entry_level level v ≡ suc t
  level_at v t a not_yet done =
      let act = entry_action v a (omega arith) (omega (arith, count_within p [] (suc t) v.agent)) in
      let l = done_first p [] f fin (entering v) act in
      let up = level_by v (suc t) a done in
      let e = entry_later level v (omega arith) in
      elim (cases_lt t (level (entering v))) [
        | inl h ↦ omega arith
        | inr h ↦ absurd (
            let there : v.position ≤ count_at (run p [] (level (entering v))) v.agent = leb-true v.position (count_at (run p [] (level (entering v))) v.agent) l.holds in
            let same : level (entering v) + (t - level (entering v)) ≡ t = omega arith in
            let grown : count_at (run p [] (level (entering v))) v.agent ≤ count_at (run p [] t) v.agent =
            subst (λ s. count_at (run p [] (level (entering v))) v.agent ≤ count_at (run p [] s) v.agent) same (count_grows_to p [] (level (entering v)) (t - level (entering v)) v.agent) in
            omega arith)
      ]

  -- ---- the visits in the order in which they begin

  -- it began in the first t ticks, or in the next one as one of the first n agents
  abbrev IsBegun : ℕ → ℕ → Visit → Type 0
  IsBegun t n v = (v.position ≤ count_at (run p [] t) v.agent) ⊎ ((v.agent < n) × (v.position ≤ count_at (run p [] (suc t)) v.agent))

  pub record IsOrder (Begun : Visit → Type 0) (visits : List Visit) : Type 0 where
    pub all : (v : Visit) → v.agent < length p → Begun v → Contains visits v
    pub only : (v : Visit) → Contains visits v → (v.agent < length p) × Begun v
    pub sorted : AllPairs (IsBefore level) visits

  -- one more agent of a tick, which finishes an action
  order_moved : (t n : ℕ) (visits : List Visit) → n < length p → count_at (run p [] (suc t)) n ≡ suc (count_at (run p [] t) n) → IsOrder (IsBegun t n) visits
      → IsOrder (IsBegun t (n + 1)) (visits ++ record { agent = n; position = count_at (run p [] t) n + 1 } ∷ [])
  order_moved t n visits inside more h = record {
    all = all;
    only = λ v k. only v (Contains-push_cases visits new v k);
    sorted = all_pairs_push (IsBefore level) visits new h.sorted (λ k d l. before (get_or visits k d) (h.only (get_or visits k d) (k, l, get_or_default visits k (get_or visits k d) d l)));
  }
    where
      new : Visit
      new = record { agent = n; position = count_at (run p [] t) n + 1 }

      new_level : entry_level level new ≡ suc t
      new_level = level_at new t inside (omega arith) (omega (arith, more))

      all : (v : Visit) → v.agent < length p → IsBegun t (n + 1) v → Contains (visits ++ new ∷ []) v
      all v a (inl b) = Contains-append_left visits (new ∷ []) v (h.all v a (inl b))
      all v a (inr (l, b)) = elim (cases_eq v.agent n) [
        | inr ne ↦ Contains-append_left visits (new ∷ []) v (h.all v a (inr (omega arith, b)))
        | inl e ↦
            let c : count_at (run p [] (suc t)) v.agent ≡ count_at (run p [] (suc t)) n = ap (count_at (run p [] (suc t))) e in
            let d : count_at (run p [] t) v.agent ≡ count_at (run p [] t) n = ap (count_at (run p [] t)) e in
            elim (cases_eq v.position (count_at (run p [] t) n + 1)) [
              | inl g ↦ subst (Contains (visits ++ new ∷ [])) (sym (same_visit v new e g)) (Contains-push visits new)
              | inr ne ↦ Contains-append_left visits (new ∷ []) v (h.all v a (inl (omega (arith, more))))
            ]
      ]

      only : (v : Visit) → Contains visits v ⊎ (new ≡ v) → (v.agent < length p) × IsBegun t (n + 1) v
      only v (inl k) = let r = h.only v k in (r.0, elim r.1 [ inl b ↦ inl b | inr (l, b) ↦ inr (omega arith, b) ])
      only v (inr e) = subst (λ w. (w.agent < length p) × IsBegun t (n + 1) w) e (inside, inr (omega arith, omega (arith, more)))

      before : (v : Visit) → (v.agent < length p) × IsBegun t n v → IsBefore level v new
      before v (a, inl b) = inl (omega (arith, level_by v t a b, new_level))
      before v (a, inr (l, b)) = elim (cases_eq (entry_level level v) (suc t)) [
        | inl e ↦ inr (omega (arith, new_level, e), inl l)
        | inr ne ↦ inl (omega (arith, level_by v (suc t) a b, new_level))
      ]

  -- one more agent of a tick, which stays
  order_stayed : (t n : ℕ) (visits : List Visit) → count_at (run p [] (suc t)) n ≡ count_at (run p [] t) n → IsOrder (IsBegun t n) visits → IsOrder (IsBegun t (n + 1)) visits
  order_stayed t n visits same h = record { all = all; only = λ v k. only v (h.only v k); sorted = h.sorted }
    where
      all : (v : Visit) → v.agent < length p → IsBegun t (n + 1) v → Contains visits v
      all v a (inl b) = h.all v a (inl b)
      all v a (inr (l, b)) = elim (cases_eq v.agent n) [
        | inr ne ↦ h.all v a (inr (omega arith, b))
        | inl e ↦
            let c : count_at (run p [] (suc t)) v.agent ≡ count_at (run p [] (suc t)) n = ap (count_at (run p [] (suc t))) e in
            let d : count_at (run p [] t) v.agent ≡ count_at (run p [] t) n = ap (count_at (run p [] t)) e in
            h.all v a (inl (omega arith))
      ]

      only : (v : Visit) → (v.agent < length p) × IsBegun t n v → (v.agent < length p) × IsBegun t (n + 1) v
      only v (a, inl b) = (a, inl b)
      only v (a, inr (l, b)) = (a, inr (omega arith, b))

  abbrev DoneBy : ℕ → Visit → Type 0
  DoneBy t v = v.position ≤ count_at (run p [] t) v.agent

  order_tick : (t n : ℕ) (visits : List Visit) → n ≤ length p → IsOrder (DoneBy t) visits → IsOrder (IsBegun t n) (visits ++ begun_by (is_ready p (run p [] t)) (count_at (run p [] t)) n)
  order_tick t zero visits l h = subst (IsOrder (IsBegun t 0)) (sym (append-nil visits)) (record {
    all = λ v a b. elim b [ inl c ↦ h.all v a c | inr c ↦ absurd (omega (arith, c.0)) ];
    only = λ v k. let r = h.only v k in (r.0, inl r.1);
    sorted = h.sorted;
  })
  order_tick t (suc n) visits l h = subst (λ m. IsOrder (IsBegun t m) (visits ++ begun_by ready count m)) (add-one n) (go (ready n) refl (order_tick t n visits (omega arith) h))
    where
      ready : ℕ → Bool
      ready = is_ready p (run p [] t)

      count : ℕ → ℕ
      count = count_at (run p [] t)

      go : (b : Bool) → ready n ≡ b → IsOrder (IsBegun t n) (visits ++ begun_by ready count n) → IsOrder (IsBegun t (n + 1)) (visits ++ begun_by ready count (n + 1))
      go true e before =
          let same : (visits ++ begun_by ready count n) ++ record { agent = n; position = count n + 1 } ∷ [] ≡ visits ++ begun_by ready count (n + 1) =
          append_assoc visits (begun_by ready count n) (record { agent = n; position = count n + 1 } ∷ []) ∙ ap (λ vs. visits ++ vs) (sym (begun_yes ready count n e)) in
          subst (IsOrder (IsBegun t (n + 1))) same (order_moved t n (visits ++ begun_by ready count n) (omega arith) (ready_moves p t n (omega arith) e) before)
      go false e before =
          subst (IsOrder (IsBegun t (n + 1))) (ap (λ vs. visits ++ vs) (sym (begun_no ready count n e))) (order_stayed t n (visits ++ begun_by ready count n) (unready_stays p t n (omega arith) e) before)

  starts : List Visit
  starts = map (λ i. record { agent = i; position = 0 }) (indices (length p))

  start_at : (k : ℕ) (d : Visit) → k < length p → get_or starts k d ≡ record { agent = k; position = 0 }
  unfolding starts
  start_at k d l = get_or-map-range_with_len (λ i. record { agent = i; position = 0 }) 0 (length p) k k d l (omega arith)

  starts_long : length starts ≡ length p
  unfolding starts
  starts_long = length-map-range_with_len {X = Visit} (λ i. record { agent = i; position = 0 }) 0 (length p)

  order_start : IsOrder (DoneBy 0) starts
  order_start = record { all = all; only = only; sorted = sorted }
    where
      all : (v : Visit) → v.agent < length p → DoneBy 0 v → Contains starts v
      all v a b =
          let z : v.position ≡ 0 = omega (arith, b, count_opening p [] v.agent) in
          (v.agent, omega (arith, starts_long), start_at v.agent v a ∙ same_visit (record { agent = v.agent; position = 0 }) v refl (sym z))

      only : (v : Visit) → Contains starts v → (v.agent < length p) × DoneBy 0 v
      only v (k, l, e) =
          let h : k < length p = omega (arith, starts_long) in
          let g : record { agent = k; position = 0 } ≡ v = sym (start_at k v h) ∙ e in
          subst (λ w. (w.agent < length p) × DoneBy 0 w) g (h, omega arith)

      sorted : AllPairs (IsBefore level) starts
      sorted i j d l m =
          let hj : j < length p = omega (arith, starts_long) in
          let hi : i < length p = omega arith in
          subst (λ v. IsBefore level v (get_or starts j d)) (sym (start_at i d hi)) (subst (IsBefore level (record { agent = i; position = 0 })) (sym (start_at j d hj))
          (inr (entry_start level (record { agent = i; position = 0 }) refl ∙ sym (entry_start level (record { agent = j; position = 0 }) refl), inl l)))

  -- all visits of the first t ticks
  pub order_of : (t : ℕ) → IsOrder (DoneBy t) (begun_in p t)
  unfolding begun_in starts
  order_of zero = order_start
  order_of (suc t) =
      let h = order_tick t (length p) (begun_in p t) (omega arith) (order_of t) in
      record {
        all = λ v a b. h.all v a (inr (a, b));
        only = λ v k. let r = h.only v k in (r.0, elim r.1 [ inl b ↦ omega (arith, count_grows p [] t v.agent) | inr b ↦ b.1 ]);
        sorted = h.sorted;
      }

  -- a run that is finished has begun them all
  pub order_all : IsOrder (λ v. v.position ≤ moves p v.agent) (begun_in p f)
  order_all = let h = order_of f in record {
    all = λ v a b. h.all v a (omega (arith, finished_all p (run p [] f) fin v.agent a));
    only = λ v k. let r = h.only v k in (r.0, omega (arith, r.1, count_within p [] f v.agent));
    sorted = h.sorted;
  }

-- ---- conflicts

all_entered : (p : Program) (q : Place) (vs : List Visit) → ListsVisits p q vs → All (λ v. IsTrue (is_entry p v.agent v.position)) vs
all_entered p q vs lists k d lt = (lists.only k d lt).entered

vertex_free : (p : Program) (holds : Holds) → IsOrderly ComesAfterByChain p → (x i j : ℕ) → i < length p → j < length p → HasVertexConflict (motion p holds) x i j → ⊥
vertex_free p holds orderly x i j hi hj h =
    let q = path p i (counts p holds x i) in
    let l = orderly q in
    let same : path p j (counts p holds x j) ≡ q = sym (run_place p holds x j hj) ∙ (sym h.same ∙ run_place p holds x i hi) in
    no_vertex p (is_held holds) (readies p holds) (counts p holds) (run_counts p holds) l.0 (all_entered p q l.0 l.1) l.2 q l.1 x i j hi hj h.apart refl same

following_free : (p : Program) (holds : Holds) → IsOrderly ComesAfterByChain p → (x i j : ℕ) → i < length p → j < length p → HasFollowingConflict (motion p holds) x i j → ⊥
following_free p holds orderly x i j hi hj h =
    let q = path p j (counts p holds x j) in
    let l = orderly q in
    let next : x + 1 ≡ suc x = omega arith in
    let same : motion p holds (suc x) i ≡ motion p holds x j = subst (λ (y : ℕ). motion p holds y i ≡ motion p holds x j) next h.same in
    let here : path p i (counts p holds (suc x) i) ≡ q = sym (run_place p holds (suc x) i hi) ∙ (same ∙ run_place p holds x j hj) in
    no_following p (is_held holds) (readies p holds) (counts p holds) (run_counts p holds) l.0 (all_entered p q l.0 l.1) l.2 q l.1 x i j hi hj h.apart here refl

-- the first two of a ring are apart, and the first follows the second
ring_apart : (ring : List ℕ) → 3 ≤ length ring → IsDistinct ◌==◌ ring → get_or ring 0 0 ≢ get_or ring 1 (get_or ring 0 0)
unfolding IsDistinct
ring_apart [] three distinct e = omega arith
ring_apart (a ∷ []) three distinct e = omega arith
ring_apart (a ∷ b ∷ ring) three distinct e = false-eqb a b (sym distinct.0.0) e

cycle_follows : (at : Motion) (x : ℕ) (ring : List ℕ) → HasCycleConflict at x ring → HasFollowingConflict at x (get_or ring 0 0) (get_or ring 1 (get_or ring 0 0))
cycle_follows at x ring h = record { apart = ring_apart ring h.three h.distinct; same = h.next 0 (omega (arith, h.three)) }

pub runs_free : (p : Program) (holds : Holds) → IsOrderly ComesAfterByChain p → IsFree (length p) (motion p holds)
runs_free p holds orderly = record {
  vertex = vertex_free p holds orderly;
  following = following_free p holds orderly;
  swapping = λ x i j hi hj h. following_free p holds orderly x i j hi hj (record { apart = λ e. h.changed (ap (motion p holds x) e); same = h.there });
  cycle = λ x ring all h. following_free p holds orderly x (get_or ring 0 0) (get_or ring 1 (get_or ring 0 0)) (all 0 0 (omega (arith, h.three))) (all 1 (get_or ring 0 0) (omega (arith, h.three))) (cycle_follows (motion p holds) x ring h);
}

-- ---- passable places

pub runs_on_ground : (passable : Place → Bool) (p : Program) (holds : Holds) → ((i n : ℕ) → i < length p → n ≤ moves p i → IsTrue (passable (path p i n)))
    → (x i : ℕ) → i < length p → IsTrue (passable (motion p holds x i))
runs_on_ground passable p holds on x i h =
    subst (λ (q : Place). IsTrue (passable q)) (sym (run_place p holds x i h)) (on i (counts p holds x i) h (within_moves p (is_held holds) (readies p holds) (counts p holds) (run_counts p holds) x i))

-- ---- ownership

-- how far a test holds of the front of a list
front : (f : Visit → Bool) (vs : List Visit) → (b : ℕ) × (b ≤ length vs) × ((k : ℕ) (v : Visit) → k < b → slice_get vs k ≡ Some v → f v ≡ true) × ((v : Visit) → slice_get vs b ≡ Some v → f v ≡ false)
front f [] = (0, omega arith, λ k v h e. absurd (omega arith), λ v e. absurd cc)
front f (x ∷ xs) = go (f x) refl (front f xs)
  where
    go : (b : Bool) → f x ≡ b
        → ((b : ℕ) × (b ≤ length xs) × ((k : ℕ) (v : Visit) → k < b → slice_get xs k ≡ Some v → f v ≡ true) × ((v : Visit) → slice_get xs b ≡ Some v → f v ≡ false))
        → (b : ℕ) × (b ≤ length (x ∷ xs)) × ((k : ℕ) (v : Visit) → k < b → slice_get (x ∷ xs) k ≡ Some v → f v ≡ true) × ((v : Visit) → slice_get (x ∷ xs) b ≡ Some v → f v ≡ false)
    go false is r = (0, omega arith, λ k v h e. absurd (omega arith), λ v e. subst (λ (y : Visit). f y ≡ false) (same_Some x v e) is)
    go true is r = (suc r.0, omega (arith, r.1), pass, r.3)
      where
        pass : (k : ℕ) (v : Visit) → k < suc r.0 → slice_get (x ∷ xs) k ≡ Some v → f v ≡ true
        pass zero v h e = subst (λ (y : Visit). f y ≡ true) (same_Some x v e) is
        pass (suc k) v h e = r.2 k v (omega arith) e

pub runs_owned : (p : Program) (holds : Holds) (x : ℕ) (q : Place) (vs : List Visit) → ListsVisits p q vs → Adjacent (ComesAfterByChain p) vs → IsOwnedInTurn p vs (run p holds x)
runs_owned p holds x q vs lists adj = record {
  begun = b.0;
  within = b.1;
  first = λ k v e. (λ h. before k v e h (split k b.0), λ h. leb-true _ _ (b.2 k v h e));
  left = λ k v e h.
      let w : (w : Visit) × (slice_get vs (k + 1) ≡ Some w) = (get_or vs (k + 1) v, slice_get-get_or vs (k + 1) v (omega (arith, b.1))) in
      earlier k (k + 1) v w.0 e w.1 (omega arith) (leb-true _ _ (b.2 (k + 1) w.0 h w.1));
}
  where
    f : Visit → Bool
    f = λ v. nat_le v.position (count_at (run p holds x) v.agent)

    b : (b : ℕ) × (b ≤ length vs) × ((k : ℕ) (v : Visit) → k < b → slice_get vs k ≡ Some v → f v ≡ true) × ((v : Visit) → slice_get vs b ≡ Some v → f v ≡ false)
    b = front f vs

    earlier : (j k : ℕ) (v w : Visit) → slice_get vs j ≡ Some v → slice_get vs k ≡ Some w → j < k → HasBegun (run p holds x) w → HasLeft p (run p holds x) v
    earlier = all_left_before p (is_held holds) (readies p holds) (counts p holds) (run_counts p holds) vs (all_entered p q vs lists) adj x

    split : (k b : ℕ) → (k < b) ⊎ ((b < k) ⊎ (b ≡ k))
    split k b = grind arith

    before : (k : ℕ) (v : Visit) → slice_get vs k ≡ Some v → HasBegun (run p holds x) v → (k < b.0) ⊎ ((b.0 < k) ⊎ (b.0 ≡ k)) → k < b.0
    before k v e h (inl lt) = lt
    before k v e h (inr (inl lt)) =
        let u : (u : Visit) × (slice_get vs b.0 ≡ Some u) = (get_or vs b.0 v, slice_get-get_or vs b.0 v (omega (arith, slice_get_within vs k v e))) in
        absurd (omega (arith, earlier b.0 k u.0 v u.1 e lt h, leb-false _ _ (b.3 u.0 u.1)))
    before k v e h (inr (inr s)) = absurd (omega (arith, h, leb-false _ _ (b.3 v (ap (λ m. slice_get vs m) s ∙ e))))
