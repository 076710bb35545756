-- Orders of visits, the listing sorted by the levels of the entering actions, and the chains between two visits of a
-- place.
use Rattle.fleet_verify.proofs.Words.{◌≡◌, ℕ, zero, suc, ◌+◌, ◌<◌, ◌≤◌, Bool, true, cond, List, length, get_or, refl, sym, ap, subst, arith, inl, inr, Some, ◌∙◌, Contains, slice_get, ◌⊎◌, cases_lt, eq-eqb, ne_eqb, cases_order, Place, Await, ActionId, Visit, Task, Program, moves, awaits_of, AreInRange, IsAction, Reaches, IsNumbering, awaited, is_entry, next_move, IsVisitOf, ListsVisits, Adjacent, ComesAfterByAwait, ComesAfterByChain, entering, leaving, IsVisit, AreUnordered, IsAcceptedBy, next_upto, Reaches-first, Reaches-last, Reaches-need, ends_one, ends_more, own_reach, Reaches-rises, Reaches-trans, slice_get_within, get_or_from_slice_get, AreLevels, entry_level, IsBefore, IsSortedListing}
use Rattle.fleet_verify.proofs.Members.{contains_none}
use Rattle.fleet_verify.proofs.Neighbours.{adjacent_at, adjacent_from, same_neighbours, any_two, Found, place_in}

-- levels are a numbering
pub levels_number : (p : Program) (level : ActionId → ℕ) → AreLevels p level → IsNumbering p level
levels_number p level h = record {
  positive = λ a k. (h a k).most 1 (ends_one p a k);
  rising = λ a b k m n. omega (arith, (h a k).most (level b + 1) (ends_more p (level b) b a (h b m).some k n));
}

-- the order of two visits, as a chain
pub after_reaches : (p : Program) (q : Place) (v w : Visit) → IsVisitOf p q w → ComesAfterByChain p v w → Reaches p (leaving p v) (entering w)
after_reaches p q v w h (inl (e, l)) =
    let upto : next_move p v.agent v.position ≤ w.position = next_upto p v.agent v.position w.position l (subst (λ i. is_entry p i w.position ≡ true) (sym e) h.entered) in
    subst (λ i. Reaches p (record { agent = i; number = next_move p v.agent v.position }) (entering w)) (sym e)
    (own_reach p w.agent (next_move p v.agent v.position) w.position h.agent (omega arith) upto h.position)
after_reaches p q v w h (inr r) = r

awaits_positive : (p : Program) (i n : ℕ) (a : Await) → Contains (awaits_of p i n) a → 1 ≤ n
awaits_positive p i zero a c = absurd (contains_none a c)
awaits_positive p i (suc n) a c = omega arith

-- what is ordered by an await is ordered by a chain
pub await_chain : (p : Program) → AreInRange p → (q : Place) (v w : Visit) → IsVisitOf p q w → ComesAfterByAwait p v w → ComesAfterByChain p v w
await_chain p range q v w h (inl o) = inl o
await_chain p range q v w h (inr (a, c, e, l)) =
    let known = range w.agent w.position a c in
    let some : Reaches p (record { agent = a.agent; number = next_move p v.agent v.position }) (awaited a) = own_reach p a.agent (next_move p v.agent v.position) a.count known.agent (omega arith) l known.last in
    let start : Reaches p (leaving p v) (awaited a) = subst (λ i. Reaches p (record { agent = i; number = next_move p v.agent v.position }) (awaited a)) e some in
    let enters : IsAction p (entering w) = record { agent = h.agent; first = awaits_positive p w.agent w.position a c; last = h.position } in
    inr (Reaches-trans p (leaving p v) (awaited a) (entering w) start
    (Reaches-need p (awaited a) (entering w) (Reaches-last p (leaving p v) (awaited a) start) enters (inr c)))

pub entry_start : (number : ActionId → ℕ) (v : Visit) → v.position ≡ 0 → entry_level number v ≡ 0
entry_start number v e = ap (λ b. cond b 0 (number (entering v))) (eq-eqb v.position 0 e)

pub entry_later : (number : ActionId → ℕ) (v : Visit) → 1 ≤ v.position → entry_level number v ≡ number (entering v)
entry_later number v l = ap (λ b. cond b 0 (number (entering v))) (ne_eqb v.position 0 (λ e. omega arith))

-- a visit that comes after another has a greater rank
pub rank_rises : (p : Program) (number : ActionId → ℕ) → IsNumbering p number → (v w : Visit) → Reaches p (leaving p v) (entering w) → entry_level number v < entry_level number w
rank_rises p number s v w r =
    let left : IsAction p (leaving p v) = Reaches-first p (leaving p v) (entering w) r in
    let enters : IsAction p (entering w) = Reaches-last p (leaving p v) (entering w) r in
    let up : number (leaving p v) ≤ number (entering w) = Reaches-rises p number s (leaving p v) (entering w) r in
    let f : 1 ≤ w.position = enters.first in
    let rank : entry_level number w ≡ number (entering w) = entry_later number w f in
    let some : 1 ≤ number (entering w) = s.positive (entering w) enters in
    elim (cases_lt v.position 1) [
      | inl l ↦ (let e : entry_level number v ≡ 0 = entry_start number v (omega arith) in omega arith)
      | inr l ↦ (
          let e : entry_level number v ≡ number (entering v) = entry_later number v l in
          let m : next_move p v.agent v.position ≤ moves p v.agent = left.last in
          let next : ActionId = record { agent = v.agent; number = v.position + 1 } in
          let down : number (entering v) < number next = s.rising next (entering v) (record { agent = left.agent; first = omega arith; last = omega arith }) (record { agent = left.agent; first = l; last = omega arith }) (inl (refl, refl, l)) in
          let on : number next ≤ number (leaving p v) = Reaches-rises p number s next (leaving p v) (own_reach p v.agent (v.position + 1) (next_move p v.agent v.position) left.agent (omega arith) (omega arith) left.last) in
          omega arith)
    ]

-- neighbours in an orderly listing, as chains
pub chained : (p : Program) (q : Place) (After : Visit → Visit → Type 0) → ((v w : Visit) → IsVisitOf p q w → After v w → Reaches p (leaving p v) (entering w)) → (l : List Visit) → ListsVisits p q l → Adjacent After l → (k : ℕ) (d : Visit) → suc k < length l → Reaches p (leaving p (get_or l k d)) (entering (get_or l (suc k) d))
chained p q After gives l h a k d m = gives (get_or l k d) (get_or l (suc k) d) (h.only (suc k) d m) (adjacent_at After l a k d m)

-- a listing in which each visit may come after the one before rises in rank
pub listing_rises : (p : Program) (number : ActionId → ℕ) → IsNumbering p number → (q : Place) (After : Visit → Visit → Type 0) → ((v w : Visit) → IsVisitOf p q w → After v w → Reaches p (leaving p v) (entering w)) → (l : List Visit) → ListsVisits p q l → Adjacent After l → (k : ℕ) (d : Visit) → suc k < length l → entry_level number (get_or l k d) < entry_level number (get_or l (suc k) d)
listing_rises p number s q After gives l h a k d m = rank_rises p number s (get_or l k d) (get_or l (suc k) d) (chained p q After gives l h a k d m)

pub before_rank : (number : ActionId → ℕ) (v w : Visit) → IsBefore number v w → entry_level number v ≤ entry_level number w
before_rank number v w (inl l) = omega arith
before_rank number v w (inr (e, o)) = omega arith

-- so the sorted listing passes if any listing does
pub sorted_passes : (p : Program) (number : ActionId → ℕ) → IsNumbering p number → (q : Place) (After : Visit → Visit → Type 0) → ((v w : Visit) → IsVisitOf p q w → After v w → Reaches p (leaving p v) (entering w)) → (l : List Visit) → ListsVisits p q l → Adjacent After l → (sorted : List Visit) → IsSortedListing p number q sorted → Adjacent After sorted
sorted_passes p number s q After gives l h a sorted g =
    same_neighbours After (entry_level number) l sorted
    (adjacent_at After l a)
    (listing_rises p number s q After gives l h a)
    (λ k d m. before_rank number (get_or sorted k d) (get_or sorted (suc k) d) (adjacent_at (IsBefore number) sorted g.sorted k d m))
    (λ v c. h.all v (visit_in sorted g.lists v c))
    (λ v c. g.lists.all v (visit_in l h v c))
    g.lists.once
  where
    visit_in : (xs : List Visit) → ListsVisits p q xs → (v : Visit) → Contains xs v → IsVisitOf p q v
    visit_in xs k v (i, m, e) = subst (IsVisitOf p q) e (k.only i v m)

-- what is orderly by awaits is orderly by chains
pub adjacent_chains : (p : Program) → AreInRange p → (q : Place) (l : List Visit) → ((k : ℕ) (d : Visit) → k < length l → IsVisitOf p q (get_or l k d)) → Adjacent (ComesAfterByAwait p) l → Adjacent (ComesAfterByChain p) l
adjacent_chains p range q l only a =
    adjacent_from (ComesAfterByChain p) l (λ k d m. await_chain p range q (get_or l k d) (get_or l (suc k) d) (only (suc k) d m) (adjacent_at (ComesAfterByAwait p) l a k d m))

pub awaits_accepted : (passable : Place → Bool) (tasks : List Task) (p : Program) → IsAcceptedBy ComesAfterByAwait passable tasks p → IsAcceptedBy ComesAfterByChain passable tasks p
awaits_accepted passable tasks p a = record {
  right = a.right;
  numbering = a.numbering;
  orderly = λ q. ((a.orderly q).0, (a.orderly q).1, adjacent_chains p a.right.in_range q (a.orderly q).0 (a.orderly q).1.only (a.orderly q).2);
}

pub as_visit : (p : Program) (q : Place) (v : Visit) → IsVisitOf p q v → IsVisit p v
as_visit p q v h = record { agent = h.agent; position = h.position; entered = h.entered }

-- a visit is left by an action that needs the one that enters it
pub entered_left : (p : Program) (v : Visit) → IsAction p (entering v) → IsAction p (leaving p v) → Reaches p (entering v) (leaving p v)
entered_left p v a b = own_reach p v.agent v.position (next_move p v.agent v.position) a.agent a.first (omega arith) b.last

-- one order after another
pub reach_on : (p : Program) (u v w : Visit) → Reaches p (leaving p u) (entering v) → Reaches p (leaving p v) (entering w) → Reaches p (leaving p u) (entering w)
reach_on p u v w r k =
    Reaches-trans p (leaving p u) (entering v) (entering w) r
    (Reaches-trans p (entering v) (leaving p v) (entering w)
    (entered_left p v (Reaches-last p (leaving p u) (entering v) r) (Reaches-first p (leaving p v) (entering w) k)) k)

-- of two visits by different agents in an orderly listing the leaving of one begins a chain that ends with the entering
-- of the other
pub two_ordered : (p : Program) (q : Place) (v w : Visit) → IsVisitOf p q v → IsVisitOf p q w → (v.agent ≡ w.agent → ⊥) → (l : List Visit) → ListsVisits p q l → Adjacent (ComesAfterByChain p) l → Reaches p (leaving p v) (entering w) ⊎ Reaches p (leaving p w) (entering v)
two_ordered p q v w m n apart l h a = go (place_in l v v (h.all v m)) (place_in l w v (h.all w n))
  where
    far : (i j : ℕ) (d : Visit) → i < j → j < length l → Reaches p (leaving p (get_or l i d)) (entering (get_or l j d))
    far = any_two (λ x y. Reaches p (leaving p x) (entering y)) (reach_on p) l (chained p q (ComesAfterByChain p) (after_reaches p q) l h a)

    go : Found l v v → Found l v w → Reaches p (leaving p v) (entering w) ⊎ Reaches p (leaving p w) (entering v)
    go x y =
        elim (cases_order x.at y.at) [
          | inl e ↦ absurd (apart (ap (λ z. z.agent) (sym x.is ∙ ap (λ i. get_or l i v) e ∙ y.is)))
          | inr (inl m) ↦ inl (subst (λ z. Reaches p (leaving p z) (entering w)) x.is (subst (λ z. Reaches p (leaving p (get_or l x.at v)) (entering z)) y.is (far x.at y.at v m y.within)))
          | inr (inr m) ↦ inr (subst (λ z. Reaches p (leaving p z) (entering v)) y.is (subst (λ z. Reaches p (leaving p (get_or l y.at v)) (entering z)) x.is (far y.at x.at v m x.within)))
        ]

-- if two visits have no order, no listing of their place is orderly
pub unordered_refuses : (p : Program) (q : Place) (v w : Visit) → AreUnordered p q v w → (l : List Visit) → ListsVisits p q l → Adjacent (ComesAfterByChain p) l → ⊥
unordered_refuses p q v w u l h a = elim (two_ordered p q v w u.first u.second u.apart l h a) [ inl r ↦ u.forth r | inr r ↦ u.back r ]

-- of two visits in an orderly listing the leaving of the earlier begins a chain that ends with the entering of the
-- later
pub listed_reach : (p : Program) (q : Place) (l : List Visit) → ListsVisits p q l → Adjacent (ComesAfterByChain p) l → (i j : ℕ) (v w : Visit) → i < j → slice_get l i ≡ Some v → slice_get l j ≡ Some w → Reaches p (leaving p v) (entering w)
listed_reach p q l h a i j v w m ev ew =
    let far : Reaches p (leaving p (get_or l i v)) (entering (get_or l j v)) =
    any_two (λ x y. Reaches p (leaving p x) (entering y)) (reach_on p) l (chained p q (ComesAfterByChain p) (after_reaches p q) l h a) i j v m (slice_get_within l j w ew) in
    subst (λ x. Reaches p (leaving p x) (entering w)) (get_or_from_slice_get l i v v ev)
    (subst (λ x. Reaches p (leaving p (get_or l i v)) (entering x)) (get_or_from_slice_get l j w v ew) far)
