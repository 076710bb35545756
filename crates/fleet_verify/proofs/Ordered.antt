-- Visits that a numbering orders.
use Rattle.fleet_verify.proofs.Words.{◌≡◌, ◌≢◌, ℕ, zero, suc, ◌+◌, ◌<◌, Bool, true, false, List, [], ◌∷◌, ◌++◌, length, map, get_or, Option, Some, None, slice_get, refl, ap, sym, ◌∙◌, subst, arith, inl, inr, ◌-◌, ◌≤◌, slice_index, ◌⊎◌, filter, AllPairs, All, Contains, cases_eq, cases_lt, map-append, append_assoc, append-nil, length-append, get_or_append_left, filter-append, All-push, Contains-push, Contains-append_left, all_pairs_push, slice_get_within, same_Some, slice_get-get_or, Cell, Place, Visit, place_of, is_same_place, Program, IsCell, moves, awaits_of, AreInRange, IsWellFormed, is_entry, ComesAfterByAwait, is_same_place-true, is_same_place-eq, ActionId, IsAction, DirectlyNeeds, EndsChain, IsLongestChain, awaited, ends_within, ends_action, place_of-injective, PlacedVisit, OpenPair, number_of, visits_of, entries, IsOpenNext, IsLastVisit, IsGrouped, IsOpenPair, IsVisitPlaced, AreAddedBy, AreGroupedBy, AreConsecutive, StandsBefore, get_or-append_seam, IsCountedUp, AreCountedUp, IsTop, IsRanked, AreRanked, IsNextLevel, AddsLevel, count_in, level_in, next_in, IsVisitKept}
use Rattle.fleet_verify.proofs.Members.{same_action}
use Rattle.fleet_verify.proofs.Levels.{counted_numbers, counted_levels}
use Rattle.fleet_verify.proofs.Stays.{has_action}
use Rattle.fleet_verify.proofs.Ranges.{one_in_range}

-- ---- lists

slice_get_at : {X : Type 0} (xs : List X) (v : X) (ys : List X) → slice_get (xs ++ v ∷ ys) (length xs) ≡ Some v
slice_get_at [] v ys = refl
slice_get_at (x ∷ xs) v ys = slice_get_at xs v ys

slice_get_front : {X : Type 0} (xs ys : List X) (k : ℕ) → k < length xs → slice_get (xs ++ ys) k ≡ slice_get xs k
slice_get_front [] ys k l = absurd (omega arith)
slice_get_front (x ∷ xs) ys zero l = refl
slice_get_front (x ∷ xs) ys (suc k) l = slice_get_front xs ys k (omega arith)

-- ---- neighbours

pub neighbours_on : (l rest : List Visit) (v w : Visit) → AreConsecutive l v w → AreConsecutive (l ++ rest) v w
neighbours_on l rest v w n =
    let within = slice_get_within l (n.at + 1) w n.next in
    record {
      at = n.at;
      here = slice_get_front l rest n.at (omega arith) ∙ n.here;
      next = slice_get_front l rest (n.at + 1) within ∙ n.next;
    }

pub neighbours_last : (l : List Visit) (v w : Visit) → IsLastVisit l (Some v) → AreConsecutive (l ++ w ∷ []) v w
neighbours_last l v w (xs, e) = subst (λ (ys : List Visit). AreConsecutive (ys ++ w ∷ []) v w) (sym e) (record {
  at = length xs;
  here = ap (λ (ys : List Visit). slice_get ys (length xs)) (append_assoc xs (v ∷ []) (w ∷ [])) ∙ slice_get_at xs v (w ∷ []);
  next = ap (slice_get ((xs ++ v ∷ []) ++ w ∷ [])) (sym (length-append xs (v ∷ []))) ∙ slice_get_at (xs ++ v ∷ []) w [];
})

-- neighbours before one visit more, or the last one and it
neighbours_cases : (l : List Visit) (last : Option Visit) (w v x : Visit) → IsLastVisit l last → AreConsecutive (l ++ w ∷ []) v x → AreConsecutive l v x ⊎ ((last ≡ Some v) × (x ≡ w))
neighbours_cases l last w v x is n = elim (cases_lt (n.at + 1) (length l)) [
  | inl k ↦ inl (record {
    at = n.at;
    here = sym (slice_get_front l (w ∷ []) n.at (omega arith)) ∙ n.here;
    next = sym (slice_get_front l (w ∷ []) (n.at + 1) k) ∙ n.next;
  })
  | inr k ↦
      let long : length (l ++ w ∷ []) ≡ length l + 1 = length-append l (w ∷ []) in
      let within : n.at + 1 < length (l ++ w ∷ []) = slice_get_within (l ++ w ∷ []) (n.at + 1) x n.next in
      let all : n.at + 1 ≡ length l = omega arith in
      inr (ends all last is)
]
  where
    ends : n.at + 1 ≡ length l → (o : Option Visit) → IsLastVisit l o → (o ≡ Some v) × (x ≡ w)
    ends all None e = absurd (let f : length l ≡ 0 = ap (λ (ys : List Visit). length ys) e in omega arith)
    ends all (Some u) (xs, e) =
        let long : length (xs ++ u ∷ []) ≡ length xs + 1 = length-append xs (u ∷ []) in
        let same : length l ≡ length (xs ++ u ∷ []) = ap (λ (ys : List Visit). length ys) e in
        let at : n.at ≡ length xs = omega arith in
        let before : slice_get l n.at ≡ Some v = sym (slice_get_front l (w ∷ []) n.at (omega arith)) ∙ n.here in
        let here : slice_get l n.at ≡ Some u = ap (λ (ys : List Visit). slice_get ys n.at) e ∙ (ap (slice_get (xs ++ u ∷ [])) at ∙ slice_get_at xs u []) in
        let second : x ≡ w = same_Some x w (sym n.next ∙ (ap (slice_get (l ++ w ∷ [])) all ∙ slice_get_at l w [])) in
        (sym here ∙ before, second)

-- ---- the visits of a place

pub visits_of-append : (q : Place) (xs ys : List PlacedVisit) → visits_of q (xs ++ ys) ≡ visits_of q xs ++ visits_of q ys
unfolding visits_of
visits_of-append q xs ys = ap (map (λ (s : PlacedVisit). s.visit)) (filter-append (λ (s : PlacedVisit). is_same_place (place_of s.cell) q) xs ys) ∙ map-append (λ (s : PlacedVisit). s.visit) (filter (λ s. is_same_place (place_of s.cell) q) xs) (filter (λ s. is_same_place (place_of s.cell) q) ys)

-- one stay more
pub visits_on : (c : Cell) (s : PlacedVisit) → s.cell ≡ c → visits_of (place_of c) (s ∷ []) ≡ s.visit ∷ []
unfolding visits_of
visits_on c s e = rw (e, is_same_place-eq (place_of c) (place_of c) refl) refl

pub visits_off : (c : Cell) (s : PlacedVisit) → (s.cell ≡ c → ⊥) → visits_of (place_of c) (s ∷ []) ≡ []
unfolding visits_of
visits_off c s ne = go (is_same_place (place_of s.cell) (place_of c)) refl
  where
    go : (b : Bool) → is_same_place (place_of s.cell) (place_of c) ≡ b → map (λ (s : PlacedVisit). s.visit) (filter (λ s. is_same_place (place_of s.cell) (place_of c)) (s ∷ [])) ≡ []
    go false e = rw e refl
    go true e = absurd (ne (place_of-injective s.cell c (is_same_place-true (place_of s.cell) (place_of c) e)))

-- ---- open pairs

grouped_none : (p : Program) (c : Cell) → IsGrouped p c [] None []
unfolding visits_of
grouped_none p c = record { last = refl; next = λ v w n. absurd (omega (arith, slice_get_within [] n.at v n.here)) }

abbrev pub pair_with : PlacedVisit → Visit → OpenPair
pair_with s v = record { cell = s.cell; first = v; second = s.visit }

pairs_kept : (R : Visit → Visit → Type 0) (last : Option Visit) (s : PlacedVisit) (old new : List OpenPair) → IsOpenNext R last s old new → (o : OpenPair) → Contains old o → Contains new o
pairs_kept R last s old new (inl (h, e)) o k = subst (λ (os : List OpenPair). Contains os o) (sym e) k
pairs_kept R last s old new (inr (v, f, n, e)) o k =
    subst (λ (os : List OpenPair). Contains os o) (sym e) (Contains-append_left old (pair_with s v ∷ []) o k)

pub grouped_on : (p : Program) (c : Cell) (stays : List PlacedVisit) (s : PlacedVisit) (last : Option Visit) (old new : List OpenPair) → IsGrouped p c stays last old → s.cell ≡ c → IsOpenNext (ComesAfterByAwait p) last s old new
    → IsGrouped p c (stays ++ s ∷ []) (Some s.visit) new
grouped_on p c stays s last old new h e r = record { last = (l, same); next = λ v w n. next v w (neighbours_cases l last s.visit v w h.last (subst (λ (vs : List Visit). AreConsecutive vs v w) same n)) }
  where
    l : List Visit
    l = visits_of (place_of c) stays

    same : visits_of (place_of c) (stays ++ s ∷ []) ≡ l ++ s.visit ∷ []
    same = visits_of-append (place_of c) stays (s ∷ []) ∙ ap (λ vs. l ++ vs) (visits_on c s e)

    Next : Visit → Visit → Type 0
    Next v w = ComesAfterByAwait p v w ⊎ Contains new (record { cell = c; first = v; second = w })

    ends : (v w : Visit) → last ≡ Some v → w ≡ s.visit → IsOpenNext (ComesAfterByAwait p) last s old new → Next v w
    ends v w is to (inl (a, k)) = subst (Next v) (sym to) (inl (a v is))
    ends v w is to (inr (u, f, n, k)) =
        let one : u ≡ v = same_Some u v (sym f ∙ is) in
        let pair : pair_with s u ≡ record { cell = c; first = v; second = w } = λ i. record { cell = e i; first = one i; second = sym to i } in
        inr (subst (λ (os : List OpenPair). Contains os (record { cell = c; first = v; second = w })) (sym k)
        (subst (Contains (old ++ pair_with s u ∷ [])) pair (Contains-push old (pair_with s u))))

    next : (v w : Visit) → AreConsecutive l v w ⊎ ((last ≡ Some v) × (w ≡ s.visit)) → Next v w
    next v w (inl n) = elim (h.next v w n) [ inl a ↦ inl a | inr k ↦ inr (pairs_kept (ComesAfterByAwait p) last s old new r (record { cell = c; first = v; second = w }) k) ]
    next v w (inr (is, to)) = ends v w is to r

pub grouped_off : (p : Program) (c : Cell) (stays : List PlacedVisit) (s : PlacedVisit) (last : Option Visit) (old new : List OpenPair) → IsGrouped p c stays last old → (s.cell ≡ c → ⊥)
    → ((o : OpenPair) → Contains old o → Contains new o) → IsGrouped p c (stays ++ s ∷ []) last new
grouped_off p c stays s last old new h ne kept =
    let same : visits_of (place_of c) (stays ++ s ∷ []) ≡ visits_of (place_of c) stays = visits_of-append (place_of c) stays (s ∷ []) ∙ (ap (λ vs. visits_of (place_of c) stays ++ vs) (visits_off c s ne) ∙ append-nil _) in
    record {
      last = subst (λ (vs : List Visit). IsLastVisit vs last) (sym same) h.last;
      next = λ v w n. elim (h.next v w (subst (λ (vs : List Visit). AreConsecutive vs v w) same n)) [ inl a ↦ inl a | inr k ↦ inr (kept (record { cell = c; first = v; second = w }) k) ];
    }

-- the visits of a place stand among all
stands_in : (q : Place) (placed : List PlacedVisit) (w : Visit) (k : ℕ) → slice_get (visits_of q placed) k ≡ Some w → (i : ℕ) × (slice_get (map (λ s. s.visit) placed) i ≡ Some w)
unfolding visits_of
stands_in q [] w k e = absurd (omega (arith, slice_get_within [] k w e))
stands_in q (s ∷ placed) w k e = go (is_same_place (place_of s.cell) q) refl e (stands_in q placed w)
  where
    Placed : Type 0
    Placed = (i : ℕ) × (slice_get (map (λ x. x.visit) (s ∷ placed)) i ≡ Some w)

    later : ((i : ℕ) × (slice_get (map (λ x. x.visit) placed) i ≡ Some w)) → Placed
    later r = (suc r.0, r.1)

    at : (j : ℕ) → slice_get (s.visit ∷ visits_of q placed) j ≡ Some w → ((j : ℕ) → slice_get (visits_of q placed) j ≡ Some w → (i : ℕ) × (slice_get (map (λ x. x.visit) placed) i ≡ Some w)) → Placed
    at zero f rest = (0, f)
    at (suc j) f rest = later (rest j f)

    go : (b : Bool) → is_same_place (place_of s.cell) q ≡ b → slice_get (visits_of q (s ∷ placed)) k ≡ Some w → ((j : ℕ) → slice_get (visits_of q placed) j ≡ Some w → (i : ℕ) × (slice_get (map (λ x. x.visit) placed) i ≡ Some w)) → Placed
    go true f g rest = at k (rw f at g) rest
    go false f g rest = later (rest k (rw f at g))

-- pairs that are open stay so
open_on : (p : Program) (stays rest : List PlacedVisit) (o : OpenPair) → IsOpenPair p stays o → IsOpenPair p (stays ++ rest) o
open_on p stays rest o h = record {
  cell = h.cell;
  neighbours = subst (λ (vs : List Visit). AreConsecutive vs o.first o.second) (sym (visits_of-append (place_of o.cell) stays rest)) (neighbours_on (visits_of (place_of o.cell) stays) (visits_of (place_of o.cell) rest) o.first o.second h.neighbours);
  breaks = h.breaks;
}

open_more : (p : Program) (stays : List PlacedVisit) (s : PlacedVisit) (v : Visit) → IsCell s.cell → IsLastVisit (visits_of (place_of s.cell) stays) (Some v) → (ComesAfterByAwait p v s.visit → ⊥) → IsOpenPair p (stays ++ s ∷ []) (pair_with s v)
open_more p stays s v cell last n = record {
  cell = cell;
  neighbours =
      let same : visits_of (place_of s.cell) (stays ++ s ∷ []) ≡ visits_of (place_of s.cell) stays ++ s.visit ∷ [] = visits_of-append (place_of s.cell) stays (s ∷ []) ∙ ap (λ vs. visits_of (place_of s.cell) stays ++ vs) (visits_on s.cell s refl) in
      subst (λ (vs : List Visit). AreConsecutive vs v s.visit) (sym same) (neighbours_last (visits_of (place_of s.cell) stays) v s.visit last);
  breaks = n;
}

stands_on : (l rest : List Visit) (v w : Visit) → StandsBefore l v w → StandsBefore (l ++ rest) v w
stands_on l rest v w h =
    let within = slice_get_within l h.later w h.second in
    record {
      sooner = h.sooner;
      later = h.later;
      order = h.order;
      first = slice_get_front l rest h.sooner (omega (arith, h.order)) ∙ h.first;
      second = slice_get_front l rest h.later within ∙ h.second;
    }

stands_last : (l : List Visit) (v w : Visit) (i : ℕ) → slice_get l i ≡ Some v → StandsBefore (l ++ w ∷ []) v w
stands_last l v w i e =
    let within = slice_get_within l i v e in
    record {
      sooner = i;
      later = length l;
      order = within;
      first = slice_get_front l (w ∷ []) i within ∙ e;
      second = slice_get_at l w [];
    }

abbrev InOrder : List PlacedVisit → List OpenPair → Type 0
InOrder placed pairs = AllPairs (λ (o u : OpenPair). StandsBefore (map (λ s. s.visit) placed) o.second u.second) pairs

visits_more : (stays : List PlacedVisit) (s : PlacedVisit) → map (λ (x : PlacedVisit). x.visit) (stays ++ s ∷ []) ≡ map (λ (x : PlacedVisit). x.visit) stays ++ s.visit ∷ []
visits_more stays s = map-append (λ (x : PlacedVisit). x.visit) stays (s ∷ [])

in_order_on : (stays : List PlacedVisit) (s : PlacedVisit) (pairs : List OpenPair) → InOrder stays pairs → InOrder (stays ++ s ∷ []) pairs
in_order_on stays s pairs h = λ i j d l m.
    subst (λ (vs : List Visit). StandsBefore vs (get_or pairs i d).second (get_or pairs j d).second) (sym (visits_more stays s))
    (stands_on (map (λ x. x.visit) stays) (s.visit ∷ []) (get_or pairs i d).second (get_or pairs j d).second (h i j d l m))

in_order_more : (p : Program) (stays : List PlacedVisit) (s : PlacedVisit) (v : Visit) (pairs : List OpenPair) → All (IsOpenPair p stays) pairs → InOrder stays pairs → InOrder (stays ++ s ∷ []) (pairs ++ pair_with s v ∷ [])
in_order_more p stays s v pairs each h =
    all_pairs_push (λ (o u : OpenPair). StandsBefore (map (λ x. x.visit) (stays ++ s ∷ [])) o.second u.second) pairs (pair_with s v) (in_order_on stays s pairs h)
    (λ k d l.
    let is : IsOpenPair p stays (get_or pairs k d) = each k d l in
    let found = stands_in (place_of (get_or pairs k d).cell) stays (get_or pairs k d).second (is.neighbours.at + 1) is.neighbours.next in
    subst (λ (vs : List Visit). StandsBefore vs (get_or pairs k d).second s.visit) (sym (visits_more stays s))
    (stands_last (map (λ x. x.visit) stays) (get_or pairs k d).second s.visit found.0 found.1))

-- ---- cells by their numbers

-- no two cells have one number
pub same_cell : (c d : Cell) → IsCell c → IsCell d → number_of c ≡ number_of d → c ≡ d
same_cell c d cs ds e =
    let y : c.y ≡ d.y = omega (arith, cs.x, ds.x) in
    let x : c.x ≡ d.x = omega (arith, y) in
    λ i. record { x = x i; y = y i }

-- one visit more, if it is then kept as the last one of its cell
grouped_on_more : (p : Program) (placed : List PlacedVisit) (s : PlacedVisit) (old new : Cell → Option Visit) (o os : List OpenPair) → IsCell s.cell → AreGroupedBy p placed old o
    → new s.cell ≡ Some s.visit → ((c : Cell) → IsCell c → c ≢ s.cell → new c ≡ old c) → IsOpenNext (ComesAfterByAwait p) (old s.cell) s o os → AreGroupedBy p (placed ++ s ∷ []) new os
grouped_on_more p placed s old new o os here h last others r = record { cells = cells; each = (opened r).0; in_order = (opened r).1 }
  where
    cells : (c : Cell) → IsCell c → IsGrouped p c (placed ++ s ∷ []) (new c) os
    cells c there = elim (cases_eq (number_of s.cell) (number_of c)) [
      | inl f ↦
          let on : s.cell ≡ c = same_cell s.cell c here there f in
          subst (λ (l : Option Visit). IsGrouped p c (placed ++ s ∷ []) l os) (sym last ∙ ap new on)
          (grouped_on p c placed s (old c) o os (h.cells c there) on (subst (λ (l : Option Visit). IsOpenNext (ComesAfterByAwait p) l s o os) (ap old on) r))
      | inr f ↦
          subst (λ (l : Option Visit). IsGrouped p c (placed ++ s ∷ []) l os) (sym (others c there (λ e. f (ap number_of (sym e)))))
          (grouped_off p c placed s (old c) o os (h.cells c there) (λ g. f (ap number_of g)) (pairs_kept (ComesAfterByAwait p) (old s.cell) s o os r))
    ]

    kept : All (IsOpenPair p (placed ++ s ∷ [])) o
    kept = λ k d l. open_on p placed (s ∷ []) (get_or o k d) (h.each k d l)

    opened : IsOpenNext (ComesAfterByAwait p) (old s.cell) s o os → All (IsOpenPair p (placed ++ s ∷ [])) os × InOrder (placed ++ s ∷ []) os
    opened (inl (a, e)) = (
      subst (λ (ps : List OpenPair). All (IsOpenPair p (placed ++ s ∷ [])) ps) (sym e) kept,
      subst (λ (ps : List OpenPair). InOrder (placed ++ s ∷ []) ps) (sym e) (in_order_on placed s o h.in_order),
    )
    opened (inr (v, f, n, e)) = (
      subst (λ (ps : List OpenPair). All (IsOpenPair p (placed ++ s ∷ [])) ps) (sym e)
          (All-push (IsOpenPair p (placed ++ s ∷ [])) o (pair_with s v) kept (open_more p placed s v here (subst (IsLastVisit (visits_of (place_of s.cell) placed)) f (h.cells s.cell here).last) n)),
      subst (λ (ps : List OpenPair). InOrder (placed ++ s ∷ []) ps) (sym e) (in_order_more p placed s v o h.each h.in_order),
    )

pub no_entries : {X : Type 0} (xs : List X) → length xs ≡ 0 → xs ≡ []
no_entries [] h = refl
no_entries (x ∷ xs) h = absurd (omega arith)

-- ---- positions that begin visits

-- no position yet
pub added_none : (p : Program) (last : Cell → Option Visit) (pairs : List OpenPair) → ((c : Cell) → last c ≡ None) → pairs ≡ [] → AreAddedBy p [] last pairs
added_none p last pairs none e = subst (AreAddedBy p [] last) (sym e) (record {
  placed = [];
  same = refl;
  each = λ k d l. absurd (omega arith);
  grouped = record {
    cells = λ c is. subst (λ (o : Option Visit). IsGrouped p c [] o []) (sym (none c)) (grouped_none p c);
    each = λ k d l. absurd (omega arith);
    in_order = λ i j d l m. absurd (omega arith);
  };
})

-- one more, which begins a visit that is then kept as the last one of its cell
pub added_visit : (p : Program) (s : PlacedVisit) (old new : Cell → Option Visit) (o os : List OpenPair) → IsVisitPlaced p s → is_entry p s.visit.agent s.visit.position ≡ true
    → IsVisitKept (ComesAfterByAwait p) s old new o os → (visits : List Visit) → AreAddedBy p visits old o → AreAddedBy p (visits ++ s.visit ∷ []) new os
added_visit p s old new o os here enters kept visits a = record {
  placed = a.placed ++ s ∷ [];
  same = visits_more a.placed s ∙ (ap (λ vs. vs ++ s.visit ∷ []) a.same ∙ rw (filter-append, enters) refl);
  each = All-push (IsVisitPlaced p) a.placed s a.each here;
  grouped = grouped_on_more p a.placed s old new o os here.cell a.grouped kept.here kept.others kept.pairs;
}

-- or which begins none
pub added_stay : (p : Program) (v : Visit) (last : Cell → Option Visit) (pairs : List OpenPair) → is_entry p v.agent v.position ≡ false → (visits : List Visit) → AreAddedBy p visits last pairs → AreAddedBy p (visits ++ v ∷ []) last pairs
added_stay p v last pairs stays visits a = record {
  placed = a.placed;
  same = a.same ∙ sym (rw (filter-append, stays) (append-nil (entries p visits)));
  each = a.each;
  grouped = a.grouped;
}

-- ---- the pairs that are open once a visit is added

pub pairs_after : (R : Visit → Visit → Type 0) (last : Option Visit) (s : PlacedVisit) (pairs : List OpenPair) (v : Visit) → last ≡ Some v → R v s.visit → IsOpenNext R last s pairs pairs
pairs_after R last s pairs v is after = inl ((λ w at. subst (λ (x : Visit). R x s.visit) (same_Some _ _ (sym is ∙ at)) after), refl)

pub pairs_more : (R : Visit → Visit → Type 0) (last : Option Visit) (s : PlacedVisit) (old new : List OpenPair) (v : Visit) → last ≡ Some v → (R v s.visit → ⊥)
    → new ≡ old ++ record { cell = s.cell; first = v; second = s.visit } ∷ [] → IsOpenNext R last s old new
pairs_more R last s old new v is not more = inr (v, is, not, more)

-- ---- laws

pub top_longest : (p : Program) (level : ActionId → ℕ) → AreCountedUp p level → (n : ℕ) → IsTop p level n → IsLongestChain p n
top_longest p level h n top = record {
  some = elim top.some [
    | inl e ↦ inl e
    | inr r ↦ inr (r.0, subst (λ (m : ℕ). EndsChain p m r.0) (sym r.2) (counted_levels p level h r.0 r.1).some)
  ];
  most = λ b m c. omega (arith, ends_within p level (counted_numbers p level h) m b c, top.most b (ends_action p m b c));
}

agent_there : (p : Program) (i : ℕ) → 1 ≤ moves p i → i < length p
agent_there [] i l = absurd (omega arith)
agent_there (a ∷ p) zero l = omega arith
agent_there (a ∷ p) (suc i) l = omega (arith, agent_there p i l)

pub is_action : (p : Program) (rows : List (List ℕ)) → ((i : ℕ) → count_in rows i ≤ moves p i) → (a : ActionId) → IsRanked rows a → IsAction p a
is_action p rows within a h = record {
  agent = agent_there p a.agent (omega (arith, h.first, h.last, within a.agent));
  first = h.first;
  last = omega (arith, h.last, within a.agent);
}

-- ---- one action more

module _ (old new : List (List ℕ)) (i l : ℕ) (adds : AddsLevel old new i l) where
  pub count_own : count_in new i ≡ count_in old i + 1
  count_own = ap (λ (row : List ℕ). length row) adds.own ∙ length-append (get_or old i []) (l ∷ [])

  pub count_other : (j : ℕ) → j ≢ i → count_in new j ≡ count_in old j
  count_other j ne = ap (λ (row : List ℕ). length row) (adds.others j ne)

  level_kept : (a : ActionId) → IsRanked old a → level_in new a ≡ level_in old a
  level_kept a h = elim (cases_eq a.agent i) [
    | inl e ↦
        let own : get_or new a.agent [] ≡ get_or old a.agent [] ++ l ∷ [] = subst (λ j. get_or new j [] ≡ get_or old j [] ++ l ∷ []) (sym e) adds.own in
        ap (λ (row : List ℕ). slice_index row (a.number - 1)) own ∙ get_or_append_left (get_or old a.agent []) (l ∷ []) 0 (a.number - 1) (omega (arith, h.first, h.last))
    | inr ne ↦ ap (λ (row : List ℕ). slice_index row (a.number - 1)) (adds.others a.agent ne)
  ]

  ranked_kept : (a : ActionId) → IsRanked old a → IsRanked new a
  ranked_kept a h = elim (cases_eq a.agent i) [
    | inl e ↦ record { first = h.first; last = subst (λ j. a.number ≤ count_in old j → a.number ≤ count_in new j) (sym e) (λ k. omega (arith, k, count_own)) h.last }
    | inr ne ↦ record { first = h.first; last = omega (arith, h.last, count_other a.agent ne) }
  ]

  level_new : level_in new (next_in old i) ≡ l
  level_new =
      let at : count_in old i + 1 - 1 ≡ count_in old i = omega arith in
      ap (λ (row : List ℕ). slice_index row (count_in old i + 1 - 1)) adds.own
      ∙ (ap (slice_index (get_or old i [] ++ l ∷ [])) at ∙ get_or-append_seam (get_or old i []) l [] 0)

  ranked_cases : (a : ActionId) → IsRanked new a → IsRanked old a ⊎ (a ≡ next_in old i)
  ranked_cases a h = elim (cases_eq a.agent i) [
    | inr ne ↦ inl (record { first = h.first; last = omega (arith, h.last, count_other a.agent ne) })
    | inl e ↦ (elim (cases_lt (count_in old a.agent) a.number) [
      | inr k ↦ inl (record { first = h.first; last = omega (arith, k) })
      | inl k ↦
          let last : a.number ≤ count_in new i = subst (λ j. a.number ≤ count_in new j) e h.last in
          let more : count_in old i < a.number = subst (λ j. count_in old j < a.number) e k in
          inr (same_action a (next_in old i) e (omega (arith, last, more, count_own)))
    ])
  ]

  pub ranked_more : (p : Program) → AreRanked p old → count_in old i < moves p i → IsNextLevel p old i l → AreRanked p new
  ranked_more p h left next = record { within = within; closed = λ a b r. closed a b (ranked_cases a r); counted = λ a r. counted a (ranked_cases a r) }
    where
      within : (j : ℕ) → count_in new j ≤ moves p j
      within j = elim (cases_eq j i) [
        | inl e ↦ subst (λ k. count_in new k ≤ moves p k) (sym e) (omega (arith, left, count_own))
        | inr ne ↦ omega (arith, h.within j, count_other j ne)
      ]

      closed : (a b : ActionId) → IsRanked old a ⊎ (a ≡ next_in old i) → DirectlyNeeds p a b → IsRanked new b
      closed a b (inl r) need = ranked_kept b (h.closed a b r need)
      closed a b (inr e) need = ranked_kept b (next.needs b (subst (λ x. DirectlyNeeds p x b) e need)).0

      -- an action of which all needs had levels, seen in the new rows
      counted_new : (a : ActionId) → ((b : ActionId) → DirectlyNeeds p a b → IsRanked old b × (level_in old b < level_in new a))
          → (level_in new a ≡ 1) ⊎ ((b : ActionId) × IsRanked old b × DirectlyNeeds p a b × (level_in new a ≡ level_in old b + 1))
          → IsCountedUp p (level_in new) a
      counted_new a needs least = record {
        above = λ b act need. let r = needs b need in omega (arith, r.1, level_kept b r.0);
        least = elim least [
          | inl e ↦ inl e
          | inr r ↦ inr (r.0, is_action p old h.within r.0 r.1, r.2, omega (arith, r.3, level_kept r.0 r.1))
        ];
      }

      counted : (a : ActionId) → IsRanked old a ⊎ (a ≡ next_in old i) → IsCountedUp p (level_in new) a
      counted a (inl r) =
          let c = h.counted a r in
          let same : level_in new a ≡ level_in old a = level_kept a r in
          counted_new a
          (λ b need. let k = h.closed a b r need in (k, omega (arith, c.above b (is_action p old h.within b k) need, same)))
          (elim c.least [ inl e ↦ inl (same ∙ e) | inr q ↦ inr (q.0, h.closed a q.0 r q.2, q.2, same ∙ q.3) ])
      counted a (inr e) =
          let same : level_in new a ≡ l = ap (level_in new) e ∙ level_new in
          counted_new a
          (λ b need. let k = next.needs b (subst (λ x. DirectlyNeeds p x b) e need) in (k.0, omega (arith, k.1, same)))
          (elim next.least [ inl one ↦ inl (same ∙ one) | inr q ↦ inr (q.0, q.1, subst (λ x. DirectlyNeeds p x q.0) (sym e) q.2, same ∙ q.3) ])

-- ---- the beginning and the end

pub none_ranked : (p : Program) (rows : List (List ℕ)) → ((i : ℕ) → count_in rows i ≡ 0) → AreRanked p rows
none_ranked p rows none = record {
  within = λ i. omega (arith, none i);
  closed = λ a b r need. absurd (no a r);
  counted = λ a r. absurd (no a r);
}
  where
    no : (a : ActionId) → IsRanked rows a → ⊥
    no a r = omega (arith, r.first, r.last, none a.agent)

module _ (p : Program) (rows : List (List ℕ)) (h : AreRanked p rows) (all : (i : ℕ) → i < length p → count_in rows i ≡ moves p i) where
  all_ranked : (a : ActionId) → IsAction p a → IsRanked rows a
  all_ranked a act = record { first = act.first; last = omega (arith, act.last, all a.agent act.agent) }

  pub all_counted : AreCountedUp p (level_in rows)
  all_counted a act = h.counted a (all_ranked a act)

  pub all_in_range : IsWellFormed p → AreInRange p
  all_in_range wf i zero w (k, l, e) = absurd (omega arith)
  all_in_range wf i (suc n) w (k, l, e) =
      let here = has_action p i (suc n) w (k, l, e) in
      let a : ActionId = record { agent = i; number = suc n } in
      let met : IsRanked rows (awaited w) = h.closed a (awaited w) (all_ranked a (record { agent = here.0; first = omega arith; last = here.1 })) (inr (k, l, e)) in
      one_in_range p wf i (suc n) k w (slice_get-get_or (awaits_of p i (suc n)) k w l ∙ ap Some e) (omega (arith, met.last, h.within w.agent))
