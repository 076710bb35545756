-- Visits of a place of which any two have an order can be listed one after another.
use Rattle.fleet_verify.proofs.Words.{◌≡◌, ◌≢◌, ℕ, zero, suc, ◌<◌, ◌≤◌, true, List, [], ◌∷◌, length, get_or, Some, sym, ap, ◌∙◌, subst, arith, inl, inr, Contains, ◌⊎◌, slice_get, int_eq, cases_lt, cases_eq, cases_order, cases_Bool, Decides-int_eq, get_or_default, get_or_from_slice_get, slice_get_within, Place, ActionId, Visit, Program, moves, path, Reaches, IsNumbering, is_entry, IsVisitOf, ListsVisits, Adjacent, ComesAfterByChain, entering, leaving, entry_level}
use Rattle.std.proofs.lemmas.Bool.{both_ways}
use Rattle.fleet_verify.proofs.Members.{contains_head, contains_later, contains_cases, contains_none}
use Rattle.fleet_verify.proofs.Neighbours.{adjacent_at, any_two}
use Rattle.fleet_verify.proofs.Listing.{rank_rises}

pub place-dec : (x y : Place) → Dec (x ≡ y)
place-dec x y =
    elim (cases_Bool (int_eq x.x y.x)) [
      | inr n ↦ no (λ e. let f : int_eq x.x y.x ≡ true = (Decides-int_eq x.x y.x).1 (ap (λ z. z.x) e) in cc)
      | inl a ↦ (elim (cases_Bool (int_eq x.y y.y)) [
        | inr n ↦ no (λ e. let f : int_eq x.y y.y ≡ true = (Decides-int_eq x.y y.y).1 (ap (λ z. z.y) e) in cc)
        | inl b ↦ (let e : x.x ≡ y.x = (Decides-int_eq x.x y.x).0 a in let g : x.y ≡ y.y = (Decides-int_eq x.y y.y).0 b in yes (λ i. record { x = e i; y = g i }))
      ])
    ]

pub visit-dec : (v w : Visit) → Dec (v ≡ w)
visit-dec v w =
    elim (cases_eq v.agent w.agent) [
      | inr n ↦ no (λ e. n (ap (λ x. x.agent) e))
      | inl e ↦ (elim (cases_eq v.position w.position) [
        | inr n ↦ no (λ g. n (ap (λ x. x.position) g))
        | inl g ↦ yes (λ i. record { agent = e i; position = g i })
      ])
    ]

visit_of-dec : (p : Program) (q : Place) (v : Visit) → Dec (IsVisitOf p q v)
visit_of-dec p q v =
    elim (cases_lt v.agent (length p)) [
      | inr l ↦ no (λ h. let g : v.agent < length p = h.agent in omega arith)
      | inl l ↦ (elim (cases_lt (moves p v.agent) v.position) [
        | inl k ↦ no (λ h. let g : v.position ≤ moves p v.agent = h.position in omega arith)
        | inr k ↦ (elim (cases_Bool (is_entry p v.agent v.position)) [
          | inr f ↦ no (λ h. both_ways (is_entry p v.agent v.position) f h.entered)
          | inl t ↦ (elim (place-dec (path p v.agent v.position) q) [
            | yes e ↦ yes (record { agent = l; position = k; entered = t; place = e })
            | no n ↦ no (λ h. n h.place)
          ])
        ])
      ])
    ]

-- a list of visits of a place in which each comes after the one before
record IsRow (p : Program) (q : Place) (l : List Visit) : Type 0 where
  only : (v : Visit) → Contains l v → IsVisitOf p q v
  chained : Adjacent (λ v w. Reaches p (leaving p v) (entering w)) l

-- two visits of the place have an order
abbrev IsTotal : Program → Place → Type 0
IsTotal p q = (v w : Visit) → IsVisitOf p q v → IsVisitOf p q w → v ≢ w → Reaches p (leaving p v) (entering w) ⊎ Reaches p (leaving p w) (entering v)

abbrev Comes : Program → Visit → Visit → Type 0
Comes p v w = Reaches p (leaving p v) (entering w)

adjacent_tail : (R : Visit → Visit → Type 0) (u : Visit) (us : List Visit) → Adjacent R (u ∷ us) → Adjacent R us
adjacent_tail R u [] a = tt
adjacent_tail R u (v ∷ vs) a = a.1

row_tail : (p : Program) (q : Place) (u : Visit) (us : List Visit) → IsRow p q (u ∷ us) → IsRow p q us
row_tail p q u us r = record { only = λ v c. r.only v (contains_later u us v c); chained = adjacent_tail (Comes p) u us r.chained }

-- m is l with the visit v
record IsInserted (p : Program) (q : Place) (v : Visit) (l m : List Visit) : Type 0 where
  row : IsRow p q m
  has : Contains m v
  keeps : (x : Visit) → Contains l x → Contains m x
  front : (u : Visit) → Comes p u v → Adjacent (Comes p) (u ∷ l) → Adjacent (Comes p) (u ∷ m)

put_first : (p : Program) (q : Place) (v u : Visit) (us : List Visit) → IsVisitOf p q v → IsRow p q (u ∷ us) → Comes p v u → IsInserted p q v (u ∷ us) (v ∷ u ∷ us)
put_first p q v u us h r c = record {
  row = record { only = λ x k. only x (contains_cases v (u ∷ us) x k); chained = (c, r.chained) };
  has = contains_head v (u ∷ us);
  keeps = λ x k. contains_later v (u ∷ us) x k;
  front = λ y d a. (d, (c, r.chained));
}
  where
    only : (x : Visit) → (v ≡ x) ⊎ Contains (u ∷ us) x → IsVisitOf p q x
    only x (inl e) = subst (IsVisitOf p q) e h
    only x (inr k) = r.only x k

put_later : (p : Program) (q : Place) (v u : Visit) (us ms : List Visit) → IsRow p q (u ∷ us) → Comes p u v → IsInserted p q v us ms → IsInserted p q v (u ∷ us) (u ∷ ms)
put_later p q v u us ms r c i = record {
  row = record { only = λ x k. only x (contains_cases u ms x k); chained = i.front u c r.chained };
  has = contains_later u ms v i.has;
  keeps = λ x k. keeps x (contains_cases u us x k);
  front = λ y d a. (a.0, i.front u c r.chained);
}
  where
    only : (x : Visit) → (u ≡ x) ⊎ Contains ms x → IsVisitOf p q x
    only x (inl e) = subst (IsVisitOf p q) e (r.only u (contains_head u us))
    only x (inr k) = i.row.only x k

    keeps : (x : Visit) → (u ≡ x) ⊎ Contains us x → Contains (u ∷ ms) x
    keeps x (inl e) = subst (Contains (u ∷ ms)) e (contains_head u ms)
    keeps x (inr k) = contains_later u ms x (i.keeps x k)

insert : (p : Program) (q : Place) → IsTotal p q → (v : Visit) → IsVisitOf p q v → (l : List Visit) → IsRow p q l → (m : List Visit) × IsInserted p q v l m
insert p q total v h [] r = (
  v ∷ [],
  record {
    row = record { only = λ x k. elim (contains_cases v [] x k) [ inl e ↦ subst (IsVisitOf p q) e h | inr c ↦ absurd (contains_none x c) ]; chained = tt };
    has = contains_head v [];
    keeps = λ x k. contains_later v [] x k;
    front = λ y d a. (d, tt);
  },
)
insert p q total v h (u ∷ us) r =
    elim (visit-dec v u) [
      | yes e ↦ (u ∷ us, record { row = r; has = subst (Contains (u ∷ us)) (sym e) (contains_head u us); keeps = λ x k. k; front = λ y d a. a })
      | no n ↦ (elim (total v u h (r.only u (contains_head u us)) n) [
        | inl c ↦ (v ∷ u ∷ us, put_first p q v u us h r c)
        | inr c ↦ later c (insert p q total v h us (row_tail p q u us r))
      ])
    ]
  where
    later : Comes p u v → ((m : List Visit) × IsInserted p q v us m) → (m : List Visit) × IsInserted p q v (u ∷ us) m
    later c (ms, i) = (u ∷ ms, put_later p q v u us ms r c i)

-- a row that has all visits of the place that are so
record IsRowOfPlace (p : Program) (q : Place) (P : Visit → Type 0) (l : List Visit) : Type 0 where
  row : IsRow p q l
  has : (v : Visit) → IsVisitOf p q v → P v → Contains l v

-- the visits of agent i up to a position, beside those of the agents before it
by_position : (p : Program) (q : Place) → IsTotal p q → (i n : ℕ) → (l : List Visit) → IsRowOfPlace p q (λ v. v.agent < i) l → (m : List Visit) × IsRowOfPlace p q (λ v. (v.agent < i) ⊎ ((v.agent ≡ i) × (v.position < n))) m
by_position p q total i zero l r = (l, record { row = r.row; has = λ v h k. elim k [ inl g ↦ r.has v h g | inr g ↦ absurd (let x : v.position < 0 = g.1 in omega arith) ] })
by_position p q total i (suc n) l r = next (by_position p q total i n l r)
  where
    v : Visit
    v = record { agent = i; position = n }

    more : (m : List Visit) → IsRowOfPlace p q (λ v. (v.agent < i) ⊎ ((v.agent ≡ i) × (v.position < n))) m → (IsVisitOf p q v → Contains m v) → IsRowOfPlace p q (λ v. (v.agent < i) ⊎ ((v.agent ≡ i) × (v.position < suc n))) m
    more m k here = record { row = k.row; has = has }
      where
        has : (x : Visit) → IsVisitOf p q x → (x.agent < i) ⊎ ((x.agent ≡ i) × (x.position < suc n)) → Contains m x
        has x h (inl g) = k.has x h (inl g)
        has x h (inr (e, g)) =
            elim (cases_eq x.position n) [
              | inl f ↦ (let same : v ≡ x = (λ j. record { agent = sym e j; position = sym f j }) in subst (Contains m) same (here (subst (IsVisitOf p q) (sym same) h)))
              | inr f ↦ k.has x h (inr (e, (omega arith)))
            ]

    keep : (m o : List Visit) → IsRowOfPlace p q (λ v. (v.agent < i) ⊎ ((v.agent ≡ i) × (v.position < n))) m → IsInserted p q v m o → IsRowOfPlace p q (λ v. (v.agent < i) ⊎ ((v.agent ≡ i) × (v.position < n))) o
    keep m o k j = record { row = j.row; has = λ x h g. j.keeps x (k.has x h g) }

    next : ((m : List Visit) × IsRowOfPlace p q (λ v. (v.agent < i) ⊎ ((v.agent ≡ i) × (v.position < n))) m) → (m : List Visit) × IsRowOfPlace p q (λ v. (v.agent < i) ⊎ ((v.agent ≡ i) × (v.position < suc n))) m
    next (m, k) =
        elim (visit_of-dec p q v) [
          | no n ↦ (m, more m k (λ h. absurd (n h)))
          | yes h ↦ added m k (insert p q total v h m k.row)
        ]
      where
        added : (m : List Visit) → IsRowOfPlace p q (λ v. (v.agent < i) ⊎ ((v.agent ≡ i) × (v.position < n))) m → ((o : List Visit) × IsInserted p q v m o) → (o : List Visit) × IsRowOfPlace p q (λ v. (v.agent < i) ⊎ ((v.agent ≡ i) × (v.position < suc n))) o
        added m k (o, j) = (o, more o (keep m o k j) (λ h. j.has))

by_agent : (p : Program) (q : Place) → IsTotal p q → (i : ℕ) → (l : List Visit) × IsRowOfPlace p q (λ v. v.agent < i) l
by_agent p q total zero = ([], record { row = record { only = λ v c. absurd (contains_none v c); chained = tt }; has = λ v h k. absurd (omega arith) })
by_agent p q total (suc i) = next (by_agent p q total i)
  where
    next : ((l : List Visit) × IsRowOfPlace p q (λ v. v.agent < i) l) → (l : List Visit) × IsRowOfPlace p q (λ v. v.agent < suc i) l
    next (l, k) = done (by_position p q total i (suc (moves p i)) l k)
      where
        done : ((m : List Visit) × IsRowOfPlace p q (λ v. (v.agent < i) ⊎ ((v.agent ≡ i) × (v.position < suc (moves p i)))) m) → (m : List Visit) × IsRowOfPlace p q (λ v. v.agent < suc i) m
        done (m, r) = (m, record { row = r.row; has = λ v h g. r.has v h (split v h g (cases_eq v.agent i)) })
          where
            split : (v : Visit) → IsVisitOf p q v → v.agent < suc i → (v.agent ≡ i) ⊎ (v.agent ≡ i → ⊥) → (v.agent < i) ⊎ ((v.agent ≡ i) × (v.position < suc (moves p i)))
            split v h g (inl e) = let l : v.position ≤ moves p v.agent = h.position in let f : moves p v.agent ≡ moves p i = ap (moves p) e in inr (e, (omega arith))
            split v h g (inr n) = inl (omega arith)

-- the listing of a place of which any two visits have an order
pub ordered_listing : (p : Program) (number : ActionId → ℕ) → IsNumbering p number → (q : Place) → IsTotal p q → (l : List Visit) × ListsVisits p q l × Adjacent (ComesAfterByChain p) l
ordered_listing p number s q total = made (by_agent p q total (length p))
  where
    made : ((l : List Visit) × IsRowOfPlace p q (λ v. v.agent < length p) l) → (l : List Visit) × ListsVisits p q l × Adjacent (ComesAfterByChain p) l
    made (l, r) = (l, lists, after l r.row.chained)
      where
        up : (i j : ℕ) (d : Visit) → i < j → j < length l → entry_level number (get_or l i d) < entry_level number (get_or l j d)
        up = any_two (λ v w. entry_level number v < entry_level number w) (λ u v w a b. omega arith) l
            (λ k d m. rank_rises p number s (get_or l k d) (get_or l (suc k) d) (adjacent_at (Comes p) l r.row.chained k d m))

        below : (j k : ℕ) (v : Visit) → slice_get l j ≡ Some v → slice_get l k ≡ Some v → j < k → ⊥
        below j k v e g m =
            let h : entry_level number (get_or l j v) < entry_level number (get_or l k v) = up j k v m (slice_get_within l k v g) in
            let a : get_or l j v ≡ get_or l k v = get_or_from_slice_get l j v v e ∙ sym (get_or_from_slice_get l k v v g) in
            let b : entry_level number (get_or l j v) ≡ entry_level number (get_or l k v) = ap (entry_level number) a in
            omega arith

        once : (j k : ℕ) (v : Visit) → slice_get l j ≡ Some v → slice_get l k ≡ Some v → j ≡ k
        once j k v e g = elim (cases_order j k) [ inl h ↦ h | inr (inl h) ↦ absurd (below j k v e g h) | inr (inr h) ↦ absurd (below k j v g e h) ]

        lists : ListsVisits p q l
        lists = record { all = λ v h. r.has v h h.agent; only = λ k d m. r.row.only (get_or l k d) (k, m, get_or_default l k (get_or l k d) d m); once = once }

        after : (xs : List Visit) → Adjacent (Comes p) xs → Adjacent (ComesAfterByChain p) xs
        after [] a = tt
        after (v ∷ []) a = tt
        after (v ∷ w ∷ vs) (a, g) = (inr a, after (w ∷ vs) g)
