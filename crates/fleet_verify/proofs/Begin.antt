-- Visits that begin in any order.
use Rattle.fleet_verify.proofs.Words.{◌≡◌, ◌≢◌, ℕ, suc, ◌+◌, ◌<◌, ◌≤◌, Bool, List, [], ◌∷◌, ◌++◌, length, get_or, Option, Some, slice_get, refl, ap, sym, ◌∙◌, subst, arith, inl, inr, All, Contains, IsTrue, filter, AllPairs, cases_order, cases_eq, cases_lt, get_or_default, AllPairs-filter, Contains-push, Contains-push_cases, Contains-append_left, all_pairs_push, slice_get_within, get_or_from_slice_get, slice_get-get_or, Cell, Place, Visit, place_of, is_same_place, Program, moves, path, AreInRange, IsCell, is_entry, IsVisit, IsVisitOf, ListsVisits, Adjacent, ComesAfter, IsOrderly, is_same_place-true, is_same_place-eq, AreEarlier, AreBegun, AreKeptOnGround, StandsRight, EachAction, IsChained, EnterApart, AreVisits, visits_of, entries, IsLastVisit, AreAddedBy, AreConsecutive, IsOpenPair, StandsBefore, OpenPair}
use Rattle.fleet_verify.proofs.Judged.{some_cell}
use Rattle.fleet_verify.proofs.Listing.{await_chain}
use Rattle.fleet_verify.proofs.Members.{filter_has, filter_from, contains_none, same_visit}
use Rattle.fleet_verify.proofs.Neighbours.{adjacent_from}
use Rattle.fleet_verify.proofs.Stays.{visits_are, is_at}

distinct_once : (l : List Visit) → AllPairs (λ (v w : Visit). v ≢ w) l → (j k : ℕ) (v : Visit) → slice_get l j ≡ Some v → slice_get l k ≡ Some v → j ≡ k
distinct_once l h j k v e g = elim (cases_order j k) [
  | inl s ↦ s
  | inr (inl m) ↦ absurd (h j k v m (slice_get_within l k v g) (at j e ∙ sym (at k g)))
  | inr (inr m) ↦ absurd (h k j v m (slice_get_within l j v e) (at k g ∙ sym (at j e)))
]
  where
    at : (i : ℕ) → slice_get l i ≡ Some v → get_or l i v ≡ v
    at i f = get_or_from_slice_get l i v v f

module _ (passable : Place → Bool) (p : Program) where
  -- none have begun
  pub begun_none : (begun : ℕ → ℕ) (last : Cell → Option Visit) (pairs : List OpenPair) → ((i : ℕ) → i < length p → begun i ≡ 0) → AreAddedBy p [] last pairs → AreBegun passable p begun last pairs
  begun_none begun last pairs none added = record {
    positions = [];
    all = λ v a l. absurd (omega (arith, none v.agent a));
    only = λ v c. absurd (contains_none v c);
    distinct = λ i j d l m. absurd (omega arith);
    on_ground = λ i n a l. absurd (omega (arith, none i a));
    added = added;
  }

  -- the next position of agent i begins
  pub begun_more : (old new : ℕ → ℕ) (i : ℕ) (last final : Cell → Option Visit) (pairs more : List OpenPair) → AreBegun passable p old last pairs → i < length p → new i ≡ old i + 1 → ((j : ℕ) → j ≢ i → new j ≡ old j)
      → StandsRight passable p i (old i) → ((vs : List Visit) → AreAddedBy p vs last pairs → AreAddedBy p (vs ++ record { agent = i; position = old i } ∷ []) final more) → AreBegun passable p new final more
  begun_more old new i last final pairs more h agent own others ground adds = record {
    positions = h.positions ++ next ∷ [];
    all = all;
    only = only;
    distinct = all_pairs_push (λ (v w : Visit). v ≢ w) h.positions next h.distinct (λ k d l e. fresh (subst (Contains h.positions) e (k, l, get_or_default h.positions k (get_or h.positions k d) d l)));
    on_ground = on_ground;
    added = adds h.positions h.added;
  }
    where
      next : Visit
      next = record { agent = i; position = old i }

      fresh : Contains h.positions next → ⊥
      fresh c = omega (arith, (h.only next c).1)

      all : (v : Visit) → v.agent < length p → v.position < new v.agent → Contains (h.positions ++ next ∷ []) v
      all v a l = elim (cases_eq v.agent i) [
        | inr ne ↦ Contains-append_left h.positions (next ∷ []) v (h.all v a (omega (arith, l, others v.agent ne)))
        | inl e ↦ (elim (cases_lt v.position (old v.agent)) [
          | inl k ↦ Contains-append_left h.positions (next ∷ []) v (h.all v a k)
          | inr k ↦
              let up : v.position < new i = subst (λ j. v.position < new j) e l in
              let low : old i ≤ v.position = subst (λ j. old j ≤ v.position) e k in
              subst (Contains (h.positions ++ next ∷ [])) (same_visit next v (sym e) (omega (arith, own))) (Contains-push h.positions next)
        ])
      ]

      only : (v : Visit) → Contains (h.positions ++ next ∷ []) v → (v.agent < length p) × (v.position < new v.agent)
      only v c = elim (Contains-push_cases h.positions next v c) [
        | inl k ↦ (let r = h.only v k in (r.0, grows v.agent v.position r.1))
        | inr e ↦ subst (λ (w : Visit). (w.agent < length p) × (w.position < new w.agent)) e (agent, omega (arith, own))
      ]
        where
          grows : (j n : ℕ) → n < old j → n < new j
          grows j n l = elim (cases_eq j i) [
            | inl e ↦ subst (λ k. n < old k → n < new k) (sym e) (λ m. omega (arith, m, own)) l
            | inr ne ↦ omega (arith, l, others j ne)
          ]

      on_ground : (j n : ℕ) → j < length p → n < new j → StandsRight passable p j n
      on_ground j n a l = elim (cases_eq j i) [
        | inr ne ↦ h.on_ground j n a (omega (arith, l, others j ne))
        | inl e ↦ (elim (cases_lt n (old j)) [
          | inl k ↦ h.on_ground j n a k
          | inr k ↦
              let up : n < new i = subst (λ m. n < new m) e l in
              let low : old i ≤ n = subst (λ m. old m ≤ n) e k in
              let same : old i ≡ n = omega (arith, own) in
              subst (λ (m : ℕ). StandsRight passable p m n) (sym e) (subst (λ (m : ℕ). StandsRight passable p i m) same ground)
        ])
      ]

  -- the visit that a cell keeps has begun, and is there
  begun_last : (begun : ℕ → ℕ) (last : Cell → Option Visit) (pairs : List OpenPair) → AreBegun passable p begun last pairs → (c : Cell) → IsCell c → (v : Visit) → last c ≡ Some v
      → (v.agent < length p) × (v.position < begun v.agent) × (path p v.agent v.position ≡ place_of c)
  begun_last begun last pairs h c cell v is =
      let q : Place = place_of c in
      let final : IsLastVisit (visits_of q h.added.placed) (Some v) = subst (IsLastVisit (visits_of q h.added.placed)) is (h.added.grouped.cells c cell).last in
      let same : visits_of q h.added.placed ≡ filter (is_at p q) (entries p h.positions) = visits_are p q h.added.placed h.added.each ∙ ap (filter (is_at p q)) h.added.same in
      let has : Contains (filter (is_at p q) (entries p h.positions)) v = subst (λ (l : List Visit). Contains l v) (sym final.1 ∙ same) (Contains-push final.0 v) in
      let f = filter_from (is_at p q) (entries p h.positions) v has in
      let e = filter_from (λ (w : Visit). is_entry p w.agent w.position) h.positions v f.0 in
      let r = h.only v e.0 in
      (r.0, r.1, is_same_place-true (path p v.agent v.position) q f.1)

  -- a cell that keeps a visit is passable ground
  pub begun_kept : (begun : ℕ → ℕ) (last : Cell → Option Visit) (pairs : List OpenPair) → AreBegun passable p begun last pairs → AreKeptOnGround passable last
  begun_kept begun last pairs h c cell v is =
      let r = begun_last begun last pairs h c cell v is in
      subst (λ (place : Place). IsTrue (passable place)) r.2 (h.on_ground v.agent v.position r.0 r.1)

  -- the visits of an agent that cells keep are earlier than its next one
  pub begun_earlier : (begun : ℕ → ℕ) (last : Cell → Option Visit) (pairs : List OpenPair) → AreBegun passable p begun last pairs → (w : Visit) → begun w.agent ≤ w.position → AreEarlier last w
  begun_earlier begun last pairs h w le c cell v is own =
      let r = begun_last begun last pairs h c cell v is in
      let below : v.position < begun w.agent = subst (λ (i : ℕ). v.position < begun i) own r.1 in
      omega (arith, below, le)

  -- no two open pairs have the same second visit
  pub begun_apart : (begun : ℕ → ℕ) (last : Cell → Option Visit) (pairs : List OpenPair) → AreBegun passable p begun last pairs → EnterApart pairs
  begun_apart begun last pairs h i j d l m same =
      let entered : Visit → Bool = λ w. is_entry p w.agent w.position in
      let distinct : AllPairs (λ (v w : Visit). v ≢ w) (entries p h.positions) = AllPairs-filter (λ (v w : Visit). v ≢ w) entered h.positions h.distinct in
      let s : StandsBefore (entries p h.positions) (get_or pairs i d).second (get_or pairs j d).second = subst (λ (vs : List Visit). StandsBefore vs (get_or pairs i d).second (get_or pairs j d).second) h.added.same (h.added.grouped.in_order i j d l m) in
      omega (arith, s.order, distinct_once (entries p h.positions) distinct s.sooner s.later (get_or pairs i d).second s.first (s.second ∙ ap Some (sym same)))

  -- all have begun
  module _ (begun : ℕ → ℕ) (last : Cell → Option Visit) (pairs : List OpenPair) (h : AreBegun passable p begun last pairs) (whole : (i : ℕ) → i < length p → begun i ≡ moves p i + 1) where
    pub begun_ground : EachAction p (StandsRight passable p)
    begun_ground i n a l = h.on_ground i n a (omega (arith, l, whole i a))

    lists : (q : Place) → ListsVisits p q (visits_of q h.added.placed)
    lists q = subst (ListsVisits p q) (sym same) (record {
      all = all;
      only = λ k d m. only (get_or l k d) (k, m, get_or_default l k (get_or l k d) d m);
      once = distinct_once l (AllPairs-filter (λ (v w : Visit). v ≢ w) (is_at p q) (entries p h.positions) (AllPairs-filter (λ (v w : Visit). v ≢ w) (λ (w : Visit). is_entry p w.agent w.position) h.positions h.distinct));
    })
      where
        l : List Visit
        l = filter (is_at p q) (entries p h.positions)

        same : visits_of q h.added.placed ≡ l
        same = visits_are p q h.added.placed h.added.each ∙ ap (filter (is_at p q)) h.added.same

        all : (v : Visit) → IsVisitOf p q v → Contains l v
        all v is =
            filter_has (is_at p q) (entries p h.positions) v
            (filter_has (λ (w : Visit). is_entry p w.agent w.position) h.positions v (h.all v is.agent (omega (arith, is.position, whole v.agent is.agent))) is.entered)
            (ap (λ r. is_same_place r q) is.place ∙ is_same_place-eq q q refl)

        only : (v : Visit) → Contains l v → IsVisitOf p q v
        only v c =
            let f = filter_from (is_at p q) (entries p h.positions) v c in
            let e = filter_from (λ (w : Visit). is_entry p w.agent w.position) h.positions v f.0 in
            let r = h.only v e.0 in
            record { agent = r.0; position = omega (arith, r.1, whole v.agent r.0); entered = e.1; place = is_same_place-true (path p v.agent v.position) q f.1 }

    -- the visits of open pairs are visits
    pub begun_visits : All (AreVisits p) pairs
    begun_visits = λ k d l. visits (get_or pairs k d) (h.added.grouped.each k d l)
      where
        visits : (o : OpenPair) → IsOpenPair p h.added.placed o → AreVisits p o
        visits o is = record { first = here is.neighbours.at o.first is.neighbours.here; second = here (is.neighbours.at + 1) o.second is.neighbours.next }
          where
            vs : List Visit
            vs = visits_of (place_of o.cell) h.added.placed

            here : (k : ℕ) (v : Visit) → slice_get vs k ≡ Some v → IsVisit p v
            here k v e =
                let r : IsVisitOf p (place_of o.cell) v = subst (IsVisitOf p (place_of o.cell)) (get_or_from_slice_get vs k v v e) ((lists (place_of o.cell)).only k v (slice_get_within vs k v e)) in
                record { agent = r.agent; position = r.position; entered = r.entered }

    -- if chains order all open pairs, the program is orderly
    pub begun_chained : AreInRange p → ((k : ℕ) (o : OpenPair) → k < length pairs → IsChained p (get_or pairs k o)) → IsOrderly ComesAfter p
    begun_chained range all q = (visits_of q h.added.placed, lists q, in_turn)
      where
        chained : (c : Cell) → IsCell c → Adjacent (ComesAfter p) (visits_of (place_of c) h.added.placed)
        chained c cell = adjacent_from (ComesAfter p) vs (λ k d m. next k d m)
          where
            vs : List Visit
            vs = visits_of (place_of c) h.added.placed

            next : (k : ℕ) (d : Visit) → suc k < length vs → ComesAfter p (get_or vs k d) (get_or vs (suc k) d)
            next k d m =
                let n : AreConsecutive vs (get_or vs k d) (get_or vs (suc k) d) = record {
                  at = k;
                  here = slice_get-get_or vs k d (omega arith);
                  next = ap (slice_get vs) (omega arith) ∙ slice_get-get_or vs (suc k) d m;
                } in
                elim ((h.added.grouped.cells c cell).next (get_or vs k d) (get_or vs (suc k) d) n) [
                  | inl a ↦ await_chain p range (place_of c) (get_or vs k d) (get_or vs (suc k) d) ((lists (place_of c)).only (suc k) d m) a
                  | inr (j, l, e) ↦ inr (subst (IsChained p) e (all j (record { cell = c; first = get_or vs k d; second = get_or vs (suc k) d }) l))
                ]

        in_turn : Adjacent (ComesAfter p) (visits_of q h.added.placed)
        in_turn = elim (some_cell p q h.added.placed h.added.each) [
          | inl e ↦ subst (Adjacent (ComesAfter p)) (sym e) tt
          | inr (c, cell, here) ↦ subst (λ (r : Place). Adjacent (ComesAfter p) (visits_of r h.added.placed)) here (chained c cell)
        ]

    pub begun_orderly : AreInRange p → pairs ≡ [] → IsOrderly ComesAfter p
    begun_orderly range closed = begun_chained range (λ k o l. absurd (contains_none (get_or pairs k o) (subst (λ (os : List OpenPair). Contains os (get_or pairs k o)) closed (k, l, get_or_default pairs k (get_or pairs k o) o l))))
