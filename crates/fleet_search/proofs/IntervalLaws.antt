-- Safe intervals between the occupancies of a cell.
use Rattle.fleet_search.proofs.Words.{◌≡◌, ℕ, zero, suc, ◌+◌, ◌-◌, ◌<◌, ◌≤◌, inl, inr, List, length, ap, arith, Option, None, Some, IfNone, IsPartitionPoint, cases_eq, cases_lt, Cell, MAX_HORIZON, Plan, Occupancy, occupancy_at, no_occupancy, IsDuring, AreOccupanciesOn, AreSuccessive, IsInInterval, AreBegun, IsEndAfter, IsUnoccupied, IsFreeOn, FOREVER}

-- ---- lists of occupancies

pub occupancies-apart : (plan : Plan) (c : Cell) (occupancies : List Occupancy) → AreOccupanciesOn plan c occupancies → AreSuccessive occupancies
occupancies-apart plan c occupancies s = record { some_time = λ i h. (s.each i h).some_time; apart = s.apart }

-- each begins before all later ones
pub apart-from : (occupancies : List Occupancy) → AreSuccessive occupancies → (i j : ℕ) → i ≤ j → j < length occupancies → (occupancy_at occupancies i).from ≤ (occupancy_at occupancies j).from
apart-from occupancies a i j h l = elim (cases_eq i j) [
  | inl e ↦ let z = ap (λ z. (occupancy_at occupancies z).from) e in omega arith
  | inr ne ↦ let x = a.apart i j (omega arith) l in let y = a.some_time i (omega arith) in omega arith
]

pub begun-point : (occupancies : List Occupancy) (t n : ℕ) → n ≤ length occupancies → IsPartitionPoint (λ (s : Occupancy). s.from ≤ t) (λ (s : Occupancy). t < s.from) occupancies n → AreBegun occupancies t n
begun-point occupancies t n b p = record { bound = b; begun = λ i h. p.0 i no_occupancy (omega arith) h; to_come = λ i h l. p.1 i no_occupancy h l }

-- ---- the safe interval of a time

earlier : (occupancies : List Occupancy) → AreSuccessive occupancies → (t n k : ℕ) → n < k → IsInInterval occupancies n t → IsInInterval occupancies k t → ⊥
earlier occupancies a t n k l g h =
    let b = h.bound in
    let c = g.to_come n (omega arith) (omega arith) in
    let o = (h.over n l).0 in
    let s = a.some_time n (omega arith) in
    omega arith

pub one_gap : (occupancies : List Occupancy) → AreSuccessive occupancies → (t n k : ℕ) → IsInInterval occupancies n t → IsInInterval occupancies k t → n ≡ k
one_gap occupancies a t n k g h = elim (cases_eq n k) [
  | inl e ↦ e
  | inr ne ↦ elim (cases_lt n k) [
    | inl l ↦ absurd (earlier occupancies a t n k l g h)
    | inr l ↦ absurd (earlier occupancies a t k n (omega arith) h g)
  ]
]

-- the safe interval lasts from one time to another
pub interval-between : (occupancies : List Occupancy) (k s t u : ℕ) → IsInInterval occupancies k s → IsInInterval occupancies k t → s ≤ u → u ≤ t → IsInInterval occupancies k u
interval-between occupancies k s t u g h a b = record {
  bound = g.bound;
  over = λ i l. (let o = (g.over i l).0 in omega arith, (g.over i l).1);
  to_come = λ i l m. let o = h.to_come i l m in omega arith;
}

-- a cell that stays free stays in the safe interval
pub interval-since : (plan : Plan) (c : Cell) (occupancies : List Occupancy) → AreOccupanciesOn plan c occupancies → (k s t : ℕ) → s ≤ t → IsFreeOn plan c s t → IsInInterval occupancies k t → IsInInterval occupancies k s
interval-since plan c occupancies those k s t h free g = record {
  bound = g.bound;
  over = λ i l. elim (cases_lt (occupancy_at occupancies i).until s) [
    | inl past ↦ (past, (g.over i l).1)
    | inr on ↦
        let one = those.each i (let b = g.bound in omega arith) in
        let some = one.some_time in
        let over = (g.over i l).0 in
        elim (cases_lt s (occupancy_at occupancies i).from) [
          | inl before ↦ absurd (free (occupancy_at occupancies i).from (omega arith) (omega arith) (occupancy_at occupancies i).agent one.agent (one.on (occupancy_at occupancies i).from (omega arith, inl some)))
          | inr begun ↦ absurd (free s (omega arith) (omega arith) (occupancy_at occupancies i).agent one.agent (one.on s (begun, inl on)))
        ]
  ];
  to_come = λ i l m. let next = g.to_come i l m in omega arith;
}

-- what has to be looked at: the occupancies at both ends of the safe interval
pub interval-from_ends : (occupancies : List Occupancy) → AreSuccessive occupancies → (k t : ℕ) → k ≤ length occupancies → t ≤ FOREVER → (1 ≤ k → (occupancy_at occupancies (k - 1)).until < t) → (k < length occupancies → t < (occupancy_at occupancies k).from) → IsInInterval occupancies k t
interval-from_ends occupancies a k t b few past next = record {
  bound = b;
  over = λ i h.
      let p = past (omega arith) in
      elim (cases_eq i (k - 1)) [
        | inl e ↦ let z = ap (λ z. (occupancy_at occupancies z).until) e in (omega arith, omega arith)
        | inr ne ↦ let x = a.apart i (k - 1) (omega arith) (omega arith) in let y = a.some_time (k - 1) (omega arith) in (omega arith, omega arith)
      ];
  to_come = λ i h l. let n = next (omega arith) in let z = apart-from occupancies a k i h l in omega arith;
}

pub first-none : (occupancies : List Occupancy) → AreSuccessive occupancies → (k from t : ℕ) → k ≤ length occupancies → t ≤ FOREVER → (1 ≤ k → (occupancy_at occupancies (k - 1)).until < t) → ((s : ℕ) → from ≤ s → IsInInterval occupancies k s → t ≤ s) → (IsInInterval occupancies k t → ⊥) → (s : ℕ) → from ≤ s → IsInInterval occupancies k s → ⊥
first-none occupancies a k from t b few past first out s h g =
    out (interval-from_ends occupancies a k t b few past (λ l. let z = g.to_come k (omega arith) l in let f = first s h g in omega arith))

-- ---- how many occupancies have begun

begun-below : (occupancies : List Occupancy) → AreSuccessive occupancies → (t m : ℕ) → m ≤ length occupancies → (n : ℕ) × (n ≤ m) × ((i : ℕ) → i < n → (occupancy_at occupancies i).from ≤ t) × ((i : ℕ) → n ≤ i → i < m → t < (occupancy_at occupancies i).from)
begun-below occupancies a t zero b = (0, omega arith, (λ i h. absurd (omega arith)), (λ i h l. absurd (omega arith)))
begun-below occupancies a t (suc m) b = elim (cases_lt t (occupancy_at occupancies m).from) [
  | inr l ↦ (m + 1, omega arith, (λ i h. let z = apart-from occupancies a i m (omega arith) (omega arith) in omega arith), (λ i h k. absurd (omega arith)))
  | inl l ↦
      let w = begun-below occupancies a t m (omega arith) in
      let low = w.1 in (
        w.0,
        omega arith,
        w.2,
        (λ i h k. elim (cases_eq i m) [
          | inl e ↦ let z = ap (λ z. (occupancy_at occupancies z).from) e in omega arith
          | inr ne ↦ w.3 i h (omega arith)
        ]),
      )
]

begun-some : (occupancies : List Occupancy) → AreSuccessive occupancies → (t : ℕ) → (n : ℕ) × AreBegun occupancies t n
begun-some occupancies a t =
    let w = begun-below occupancies a t (length occupancies) (omega arith) in
    (w.0, record { bound = w.1; begun = w.2; to_come = w.3 })

-- ---- safe intervals in the plan

module _ (plan : Plan) (c : Cell) (occupancies : List Occupancy) (s : AreOccupanciesOn plan c occupancies) where
  -- in a safe interval nobody is on the cell
  pub interval-free : (k t : ℕ) → IsInInterval occupancies k t → IsUnoccupied plan t c
  interval-free k t g j h on =
      let w = s.all t j (record { agent = h; on = on }) in
      elim (cases_lt w.0 k) [
        | inl l ↦ let o = g.over w.0 l in elim w.2.1 [ inl x ↦ (let y = o.0 in omega arith) | inr x ↦ (let y = o.1 in omega arith) ]
        | inr l ↦ let o = g.to_come w.0 l w.1 in let d = w.2.0 in omega arith
      ]

  pub interval-free_on : (k t u : ℕ) → IsInInterval occupancies k t → IsInInterval occupancies k u → IsFreeOn plan c t u
  interval-free_on k t u g h x a b = interval-free k x (interval-between occupancies k t u x g h a b)

  -- somebody is on the cell during an occupancy
  during-taken : (i t : ℕ) → i < length occupancies → IsDuring (occupancy_at occupancies i) t → IsUnoccupied plan t c → ⊥
  during-taken i t h d free = free (occupancy_at occupancies i).agent (s.each i h).agent ((s.each i h).on t d)

  -- if nobody is on the cell, the time is in the safe interval after the occupancies that have begun
  pub free-interval : (t n : ℕ) → t ≤ FOREVER → AreBegun occupancies t n → IsUnoccupied plan t c → IsInInterval occupancies n t
  free-interval t n few b free = record {
    bound = b.bound;
    over = λ i h. elim (cases_lt (occupancy_at occupancies i).until t) [
      | inl l ↦ (l, omega arith)
      | inr l ↦ let m = b.bound in absurd (during-taken i t (omega arith) (b.begun i h, inl l) free)
    ];
    to_come = b.to_come;
  }

  -- from a time at which nobody is on the cell nobody is there until the next occupancy begins, and then somebody is
  pub free-until : (t until : ℕ) → t ≤ FOREVER → IsUnoccupied plan t c → IsEndAfter occupancies t until → ((u : ℕ) → t ≤ u → u < until → IsUnoccupied plan u c) × ((u : ℕ) → u < FOREVER → IsFreeOn plan c t u → u < until)
  free-until t until few free e = (
    λ u a b. interval-free e.next u (within u a b),
    λ u small on. elim (cases_lt u until) [
      | inl l ↦ l
      | inr l ↦ elim (cases_lt e.next (length occupancies)) [
        | inl m ↦
            let z = e.here m in
            let after = e.begun.to_come e.next (omega arith) m in
            let d = (s.each e.next m).some_time in
            absurd (during-taken e.next until m (omega arith, inl (omega arith)) (on until (omega arith) l))
        | inr m ↦ let z = e.none m in omega arith
      ]
    ],
  )
    where
      within : (u : ℕ) → t ≤ u → u < until → IsInInterval occupancies e.next u
      within u a b = record {
        bound = e.begun.bound;
        over = λ i h. let o = (free-interval t e.next few e.begun free).over i h in (let x = o.0 in omega arith, o.1);
        to_come = λ i h l. let z = e.here (omega arith) in let x = apart-from occupancies (occupancies-apart plan c occupancies s) e.next i h l in omega arith;
      }

  pub some_gap : (t : ℕ) → t ≤ FOREVER → IsUnoccupied plan t c → (n : ℕ) × IsInInterval occupancies n t
  some_gap t few free = let w = begun-some occupancies (occupancies-apart plan c occupancies s) t in (w.0, free-interval t w.0 few w.1 free)

  -- they begin at different times, and none begins late
  begins-late : (i : ℕ) → i < length occupancies → i ≤ (occupancy_at occupancies i).from
  begins-late zero h = omega arith
  begins-late (suc i) h =
      let z = begins-late i (omega arith) in
      let x = s.apart i (suc i) (omega arith) h in
      let y = (s.each i (omega arith)).some_time in
      omega arith

  pub few-occupancies : length occupancies ≤ MAX_HORIZON + 1
  few-occupancies = elim (cases_lt (MAX_HORIZON + 1) (length occupancies)) [
    | inr l ↦ l
    | inl l ↦
        let z = begins-late (length occupancies - 1) (omega arith) in
        let x = (s.each (length occupancies - 1) (omega arith)).early in
        omega arith
  ]

-- what follows from what holds where there is none
pub if_none_weaker : {P Q : Type 0} (o : Option ℕ) → (P → Q) → IfNone o P → IfNone o Q
if_none_weaker None f p = f p
if_none_weaker (Some t) f p = tt
