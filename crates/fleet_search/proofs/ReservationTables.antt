-- Occupancies of a cell, in the order of time, and who stands there.
use Rattle.fleet_search.proofs.Words.{◌≡◌, ◌≢◌, ℕ, zero, suc, ◌+◌, ◌-◌, ◌<◌, ◌≤◌, List, length, get_or, ◌⊎◌, ◌↔◌, inl, inr, sym, ap, ◌∙◌, subst, arith, IsPartitionPoint, cases_lt, cases_eq, get_or_default, length-insert, get_or-insert_below, get_or-insert_at, get_or-insert_above, Cell, MAX_HORIZON, Plan, cell_at, cell_of, Occupancy, Fits, with_path, StandsOn, IsUnoccupied, IsFreeFrom, IsDuring, IsOccupancyOn, AreOccupanciesOn, AreInOrder, IsPutIn, no_occupancy, occupancy_at, FOREVER}
use Rattle.fleet_search.proofs.Steps.{each_step, with_path-old, with_path-new, length-with_path}

-- ---- the order of time

pub AreInOrder-apart : (occupancies : List Occupancy) → ((i : ℕ) → i < length occupancies → (occupancy_at occupancies i).from ≤ (occupancy_at occupancies i).until) → ((i k : ℕ) → i < k → k < length occupancies → (occupancy_at occupancies i).until < (occupancy_at occupancies k).from) → AreInOrder occupancies
AreInOrder-apart occupancies some_time apart i j d l m = elim (cases_eq i j) [
  | inl e ↦ let z : (get_or occupancies i d).from ≡ (get_or occupancies j d).from = ap (λ k. (get_or occupancies k d).from) e in omega arith
  | inr ne ↦
      let a = apart i j (omega arith) m in
      let b = some_time i (omega arith) in
      let p : (get_or occupancies i d).from ≡ (occupancy_at occupancies i).from = ap (λ (s : Occupancy). s.from) (get_or_default occupancies i d no_occupancy (omega arith)) in
      let q : (get_or occupancies j d).from ≡ (occupancy_at occupancies j).from = ap (λ (s : Occupancy). s.from) (get_or_default occupancies j d no_occupancy m) in
      omega arith
]

pub AreInOrder-occupancies : (plan : Plan) (c : Cell) (occupancies : List Occupancy) → AreOccupanciesOn plan c occupancies → AreInOrder occupancies
AreInOrder-occupancies plan c occupancies h = AreInOrder-apart occupancies (λ i l. (h.each i l).some_time) h.apart

-- ---- who stands there

module _ (plan : Plan) (c : Cell) (occupancies : List Occupancy) (h : AreOccupanciesOn plan c occupancies) (t n : ℕ) (few : t ≤ FOREVER) (point : IsPartitionPoint (λ s. s.from ≤ t) (λ s. t < s.from) occupancies n) (bound : n ≤ length occupancies) where
  -- an occupancy during the time has begun
  during-begun : (i : ℕ) → i < length occupancies → IsDuring (occupancy_at occupancies i) t → i < n
  during-begun i l on = elim (cases_lt i n) [
    | inl a ↦ a
    | inr a ↦ let later = point.1 i no_occupancy a l in let by = on.0 in absurd (omega arith)
  ]

  pub nobody_yet : n ≡ 0 → IsUnoccupied plan t c
  nobody_yet z j p e =
      let w = h.all t j (record { agent = p; on = e }) in
      let b = during-begun w.0 w.1 w.2 in
      omega arith

  pub is_there : (occupancy : Occupancy) → occupancy ≡ occupancy_at occupancies (n - 1) → 0 < n → t ≤ occupancy.until → StandsOn plan t c occupancy.agent
  is_there occupancy e some l =
      let s = h.each (n - 1) (omega arith) in
      let by = point.0 (n - 1) no_occupancy (omega arith) (omega arith) in
      let u : occupancy.until ≡ (occupancy_at occupancies (n - 1)).until = ap (λ (s : Occupancy). s.until) e in
      subst (λ (z : Occupancy). StandsOn plan t c z.agent) (sym e) (record { agent = s.agent; on = s.on t (by, inl (omega arith)) })

  pub gone : (occupancy : Occupancy) → occupancy ≡ occupancy_at occupancies (n - 1) → 0 < n → occupancy.until < t → IsUnoccupied plan t c
  gone occupancy e some l j p on =
      let w = h.all t j (record { agent = p; on = on }) in
      let b = during-begun w.0 w.1 w.2 in
      let u : occupancy.until ≡ (occupancy_at occupancies (n - 1)).until = ap (λ (s : Occupancy). s.until) e in
      elim (cases_eq w.0 (n - 1)) [
        | inl s ↦
            let v : (occupancy_at occupancies w.0).until ≡ (occupancy_at occupancies (n - 1)).until = ap (λ k. (occupancy_at occupancies k).until) s in
            elim (w.2.1) [ inl x ↦ omega arith | inr x ↦ omega arith ]
        | inr ne ↦
            let a = h.apart w.0 (n - 1) (omega arith) (omega arith) in
            let by = point.0 (n - 1) no_occupancy (omega arith) (omega arith) in
            elim (w.2.1) [ inl x ↦ omega arith | inr x ↦ omega arith ]
      ]

-- ---- from when on the cell is free

pub never_visited : (plan : Plan) (c : Cell) (occupancies : List Occupancy) → AreOccupanciesOn plan c occupancies → length occupancies ≡ 0 → (t : ℕ) → IsFreeFrom plan c t ↔ (0 ≤ t)
never_visited plan c occupancies h e t = (
  λ f. omega arith,
  λ z u l j p on. let w = h.all u j (record { agent = p; on = on }) in let b = w.1 in omega arith,
)

module _ (plan : Plan) (c : Cell) (occupancies : List Occupancy) (h : AreOccupanciesOn plan c occupancies) (occupancy : Occupancy) (some : 0 < length occupancies) (last : occupancy ≡ occupancy_at occupancies (length occupancies - 1)) where
  last-occupancy : IsOccupancyOn plan c occupancy
  last-occupancy = subst (IsOccupancyOn plan c) (sym last) (h.each (length occupancies - 1) (omega arith))

  pub never_free : occupancy.until ≡ FOREVER → (t : ℕ) → IsFreeFrom plan c t → ⊥
  never_free e t f =
      let u = t + occupancy.from in
      f u (omega arith) occupancy.agent last-occupancy.agent (last-occupancy.on u (omega arith, inr e))

  pub free_from-last : occupancy.until ≢ FOREVER → (t : ℕ) → IsFreeFrom plan c t ↔ (occupancy.until + 1 ≤ t)
  free_from-last ne t = (
    λ f. elim (cases_lt occupancy.until t) [
      | inl l ↦ omega arith
      | inr l ↦ absurd (f occupancy.until l occupancy.agent last-occupancy.agent (last-occupancy.on occupancy.until (last-occupancy.some_time, inl (omega arith))))
    ],
    λ l u m j p on.
        let w = h.all u j (record { agent = p; on = on }) in
        let x = length occupancies - 1 in
        let v : occupancy.until ≡ (occupancy_at occupancies x).until = ap (λ (s : Occupancy). s.until) last in
        let b = w.1 in
        let some_time = (h.each x (omega arith)).some_time in
        elim (cases_eq w.0 x) [
          | inl s ↦
              let y : (occupancy_at occupancies w.0).until ≡ (occupancy_at occupancies x).until = ap (λ k. (occupancy_at occupancies k).until) s in
              elim (w.2.1) [ inl z ↦ omega arith | inr z ↦ ne (v ∙ sym y ∙ z) ]
          | inr s ↦
              let a = h.apart w.0 x (omega arith) (omega arith) in
              let early = (h.each x (omega arith)).early in
              elim (w.2.1) [ inl z ↦ omega arith | inr z ↦ omega arith ]
        ],
  )

-- ---- one more path is entered

-- the occupancies on the cell of the agents of the plan, and of one more before the time
pub record AreOccupanciesTo (plan : Plan) (path : List Cell) (n : ℕ) (c : Cell) (occupancies : List Occupancy) : Type 0 where
  pub each : (i : ℕ) → i < length occupancies → IsOccupancyOn (with_path plan path) c (occupancy_at occupancies i)
  pub apart : (i k : ℕ) → i < k → k < length occupancies → (occupancy_at occupancies i).until < (occupancy_at occupancies k).from
  pub past : (i : ℕ) → i < length occupancies → ((occupancy_at occupancies i).agent < length plan) ⊎ ((occupancy_at occupancies i).until < n)
  pub all : (t j : ℕ) → StandsOn (with_path plan path) t c j → (j < length plan) ⊎ (t < n) → (i : ℕ) × (i < length occupancies) × IsDuring (occupancy_at occupancies i) t

pub AreInOrder-to : (plan : Plan) (path : List Cell) (n : ℕ) (c : Cell) (occupancies : List Occupancy) → AreOccupanciesTo plan path n c occupancies → AreInOrder occupancies
AreInOrder-to plan path n c occupancies h = AreInOrder-apart occupancies (λ i l. (h.each i l).some_time) h.apart

-- the agents of the plan are on no cell of a path that fits
pub path-apart : (plan : Plan) (path : List Cell) → Fits plan path → (t j : ℕ) → j < length plan → cell_of plan j t ≢ cell_at path t
path-apart plan path fits zero j h = (each_step plan path fits).first j h
path-apart plan path fits (suc t) j h = let z : t + 1 ≡ suc t = omega arith in subst (λ k. cell_of plan j k ≢ cell_at path k) z (((each_step plan path fits).steps t).vertex j h)

old_or_new : (plan : Plan) (path : List Cell) (j : ℕ) → j < length (with_path plan path) → (j < length plan) ⊎ (j ≡ length plan)
old_or_new plan path j h = elim (cases_lt j (length plan)) [ inl l ↦ inl l | inr l ↦ inr (omega (arith, length-with_path plan path)) ]

-- where the agent of the path is
new-at : (plan : Plan) (path : List Cell) (j t : ℕ) → j ≡ length plan → cell_of (with_path plan path) j t ≡ cell_at path t
new-at plan path j t e = ap (λ k. cell_of (with_path plan path) k t) e ∙ with_path-new plan path t

pub to-none : (plan : Plan) (path : List Cell) (c : Cell) (occupancies : List Occupancy) → AreOccupanciesOn plan c occupancies → AreOccupanciesTo plan path 0 c occupancies
to-none plan path c occupancies h = record {
  each = λ i l. let s = h.each i l in record {
    agent = let a = s.agent in omega (arith, length-with_path plan path);
    early = s.early;
    some_time = s.some_time;
    on = λ t d. with_path-old plan path (occupancy_at occupancies i).agent t s.agent ∙ s.on t d;
  };
  apart = h.apart;
  past = λ i l. inl ((h.each i l).agent);
  all = λ t j on w. elim w [
    | inl l ↦ h.all t j (record { agent = l; on = sym (with_path-old plan path j t l) ∙ on.on })
    | inr l ↦ absurd (omega arith)
  ];
}

-- on another cell than that of the path from then on
module _ (plan : Plan) (path : List Cell) (n : ℕ) (c : Cell) (occupancies : List Occupancy) (h : AreOccupanciesTo plan path n c occupancies) where
  pub to-other : (m : ℕ) → n ≤ m → ((t : ℕ) → n ≤ t → t < m → c ≢ cell_at path t) → AreOccupanciesTo plan path m c occupancies
  to-other m le ne = record {
    each = h.each;
    apart = h.apart;
    past = λ i l. elim (h.past i l) [ inl a ↦ inl a | inr a ↦ inr (omega arith) ];
    all = λ t j on w. elim (old_or_new plan path j on.agent) [
      | inl l ↦ h.all t j on (inl l)
      | inr e ↦ elim (cases_lt t n) [
        | inl l ↦ h.all t j on (inr l)
        | inr l ↦ elim w [
          | inl a ↦ absurd (omega arith)
          | inr a ↦ absurd (ne t l a (sym (sym (new-at plan path j t e) ∙ on.on)))
        ]
      ]
    ];
  }

  pub to-all_other : ((t : ℕ) → n ≤ t → c ≢ cell_at path t) → AreOccupanciesOn (with_path plan path) c occupancies
  to-all_other ne = record {
    each = h.each;
    apart = h.apart;
    all = λ t j on. elim (old_or_new plan path j on.agent) [
      | inl l ↦ h.all t j on (inl l)
      | inr e ↦ elim (cases_lt t n) [
        | inl l ↦ h.all t j on (inr l)
        | inr l ↦ absurd (ne t l (sym (sym (new-at plan path j t e) ∙ on.on)))
      ]
    ];
  }

-- an occupancy of the agent is put in
module _ (plan : Plan) (path : List Cell) (fits : Fits plan path) (n : ℕ) (c : Cell) (xs ys : List Occupancy) (occupancy : Occupancy) (h : AreOccupanciesTo plan path n c xs) (p : IsPutIn xs ys occupancy) (agent : occupancy.agent ≡ length plan) (from : occupancy.from ≡ n) (early : n ≤ MAX_HORIZON) (some_time : occupancy.from ≤ occupancy.until) (there : (t : ℕ) → IsDuring occupancy t → cell_at path t ≡ c) where
  long : length ys ≡ length xs + 1
  long = ap length p.is ∙ length-insert xs p.index occupancy p.bound

  at-below : (k : ℕ) → k < p.index → occupancy_at ys k ≡ occupancy_at xs k
  at-below k l = ap (λ (z : List Occupancy). occupancy_at z k) p.is ∙ get_or-insert_below xs p.index occupancy no_occupancy k l p.bound

  at-here : occupancy_at ys p.index ≡ occupancy
  at-here = ap (λ (z : List Occupancy). occupancy_at z p.index) p.is ∙ get_or-insert_at xs p.index occupancy no_occupancy p.bound

  at-above : (k : ℕ) → p.index ≤ k → occupancy_at ys (k + 1) ≡ occupancy_at xs k
  at-above k l = ap (λ (z : List Occupancy). occupancy_at z (k + 1)) p.is ∙ get_or-insert_above xs p.index occupancy no_occupancy k l p.bound

  -- the occupancy that stands at k now
  placed-cases : (k : ℕ) → k < length ys → ((k < p.index) × (occupancy_at ys k ≡ occupancy_at xs k)) ⊎ (((k ≡ p.index) × (occupancy_at ys k ≡ occupancy)) ⊎ ((p.index < k) × (occupancy_at ys k ≡ occupancy_at xs (k - 1))))
  placed-cases k l = elim (cases_lt k p.index) [
    | inl a ↦ inl (a, at-below k a)
    | inr a ↦ elim (cases_eq k p.index) [
      | inl e ↦ inr (inl (e, ap (occupancy_at ys) e ∙ at-here))
      | inr ne ↦ inr (inr (omega arith, ap (occupancy_at ys) (let z : k ≡ k - 1 + 1 = omega arith in z) ∙ at-above (k - 1) (omega arith)))
    ]
  ]

  placed-each : (P : Occupancy → Type 0) → ((i : ℕ) → i < length xs → P (occupancy_at xs i)) → P occupancy → (k : ℕ) → k < length ys → P (occupancy_at ys k)
  placed-each P old new k l = elim (placed-cases k l) [
    | inl w ↦ subst P (sym w.1) (old k (let b = p.bound in omega arith))
    | inr w ↦ elim w [
      | inl v ↦ subst P (sym v.1) new
      | inr v ↦ subst P (sym v.1) (old (k - 1) (let z = long in omega arith))
    ]
  ]

  -- no occupancy on the cell is during this one
  never_both : (i t : ℕ) → i < length xs → IsDuring (occupancy_at xs i) t → IsDuring occupancy t → ⊥
  never_both i t l d e = elim (h.past i l) [
    | inl a ↦ path-apart plan path fits t (occupancy_at xs i).agent a (sym (with_path-old plan path (occupancy_at xs i).agent t a) ∙ (h.each i l).on t d ∙ sym (there t e))
    | inr a ↦ let f = e.0 in elim (d.1) [ inl x ↦ omega arith | inr x ↦ omega arith ]
  ]

  ends_before : (i : ℕ) → i < p.index → (occupancy_at xs i).until < occupancy.from
  ends_before i l = elim (cases_lt (occupancy_at xs i).until occupancy.from) [
    | inl a ↦ a
    | inr a ↦ absurd (never_both i occupancy.from (let b = p.bound in omega arith) (p.before i l, inl a) (omega arith, inl some_time))
  ]

  begins_after : (i : ℕ) → p.index ≤ i → i < length xs → occupancy.until < (occupancy_at xs i).from
  begins_after i l m = elim (cases_lt occupancy.until (occupancy_at xs i).from) [
    | inl a ↦ a
    | inr a ↦ absurd (never_both i (occupancy_at xs i).from m (omega arith, inl ((h.each i m).some_time)) (let b = p.after i l m in omega arith, inl a))
  ]

  placed-apart : (i k : ℕ) → i < k → k < length ys → (occupancy_at ys i).until < (occupancy_at ys k).from
  placed-apart i k l m =
      let b = p.bound in
      let z = long in
      elim (placed-cases k m) [
        | inl w ↦ subst (λ (s : Occupancy). (occupancy_at ys i).until < s.from) (sym w.1) (subst (λ (s : Occupancy). s.until < (occupancy_at xs k).from) (sym (at-below i (omega arith))) (h.apart i k l (omega arith)))
        | inr w ↦ elim w [
          | inl v ↦ subst (λ (s : Occupancy). (occupancy_at ys i).until < s.from) (sym v.1) (subst (λ (s : Occupancy). s.until < occupancy.from) (sym (at-below i (omega arith))) (ends_before i (omega arith)))
          | inr v ↦ subst (λ (s : Occupancy). (occupancy_at ys i).until < s.from) (sym v.1) (elim (placed-cases i (omega arith)) [
            | inl x ↦ subst (λ (s : Occupancy). s.until < (occupancy_at xs (k - 1)).from) (sym x.1) (h.apart i (k - 1) (omega arith) (omega arith))
            | inr x ↦ elim x [
              | inl y ↦ subst (λ (s : Occupancy). s.until < (occupancy_at xs (k - 1)).from) (sym y.1) (begins_after (k - 1) (omega arith) (omega arith))
              | inr y ↦ subst (λ (s : Occupancy). s.until < (occupancy_at xs (k - 1)).from) (sym y.1) (h.apart (i - 1) (k - 1) (omega arith) (omega arith))
            ]
          ])
        ]
      ]

  placed-is : IsOccupancyOn (with_path plan path) c occupancy
  placed-is = record {
    agent = omega (arith, length-with_path plan path);
    early = omega arith;
    some_time = some_time;
    on = λ t d. new-at plan path occupancy.agent t agent ∙ there t d;
  }

  placed-old : (t : ℕ) → ((i : ℕ) × (i < length xs) × IsDuring (occupancy_at xs i) t) → (i : ℕ) × (i < length ys) × IsDuring (occupancy_at ys i) t
  placed-old t w =
      let z = long in
      let l = w.1 in
      elim (cases_lt w.0 p.index) [
        | inl a ↦ (w.0, omega arith, subst (λ (s : Occupancy). IsDuring s t) (sym (at-below w.0 a)) w.2)
        | inr a ↦ (w.0 + 1, omega arith, subst (λ (s : Occupancy). IsDuring s t) (sym (at-above w.0 a)) w.2)
      ]

  placed-new : (t : ℕ) → IsDuring occupancy t → (i : ℕ) × (i < length ys) × IsDuring (occupancy_at ys i) t
  placed-new t d = (p.index, let z = long in let b = p.bound in omega arith, subst (λ (s : Occupancy). IsDuring s t) (sym at-here) d)

  pub to-placed : (m : ℕ) → occupancy.until ≡ m → n ≤ m → m ≤ MAX_HORIZON → AreOccupanciesTo plan path (m + 1) c ys
  to-placed m e le few = record {
    each = placed-each (IsOccupancyOn (with_path plan path) c) h.each placed-is;
    apart = placed-apart;
    past = placed-each (λ s. (s.agent < length plan) ⊎ (s.until < m + 1)) (λ i l. elim (h.past i l) [ inl a ↦ inl a | inr a ↦ inr (omega arith) ]) (inr (omega arith));
    all = λ t j on w. elim (old_or_new plan path j on.agent) [
      | inl l ↦ placed-old t (h.all t j on (inl l))
      | inr x ↦ elim (cases_lt t n) [
        | inl l ↦ placed-old t (h.all t j on (inr l))
        | inr l ↦ elim w [
          | inl a ↦ absurd (omega arith)
          | inr a ↦ placed-new t (omega arith, inl (omega arith))
        ]
      ]
    ];
  }

  pub to-last : occupancy.until ≡ FOREVER → AreOccupanciesOn (with_path plan path) c ys
  to-last e = record {
    each = placed-each (IsOccupancyOn (with_path plan path) c) h.each placed-is;
    apart = placed-apart;
    all = λ t j on. elim (old_or_new plan path j on.agent) [
      | inl l ↦ placed-old t (h.all t j on (inl l))
      | inr x ↦ elim (cases_lt t n) [
        | inl l ↦ placed-old t (h.all t j on (inr l))
        | inr l ↦ placed-new t (omega arith, inr e)
      ]
    ];
  }
