-- Among more numbers than there are values two are equal.
use Rattle.std.proofs.Common.{◌≡◌, ℕ, zero, suc, ◌<◌, ◌≤◌, Bool, true, false, cond, eqb, refl, sym, ◌∙◌, inl, inr, arith}
use Rattle.std.specs.Prelude.{◌⊎◌}
use Rattle.std.proofs.lemmas.Bool.{cases_eq, cases_lt, eqb-true, eqb-false}

-- two of the first m values are equal
pub record IsRepeat (f : ℕ → ℕ) (m : ℕ) : Type 0 where
  pub first : ℕ
  pub second : ℕ
  pub order : first < second
  pub within : second < m
  pub same : f first ≡ f second

-- a value is among the first m
abbrev IsAmong : (ℕ → ℕ) → ℕ → ℕ → Type 0
IsAmong f m v = (x : ℕ) × (x < m) × (f x ≡ v)

among : (f : ℕ → ℕ) (m v : ℕ) → IsAmong f m v ⊎ (IsAmong f m v → ⊥)
among f zero v = inr (λ (x, l, e). omega arith)
among f (suc m) v = elim (cases_eq (f m) v) [
  | inl e ↦ inl (m, omega arith, e)
  | inr ne ↦ elim (among f m v) [
    | inl r ↦ inl (r.0, omega (arith, r.1), r.2)
    | inr none ↦ inr (λ (x, l, e). elim (cases_eq x m) [ inl g ↦ ne (Rattle.std.proofs.Common.ap f (sym g) ∙ e) | inr other ↦ none (x, omega arith, e) ])
  ]
]

-- the values, the greatest one moved onto another
greatest_moved : (ℕ → ℕ) → ℕ → ℕ → ℕ → ℕ
greatest_moved f top v i = cond (eqb (f i) top) v (f i)

abbrev IsMoved : ℕ → ℕ → ℕ → ℕ → Type 0
IsMoved x top v r = ((x ≡ top) × (r ≡ v)) ⊎ ((x ≡ top → ⊥) × (r ≡ x))

moved_by : (x top v : ℕ) (t : Bool) → eqb x top ≡ t → IsMoved x top v (cond t v x)
moved_by x top v true e = inl (eqb-true x top e, refl)
moved_by x top v false e = inr (eqb-false x top e, refl)

moved_is : (f : ℕ → ℕ) (top v i : ℕ) → IsMoved (f i) top v (greatest_moved f top v i)
unfolding greatest_moved
moved_is f top v i = moved_by (f i) top v (eqb (f i) top) refl

pub repeated : (n m : ℕ) (f : ℕ → ℕ) → n < m → ((i : ℕ) → i < m → f i < n) → IsRepeat f m
repeated zero m f l into = absurd (let h : f 0 < 0 = into 0 (omega arith) in omega arith)
repeated (suc n) zero f l into = absurd (omega arith)
repeated (suc n) (suc m) f l into =
    elim (among f m (f m)) [
      | inl r ↦ record { first = r.0; second = m; order = r.1; within = omega arith; same = r.2 }
      | inr none ↦ back (repeated n m (greatest_moved f n (f m)) (omega arith) (smaller none)) none
    ]
  where
    smaller : (IsAmong f m (f m) → ⊥) → (i : ℕ) → i < m → greatest_moved f n (f m) i < n
    smaller none i h =
        let a : f i < suc n = into i (omega arith) in
        let b : f m < suc n = into m (omega arith) in
        let ne : f i ≡ f m → ⊥ = λ e. none (i, h, e) in
        elim (moved_is f n (f m) i) [ inl w ↦ (elim (cases_eq (f m) n) [ inl e ↦ absurd (ne (w.0 ∙ sym e)) | inr g ↦ omega (arith, w.1) ]) | inr w ↦ omega (arith, w.0, w.1) ]

    back : IsRepeat (greatest_moved f n (f m)) m → (IsAmong f m (f m) → ⊥) → IsRepeat f (suc m)
    back r none = record { first = r.first; second = r.second; order = r.order; within = omega (arith, r.within); same = same (moved_is f n (f m) r.first) (moved_is f n (f m) r.second) }
      where
        same : IsMoved (f r.first) n (f m) (greatest_moved f n (f m) r.first) → IsMoved (f r.second) n (f m) (greatest_moved f n (f m) r.second) → f r.first ≡ f r.second
        same (inl v) (inl w) = v.0 ∙ sym w.0
        same (inl v) (inr w) = absurd (none (r.second, r.within, sym (sym v.1 ∙ (r.same ∙ w.1))))
        same (inr v) (inl w) = absurd (none (r.first, omega (arith, r.order, r.within), sym v.1 ∙ (r.same ∙ w.1)))
        same (inr v) (inr w) = sym v.1 ∙ (r.same ∙ w.1)

-- so if no two are equal, there are no more numbers than values
abbrev pub Into : (ℕ → ℕ) → ℕ → ℕ → Type 0
Into f n m = (i : ℕ) → i < n → f i < m

abbrev pub OneToOne : (ℕ → ℕ) → ℕ → Type 0
OneToOne f n = (i j : ℕ) → i < n → j < n → f i ≡ f j → i ≡ j

pub pigeonhole : (n m : ℕ) (f : ℕ → ℕ) → Into f n m → OneToOne f n → n ≤ m
pigeonhole n m f into one = elim (cases_lt m n) [
  | inl l ↦ (let r : IsRepeat f n = repeated m n f l into in
      let order = r.order in
      let same : r.first ≡ r.second = one r.first r.second (omega (arith, order, r.within)) r.within r.same in
      absurd (omega (arith, order, same)))
  | inr g ↦ omega (arith, g)
]
