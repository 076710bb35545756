-- Loops over the agents of a row, where something is known of all others.
use Rattle.fleet_plan.proofs.Words.{◌≡◌, ◌≢◌, ℕ, zero, suc, ◌+◌, ◌-◌, ◌<◌, ◌≤◌, Bool, true, false, List, [], ◌∷◌, length, get_or, slice_get, slice_index, filter, All, Some, ◌⊎◌, inl, inr, sym, ap, ◌∙◌, subst, arith, cases_eq, cases_lt, cases_Bool, lt-ltb, le-ltb, All-filter, FiltersInPlace, range_with_len, length-range_with_len, get_or-range_with_len, get_or_from_slice_get, MAX_AGENTS, Plan, Path, path_of, IsComing, IsSoForOthers, is_under_way, Covers}

-- ---- one agent of the row after another

-- it is so for each of n agents that does not stand in the row from place k on
pub record IsSoBut (row : List ℕ) (k n : ℕ) (P : ℕ → Type 0) : Type 0 where
  pub each : (i : ℕ) → i < n → IsComing row k i ⊎ P i

pub coming_on : (row : List ℕ) (k i : ℕ) → IsComing row k i → (slice_index row k ≡ i) ⊎ IsComing row (k + 1) i
coming_on row k i c = elim (cases_eq c.at k) [
  | inl e ↦ inl (ap (slice_index row) (sym e) ∙ c.here)
  | inr ne ↦ inr (record { at = c.at; later = omega (arith, c.later); within = c.within; here = c.here })
]

pub but_begins : (row : List ℕ) (n : ℕ) (P : ℕ → Type 0) → IsSoForOthers row n P → IsSoBut row 0 n P
but_begins row n P h = record { each = h }

-- what is so of the agent at place k, and stays so of others
pub but_more : (row : List ℕ) (k n : ℕ) (P Q : ℕ → Type 0) → IsSoBut row k n P → Q (slice_index row k) → ((j : ℕ) → j < n → j ≢ slice_index row k → P j → Q j) → IsSoBut row (k + 1) n Q
but_more row k n P Q h here keep = record {
  each = λ j l. elim (cases_eq j (slice_index row k)) [
    | inl e ↦ inr (subst Q (sym e) here)
    | inr ne ↦ elim (h.each j l) [
      | inl c ↦ elim (coming_on row k j c) [ inl e ↦ absurd (ne (sym e)) | inr d ↦ inl d ]
      | inr p ↦ inr (keep j l ne p)
    ]
  ];
}

pub but_ends : (row : List ℕ) (k n : ℕ) (P : ℕ → Type 0) → IsSoBut row k n P → length row ≤ k → (i : ℕ) → i < n → P i
but_ends row k n P h l i b = elim (h.each i b) [ inl c ↦ absurd (omega (arith, c.later, c.within)) | inr p ↦ p ]

-- ---- who is kept

coming_back : (x : ℕ) (row : List ℕ) (i : ℕ) → IsComing row 0 i → IsComing (x ∷ row) 0 i
coming_back x row i c = record { at = suc c.at; later = omega arith; within = (let h : c.at < length row = c.within in omega arith); here = c.here }

pub kept_in : (p : ℕ → Bool) (row : List ℕ) (i : ℕ) → p i ≡ true → IsComing row 0 i → IsComing (filter p row) 0 i
kept_in p row i y c = go row c.at c.within c.here
  where
    go : (row : List ℕ) (k : ℕ) → k < length row → slice_index row k ≡ i → IsComing (filter p row) 0 i
    go [] k l e = absurd (omega arith)
    go (x ∷ row) zero l e =
        let passes : p x ≡ true = ap p e ∙ y in
        rw passes (record { at = zero; later = omega arith; within = omega arith; here = e })
    go (x ∷ row) (suc k) l e = elim (cases_Bool (p x)) [
      | inl z ↦ rw z (coming_back x (filter p row) i (go row k (omega arith) e))
      | inr z ↦ rw z (go row k (omega arith) e)
    ]

length_kept : (p : ℕ → Bool) (row : List ℕ) → length (filter p row) ≤ length row
length_kept p [] = omega arith
length_kept p (x ∷ row) =
    let h : length (filter p row) ≤ length row = length_kept p row in
    elim (cases_Bool (p x)) [ inl z ↦ rw z (omega arith) | inr z ↦ rw z (omega arith) ]

pub covers_on : (plan : Plan) (t : ℕ) (row row' : List ℕ) → Covers plan t row → row' ≡ filter (is_under_way plan (t + 1)) row → Covers plan (t + 1) row'
covers_on plan t row row' c e = subst (Covers plan (t + 1)) (sym e) (record {
  few = omega (arith, c.few, length_kept p row);
  agents = All-filter p (λ i. i < length plan) row c.agents;
  others = λ i l. elim (cases_lt (t + 1) (length (path_of plan i) - 1)) [
    | inl on ↦ elim (c.others i l) [
      | inl a ↦ inl (kept_in p row i (lt-ltb (t + 1) (length (path_of plan i) - 1) on) a)
      | inr ended ↦ inr (omega (arith, ended))
    ]
    | inr ends ↦ inr (omega (arith, ends))
  ];
})
  where
    p : ℕ → Bool
    p = is_under_way plan (t + 1)

pub goes_on : (plan : Plan) (t i s : ℕ) (path : Path) → slice_get plan i ≡ Some path → s + 1 ≡ length path → t < s → is_under_way plan t i ≡ true
goes_on plan t i s path g long l =
    let same = ap length (get_or_from_slice_get plan i path [] g) in
    lt-ltb t (length (get_or plan i []) - 1) (omega arith)

pub has_ended : (plan : Plan) (t i s : ℕ) (path : Path) → slice_get plan i ≡ Some path → s + 1 ≡ length path → s ≤ t → is_under_way plan t i ≡ false
has_ended plan t i s path g long l =
    let same = ap length (get_or_from_slice_get plan i path [] g) in
    le-ltb t (length (get_or plan i []) - 1) (omega arith)

-- an element that is yet to be read is one of the list
pub still_there : (P : ℕ → Type 0) (p : ℕ → Bool) (xs ys : List ℕ) (k i x : ℕ) → FiltersInPlace p xs ys k i → i < length ys → x ≡ get_or ys i x → All P xs → P x
still_there P p xs ys k i x f l e h =
    let z : i + 0 ≡ i = omega arith in
    let at = λ (zs : List ℕ). package.Rattle.std.proofs.lemmas.List.get_or-drop i zs 0 x ∙ ap (λ n. get_or zs n x) z in
    let same : x ≡ get_or xs i x = e ∙ sym (at ys) ∙ ap (λ zs. get_or zs 0 x) f.rest ∙ at xs in
    subst P (sym same) (h i x (omega (arith, f.long)))

-- ---- all agents

pub covers_all : (plan : Plan) (row : List ℕ) → length plan ≤ MAX_AGENTS → row ≡ range_with_len 0 (length plan) → Covers plan 0 row
covers_all plan row few e = subst (Covers plan 0) (sym e) (record {
  few = omega (arith, long);
  agents = λ k d l. let b : k < length plan = omega (arith, long) in let h = get_or-range_with_len 0 (length plan) k d b in omega arith;
  others = λ i l. inl (record { at = i; later = omega arith; within = omega (arith, long); here = get_or-range_with_len 0 (length plan) i 0 l ∙ (let z : 0 + i ≡ i = omega arith in z) });
})
  where
    long : length (range_with_len 0 (length plan)) ≡ length plan
    long = length-range_with_len 0 (length plan)

-- ---- a row of numbers, filled at the agents of a row
