-- Rows of numbers: buckets.
use Rattle.fleet_search.proofs.Words.{◌≡◌, ℕ, ◌<◌, ◌==◌, cond, List, [], ◌∷◌, ◌++◌, length, get_or, Option, None, Some, option_to_list, inl, inr, refl, sym, ap, ◌∙◌, arith, Vec, set, MatchOption, IfSome, IfNone, Global, cases_eq, eqb-true, eq-eqb, false_from_ne_true, items_at, items-read, items-set, items-other, lists_of}
use Rattle.fleet_search.specs.Rows.{IsPut}

-- a number is put last in a row
pub is_put : (old wide : List (Vec ℕ Global)) (key : ℕ) (m : ℕ) (v w : Vec ℕ Global) → ((k : ℕ) → items_at wide k ≡ items_at old k) → key < length wide → v ≡ get_or wide key v → w.items ≡ v.items ++ m ∷ [] → IsPut (lists_of old) (lists_of (set wide key w)) key m
is_put old wide key m v w same h e g k = elim (cases_eq k key) [
  | inl s ↦
      ap (items_at (set wide key w)) s ∙ items-set wide key w h ∙ g ∙ ap (λ z. z ++ m ∷ []) (sym (items-read wide key v h e) ∙ same key ∙ ap (items_at old) (sym s)) ∙ sym (ap (λ b. cond b (items_at old k ++ m ∷ []) (items_at old k)) (eq-eqb k key s))
  | inr ne ↦ items-other wide key k w ne ∙ same k ∙ sym (ap (λ b. cond b (items_at old k ++ m ∷ []) (items_at old k)) (false_from_ne_true (k == key) (λ t. ne (eqb-true k key t))))
]

-- a row is written back as it was
pub row-kept : (rows : List (Vec ℕ Global)) (key : ℕ) (v w : Vec ℕ Global) → key < length rows → v ≡ get_or rows key v → w.items ≡ v.items → (k : ℕ) → items_at (set rows key w) k ≡ items_at rows k
row-kept rows key v w h e g k = elim (cases_eq k key) [
  | inl s ↦ ap (items_at (set rows key w)) s ∙ items-set rows key w h ∙ g ∙ sym (items-read rows key v h e) ∙ ap (items_at rows) (sym s)
  | inr ne ↦ items-other rows key k w ne
]

pub no_numbers : (xs : List ℕ) → length xs ≡ 0 → xs ≡ []
no_numbers [] h = refl
no_numbers (x ∷ xs) h = absurd (omega arith)

-- a number is taken off a row, if it has one
pub is_taken : (rows : List (Vec ℕ Global)) (key : ℕ) (v w : Vec ℕ Global) (number : Option ℕ) → key < length rows → v ≡ get_or rows key v → v.items ≡ w.items ++ option_to_list number → IfSome number (λ m. items_at rows key ≡ items_at (set rows key w) key ++ m ∷ [])
is_taken rows key v w None h e g = tt
is_taken rows key v w (Some m) h e g = items-read rows key v h e ∙ g ∙ ap (λ z. z ++ m ∷ []) (sym (items-set rows key w h))

pub none_is_taken : (number : Option ℕ) (P Q : Type 0) (R : ℕ → Type 0) → MatchOption number P R → (P → Q) → IfNone number Q
none_is_taken None P Q R p f = f p
none_is_taken (Some m) P Q R p f = tt
