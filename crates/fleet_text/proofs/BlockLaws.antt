-- The mask of a block of bytes, and the search that it serves.
use Rattle.std.proofs.Common.{◌≡◌, ℕ, ◌+◌, ◌-◌, ◌%◌, ◌^◌, ◌<◌, ◌≤◌, Bool, true, false, not, ltb, List, [], ◌∷◌, ◌++◌, map, length, take, drop, Option, Some, None, option_map, Fits, w8, refl, sym, ap, ap₂, ◌∙◌, arith, inl, inr}
use Rattle.std.specs.Prelude.{position}
use Rattle.std.specs.List.{position_or_len}
use Rattle.std.proofs.lemmas.Bool.{agree_below, agree_below_at, cases_Bool, cases_lt, lt-ltb, le-ltb, eq-eqb, ne_eqb, cond-true, cond-false}
use Rattle.std.proofs.lemmas.Simd.{map-map, mask_l-mod, leading_from_mask_l, trailing_mask_l}
use Rattle.std.proofs.lemmas.List.{length-map, length-append, take-append-drop}
use Rattle.std.proofs.lemmas.List.Folds.{prefix_len-append}
use Rattle.std.specs.Simd.Lanes.{mask_l, top, Each1}
use Rattle.std.specs.Int.Count.{count_trailing_zeros}

-- a test that computes alike at each byte
map-alike : (p q : ℕ → Bool) → agree_below p q 256 ≡ true → (v : List ℕ) → Each1 (Fits w8) v → map p v ≡ map q v
map-alike p q same [] fits = refl
map-alike p q same (x ∷ xs) fits = ap₂ (λ a b. a ∷ b) (agree_below_at p q 256 x same fits.0.fits) (map-alike p q same xs fits.1)

-- the mask of lanes that were computed one by one is that of a test
pub masked : (f : ℕ → ℕ) (p : ℕ → Bool) (v z : List ℕ) → (length v ≡ 64) × Each1 (Fits w8) v → z ≡ map f v → agree_below (λ x. top 7 (f x)) p 256 ≡ true
    → mask_l (map (top 7) z) % 2 ^ 64 ≡ mask_l (map p v)
masked f p v z fits e same =
    ap (λ l. mask_l l % 2 ^ 64) (ap (map (top 7)) e ∙ map-map (top 7) f v ∙ map-alike (λ x. top 7 (f x)) p same v fits.1) ∙ mask_l-mod (map p v) 64 (omega (arith, fits.0, length-map v p))

-- ---- the first place in a list of two parts

place-found : (p : ℕ → Bool) (xs ys : List ℕ) → position_or_len p xs < length xs → position p (xs ++ ys) ≡ Some (position_or_len p xs)
place-found p xs ys here =
    let place : position_or_len p (xs ++ ys) ≡ position_or_len p xs = prefix_len-append (λ x. not (p x)) xs ys ∙ cond-false _ _ _ (ne_eqb (position_or_len p xs) (length xs) (λ e. omega arith)) in
    let within : ltb (position_or_len p xs) (length (xs ++ ys)) ≡ true = lt-ltb _ _ (omega (arith, length-append xs ys)) in
    rw (place, within) refl

place-later : (p : ℕ → Bool) (xs ys : List ℕ) → position_or_len p xs ≡ length xs → position p (xs ++ ys) ≡ option_map (λ i. length xs + i) (position p ys)
place-later p xs ys past =
    let place : position_or_len p (xs ++ ys) ≡ length xs + position_or_len p ys = prefix_len-append (λ x. not (p x)) xs ys ∙ cond-true _ _ _ (eq-eqb (position_or_len p xs) (length xs) past) in
    elim (cases_lt (position_or_len p ys) (length ys)) [
      | inl here ↦ (
          let within : ltb (length xs + position_or_len p ys) (length (xs ++ ys)) ≡ true = lt-ltb _ _ (omega (arith, length-append xs ys)) in
          rw (place, within, lt-ltb (position_or_len p ys) (length ys) here) refl)
      | inr none ↦ (
          let outside : ltb (length xs + position_or_len p ys) (length (xs ++ ys)) ≡ false = le-ltb _ _ (omega (arith, length-append xs ys)) in
          rw (place, outside, le-ltb (position_or_len p ys) (length ys) none) refl)
    ]

shifted : (a b : ℕ) (o : Option ℕ) → option_map (λ i. a + b + i) o ≡ option_map (λ i. a + i) (option_map (λ i. b + i) o)
shifted a b None = refl
shifted a b (Some i) = ap (λ (n : ℕ). Some n) (omega arith)

-- a bit is set only if some byte passes
some-passes : (p : ℕ → Bool) (xs : List ℕ) → 0 < mask_l (map p xs) → position_or_len p xs < length xs
some-passes p [] some = absurd (omega arith)
some-passes p (x ∷ xs) some =
    elim (cases_Bool (p x)) [
      | inl t ↦ rw t (omega arith)
      | inr f ↦ (
          let h = rw f at some in
          let more = some-passes p xs (omega (arith, h)) in
          rw f (omega (arith, more)))
    ]

-- ---- a step of the search, where m is the mask of the first 64 bytes of the rest

module _ (p : ℕ → Bool) (text rest block after : List ℕ) (m : ℕ) (so_far : option_map (λ i. length text - length rest + i) (position p rest) ≡ position p text)
    (within : length rest ≤ length text) (front : block ≡ take 64 rest) (back : after ≡ drop 64 rest) (size : length after + 64 ≡ length rest) (is : m ≡ mask_l (map p block)) where
  whole : rest ≡ block ++ after
  whole = rw (front, back) (sym (take-append-drop 64 rest))

  length-block : length block ≡ 64
  length-block = omega (arith, length-append block after, ap length whole)

  pub first_found : (m ≡ 0 → ⊥) → Some (length text - length rest + count_trailing_zeros 64 m) ≡ position p text
  first_found some =
      let set : 0 < mask_l (map p block) = omega (arith, is) in
      let place : position_or_len p block ≡ count_trailing_zeros 64 m = sym (trailing_mask_l p 64 block (omega (arith, length-block)) set) ∙ ap (count_trailing_zeros 64) (sym is) in
      let here : position p rest ≡ Some (count_trailing_zeros 64 m) = ap (position p) whole ∙ place-found p block after (some-passes p block set) ∙ ap (λ (i : ℕ). Some i) place in
      sym (ap (option_map (λ (i : ℕ). length text - length rest + i)) here) ∙ so_far

  pub first_later : m ≡ 0 → option_map (λ i. length text - length after + i) (position p after) ≡ position p text
  first_later none =
      let past : position_or_len p block ≡ length block = leading_from_mask_l p block (sym is ∙ none) in
      let later : position p rest ≡ option_map (λ i. length block + i) (position p after) = ap (position p) whole ∙ place-later p block after past in
      let moved : length text - length after ≡ length text - length rest + length block = omega (arith, length-block) in
      ap (λ (n : ℕ). option_map (λ (i : ℕ). n + i) (position p after)) moved ∙ shifted (length text - length rest) (length block) (position p after) ∙ sym (ap (option_map (λ (i : ℕ). length text - length rest + i)) later) ∙ so_far
