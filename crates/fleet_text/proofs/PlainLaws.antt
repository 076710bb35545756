-- A number that a word spells without a leading zero is written as that word.
use Rattle.std.proofs.Common.{◌≡◌, ◌≢◌, ◌∙◌, ℕ, zero, suc, ◌+◌, ◌-◌, ◌*◌, ◌<◌, ◌^◌, true, false, [], ◌∷◌, length, get_or, None, Some, eqb, refl, sym, ap, inl, inr, ◌⊎◌, arith, rules, All, decimal}
use Rattle.std.specs.Str.{all_ascii_digits}
use Rattle.std.proofs.lemmas.Bool.{cases_Bool, and_parts, ne_eqb}
use Rattle.std.proofs.lemmas.Fmt.{digits_decimal, digits_value-decimal, decimal-digits_value, decimal_nonempty, decimal_digit, first_decimal}
use Rattle.std.proofs.lemmas.List.{get_or_default}
use Rattle.std.proofs.lemmas.Str.Parse.{IsNumeralModel, numerals_by_fold, not_in_digits}
use Rattle.fleet_text.specs.Text.{Bytes, is_digit, is_space, number_after, number, plain_number}

abbrev read_on : ℕ → Bytes → ℕ
read_on n [] = n
read_on n (d ∷ ds) = read_on (10 * n + (d - 48)) ds

own : IsNumeralModel (λ ds. all_ascii_digits ds ≡ true) (read_on 0)
own = numerals_by_fold _ (search rules) read_on (search rules)

after_digits : (m k : ℕ) (ds : Bytes) → number_after m ds ≡ Some k → (all_ascii_digits ds ≡ true) × (read_on m ds ≡ k)
unfolding number_after
after_digits m k [] e = (refl, cc)
after_digits m k (d ∷ ds) e =
    elim (cases_Bool (is_digit d)) [
      | inl t ↦ (let r = after_digits (10 * m + (d - 48)) k ds (rw t at e) in (rw (t, r.0) refl, r.1))
      | inr t ↦ absurd (let f : None ≡ Some k = rw t at e in cc)
    ]

digits_after : (m : ℕ) (ds : Bytes) → all_ascii_digits ds ≡ true → number_after m ds ≡ Some (read_on m ds)
unfolding number_after
digits_after m [] e = refl
digits_after m (d ∷ ds) e = let p = and_parts (is_digit d) (all_ascii_digits ds) e in rw p.0 (digits_after (10 * m + (d - 48)) ds p.1)

pub plain_is_decimal : (word : Bytes) (i : ℕ) → plain_number word ≡ Some i → i < 2 ^ 64 → word ≡ decimal i
unfolding number
plain_is_decimal [] i e small = absurd cc
plain_is_decimal (d ∷ []) i e small =
    let r = after_digits 0 i (d ∷ []) e in
    sym (decimal-digits_value own (d ∷ []) r.0 (omega arith) (λ _. refl) (rw r.1 small)) ∙ ap decimal r.1
plain_is_decimal (d ∷ c ∷ ds) i e small =
    elim (cases_Bool (eqb d 48)) [
      | inl t ↦ absurd (let f : None ≡ Some i = rw t at e in cc)
      | inr t ↦ (
          let f : number_after 0 (d ∷ c ∷ ds) ≡ Some i = rw t at e in
          let r = after_digits 0 i (d ∷ c ∷ ds) f in
          let first : d ≡ 48 → length (d ∷ c ∷ ds) ≡ 1 = λ z. absurd (let u : eqb d 48 ≡ true = rw z refl in cc) in
          sym (decimal-digits_value own (d ∷ c ∷ ds) r.0 (omega arith) first (rw r.1 small)) ∙ ap decimal r.1)
    ]

plain_of : (ds : Bytes) → all_ascii_digits ds ≡ true → 0 < length ds → (48 < get_or ds 0 0) ⊎ (length ds ≡ 1) → plain_number ds ≡ Some (read_on 0 ds)
unfolding number
plain_of [] digits some plain = absurd (omega arith)
plain_of (d ∷ []) digits some plain = digits_after 0 (d ∷ []) digits
plain_of (d ∷ c ∷ ds) digits some (inl above) = let t : eqb d 48 ≡ false = ne_eqb d 48 (λ e. omega arith) in rw t (digits_after 0 (d ∷ c ∷ ds) digits)
plain_of (d ∷ c ∷ ds) digits some (inr one) = absurd (omega arith)

pub decimal_is_plain : (i : ℕ) → i < 2 ^ 64 → plain_number (decimal i) ≡ Some i
decimal_is_plain zero small =
    plain_of (decimal 0) (digits_decimal own 0 small) (decimal_nonempty 0 small) (inr (ap length (decimal_digit 0 (omega arith)))) ∙ ap (λ (n : ℕ). Some n) (digits_value-decimal own 0 small)
decimal_is_plain (suc i) small =
    plain_of (decimal (suc i)) (digits_decimal own (suc i) small) (decimal_nonempty (suc i) small) (inl (first_decimal (suc i) (omega arith) small))
    ∙ ap (λ (n : ℕ). Some n) (digits_value-decimal own (suc i) small)

-- ---- what is no digit of a number

pub no_space : (i : ℕ) → i < 2 ^ 64 → All (λ b. is_space b ≡ false) (decimal i)
no_space i small = λ k d h. ne_eqb (get_or (decimal i) k d) 32 (λ e. not_in_digits own (decimal i) 32 (digits_decimal own i small) (λ r. omega (arith, r.0)) k h (get_or_default (decimal i) k 0 d h ∙ e))

pub first_digit : (i : ℕ) → i < 2 ^ 64 → get_or (decimal i) 0 0 ≢ 45
first_digit i small = not_in_digits own (decimal i) 45 (digits_decimal own i small) (λ r. omega (arith, r.0)) 0 (decimal_nonempty i small)
