-- A number, written over one beside it by its last digit.
use Rattle.fleet_run.proofs.Words.{◌≡◌, ◌≤◌, ◌<◌, ◌+◌, ◌-◌, ◌/◌, ◌%◌, ◌^◌, ◌++◌, ◌∷◌, [], ℤ, pos, set, ℕ, List, length, take, drop, ap, sym, ◌∙◌, arith, append_assoc, length-append, slice_index, ints, take-append-drop, length-take, get_or-append_seam, set-append_seam, signed_decimal, tens_text, AreClose, IsDigit, IsDigitOver, IsWrittenOver, numeral, numeral_text}
use Rattle.fleet_text.proofs.DigitLemmas.{decimal_by_tens}

-- ---- the text of a numeral

-- up to its last digit
abbrev to_digit : (separator tens : ℕ) → List ℕ
to_digit separator tens = separator ∷ tens_text tens

by_digit : (separator m : ℕ) (z : ℤ) (D : List ℕ) → z ≡ pos m → m < 2 ^ 64 → numeral_text (numeral separator z) ++ D ≡ to_digit separator (m / 10) ++ ((48 + m % 10) ∷ D)
by_digit separator m z D is fits =
    let digits : signed_decimal z ≡ tens_text (m / 10) ++ ((48 + m % 10) ∷ []) = ap signed_decimal is ∙ decimal_by_tens m fits in
    ap (λ l. separator ∷ (l ++ D)) digits ∙ ap (λ l. separator ∷ l) (append_assoc (tens_text (m / 10)) ((48 + m % 10) ∷ []) D)

long_text : (separator m : ℕ) (z : ℤ) → z ≡ pos m → m < 2 ^ 64 → length (numeral_text (numeral separator z)) ≡ length (to_digit separator (m / 10)) + 1
long_text separator m z is fits =
    let digits : signed_decimal z ≡ tens_text (m / 10) ++ ((48 + m % 10) ∷ []) = ap signed_decimal is ∙ decimal_by_tens m fits in
    omega (arith, ap length digits, length-append (tens_text (m / 10)) ((48 + m % 10) ∷ []))

-- ---- a digit in a row of bytes

module _ (row A B D : List ℕ) (digit : ℕ) (is : row ≡ A ++ (B ++ (digit ∷ D))) (at : ℕ) (long : at ≡ length A + length B) where
  here : at ≡ length (A ++ B)
  here = long ∙ sym (length-append A B)

  seam : row ≡ (A ++ B) ++ (digit ∷ D)
  seam = is ∙ sym (append_assoc A B (digit ∷ D))

  digit_read : slice_index row at ≡ digit
  digit_read =
      let nothing : ℕ = 0 in
      ap (λ k. slice_index row k) here ∙ (ap (λ l. slice_index l (length (A ++ B))) seam ∙ get_or-append_seam (A ++ B) digit D nothing)

  digit_written : (new : ℕ) → set row at new ≡ A ++ (B ++ (new ∷ D))
  digit_written new =
      ap (λ k. set row k new) here
      ∙ (ap (λ l. set l (length (A ++ B)) new) seam ∙ (set-append_seam (A ++ B) digit D new ∙ append_assoc A B (new ∷ D)))

-- ---- the last digit of a numeral

module _ (separator m : ℕ) (old : ℤ) (row : List ℕ) (at end : ℕ) (is_old : old ≡ pos m) (few : m < 2 ^ 32)
    (fits : end ≡ at + length (numeral_text (numeral separator old))) (written : drop at row ≡ numeral_text (numeral separator old) ++ drop end row) (within : end ≤ length row) where
  long_before : length (take at row) ≡ at
  long_before = omega (arith, length-take at row, fits, within)

  row_is : row ≡ take at row ++ (to_digit separator (m / 10) ++ ((48 + m % 10) ∷ drop end row))
  row_is =
      sym (take-append-drop at row) ∙ (ap (λ l. take at row ++ l) written
      ∙ ap (λ l. take at row ++ l) (by_digit separator m old (drop end row) is_old (omega (arith, few))))

  last_at : end - 1 ≡ length (take at row) + length (to_digit separator (m / 10))
  last_at = omega (arith, long_before, fits, long_text separator m old is_old (omega (arith, few)))

  pub last_digit : slice_index row (end - 1) ≡ 48 + m % 10
  last_digit = digit_read row (take at row) (to_digit separator (m / 10)) (drop end row) (48 + m % 10) row_is (end - 1) last_at

  pub last_patched : (n : ℕ) (new : ℤ) → new ≡ pos n → n < 2 ^ 32 → m / 10 ≡ n / 10
      → IsWrittenOver (numeral_text (numeral separator new)) at end row (set row (end - 1) (48 + n % 10))
  last_patched n new is_new few_new tens =
      let fronts : to_digit separator (m / 10) ≡ to_digit separator (n / 10) = ap (λ k. to_digit separator k) tens in
      record {
        fits = omega (arith, fits, long_text separator m old is_old (omega (arith, few)), long_text separator n new is_new (omega (arith, few_new)), ap length fronts);
        written = digit_written row (take at row) (to_digit separator (m / 10)) (drop end row) (48 + m % 10) row_is (end - 1) last_at (48 + n % 10)
            ∙ (ap (λ l. take at row ++ (l ++ ((48 + n % 10) ∷ drop end row))) fronts
            ∙ ap (λ l. take at row ++ l) (sym (by_digit separator n new (drop end row) is_new (omega (arith, few_new)))));
      }

-- ---- the digit of a number over that of one beside it

module _ (old new : ℤ) (m n digit : ℕ) (is_old : old ≡ pos m) (is_new : new ≡ pos n) (close : AreClose old new) (is : digit ≡ 48 + m % 10) where
  low : m ≤ n + 1
  low = let h = close.low in omega (arith, ints, is_old, is_new, h)

  high : n ≤ m + 1
  high = let h = close.high in omega (arith, ints, is_old, is_new, h)

  pub digit_room : m ≤ digit + n
  digit_room = omega (arith, low, is)

  pub digit_over : (at : ℕ) (row : List ℕ) → m < 2 ^ 32 → n < 2 ^ 32 → IsDigit (digit + n - m) → IsDigitOver old new at row (set row at (digit + n - m))
  digit_over at row few_old few_new written =
      let first = written.first in
      let last = written.last in
      let same : digit + n - m ≡ 48 + n % 10 = omega (arith, low, high, is) in
      record { m = m; n = n; is_old = is_old; is_new = is_new; few_old = few_old; few_new = few_new; tens = omega (arith, low, high, is); written = ap (λ d. set row at d) same }
