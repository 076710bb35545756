-- The first line of a text, the first word of a line, and the digits of a number one after the other.
use Rattle.std.proofs.Common.{◌≡◌, ℕ, suc, ◌+◌, ◌-◌, ◌*◌, ◌≤◌, ◌<◌, min, Bool, true, false, not, eqb, eqb-true, ltb, List, [], ◌∷◌, length, get_or, map, filter, take, drop, Option, Some, None, option_map, refl, sym, ap, subst, ◌∙◌, arith, inl, inr, add-zero}
use Rattle.std.specs.Prelude.{position, sum_by, slice_index, option_and_then}
use Rattle.std.specs.List.{position_or_len, slice_split, onto_first}
use Rattle.std.specs.Str.Lines.{strip_carriage_return}
use Rattle.std.proofs.lemmas.List.Splits.{slice_split_first}
use Rattle.std.proofs.lemmas.List.Quantifiers.{position-Some}
use Rattle.std.proofs.lemmas.Bool.{cases_Bool, cases_eq, lt-ltb, le-ltb, ltb-true, ltb-false, not-true}
use Rattle.std.proofs.lemmas.List.{drop_more, drop_all, get_or-drop, drop-drop, length-drop, length-take, length-take-le, length-map}
use Rattle.std.proofs.lemmas.List.Sums.{sum_by-cons}
use Rattle.fleet_text.specs.Text.{Bytes, is_lf, is_blank, is_word, ended_lines, lines, words, words_from_front, is_digit, digits_front, number_front, at_most, number_after, number, small, small_number, small_only, small_number_front}
use Rattle.fleet_text.specs.declared.numbers.TheConstants.{TOO_LARGE}

one_more : (n : ℕ) → 1 + n ≡ suc n
one_more n = omega arith

at_next : (n : ℕ) → suc n + 1 ≡ suc (n + 1)
at_next n = omega arith

-- what a place found by position says
pub found_at : {X : Type 0} (p : X → Bool) (xs : List X) (i : ℕ) → position p xs ≡ Some i → (position_or_len p xs ≡ i) × (position_or_len p xs < length xs)
found_at p xs i e =
    elim (cases_Bool (ltb (position_or_len p xs) (length xs))) [
      | inl t ↦ (let f : Some (position_or_len p xs) ≡ Some i = rw t at e in cc, ltb-true _ _ t)
      | inr t ↦ absurd (let f : None ≡ Some i = rw t at e in cc)
    ]

pub found_nowhere : {X : Type 0} (p : X → Bool) (xs : List X) → position p xs ≡ None → length xs ≤ position_or_len p xs
found_nowhere p xs e =
    elim (cases_Bool (ltb (position_or_len p xs) (length xs))) [
      | inl t ↦ absurd (let f : Some (position_or_len p xs) ≡ None = rw t at e in cc)
      | inr t ↦ ltb-false _ _ t
    ]

-- ---- lines

-- the first line, up to the first LF
ended_at : (text : Bytes) → position_or_len is_lf text < length text → ended_lines text ≡ take (position_or_len is_lf text) text ∷ ended_lines (drop (position_or_len is_lf text + 1) text)
unfolding ended_lines
ended_at [] here = absurd (omega arith)
ended_at (b ∷ text) here =
    elim (cases_Bool (eqb b 10)) [
      | inl t ↦ rw t refl
      | inr t ↦ (
          let n = position_or_len is_lf text in
          let later : n < length text = let h = rw t at here in omega (arith, h) in
          rw (t, one_more n, at_next n) (ap (onto_first b) (ended_at text later)))
    ]

-- the last line, without an LF
ended_last : (b : ℕ) (text : Bytes) → length (b ∷ text) ≤ position_or_len is_lf (b ∷ text) → ended_lines (b ∷ text) ≡ (b ∷ text) ∷ []
unfolding ended_lines
ended_last b [] past =
    elim (cases_Bool (eqb b 10)) [
      | inl t ↦ absurd (let h = rw t at past in omega (arith, h))
      | inr t ↦ rw t refl
    ]
ended_last b (c ∷ text) past =
    elim (cases_Bool (eqb b 10)) [
      | inl t ↦ absurd (let h = rw t at past in omega (arith, h))
      | inr t ↦ (let h = rw t at past in rw t (ap (onto_first b) (ended_last c text (omega (arith, h)))))
    ]

pub lines_first : (text : Bytes) (end : ℕ) → position is_lf text ≡ Some end → lines text ≡ strip_carriage_return (take end text) ∷ lines (drop (end + 1) text)
unfolding lines
lines_first text end e =
    let f = found_at is_lf text end e in
    subst (λ (i : ℕ). lines text ≡ strip_carriage_return (take i text) ∷ lines (drop (i + 1) text)) f.0 (ap (map strip_carriage_return) (ended_at text f.1))

pub lines_last : (text : Bytes) → 0 < length text → position is_lf text ≡ None → lines text ≡ strip_carriage_return text ∷ []
unfolding lines
lines_last [] some e = absurd (omega arith)
lines_last (b ∷ text) some e = ap (map strip_carriage_return) (ended_last b text (found_nowhere is_lf (b ∷ text) e))

pub lines_none : (text : Bytes) → length text ≡ 0 → lines text ≡ []
unfolding lines ended_lines
lines_none [] e = refl
lines_none (b ∷ text) e = absurd (omega arith)

-- ---- words

pub words_blank : (b : ℕ) (line : Bytes) → is_blank b ≡ true → words (b ∷ line) ≡ words line
unfolding words
words_blank b line t = rw t refl

abbrev pub is_no_blank : ℕ → Bool
is_no_blank b = not (is_blank b)

words_drop : (line : Bytes) → words line ≡ words (drop (position_or_len is_no_blank line) line)
words_drop [] = refl
words_drop (b ∷ line) =
    elim (cases_Bool (is_blank b)) [
      | inl t ↦ rw (t, one_more (position_or_len is_no_blank line)) (words_blank b line t ∙ words_drop line)
      | inr t ↦ rw t refl
    ]

pub words_from : (line : Bytes) (start : ℕ) → position is_no_blank line ≡ Some start → words line ≡ words (drop start line)
words_from line start e = subst (λ (i : ℕ). words line ≡ words (drop i line)) (found_at is_no_blank line start e).0 (words_drop line)

pub words_none : (line : Bytes) → position is_no_blank line ≡ None → words line ≡ []
unfolding words
words_none line e = words_drop line ∙ ap words (drop_all (position_or_len is_no_blank line) line (found_nowhere is_no_blank line e))

-- a word begins at the place that was found
pub begins : (line : Bytes) (start : ℕ) → position is_no_blank line ≡ Some start → (0 < length (drop start line)) × (is_blank (get_or (drop start line) 0 0) ≡ false)
begins line start e =
    let f = position-Some is_no_blank line start 0 e in
    let here : is_blank (get_or line start 0) ≡ false = not-true (is_blank (get_or line start 0)) f.1 in
    let same : get_or (drop start line) 0 0 ≡ get_or line start 0 = get_or-drop start line 0 0 ∙ ap (λ (i : ℕ). get_or line i 0) (add-zero start) in
    (omega (arith, f.0, length-drop start line), ap is_blank same ∙ here)

words_split : (line word rest : Bytes) → 0 < length word → slice_split is_blank line ≡ word ∷ slice_split is_blank rest → words line ≡ word ∷ words rest
unfolding words
words_split line [] rest some e = absurd (omega arith)
words_split line (b ∷ word) rest some e = ap (filter is_word) e

-- a word, and what follows it
pub words_first : (line : Bytes) (end : ℕ) → is_blank (get_or line 0 0) ≡ false → position is_blank line ≡ Some end → words line ≡ take end line ∷ words (drop end line)
words_first line end first e =
    let f = position-Some is_blank line end 0 e in
    let g = found_at is_blank line end e in
    let parts : slice_split is_blank line ≡ take end line ∷ slice_split is_blank (drop (end + 1) line) =
    subst (λ (i : ℕ). slice_split is_blank line ≡ take i line ∷ slice_split is_blank (drop (i + 1) line)) g.0 (slice_split_first is_blank line 0 g.1) in
    let later : words (drop end line) ≡ words (drop (end + 1) line) = ap words (drop_more line end 0 f.0) ∙ words_blank (get_or line end 0) (drop (end + 1) line) f.1 in
    let some : 0 < end = elim (cases_eq end 0) [
      | inl z ↦ absurd (let t : is_blank (get_or line 0 0) ≡ true = subst (λ (i : ℕ). is_blank (get_or line i 0) ≡ true) z f.1 in let n : true ≡ false = sym t ∙ first in cc)
      | inr z ↦ omega arith
    ] in
    let length_is : length (take end line) ≡ end = length-take-le end line (omega (arith, f.0)) in
    words_split line (take end line) (drop (end + 1) line) (omega arith) parts ∙ ap (λ (ws : List Bytes). take end line ∷ ws) (sym later)

pub split_none : (p : ℕ → Bool) (line : Bytes) → length line ≤ position_or_len p line → slice_split p line ≡ line ∷ []
split_none p [] past = refl
split_none p (b ∷ line) past =
    elim (cases_Bool (p b)) [
      | inl t ↦ absurd (let h = rw t at past in omega (arith, h))
      | inr t ↦ (let h = rw t at past in rw t (ap (onto_first b) (split_none p line (omega (arith, h)))))
    ]

pub words_last : (line : Bytes) → 0 < length line → position is_blank line ≡ None → words line ≡ line ∷ []
unfolding words
words_last [] some e = absurd (omega arith)
words_last (b ∷ line) some e = ap (filter is_word) (split_none is_blank (b ∷ line) (found_nowhere is_blank (b ∷ line) e))

pub words_nil : words [] ≡ []
unfolding words
words_nil = refl

-- ---- numbers

pub digit_no_blank : (d : ℕ) → is_digit d ≡ true → is_blank d ≡ false
digit_no_blank d h =
    elim (cases_Bool (eqb d 32)) [
      | inl t ↦ absurd (let f : is_digit 32 ≡ true = subst (λ (x : ℕ). is_digit x ≡ true) (eqb-true d 32 t) h in let g : false ≡ true = f in cc)
      | inr t ↦ elim (cases_Bool (eqb d 9)) [
        | inl u ↦ absurd (let f : is_digit 9 ≡ true = subst (λ (x : ℕ). is_digit x ≡ true) (eqb-true d 9 u) h in let g : false ≡ true = f in cc)
        | inr u ↦ rw (t, u) refl
      ]
    ]

-- the digits after the first one spell the number of a word
pub small_number_is : (d : ℕ) (ds : Bytes) (n : ℕ) → is_digit d ≡ true → number_after (d - 48) ds ≡ Some n → small_number (d ∷ ds) ≡ small n
unfolding small_number number number_after
small_number_is d ds n t e =
    let same : 10 * 0 + (d - 48) ≡ d - 48 = omega arith in
    let h : number_after (10 * 0 + (d - 48)) ds ≡ Some n = ap (λ (x : ℕ). number_after x ds) same ∙ e in
    rw (t, h) refl

cap_early : (most m : ℕ) (text : Bytes) → at_most most (digits_front (min m most) text) ≡ at_most most (digits_front m text)
unfolding digits_front
cap_early most m [] = ap (λ (n : ℕ). (n, [])) (omega arith)
cap_early most m (d ∷ text) =
    elim (cases_Bool (is_digit d)) [
      | inl t ↦ (
          let x = d - 48 in
          let same : min (10 * min m most + x) most ≡ min (10 * m + x) most = omega arith in
          let one = cap_early most (10 * min m most + x) text in
          let two = cap_early most (10 * m + x) text in
          rw t (sym one ∙ ap (λ (n : ℕ). at_most most (digits_front n text)) same ∙ two))
      | inr t ↦ rw t (ap (λ (n : ℕ). (n, d ∷ text)) (omega arith))
    ]

pub no_number_in_nothing : (text : Bytes) → length text < 1 → number_front text ≡ None
unfolding number_front
no_number_in_nothing [] e = refl
no_number_in_nothing (d ∷ text) e = absurd (omega arith)

pub no_digit_no_number : (text : Bytes) → 1 ≤ length text → is_digit (get_or text 0 0) ≡ false → number_front text ≡ None
unfolding number_front
no_digit_no_number [] some e = absurd (omega arith)
no_digit_no_number (d ∷ text) some e = rw e refl

pub first_digit : (text : Bytes) → 1 ≤ length text → is_digit (get_or text 0 0) ≡ true → Some (digits_front (get_or text 0 0 - 48) (drop 1 text)) ≡ number_front text
unfolding number_front
first_digit [] some e = absurd (omega arith)
first_digit (d ∷ text) some e = rw e refl

-- ---- the loop's steps over the digits in front, where n stands for those before the rest

pub digits_end : (most n : ℕ) (rest : Bytes) → n ≤ most → length rest < 1 → (n, rest) ≡ at_most most (digits_front n rest)
unfolding digits_front
digits_end most n [] few e = ap (λ (x : ℕ). (x, [])) (omega arith)
digits_end most n (d ∷ rest) few e = absurd (omega arith)

pub no_digit_stays : (most n : ℕ) (rest : Bytes) → n ≤ most → 1 ≤ length rest → is_digit (get_or rest 0 0) ≡ false → (n, rest) ≡ at_most most (digits_front n rest)
unfolding digits_front
no_digit_stays most n [] few some e = absurd (omega arith)
no_digit_stays most n (d ∷ rest) few some e = rw e (ap (λ (x : ℕ). (x, d ∷ rest)) (omega arith))

pub digit_goes : (most n : ℕ) (rest : Bytes) → 1 ≤ length rest → is_digit (get_or rest 0 0) ≡ true
    → at_most most (digits_front (min (10 * n + (get_or rest 0 0 - 48)) most) (drop 1 rest)) ≡ at_most most (digits_front n rest)
unfolding digits_front
digit_goes most n [] some e = absurd (omega arith)
digit_goes most n (d ∷ rest) some e = rw e (cap_early most (10 * n + (d - 48)) rest)

-- ---- the same of small numbers, where n is small as well

pub small_at_end : (n : ℕ) (rest : Bytes) → n ≤ 65535 → length rest < 1 → Some (n, rest) ≡ small_only (digits_front n rest)
unfolding digits_front
small_at_end n [] few end = rw (lt-ltb n TOO_LARGE (omega arith)) refl
small_at_end n (d ∷ rest) few end = absurd (omega arith)

pub small_stays : (n : ℕ) (rest : Bytes) → n ≤ 65535 → 1 ≤ length rest → is_digit (get_or rest 0 0) ≡ false → Some (n, rest) ≡ small_only (digits_front n rest)
unfolding digits_front
small_stays n [] few some e = absurd (omega arith)
small_stays n (d ∷ rest) few some e = rw (e, lt-ltb n TOO_LARGE (omega arith)) refl

pub digit_taken : (n : ℕ) (rest : Bytes) → 1 ≤ length rest → is_digit (get_or rest 0 0) ≡ true → digits_front (10 * n + (get_or rest 0 0 - 48)) (drop 1 rest) ≡ digits_front n rest
unfolding digits_front
digit_taken n [] some e = absurd (omega arith)
digit_taken n (d ∷ rest) some e = rw e refl

-- no digit makes a number small that is too large
pub stays_too_large : (n : ℕ) (rest : Bytes) → TOO_LARGE ≤ n → None ≡ small_only (digits_front n rest)
unfolding digits_front
stays_too_large n [] large = rw (le-ltb n TOO_LARGE large) refl
stays_too_large n (d ∷ rest) large = elim (cases_Bool (is_digit d)) [
  | inl t ↦ rw t (stays_too_large (10 * n + (d - 48)) rest (omega (arith, large)))
  | inr t ↦ rw (t, le-ltb n TOO_LARGE large) refl
]

-- ---- the same by the places of the digits

-- n is what the digit in place k stands for
abbrev pub IsDigitAt : Bytes → ℕ → ℕ → Type 0
IsDigitAt text k n = (is_digit (get_or text k 0) ≡ true) × (n ≡ get_or text k 0 - 48)

front_of_rest : (text : Bytes) (k : ℕ) → get_or (drop k text) 0 0 ≡ get_or text k 0
front_of_rest text k = get_or-drop k text 0 0 ∙ ap (λ (i : ℕ). get_or text i 0) (add-zero k)

pub number_begins : (text : Bytes) (n : ℕ) → 1 ≤ length text → IsDigitAt text 0 n → small_number_front text ≡ small_only (digits_front n (drop 1 text))
unfolding small_number_front
number_begins text n some digit =
    sym (ap (option_and_then small_only) (first_digit text some digit.0)) ∙ ap (λ (x : ℕ). small_only (digits_front x (drop 1 text))) (sym digit.1)

pub number_goes_on : (text : Bytes) (k n d : ℕ) → k < length text → IsDigitAt text k d → small_only (digits_front n (drop k text)) ≡ small_only (digits_front (10 * n + d) (drop (k + 1) text))
number_goes_on text k n d within digit =
    let one = digit_taken n (drop k text) (omega (arith, within, length-drop k text)) (ap is_digit (front_of_rest text k) ∙ digit.0) in
    ap small_only (sym one) ∙ rw (front_of_rest text k, drop-drop, digit.1) refl

pub number_ends : (text : Bytes) (k n : ℕ) → n ≤ 65535 → k < length text → is_digit (get_or text k 0) ≡ false → small_only (digits_front n (drop k text)) ≡ Some (n, drop k text)
number_ends text k n few within other =
    sym (small_stays n (drop k text) few (omega (arith, within, length-drop k text)) (ap is_digit (front_of_rest text k) ∙ other))

-- ---- a word spells the number in front if nothing follows it

abbrev whole : ℕ × Bytes → Option ℕ
whole (n, []) = Some n
whole (n, b ∷ rest) = None

number_after_is : (n : ℕ) (text : Bytes) → number_after n text ≡ whole (digits_front n text)
unfolding number_after digits_front
number_after_is n [] = refl
number_after_is n (d ∷ text) =
    elim (cases_Bool (is_digit d)) [
      | inl t ↦ rw t (number_after_is (10 * n + (d - 48)) text)
      | inr t ↦ rw t refl
    ]

pub number_is : (word : Bytes) → number word ≡ option_and_then whole (number_front word)
unfolding number number_after number_front
number_is [] = refl
number_is (d ∷ word) =
    elim (cases_Bool (is_digit d)) [
      | inl t ↦ (let same : 10 * 0 + (d - 48) ≡ d - 48 = omega arith in rw (t, same) (number_after_is (d - 48) word))
      | inr t ↦ rw t refl
    ]

number_capped : (most : ℕ) (word : Bytes) → option_and_then whole (option_map (at_most most) (number_front word)) ≡ option_map (λ n. min n most) (number word)
number_capped most word = capped_alike (number_front word) ∙ ap (option_map (λ (n : ℕ). min n most)) (sym (number_is word))
  where
    capped_alike : (front : Option (ℕ × Bytes)) → option_and_then whole (option_map (at_most most) front) ≡ option_map (λ n. min n most) (option_and_then whole front)
    capped_alike None = refl
    capped_alike (Some (n, [])) = refl
    capped_alike (Some (n, b ∷ rest)) = refl

module _ (most : ℕ) (word : Bytes) where
  pub no_number : None ≡ option_map (at_most most) (number_front word) → None ≡ option_map (λ n. min n most) (number word)
  no_number e = ap (option_and_then whole) e ∙ number_capped most word

  pub all_number : (n : ℕ) (rest : Bytes) → Some (n, rest) ≡ option_map (at_most most) (number_front word) → length rest ≡ 0 → Some n ≡ option_map (λ n. min n most) (number word)
  all_number n [] e none = ap (option_and_then whole) e ∙ number_capped most word
  all_number n (b ∷ rest) e none = absurd (omega arith)

  pub number_and_more : (n : ℕ) (rest : Bytes) → Some (n, rest) ≡ option_map (at_most most) (number_front word) → (length rest ≡ 0 → ⊥) → None ≡ option_map (λ n. min n most) (number word)
  number_and_more n [] e some = absurd (some refl)
  number_and_more n (b ∷ rest) e some = ap (option_and_then whole) e ∙ number_capped most word

-- ---- how many lines there are

length-onto_first : (b : ℕ) (ls : List Bytes) → length (onto_first b ls) ≤ length ls + 1
length-onto_first b [] = omega arith
length-onto_first b (l ∷ ls) = omega arith

length-ended : (text : Bytes) → length (ended_lines text) ≤ length text
unfolding ended_lines
length-ended [] = omega arith
length-ended (b ∷ text) =
    elim (cases_Bool (eqb b 10)) [
      | inl t ↦ rw t (omega (arith, length-ended text))
      | inr t ↦ rw t (omega (arith, length-ended text, length-onto_first b (ended_lines text)))
    ]

pub length-lines : (text : Bytes) → length (lines text) ≤ length text
unfolding lines
length-lines text = omega (arith, length-ended text, length-map (ended_lines text) strip_carriage_return)

-- ---- how many bytes there are

abbrev ended_bytes : List Bytes → ℕ
ended_bytes ls = sum_by (λ line. length line + 1) ls

abbrev line_bytes : List Bytes → ℕ
line_bytes ls = sum_by (λ line. length line + 2) ls

onto_first-bytes : (b : ℕ) (ls : List Bytes) → suc (ended_bytes ls) ≤ ended_bytes (onto_first b ls)
onto_first-bytes b [] = omega (arith, sum_by-cons (λ (line : Bytes). length line + 1) (b ∷ []) [])
onto_first-bytes b (l ∷ ls) = omega (arith, sum_by-cons (λ (line : Bytes). length line + 1) l ls, sum_by-cons (λ (line : Bytes). length line + 1) (b ∷ l) ls)

bytes-ended : (text : Bytes) → length text ≤ ended_bytes (ended_lines text)
unfolding ended_lines
bytes-ended [] = omega arith
bytes-ended (b ∷ text) =
    elim (cases_Bool (eqb b 10)) [
      | inl t ↦ rw t (omega (arith, bytes-ended text, sum_by-cons (λ (line : Bytes). length line + 1) [] (ended_lines text)))
      | inr t ↦ rw t (omega (arith, bytes-ended text, onto_first-bytes b (ended_lines text)))
    ]

length-stripped : (line : Bytes) → length line ≤ length (strip_carriage_return line) + 1
length-stripped line =
    elim (cases_Bool (eqb (slice_index line (length line - 1)) 13)) [
      | inl t ↦ rw t (omega (arith, length-take (length line - 1) line))
      | inr t ↦ rw t (omega arith)
    ]

bytes-stripped : (ls : List Bytes) → ended_bytes ls ≤ line_bytes (map strip_carriage_return ls)
bytes-stripped [] = omega arith
bytes-stripped (l ∷ ls) =
    omega (arith, bytes-stripped ls, length-stripped l, sum_by-cons (λ (line : Bytes). length line + 1) l ls, sum_by-cons (λ (line : Bytes). length line + 2) (strip_carriage_return l) (map strip_carriage_return ls))

pub bytes-lines : (text : Bytes) → length text ≤ line_bytes (lines text)
unfolding lines
bytes-lines text = omega (arith, bytes-ended text, bytes-stripped (ended_lines text))

-- ---- a blank in front

pub front_blank : (line : Bytes) → 1 ≤ length line → is_blank (get_or line 0 0) ≡ true → words_from_front line ≡ []
front_blank [] some e = absurd (omega arith)
front_blank (b ∷ line) some e = rw e refl
