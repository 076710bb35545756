-- Words that are numbers, read digit by digit.
use Rattle.std.proofs.Common.{◌≡◌, ℕ, ◌+◌, ◌-◌, ◌*◌, ◌≤◌, true, false, ltb, List, [], ◌∷◌, length, get_or, drop, filter, Option, Some, None, refl, sym, ap, ◌∙◌, arith, inl, inr}
use Rattle.std.specs.List.{slice_split, onto_first}
use Rattle.std.proofs.lemmas.Bool.{cases_Bool}
use Rattle.std.proofs.lemmas.Option.{same_Some}
use Rattle.fleet_text.specs.Text.{Bytes, is_blank, is_digit, is_word, words, starts_blank, digits_front, number_front, number_after, number, small, small_number, small_number_front}
use Rattle.fleet_text.specs.declared.numbers.TheConstants.{TOO_LARGE}
use Rattle.fleet_text.proofs.TextLaws.{words_blank, digit_no_blank, small_number_is}
use Rattle.fleet_scen.specs.Fields.{past_blank, ends_word, next_number}

abbrev split_after : Bytes → List Bytes
split_after [] = []
split_after (b ∷ rest) = slice_split is_blank rest

after_is : (rest : Bytes) → ends_word rest ≡ true → filter is_word (split_after rest) ≡ words rest
unfolding words
after_is [] end = refl
after_is (b ∷ rest) end = sym (words_blank b rest end)

-- digits up to the end of a word, and what they spell after n
digits_split : (n : ℕ) (text : Bytes) → ends_word (digits_front n text).1 ≡ true
    → (ds : Bytes) × (number_after n ds ≡ Some (digits_front n text).0) × (slice_split is_blank text ≡ ds ∷ split_after (digits_front n text).1)
unfolding digits_front number_after
digits_split n [] end = ([], refl, refl)
digits_split n (d ∷ text) end =
    elim (cases_Bool (is_digit d)) [
      | inl t ↦ (
          let more = digits_split (10 * n + (d - 48)) text (rw t at end) in
          rw (t, digit_no_blank d t) (d ∷ more.0, rw t more.1, ap (onto_first d) more.2))
      | inr t ↦ (
          let blank : is_blank d ≡ true = rw t at end in
          rw (t, blank) ([], refl, refl))
    ]

-- a number in front of a text, at which a word ends, is the first word
pub number_first : (text : Bytes) (x : ℕ × Bytes) → small_number_front text ≡ Some x → ends_word x.1 ≡ true → next_number (words text) ≡ Some (Some x.0, words x.1)
unfolding small_number_front number_front words
number_first [] x e end = absurd cc
number_first (d ∷ text) x e end =
    elim (cases_Bool (is_digit d)) [
      | inr t ↦ absurd (let f : None ≡ Some x = rw t at e in cc)
      | inl t ↦ (
          let y = digits_front (d - 48) text in
          elim (cases_Bool (ltb y.0 TOO_LARGE)) [
            | inr many ↦ absurd (let f : None ≡ Some x = rw (t, many) at e in cc)
            | inl few ↦ (
                let same : y ≡ x = same_Some y x (rw (t, few) at e) in
                let ends : ends_word y.1 ≡ true = ap (λ (z : ℕ × Bytes). ends_word z.1) same ∙ end in
                let found = digits_split (d - 48) text ends in
                let split : slice_split is_blank (d ∷ text) ≡ (d ∷ found.0) ∷ split_after y.1 = rw (digit_no_blank d t) (ap (onto_first d) found.2) in
                let first : words (d ∷ text) ≡ (d ∷ found.0) ∷ words y.1 = ap (filter is_word) split ∙ ap (λ (ws : List Bytes). (d ∷ found.0) ∷ ws) (after_is y.1 ends) in
                let spelled : small_number (d ∷ found.0) ≡ Some y.0 = small_number_is d found.0 y.0 t found.1 ∙ rw few refl in
                ap next_number first ∙ ap (λ (o : Option ℕ). Some (o, words y.1)) spelled ∙ ap (λ (z : ℕ × Bytes). Some (Some z.0, words z.1)) same)
          ])
    ]

-- ---- a word in front that spells a number is the number in front, at which a word ends

some_split : (text : Bytes) → (first : Bytes) × (more : List Bytes) × (slice_split is_blank text ≡ first ∷ more)
some_split [] = ([], [], refl)
some_split (b ∷ text) =
    elim (cases_Bool (is_blank b)) [
      | inl t ↦ ([], slice_split is_blank text, rw t refl)
      | inr t ↦ (let h = some_split text in (b ∷ h.0, h.1, rw t (ap (onto_first b) h.2)))
    ]

digits_all : (n : ℕ) (text ds : Bytes) (more : List Bytes) (m : ℕ) → slice_split is_blank text ≡ ds ∷ more → number_after n ds ≡ Some m
    → ((digits_front n text).0 ≡ m) × (ends_word (digits_front n text).1 ≡ true)
unfolding digits_front number_after
digits_all n [] [] more m split spelled = (same_Some n m spelled, refl)
digits_all n [] (d ∷ ds) more m split spelled = absurd cc
digits_all n (d ∷ text) ds more m split spelled =
    elim (cases_Bool (is_blank d)) [
      | inl t ↦ (
          let parts : [] ∷ slice_split is_blank text ≡ ds ∷ more = rw t at split in
          let empty : ds ≡ [] = cc in
          let same : n ≡ m = same_Some n m (rw empty at spelled) in
          elim (cases_Bool (is_digit d)) [
            | inl digit ↦ absurd (let f = digit_no_blank d digit in let g : true ≡ false = sym t ∙ f in cc)
            | inr other ↦ rw other (same, t)
          ])
      | inr t ↦ (
          let rest = some_split text in
          let first : onto_first d (slice_split is_blank text) ≡ ds ∷ more = rw t at split in
          let parts : (d ∷ rest.0) ∷ rest.1 ≡ ds ∷ more = sym (ap (onto_first d) rest.2) ∙ first in
          let word : ds ≡ d ∷ rest.0 = cc in
          let spells : number_after n (d ∷ rest.0) ≡ Some m = rw word at spelled in
          elim (cases_Bool (is_digit d)) [
            | inl digit ↦ rw digit (digits_all (10 * n + (d - 48)) text rest.0 rest.1 m rest.2 (rw digit at spells))
            | inr other ↦ absurd (let f : None ≡ Some m = rw other at spells in cc)
          ])
    ]

-- a number that ends a word stands in front
abbrev EndsInFront : Bytes → ℕ → Type 0
EndsInFront text n = (rest : Bytes) × (small_number_front text ≡ Some (n, rest)) × (ends_word rest ≡ true)

module _ (d : ℕ) (text word : Bytes) (more : List Bytes) (split : slice_split is_blank text ≡ word ∷ more) (digit : is_digit d ≡ true) where
  number_all : (m n : ℕ) → number_after (d - 48) word ≡ Some m → small m ≡ Some n → EndsInFront (d ∷ text) n
  unfolding small_number_front number_front
  number_all m n spelled is =
      let all = digits_all (d - 48) text word more m split spelled in
      let y = digits_front (d - 48) text in
      elim (cases_Bool (ltb m TOO_LARGE)) [
        | inr many ↦ absurd (let f : None ≡ Some n = rw many at is in cc)
        | inl few ↦ (
            let same : m ≡ n = same_Some m n (rw few at is) in
            let few' : ltb y.0 TOO_LARGE ≡ true = ap (λ (x : ℕ). ltb x TOO_LARGE) all.0 ∙ few in
            (y.1, rw (digit, few') (ap (λ (x : ℕ). Some (x, y.1)) (all.0 ∙ same)), all.1))
      ]

  small_all : (n : ℕ) → small_number (d ∷ word) ≡ Some n → EndsInFront (d ∷ text) n
  unfolding small_number number number_after
  small_all n is = go (number_after (d - 48) word) refl
    where
      same : 10 * 0 + (d - 48) ≡ d - 48
      same = omega arith

      go : (o : Option ℕ) → number_after (d - 48) word ≡ o → EndsInFront (d ∷ text) n
      go None e = absurd (let f : None ≡ Some n = rw (digit, same, e) at is in cc)
      go (Some m) e = number_all m n e (rw (digit, same, e) at is)

spells_nothing : (d : ℕ) (word : Bytes) (n : ℕ) → is_digit d ≡ false → small_number (d ∷ word) ≡ Some n → ⊥
unfolding small_number number number_after
spells_nothing d word n other is = let f : None ≡ Some n = rw other at is in cc

same_number : (a b : Option ℕ) (xs ys : List Bytes) → ◌≡◌ {A = Option (Option ℕ × List Bytes)} (Some (a, xs)) (Some (b, ys)) → a ≡ b
same_number a b xs ys e = ap (λ (x : Option ℕ × List Bytes). x.0) (same_Some {A = Option ℕ × List Bytes} (a, xs) (b, ys) e)

word_all : (text : Bytes) → starts_blank text ≡ false → (n : ℕ) (others : List Bytes) → next_number (words text) ≡ Some (Some n, others) → EndsInFront text n
unfolding words
word_all [] front n others is = absurd cc
word_all (d ∷ text) front n others is =
    let rest = some_split text in
    let split : slice_split is_blank (d ∷ text) ≡ (d ∷ rest.0) ∷ rest.1 = rw front (ap (onto_first d) rest.2) in
    let first : words (d ∷ text) ≡ (d ∷ rest.0) ∷ filter is_word rest.1 = ap (filter is_word) split in
    let found : Some (small_number (d ∷ rest.0), filter is_word rest.1) ≡ Some (Some n, others) = sym (ap next_number first) ∙ is in
    let spelled = same_number (small_number (d ∷ rest.0)) (Some n) (filter is_word rest.1) others found in
    elim (cases_Bool (is_digit d)) [
      | inl digit ↦ small_all d text rest.0 rest.1 rest.2 digit n spelled
      | inr other ↦ absurd (spells_nothing d rest.0 n other spelled)
    ]

no_number : (text : Bytes) → small_number_front text ≡ None → (n : ℕ) → EndsInFront text n → ⊥
no_number text none n found = cc (none, found.1)

no_end : (text : Bytes) (m : ℕ) (after : Bytes) → small_number_front text ≡ Some (m, after) → ends_word after ≡ false → (n : ℕ) → EndsInFront text n → ⊥
no_end text m after is other n found =
    let same = same_Some {A = ℕ × Bytes} (m, after) (n, found.0) (sym is ∙ found.1) in
    let ends : ends_word after ≡ true = ap (λ (x : ℕ × Bytes). ends_word x.1) same ∙ found.2 in
    let f : true ≡ false = sym ends ∙ other in
    cc

-- so if there is none, a blank stands in front
module _ (line text : Bytes) (past : text ≡ past_blank line) (same : words text ≡ words line) where
  blank_in_front : ((n : ℕ) → EndsInFront text n → ⊥) → (n : ℕ) (others : List Bytes) → next_number (words line) ≡ Some (Some n, others) → starts_blank (past_blank line) ≡ true
  blank_in_front none n others is =
      elim (cases_Bool (starts_blank text)) [
        | inl t ↦ ap starts_blank (sym past) ∙ t
        | inr front ↦ absurd (none n (word_all text front n others (ap next_number same ∙ is)))
      ]

  pub blank_before : small_number_front text ≡ None → (n : ℕ) (others : List Bytes) → next_number (words line) ≡ Some (Some n, others) → starts_blank (past_blank line) ≡ true
  blank_before none = blank_in_front (no_number text none)

  pub blank_before_word : (m : ℕ) (after : Bytes) → small_number_front text ≡ Some (m, after) → ends_word after ≡ false → (n : ℕ) (others : List Bytes) → next_number (words line) ≡ Some (Some n, others) → starts_blank (past_blank line) ≡ true
  blank_before_word m after is other = blank_in_front (no_end text m after is other)

-- ---- one blank in front

pub past_one : (line : Bytes) → 1 ≤ length line → is_blank (get_or line 0 0) ≡ true → drop 1 line ≡ past_blank line
past_one [] some e = absurd (omega (arith, some))
past_one (b ∷ line) some e = rw e refl

pub past_first : (line : Bytes) → 1 ≤ length line → is_blank (get_or line 0 0) ≡ true → words (drop 1 line) ≡ words line
past_first [] some e = absurd (omega (arith, some))
past_first (b ∷ line) some e = sym (words_blank b line e)
