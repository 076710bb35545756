-- A cell that is read byte by byte is the one that the word in front spells.
use Rattle.fleet_plan.proofs.Words.{◌≡◌, ℕ, ◌+◌, ◌-◌, ◌*◌, true, false, cond, eqb, ltb, List, [], ◌∷◌, ◌++◌, filter, Option, Some, None, refl, sym, ap, subst, ◌∙◌, inl, inr, option_map, option_and_then, ◌⊎◌, AllByRecursion, slice_split, onto_first, cases_Bool, eqb-true, append-nil, none-some, same_Some, Cell, Bytes, is_blank, is_word, starts_blank, is_digit, words, digits_front, number_front, number_after, number, small_number, small_number_front, words_blank, digit_no_blank, small_number_is, cell_of_parts, spelled_cell, spelled_cells, after_comma, after_blanks, after_word, cell_front, begins_with_word, MAX_CELLS}

-- ---- the word in front

abbrev pub word_front : Bytes → Bytes
word_front [] = []
word_front (b ∷ text) = cond (is_blank b) [] (b ∷ word_front text)

-- what follows it
abbrev pub rest_front : Bytes → Bytes
rest_front [] = []
rest_front (b ∷ text) = cond (is_blank b) (b ∷ text) (rest_front text)

abbrev later_words : Bytes → List Bytes
later_words [] = []
later_words (b ∷ text) = cond (is_blank b) (slice_split is_blank text) (later_words text)

split_front : (text : Bytes) → slice_split is_blank text ≡ word_front text ∷ later_words text
split_front [] = refl
split_front (b ∷ text) =
    elim (cases_Bool (is_blank b)) [
      | inl t ↦ rw t refl
      | inr t ↦ rw t (ap (onto_first b) (split_front text))
    ]

others_are : (text : Bytes) → filter is_word (later_words text) ≡ words (rest_front text)
unfolding words
others_are [] = refl
others_are (b ∷ text) =
    elim (cases_Bool (is_blank b)) [
      | inl t ↦ (
          let here : later_words (b ∷ text) ≡ slice_split is_blank text = rw t refl in
          let rest : rest_front (b ∷ text) ≡ b ∷ text = rw t refl in
          ap (filter is_word) here ∙ sym (words_blank b text t) ∙ ap words (sym rest))
      | inr t ↦ rw t (others_are text)
    ]

pub words_front : (b : ℕ) (text : Bytes) → is_blank b ≡ false → words (b ∷ text) ≡ word_front (b ∷ text) ∷ words (rest_front (b ∷ text))
unfolding words
words_front b text t = ap (filter is_word) (split_front (b ∷ text)) ∙ rw t (ap (λ (ws : List Bytes). (b ∷ word_front text) ∷ ws) (others_are text))

-- ---- blanks

pub blanks_are_passed : (text : Bytes) → words (after_blanks text) ≡ words text
unfolding words after_blanks
blanks_are_passed [] = refl
blanks_are_passed (b ∷ text) =
    elim (cases_Bool (is_blank b)) [
      | inl t ↦ rw t (blanks_are_passed text)
      | inr t ↦ (let same : after_blanks (b ∷ text) ≡ b ∷ text = rw t refl in ap words same)
    ]

pub no_blank_is_left : (text : Bytes) → starts_blank (after_blanks text) ≡ false
unfolding after_blanks
no_blank_is_left [] = refl
no_blank_is_left (b ∷ text) =
    elim (cases_Bool (is_blank b)) [
      | inl t ↦ rw t (no_blank_is_left text)
      | inr t ↦ rw t t
    ]

-- ---- digits

digit_no_comma : (d : ℕ) → is_digit d ≡ true → eqb d 44 ≡ false
digit_no_comma d h =
    elim (cases_Bool (eqb d 44)) [
      | inl t ↦ absurd (let f : is_digit 44 ≡ true = subst (λ (x : ℕ). is_digit x ≡ true) (eqb-true d 44 t) h in let g : false ≡ true = f in cc)
      | inr t ↦ t
    ]

-- the digits in front of a text, the number that they spell after m, and what follows them
record Digits (m : ℕ) (text ds : Bytes) (n : ℕ) (rest : Bytes) : Type 0 where
  all : text ≡ ds ++ rest
  digits : AllByRecursion (λ d. is_digit d ≡ true) ds
  spelled : number_after m ds ≡ Some n
  end : (d : ℕ) (after : Bytes) → rest ≡ d ∷ after → is_digit d ≡ false

digits_found : (m : ℕ) (text : Bytes) → (ds : Bytes) × Digits m text ds (digits_front m text).0 (digits_front m text).1
unfolding digits_front number_after
digits_found m [] = ([], record { all = refl; digits = tt; spelled = refl; end = λ d after e. absurd cc })
digits_found m (d ∷ text) =
    elim (cases_Bool (is_digit d)) [
      | inl t ↦ (
          let more = digits_found (10 * m + (d - 48)) text in
          let h = more.1 in
          rw t (d ∷ more.0, record { all = ap (λ (x : Bytes). d ∷ x) h.all; digits = (t, h.digits); spelled = rw t h.spelled; end = h.end }))
      | inr t ↦ rw t ([], record { all = refl; digits = tt; spelled = refl; end = λ e after same. (let f : d ≡ e = cc in subst (λ (x : ℕ). is_digit x ≡ false) f t) })
    ]

word_digits : (ds rest : Bytes) → AllByRecursion (λ d. is_digit d ≡ true) ds → word_front (ds ++ rest) ≡ ds ++ word_front rest
word_digits [] rest h = refl
word_digits (d ∷ ds) rest h = rw (digit_no_blank d h.0) (ap (λ (x : Bytes). d ∷ x) (word_digits ds rest h.1))

rest_digits : (ds rest : Bytes) → AllByRecursion (λ d. is_digit d ≡ true) ds → rest_front (ds ++ rest) ≡ rest_front rest
rest_digits [] rest h = refl
rest_digits (d ∷ ds) rest h = rw (digit_no_blank d h.0) (rest_digits ds rest h.1)

number_ends : (m : ℕ) (ds : Bytes) (b : ℕ) (more : Bytes) → AllByRecursion (λ d. is_digit d ≡ true) ds → is_digit b ≡ false → number_after m (ds ++ b ∷ more) ≡ None
unfolding number_after
number_ends m [] b more h e = rw e refl
number_ends m (d ∷ ds) b more h e = rw h.0 (number_ends (10 * m + (d - 48)) ds b more h.1 e)

no_small_number : (b : ℕ) (bytes : Bytes) → number_after 0 (b ∷ bytes) ≡ None → small_number (b ∷ bytes) ≡ None
unfolding small_number number
no_small_number b bytes e = rw e refl

-- ---- parts between commas

abbrev comma_parts : Bytes → List Bytes
comma_parts word = slice_split (λ b. eqb b 44) word

some_part : (word : Bytes) → (part : Bytes) × (more : List Bytes) × (comma_parts word ≡ part ∷ more)
some_part [] = ([], [], refl)
some_part (b ∷ word) =
    elim (cases_Bool (eqb b 44)) [
      | inl t ↦ ([], comma_parts word, rw t refl)
      | inr t ↦ (let h = some_part word in (b ∷ h.0, h.1, rw t (ap (onto_first b) h.2)))
    ]

digits_then : (ds word part : Bytes) (more : List Bytes) → AllByRecursion (λ d. is_digit d ≡ true) ds → comma_parts word ≡ part ∷ more → comma_parts (ds ++ word) ≡ (ds ++ part) ∷ more
digits_then [] word part more h e = e
digits_then (d ∷ ds) word part more h e = rw (digit_no_comma d h.0) (ap (onto_first d) (digits_then ds word part more h.1 e))

-- the parts of the word in front
abbrev parts_front : Bytes → List Bytes
parts_front text = comma_parts (word_front text)

-- the first of them is no number
record IsWrong (text : Bytes) : Type 0 where
  part : Bytes
  more : List Bytes
  parts : parts_front text ≡ part ∷ more
  none : small_number part ≡ None

-- there is one alone, and the rest follows the word
record IsAlone (text part rest : Bytes) : Type 0 where
  parts : parts_front text ≡ part ∷ []
  rest_is : rest_front text ≡ rest
  ended : begins_with_word rest ≡ false

-- a comma and later_words follow the first
record IsFirstOfMore (text part after : Bytes) : Type 0 where
  parts : parts_front text ≡ part ∷ parts_front after
  rest_is : rest_front text ≡ rest_front after

-- neither a blank nor a comma
record IsOther (b : ℕ) : Type 0 where
  no_blank : is_blank b ≡ false
  no_comma : eqb b 44 ≡ false

-- how a word goes on after the digits in front
abbrev EndsDigits : (text ds rest : Bytes) → Type 0
EndsDigits text ds rest =
    IsAlone text ds rest
    ⊎ (((after : Bytes) × (rest ≡ 44 ∷ after) × IsFirstOfMore text ds after)
    ⊎ ((b : ℕ) × (after : Bytes) × (rest ≡ b ∷ after) × IsOther b × IsWrong text))

module _ (text : Bytes) (d : ℕ) (ds : Bytes) (digits : AllByRecursion (λ d. is_digit d ≡ true) (d ∷ ds)) where
  parts_then : (rest : Bytes) (part : Bytes) (more : List Bytes) → text ≡ (d ∷ ds) ++ rest → comma_parts (word_front rest) ≡ part ∷ more → parts_front text ≡ ((d ∷ ds) ++ part) ∷ more
  parts_then rest part more e p = ap parts_front e ∙ ap comma_parts (word_digits (d ∷ ds) rest digits) ∙ digits_then (d ∷ ds) (word_front rest) part more digits p

  rest_then : (rest : Bytes) → text ≡ (d ∷ ds) ++ rest → rest_front text ≡ rest_front rest
  rest_then rest e = ap rest_front e ∙ rest_digits (d ∷ ds) rest digits

  goes_on : (rest : Bytes) → text ≡ (d ∷ ds) ++ rest → ((e : ℕ) (after : Bytes) → rest ≡ e ∷ after → is_digit e ≡ false) → EndsDigits text (d ∷ ds) rest
  goes_on [] e end =
      let parts : parts_front text ≡ (d ∷ ds) ∷ [] = parts_then [] [] [] e refl ∙ ap (λ (x : Bytes). x ∷ []) (append-nil (d ∷ ds)) in
      inl (record { parts = parts; rest_is = rest_then [] e; ended = refl })
  goes_on (b ∷ after) e end =
      elim (cases_Bool (is_blank b)) [
        | inl blank ↦ (
            let none : comma_parts (word_front (b ∷ after)) ≡ [] ∷ [] = rw blank refl in
            let parts : parts_front text ≡ (d ∷ ds) ∷ [] = parts_then (b ∷ after) [] [] e none ∙ ap (λ (x : Bytes). x ∷ []) (append-nil (d ∷ ds)) in
            let rest_is : rest_front (b ∷ after) ≡ b ∷ after = rw blank refl in
            let ended : begins_with_word (b ∷ after) ≡ false = rw blank refl in
            inl (record { parts = parts; rest_is = rest_then (b ∷ after) e ∙ rest_is; ended = ended }))
        | inr no_blank ↦ elim (cases_Bool (eqb b 44)) [
          | inl comma ↦ (
              let same = eqb-true b 44 comma in
              let first : comma_parts (word_front (b ∷ after)) ≡ [] ∷ parts_front after = rw (no_blank, comma) refl in
              let parts : parts_front text ≡ (d ∷ ds) ∷ parts_front after = parts_then (b ∷ after) [] (parts_front after) e first ∙ ap (λ (x : Bytes). x ∷ parts_front after) (append-nil (d ∷ ds)) in
              let rest_is : rest_front (b ∷ after) ≡ rest_front after = rw no_blank refl in
              inr (inl (after, ap (λ (x : ℕ). x ∷ after) same, record { parts = parts; rest_is = rest_then (b ∷ after) e ∙ rest_is })))
          | inr no_comma ↦ (
              let more = some_part (word_front after) in
              let first : comma_parts (word_front (b ∷ after)) ≡ (b ∷ more.0) ∷ more.1 = rw (no_blank, no_comma) (ap (onto_first b) more.2) in
              let none : small_number ((d ∷ ds) ++ b ∷ more.0) ≡ None = no_small_number d (ds ++ b ∷ more.0) (number_ends 0 (d ∷ ds) b more.0 digits (end b after refl)) in
              inr (inr (b, after, refl, record { no_blank = no_blank; no_comma = no_comma }, record { part = (d ∷ ds) ++ b ∷ more.0; more = more.1; parts = parts_then (b ∷ after) (b ∷ more.0) more.1 e first; none = none })))
        ]
      ]

-- ---- the number in front

empty_is_none : small_number [] ≡ None
unfolding small_number number
empty_is_none = refl

wrong_first : (d : ℕ) (text : Bytes) → is_digit d ≡ false → IsWrong (d ∷ text)
wrong_first d text t =
    elim (cases_Bool (is_blank d)) [
      | inl blank ↦ (let parts : parts_front (d ∷ text) ≡ [] ∷ [] = rw blank refl in record { part = []; more = []; parts = parts; none = empty_is_none })
      | inr no_blank ↦ elim (cases_Bool (eqb d 44)) [
        | inl comma ↦ (let parts : parts_front (d ∷ text) ≡ [] ∷ parts_front text = rw (no_blank, comma) refl in record { part = []; more = parts_front text; parts = parts; none = empty_is_none })
        | inr no_comma ↦ (
            let more = some_part (word_front text) in
            let parts : parts_front (d ∷ text) ≡ (d ∷ more.0) ∷ more.1 = rw (no_blank, no_comma) (ap (onto_first d) more.2) in
            record { part = d ∷ more.0; more = more.1; parts = parts; none = no_small_number d more.0 (number_ends 0 [] d more.0 tt t) })
      ]
    ]

-- how reading goes on
abbrev Goes : Bytes → Type 0
Goes text =
    ((small_number_front text ≡ None) × IsWrong text)
    ⊎ ((n : ℕ) × (ds rest : Bytes) × (small_number_front text ≡ Some (n, rest)) × (small_number ds ≡ Some n) × EndsDigits text ds rest)

wrong_front : (text ds rest : Bytes) → small_number ds ≡ None → EndsDigits text ds rest → IsWrong text
wrong_front text ds rest none (inl h) = record { part = ds; more = []; parts = h.parts; none = none }
wrong_front text ds rest none (inr (inl h)) = record { part = ds; more = parts_front h.0; parts = h.2.parts; none = none }
wrong_front text ds rest none (inr (inr h)) = h.4

goes : (text : Bytes) → Goes text
unfolding small_number_front number_front
goes [] = inl (refl, record { part = []; more = []; parts = refl; none = empty_is_none })
goes (d ∷ text) =
    elim (cases_Bool (is_digit d)) [
      | inl t ↦ (
          let found = digits_found (d - 48) text in
          let ds = found.0 in
          let h = found.1 in
          let x = digits_front (d - 48) text in
          let on : EndsDigits (d ∷ text) (d ∷ ds) x.1 = goes_on (d ∷ text) d ds (t, h.digits) x.1 (ap (λ (u : Bytes). d ∷ u) h.all) h.end in
          let value = small_number_is d ds x.0 t h.spelled in
          elim (cases_Bool (ltb x.0 MAX_CELLS)) [
            | inl few ↦ (
                let front : small_number_front (d ∷ text) ≡ Some (x.0, x.1) = rw (t, few) refl in
                let is : small_number (d ∷ ds) ≡ Some x.0 = value ∙ rw few refl in
                inr (x.0, d ∷ ds, x.1, front, is, on))
            | inr many ↦ (
                let front : small_number_front (d ∷ text) ≡ None = rw (t, many) refl in
                let is : small_number (d ∷ ds) ≡ None = value ∙ rw many refl in
                inl (front, wrong_front (d ∷ text) (d ∷ ds) x.1 is on))
          ])
      | inr t ↦ (let front : small_number_front (d ∷ text) ≡ None = rw t refl in inl (front, wrong_first d text t))
    ]

-- ---- the cell in front

-- what follows the word in front, from the next word on
record IsNext (rest after : Bytes) : Type 0 where
  taken : after_word rest ≡ Some after
  words_are : words after ≡ words rest
  front : starts_blank after ≡ false

next_word : (rest : Bytes) → begins_with_word rest ≡ false → (after : Bytes) × IsNext rest after
unfolding words
next_word [] e = ([], record { taken = refl; words_are = refl; front = refl })
next_word (b ∷ rest) e =
    elim (cases_Bool (is_blank b)) [
      | inl t ↦ (
          let taken : after_word (b ∷ rest) ≡ Some (after_blanks rest) = rw t refl in
          let same : words (b ∷ rest) ≡ words rest = rw t refl in
          (after_blanks rest, record { taken = taken; words_are = blanks_are_passed rest ∙ sym same; front = no_blank_is_left rest }))
      | inr t ↦ absurd (let f : true ≡ false = rw t at e in cc)
    ]

-- the cell that is read is the one of the word in front, or neither is there
abbrev pub ReadsCell : Bytes → Type 0
ReadsCell text =
    ((cell_front text ≡ None) × (spelled_cell (word_front text) ≡ None))
    ⊎ ((cell : Cell) × (after : Bytes) × (cell_front text ≡ Some (cell, after)) × (spelled_cell (word_front text) ≡ Some cell) × (words after ≡ words (rest_front text)) × (starts_blank after ≡ false))

no_cell_first : (part : Bytes) (more : List Bytes) → small_number part ≡ None → cell_of_parts (part ∷ more) ≡ None
no_cell_first part [] e = refl
no_cell_first part (y ∷ []) e = rw e refl
no_cell_first part (y ∷ z ∷ more) e = refl

no_cell_second : (x part : Bytes) (more : List Bytes) → small_number part ≡ None → cell_of_parts (x ∷ part ∷ more) ≡ None
no_cell_second x part [] e = none_is_none (small_number x) (small_number part) e
  where
    none_is_none : (o p : Option ℕ) → p ≡ None → option_and_then (λ column. option_and_then {U = Cell} (λ row. Some (record { x = column; y = row })) p) o ≡ None
    none_is_none None p e = refl
    none_is_none (Some n) p e = rw e refl
no_cell_second x part (z ∷ more) e = refl

no_comma_after : (rest : Bytes) → begins_with_word rest ≡ false → after_comma rest ≡ None
no_comma_after [] e = refl
no_comma_after (b ∷ rest) e =
    elim (cases_Bool (eqb b 44)) [
      | inl t ↦ absurd (let f : begins_with_word (44 ∷ rest) ≡ false = subst (λ (x : ℕ). begins_with_word (x ∷ rest) ≡ false) (eqb-true b 44 t) e in let g : true ≡ false = f in cc)
      | inr t ↦ rw t refl
    ]

module _ (text : Bytes) (x : ℕ) (ds rest : Bytes) (front : small_number_front text ≡ Some (x, rest)) (column : small_number ds ≡ Some x) where
  no_comma : after_comma rest ≡ None → cell_front text ≡ None
  unfolding cell_front
  no_comma e = rw (front, e) refl

  module _ (after : Bytes) (comma : rest ≡ 44 ∷ after) (more : IsFirstOfMore text ds after) where
    goes_after : after_comma rest ≡ Some after
    goes_after = ap after_comma comma

    no_second : small_number_front after ≡ None → IsWrong after → ReadsCell text
    unfolding cell_front spelled_cell
    no_second none wrong =
        let c : cell_front text ≡ None = rw (front, goes_after, none) refl in
        let parts : parts_front text ≡ ds ∷ wrong.part ∷ wrong.more = more.parts ∙ ap (λ (ws : List Bytes). ds ∷ ws) wrong.parts in
        inl (c, ap cell_of_parts parts ∙ no_cell_second ds wrong.part wrong.more wrong.none)

    second : (y : ℕ) (es rest2 : Bytes) → small_number_front after ≡ Some (y, rest2) → small_number es ≡ Some y → EndsDigits after es rest2 → ReadsCell text
    unfolding cell_front spelled_cell
    second y es rest2 found row (inl alone) =
        let next = next_word rest2 alone.ended in
        let c : cell_front text ≡ Some (record { x = x; y = y }, next.0) = rw (front, goes_after, found, next.1.taken) refl in
        let parts : parts_front text ≡ ds ∷ es ∷ [] = more.parts ∙ ap (λ (ws : List Bytes). ds ∷ ws) alone.parts in
        let cell : cell_of_parts (ds ∷ es ∷ []) ≡ Some (record { x = x; y = y }) = rw (column, row) refl in
        inr (record { x = x; y = y }, next.0, c, ap cell_of_parts parts ∙ cell, next.1.words_are ∙ ap words (sym (more.rest_is ∙ alone.rest_is)), next.1.front)
    second y es rest2 found row (inr (inl h)) =
        let third = some_part (word_front h.0) in
        let none : after_word rest2 ≡ None = ap after_word h.1 in
        let c : cell_front text ≡ None = rw (front, goes_after, found, none) refl in
        let parts : parts_front text ≡ ds ∷ es ∷ third.0 ∷ third.1 =
        more.parts ∙ ap (λ (ws : List Bytes). ds ∷ ws) h.2.parts ∙ ap (λ (ws : List Bytes). ds ∷ es ∷ ws) third.2 in
        inl (c, ap cell_of_parts parts)
    second y es rest2 found row (inr (inr h)) =
        let other = h.3.no_blank in
        let none : after_word (h.0 ∷ h.1) ≡ None = rw other refl in
        let goes_none : after_word rest2 ≡ None = ap after_word h.2 ∙ none in
        let c : cell_front text ≡ None = rw (front, goes_after, found, goes_none) refl in
        let wrong = h.4 in
        let parts : parts_front text ≡ ds ∷ wrong.part ∷ wrong.more = more.parts ∙ ap (λ (ws : List Bytes). ds ∷ ws) wrong.parts in
        inl (c, ap cell_of_parts parts ∙ no_cell_second ds wrong.part wrong.more wrong.none)

  first : EndsDigits text ds rest → ReadsCell text
  unfolding spelled_cell
  first (inl alone) = inl (no_comma (no_comma_after rest alone.ended), ap cell_of_parts alone.parts)
  first (inr (inl h)) =
      elim (goes h.0) [
        | inl none ↦ no_second h.0 h.1 h.2 none.0 none.1
        | inr some ↦ second h.0 h.1 h.2 some.0 some.1 some.2 some.3 some.4 some.5
      ]
  first (inr (inr h)) =
      let other = h.3.no_comma in
      let none : after_comma (h.0 ∷ h.1) ≡ None = rw other refl in
      let wrong = h.4 in
      inl (no_comma (ap after_comma h.2 ∙ none), ap cell_of_parts wrong.parts ∙ no_cell_first wrong.part wrong.more wrong.none)

no_number : (text : Bytes) → small_number_front text ≡ None → IsWrong text → ReadsCell text
unfolding cell_front spelled_cell
no_number text none wrong =
    let c : cell_front text ≡ None = rw none refl in
    inl (c, ap cell_of_parts wrong.parts ∙ no_cell_first wrong.part wrong.more wrong.none)

pub reads_cell : (text : Bytes) → ReadsCell text
reads_cell text =
    elim (goes text) [
      | inl none ↦ no_number text none.0 none.1
      | inr some ↦ first text some.0 some.1 some.2 some.3 some.4 some.5
    ]

-- ---- the cells of the words in front

-- the word in front is passed
pub record Passes (text : Bytes) (cell : Cell) (after : Bytes) : Type 0 where
  pub words_are : words text ≡ word_front text ∷ words after
  pub spelled : spelled_cell (word_front text) ≡ Some cell
  pub front : starts_blank after ≡ false

empty_has_none : cell_front [] ≡ None
unfolding cell_front small_number_front number_front
empty_has_none = refl

pub passes : (text : Bytes) (cell : Cell) (after : Bytes) → starts_blank text ≡ false → cell_front text ≡ Some (cell, after) → Passes text cell after
passes [] cell after e found = absurd (none-some (cell, after) (sym empty_has_none ∙ found))
passes (b ∷ text) cell after e found =
    elim (reads_cell (b ∷ text)) [
      | inl h ↦ absurd (none-some (cell, after) (sym h.0 ∙ found))
      | inr h ↦ (
          let same : (h.0, h.1) ≡ (cell, after) = same_Some {A = Cell × Bytes} (h.0, h.1) (cell, after) (sym h.2 ∙ found) in
          let p : Passes (b ∷ text) h.0 h.1 = record { words_are = words_front b text e ∙ ap (λ (ws : List Bytes). word_front (b ∷ text) ∷ ws) (sym h.4); spelled = h.3; front = h.5 } in
          subst (λ (x : Cell × Bytes). Passes (b ∷ text) x.0 x.1) same p)
    ]

pub cells_next : (text : Bytes) (cell : Cell) (after : Bytes) → Passes text cell after → spelled_cells (words text) ≡ option_map (λ cells. cell ∷ cells) (spelled_cells (words after))
unfolding spelled_cells
cells_next text cell after p = ap spelled_cells p.words_are ∙ rw p.spelled refl

pub cells_none : (text : Bytes) → begins_with_word text ≡ true → cell_front text ≡ None → spelled_cells (words text) ≡ None
unfolding spelled_cells
cells_none [] e none = absurd cc
cells_none (b ∷ text) e none =
    elim (cases_Bool (is_blank b)) [
      | inl t ↦ absurd (let f : false ≡ true = rw t at e in cc)
      | inr t ↦ elim (reads_cell (b ∷ text)) [
        | inl h ↦ ap spelled_cells (words_front b text t) ∙ rw h.1 refl
        | inr h ↦ absurd (none-some (h.0, h.1) (sym none ∙ h.2))
      ]
    ]
