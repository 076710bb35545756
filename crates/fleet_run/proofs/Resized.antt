-- A row in which a numeral was written over one that has more bytes or fewer.
use Rattle.fleet_run.proofs.Words.{◌≡◌, ◌≤◌, ◌<◌, ◌+◌, ◌-◌, ◌++◌, get_or, zero, suc, inl, inr, refl, ℕ, List, length, take, drop, set, ap, sym, ◌∙◌, arith, length-append, subst, append_assoc, drop-drop, drop-set-lt, get_or-set_same, get_or-set_other, length-drop, length-set, length-take, cases_lt, copy_within, drop-append-add, drop-append_seam, numeral_text, numerals_text, moved_before, HasNumerals, IsResized}
use Rattle.std.proofs.lemmas.List.Edits.{take-paste, drop-paste}
use Rattle.fleet_run.specs.Line.{Numeral}
use Rattle.fleet_run.proofs.Lines.{left_behind, same_or_later, placed, piece_before, next_begin, begins_rise}

module _ (c : List Numeral) (row row1 row2 begins begins2 : List ℕ) (i to : ℕ) (s : Numeral) (kept : HasNumerals c row begins) (agent : i < length c)
    (fits : to + length (numeral_text s) ≡ get_or begins (i + 1) 0) (roomy : get_or begins i 0 + 11 ≤ get_or begins 0 0 + to)
    (shifted : row1 ≡ copy_within row (get_or begins 0 0) (get_or begins i 0) (to + get_or begins 0 0 - get_or begins i 0))
    (written : row2 ≡ take to row1 ++ (numeral_text s ++ drop (get_or begins (i + 1) 0) row1))
    (long : length begins2 ≡ length begins)
    (moved : (k : ℕ) → k < i + 1 → get_or begins2 k 0 + get_or begins i 0 ≡ get_or begins k 0 + to)
    (others : (k : ℕ) → i + 1 ≤ k → get_or begins2 k 0 ≡ get_or begins k 0) where
  abbrev front : ℕ
  front = get_or begins 0 0

  abbrev at : ℕ
  at = get_or begins i 0

  abbrev end : ℕ
  end = get_or begins (i + 1) 0

  -- where the numerals begin now
  abbrev now : ℕ
  now = to + front - at

  abbrev text : List ℕ
  text = numeral_text s

  abbrev after : List Numeral
  after = set c i s

  abbrev rest : List ℕ
  rest = text ++ drop end row

  -- the bytes of the numerals before, and what comes after them
  abbrev tail : List ℕ
  tail = take (at - front) (drop front row) ++ rest

  rises : front ≤ at
  rises = kept.rising i (omega arith)

  at_within : at ≤ 24587
  at_within = kept.within i (omega arith)

  end_within : end ≤ 24587
  end_within = kept.within (i + 1) (omega arith)

  copied : length (take (at - front) (drop front row)) ≡ at - front
  copied = omega (arith, length-take (at - front) (drop front row), length-drop front row, kept.room, at_within)

  now_there : length (take now row) ≡ now
  now_there = omega (arith, length-take now row, kept.room, fits, end_within, rises)

  as_far : now + (at - front) ≡ to
  as_far = omega (arith, rises, roomy)

  enough : at - front ≤ length (drop front row)
  enough = omega (arith, length-drop front row, kept.room, at_within)

  front_taken : take to row1 ≡ take now row ++ take (at - front) (drop front row)
  front_taken =
      ap (λ (n : ℕ). take n row1) (sym as_far)
      ∙ (ap (λ (r : List ℕ). take (now + (at - front)) r) shifted
      ∙ take-paste row now (drop front row) (at - front) (omega (arith, now_there, length-take now row)) enough)

  end_left : drop end row1 ≡ drop end row
  end_left =
      let up : to + length text ≡ end = fits in
      ap (λ (n : ℕ). drop n row1) (sym up)
      ∙ (sym (drop-drop (length text) to row1)
      ∙ (ap (λ (r : List ℕ). drop (length text) r) (ap (λ (n : ℕ). drop n row1) (sym as_far)
      ∙ (ap (λ (r : List ℕ). drop (now + (at - front)) r) shifted
      ∙ (drop-paste row now (drop front row) (at - front) (omega (arith, now_there, length-take now row)) enough
      ∙ ap (λ (n : ℕ). drop n row) as_far)))
      ∙ (drop-drop (length text) to row
      ∙ ap (λ (n : ℕ). drop n row) up)))

  whole : row2 ≡ take now row ++ tail
  whole =
      written
      ∙ (ap (λ (r : List ℕ). take to row1 ++ (text ++ r)) end_left
      ∙ (ap (λ (r : List ℕ). r ++ rest) front_taken
      ∙ append_assoc (take now row) (take (at - front) (drop front row)) rest))

  pub as_long : length row2 ≡ 24588
  as_long =
      let e = ap length whole in
      omega (arith, e, length-append (take now row) tail, now_there, length-append (take (at - front) (drop front row)) rest, copied, length-append text (drop end row), length-drop end row, fits, kept.room, end_within, as_far)

  -- from a numeral on that was moved
  from_moved : (k : ℕ) → k ≤ i → drop (get_or begins2 k 0) row2 ≡ drop (get_or begins k 0 - front) tail
  from_moved k le =
      let place : get_or begins2 k 0 ≡ length (take now row) + (get_or begins k 0 - front) = omega (arith, moved k (omega arith), kept.rising k (omega arith), rises, roomy, now_there) in
      ap (λ (r : List ℕ). drop (get_or begins2 k 0) r) whole
      ∙ (ap (λ (n : ℕ). drop n (take now row ++ tail)) place
      ∙ drop-append-add (take now row) tail (get_or begins k 0 - front))

  -- the numeral itself
  from_place : drop (get_or begins2 i 0) row2 ≡ text ++ drop end row
  from_place =
      from_moved i (omega arith)
      ∙ (ap (λ (n : ℕ). drop n tail) (sym copied)
      ∙ drop-append_seam (take (at - front) (drop front row)) rest)

  is_to : get_or begins2 i 0 ≡ to
  is_to = omega (arith, moved i (omega arith))

  behind : (k : ℕ) → i < k → k ≤ length c → drop (get_or begins2 k 0) row2 ≡ numerals_text (drop k after)
  behind k later h =
      let low : end ≤ get_or begins k 0 = (let r = begins_rise c row begins s kept (i + 1) (k - (i + 1)) (omega arith) in let goes : i + 1 + (k - (i + 1)) ≡ k = omega arith in subst (λ n. end ≤ get_or begins n 0) goes r) in
      ap (λ (n : ℕ). drop n row2) (others k (omega arith))
      ∙ (left_behind row row2 text to end (get_or begins k 0) (ap (λ (n : ℕ). drop n row2) (sym is_to) ∙ from_place) (omega (arith, as_long, kept.room)) (omega (arith, fits)) (omega (arith, kept.room, end_within)) low
      ∙ (kept.numerals k h ∙ ap numerals_text (sym (drop-set-lt k c i s later))))

  pub here : drop (get_or begins2 i 0) row2 ≡ numerals_text (drop i after)
  here = placed after row row2 (get_or begins2 i 0) end i (i + 1) s (omega (arith, length-set c i s)) (omega arith)
      (from_place ∙ ap (λ (d : Numeral). numeral_text d ++ drop end row) (sym (get_or-set_same c i s s agent)))
      (kept.numerals (i + 1) (omega arith) ∙ ap numerals_text (sym (drop-set-lt (i + 1) c i s (omega arith))))

  -- a numeral before it was moved with what comes after it
  pub before : (m k : ℕ) → k + m ≡ i → drop (get_or begins2 k 0) row2 ≡ numerals_text (drop k after)
  before zero k is = let e : k ≡ i = omega arith in rw e here
  before (suc m) k is =
      let next = next_begin c row begins k s kept (omega arith) in
      let t = numeral_text (get_or c k s) in
      let first = kept.rising k (omega arith) in
      let goes : k + 1 + m ≡ i = omega arith in
      let low : get_or begins (k + 1) 0 ≤ at = subst (λ n. get_or begins (k + 1) 0 ≤ get_or begins n 0) goes (begins_rise c row begins s kept (k + 1) m (omega arith)) in
      let one : front + (get_or begins k 0 - front) ≡ get_or begins k 0 = omega (arith, first) in
      let two : front + (get_or begins (k + 1) 0 - front) ≡ get_or begins (k + 1) 0 = omega (arith, first, next.0) in
      let in_front : drop (get_or begins k 0 - front) (drop front row) ≡ t ++ drop (get_or begins (k + 1) 0 - front) (drop front row) =
      drop-drop (get_or begins k 0 - front) front row ∙ (ap (λ (n : ℕ). drop n row) one ∙ (next.1 ∙ ap (λ (r : List ℕ). t ++ r) (ap (λ (n : ℕ). drop n row) (sym two) ∙ sym (drop-drop (get_or begins (k + 1) 0 - front) front row)))) in
      let piece = piece_before (drop front row) rest t (get_or begins k 0 - front) (get_or begins (k + 1) 0 - front) (at - front) (omega (arith, next.0, first)) (omega (arith, low)) enough in_front in
      let same : get_or after k s ≡ get_or c k s = get_or-set_other c i k s s (omega arith) in
      placed after row2 row2 (get_or begins2 k 0) (get_or begins2 (k + 1) 0) k (k + 1) s (omega (arith, length-set c i s)) (omega arith)
      (from_moved k (omega arith) ∙ (piece ∙ (ap (λ (r : List ℕ). t ++ r) (sym (from_moved (k + 1) (omega arith)))
      ∙ ap (λ (d : Numeral). numeral_text d ++ drop (get_or begins2 (k + 1) 0) row2) (sym same))))
      (before m (k + 1) (omega arith))

  pub resized : HasNumerals after row2 begins2
  resized =
      let same_length = length-set c i s in
      record {
        few = omega (arith, same_length, kept.few);
        room = as_long;
        begun = omega (arith, long, kept.begun);
        time = omega (arith, moved 0 (omega arith), roomy);
        rising = λ k h. elim (cases_lt i k) [
          | inl later ↦ (let low = begins_rise c row begins s kept (i + 1) (k - (i + 1)) (omega (arith, same_length)) in let goes : i + 1 + (k - (i + 1)) ≡ k = omega arith in let low' : end ≤ get_or begins k 0 = subst (λ n. end ≤ get_or begins n 0) goes low in omega (arith, low', moved 0 (omega arith), others k (omega arith), fits, rises))
          | inr le ↦ omega (arith, moved 0 (omega arith), moved k (omega arith), kept.rising k (omega arith))
        ];
        within = λ k h. elim (cases_lt i k) [
          | inl later ↦ omega (arith, others k (omega arith), kept.within k (omega (arith, same_length)))
          | inr le ↦ (let low = begins_rise c row begins s kept k (i - k) (omega arith) in let goes : k + (i - k) ≡ i = omega arith in let low' : get_or begins k 0 ≤ at = subst (λ n. get_or begins k 0 ≤ get_or begins n 0) goes low in omega (arith, low', moved k (omega arith), fits, end_within))
        ];
        numerals = λ k h. elim (cases_lt k i) [
          | inl lt ↦ before (i - k) k (omega arith)
          | inr ge ↦ elim (same_or_later i k ge) [
            | inl e ↦ rw e here
            | inr later ↦ behind k later (omega (arith, same_length))
          ]
        ];
      }

pub resized_by : (c : List Numeral) (row row' begins begins' : List ℕ) (i : ℕ) (s : Numeral) → HasNumerals c row begins → i < length c → IsResized i (numeral_text s) row row' begins begins' → HasNumerals (set c i s) row' begins'
resized_by c row row' begins begins' i s kept agent made =
    resized c row (moved_before i made.to row begins) row' begins begins' i made.to s kept agent made.place.fits made.place.room refl made.written made.long made.moved made.others
