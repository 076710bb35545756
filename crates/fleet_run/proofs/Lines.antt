-- Rows of bytes that end with kept numerals.
use Rattle.fleet_run.proofs.Words.{◌≡◌, ◌≢◌, ◌≤◌, ◌<◌, ◌+◌, ◌-◌, ◌*◌, ◌++◌, ◌∷◌, [], ◌⊎◌, get_or, zero, suc, inl, inr, refl, ℕ, List, length, take, drop, set, ap, sym, ◌∙◌, arith, length-append, subst, Bool, true, false, Option, None, Some, pos, if◌then◌else◌, add-one, append_assoc, drop-append-le, drop-drop, drop-set-lt, drop-take, drop_all, ext_get_or, get_or_past, get_or-map, map-set, get_or-set_other, get_or-set_same, length-drop, length-map, length-set, length-take, codes, flat_map, signed_decimal, drop-append-add, drop-append_seam, drop-cons, take-append-add, ints, cases_eq, cases_lt, Place, Action, Standing, Program, Configuration, standing_at, standing_after, next_action, finished_one, is_moving, tick, length-tick, standing_at_tick, MachineState, flag_of, moving_flags, place_text, numeral, numeral_text, numerals_of, numerals_text, HasNumber, HasNumerals, EndsWith, IsNumeralAt, IsLineKept, IsWrittenOver, WritesOver, AreClose, ArePlacesKept, IsBeside, IsKeptBefore, places_of}
use Rattle.std.proofs.lemmas.List.FromFn.{get_or-map-range_with_len}
use Rattle.std.proofs.lemmas.List.Concat.{flat_map-cons}
use Rattle.fleet_model.specs.declared.geometry.Dir.TheVariants.{North, East, South, West}
use Rattle.fleet_model.specs.declared.geometry.Step.{Step}
use Rattle.fleet_model.specs.declared.geometry.Step.TheVariants.{Go, Dwell}
use Rattle.fleet_model.specs.Geometry.{stepped}
use Rattle.fleet_machine.specs.AgentSet.{AreNoneFrom, IsNextFrom}
use Rattle.fleet_run.specs.Line.{Numeral}

-- what was written before a place leaves what is behind it
drop_behind : (row row' text : List ℕ) (at m : ℕ) → drop at row' ≡ text ++ drop (at + length text) row
    → drop (at + length text + m) row' ≡ drop (at + length text + m) row
drop_behind row row' text at m e =
    let assoc : at + length text + m ≡ at + (length text + m) = omega arith in
    ap (λ n. drop n row') assoc ∙ sym (drop-drop (length text + m) at row') ∙ ap (drop (length text + m)) e
    ∙ drop-append-add text (drop (at + length text) row) m ∙ drop-drop m (at + length text) row

pub written_length : (row row' text : List ℕ) (at end : ℕ) → drop at row' ≡ text ++ drop end row → length row' ≡ length row → at ≤ length row → end ≤ length row
    → end ≡ at + length text
written_length row row' text at end e same low high =
    let lengths : length (drop at row') ≡ length (text ++ drop end row) = ap length e in
    omega (arith, length-drop at row', length-drop end row, length-append text (drop end row), lengths, same)

pub left_behind : (row row' text : List ℕ) (at end n : ℕ) → drop at row' ≡ text ++ drop end row → length row' ≡ length row → at ≤ end → end ≤ length row → end ≤ n
    → drop n row' ≡ drop n row
left_behind row row' text at end n e same low high later =
    let is : end ≡ at + length text = written_length row row' text at end e same (omega arith) high in
    let e' : drop at row' ≡ text ++ drop (at + length text) row = subst (λ m. drop at row' ≡ text ++ drop m row) is e in
    let n_is : at + length text + (n - end) ≡ n = omega (arith, is) in
    subst (λ m. drop m row' ≡ drop m row) n_is (drop_behind row row' text at (n - end) e')

pub same_or_later : (i k : ℕ) → i ≤ k → (k ≡ i) ⊎ (i < k)
same_or_later zero zero l = inl refl
same_or_later zero (suc k) l = inr (omega arith)
same_or_later (suc i) zero l = absurd (omega arith)
same_or_later (suc i) (suc k) l = elim (same_or_later i k (omega arith)) [ inl e ↦ inl (ap suc e) | inr m ↦ inr (omega arith) ]

-- behind the last numeral stands the end of the line
pub last_numeral : (c : List Numeral) (row : List ℕ) (at k : ℕ) → length c ≤ k → drop at row ≡ 10 ∷ [] → drop at row ≡ numerals_text (drop k c)
last_numeral c row at k l e =
    let none : drop k c ≡ [] = drop_all k c l in
    rw none e

-- a numeral that was written before those behind it
pub placed : (c : List Numeral) (row row' : List ℕ) (at end i j : ℕ) (d : Numeral) → i < length c → j ≡ suc i → drop at row' ≡ numeral_text (get_or c i d) ++ drop end row
    → drop end row ≡ numerals_text (drop j c) → drop at row' ≡ numerals_text (drop i c)
placed c row row' at end i j d l next e behind =
    let text = numeral_text (get_or c i d) in
    e ∙ ap (λ x. text ++ x) (behind ∙ ap (λ k. numerals_text (drop k c)) next) ∙ sym (append_assoc text (flat_map numeral_text (drop (suc i) c)) (codes "\n"))
    ∙ ap (λ x. x ++ codes "\n") (sym (flat_map-cons numeral_text (get_or c i d) (drop (suc i) c))) ∙ ap numerals_text (sym (drop-cons c i d l))

-- A piece of a row before what was written over
pub piece_before : (row rest t : List ℕ) (n m at : ℕ) → m ≡ n + length t → m ≤ at → at ≤ length row → drop n row ≡ t ++ drop m row
    → drop n (take at row ++ rest) ≡ t ++ drop m (take at row ++ rest)
piece_before row rest t n m at next low high e =
    let front : length (take at row) ≡ at = omega (arith, length-take at row) in
    let k = at - m in
    let split : at ≡ n + (length t + k) = omega (arith, next) in
    let split' : at ≡ m + k = omega arith in
    let left : drop n (take at row) ≡ t ++ take k (drop m row) =
    ap (λ x. drop n (take x row)) split ∙ drop-take n (length t + k) row ∙ ap (take (length t + k)) e ∙ take-append-add t (drop m row) k in
    let right : drop m (take at row) ≡ take k (drop m row) = ap (λ x. drop m (take x row)) split' ∙ drop-take m k row in
    drop-append-le n (take at row) rest (omega (arith, front, next)) ∙ ap (λ x. x ++ rest) (left ∙ ap (λ x. t ++ x) (sym right)) ∙ append_assoc t (drop m (take at row)) rest
    ∙ ap (λ x. t ++ x) (sym (drop-append-le m (take at row) rest (omega (arith, front))))

-- how far the next numeral is
pub next_begin : (c : List Numeral) (row begins : List ℕ) (k : ℕ) (d : Numeral) → HasNumerals c row begins → k < length c
    → (get_or begins (k + 1) 0 ≡ get_or begins k 0 + length (numeral_text (get_or c k d))) × (drop (get_or begins k 0) row ≡ numeral_text (get_or c k d) ++ drop (get_or begins (k + 1) 0) row)
next_begin c row begins k d kept agent =
    let text = numeral_text (get_or c k d) in
    let e : drop (get_or begins k 0) row ≡ text ++ drop (get_or begins (k + 1) 0) row =
    kept.numerals k (omega arith) ∙ ap numerals_text (drop-cons c k d agent)
    ∙ ap (λ x. x ++ codes "\n") (flat_map-cons numeral_text (get_or c k d) (drop (suc k) c))
    ∙ append_assoc text (flat_map numeral_text (drop (suc k) c)) (codes "\n")
    ∙ ap (λ n. text ++ numerals_text (drop n c)) (sym (add-one k)) ∙ ap (λ x. text ++ x) (sym (kept.numerals (k + 1) (omega arith))) in
    (written_length row row text (get_or begins k 0) (get_or begins (k + 1) 0) e refl (omega (arith, kept.room, kept.within k (omega arith))) (omega (arith, kept.room, kept.within (k + 1) (omega arith))), e)

-- numerals behind one another begin one after the other
pub begins_rise : (c : List Numeral) (row begins : List ℕ) (d : Numeral) → HasNumerals c row begins → (k m : ℕ) → k + m ≤ length c → get_or begins k 0 ≤ get_or begins (k + m) 0
begins_rise c row begins d kept k zero h = let e : k + zero ≡ k = omega arith in rw e (omega arith)
begins_rise c row begins d kept k (suc m) h =
    let e : k + suc m ≡ k + m + 1 = omega arith in
    let next = (next_begin c row begins (k + m) d kept (omega arith)).0 in
    rw e (omega (arith, next, begins_rise c row begins d kept k m (omega arith)))

-- A row in which a numeral was written over one that has as many bytes.
module _ (c : List Numeral) (row row' begins : List ℕ) (i : ℕ) (s : Numeral) (kept : HasNumerals c row begins) (agent : i < length c)
    (over : IsWrittenOver (numeral_text s) (get_or begins i 0) (get_or begins (i + 1) 0) row row') where
  abbrev at : ℕ
  at = get_or begins i 0

  abbrev end : ℕ
  end = get_or begins (i + 1) 0

  abbrev text : List ℕ
  text = numeral_text s

  abbrev after : List Numeral
  after = set c i s

  at_within : at ≤ 24587
  at_within = kept.within i (omega arith)

  end_within : end ≤ 24587
  end_within = kept.within (i + 1) (omega arith)

  front : length (take at row) ≡ at
  front = omega (arith, length-take at row, kept.room, at_within)

  pub as_long : length row' ≡ 24588
  as_long = let e : length row' ≡ length (take at row ++ (text ++ drop end row)) = ap length over.written in
      omega (arith, e, front, length-append (take at row) (text ++ drop end row), length-append text (drop end row), length-drop end row, over.fits, kept.room, end_within)

  -- from the numeral on
  from_place : drop at row' ≡ text ++ drop end row
  from_place = ap (drop at) over.written ∙ subst (λ n. drop n (take at row ++ (text ++ drop end row)) ≡ text ++ drop end row) front (drop-append_seam (take at row) (text ++ drop end row))

  -- behind the numeral all is as it was
  behind : (k : ℕ) → i < k → k ≤ length c → end ≤ get_or begins k 0 → drop (get_or begins k 0) row' ≡ numerals_text (drop k after)
  behind k later h low =
      left_behind row row' text at end (get_or begins k 0) from_place (omega (arith, as_long, kept.room)) (omega (arith, over.fits)) (omega (arith, kept.room, end_within)) low
      ∙ kept.numerals k h ∙ ap numerals_text (sym (drop-set-lt k c i s later))

  -- the numeral itself
  pub here : drop at row' ≡ numerals_text (drop i after)
  here = placed after row row' at end i (i + 1) s (omega (arith, length-set c i s)) (omega arith)
      (from_place ∙ ap (λ (d : Numeral). numeral_text d ++ drop end row) (sym (get_or-set_same c i s s agent)))
      (kept.numerals (i + 1) (omega arith) ∙ ap numerals_text (sym (drop-set-lt (i + 1) c i s (omega arith))))

  -- before the numeral all is as it was
  pub before : (m k : ℕ) → k + m ≡ i → drop (get_or begins k 0) row' ≡ numerals_text (drop k after)
  before zero k is = let e : k ≡ i = omega arith in rw e here
  before (suc m) k is =
      let next = next_begin c row begins k s kept (omega arith) in
      let later = begins_rise c row begins s kept (k + 1) m (omega arith) in
      let goes : k + 1 + m ≡ i = omega arith in
      let low : get_or begins (k + 1) 0 ≤ at = subst (λ n. get_or begins (k + 1) 0 ≤ get_or begins n 0) goes later in
      let piece = piece_before row (text ++ drop end row) (numeral_text (get_or c k s)) (get_or begins k 0) (get_or begins (k + 1) 0) at next.0 low (omega (arith, kept.room, at_within)) next.1 in
      let same : get_or after k s ≡ get_or c k s = get_or-set_other c i k s s (omega arith) in
      placed after row' row' (get_or begins k 0) (get_or begins (k + 1) 0) k (k + 1) s (omega (arith, length-set c i s)) (omega arith)
      (ap (drop (get_or begins k 0)) over.written ∙ piece ∙ ap (λ x. numeral_text (get_or c k s) ++ drop (get_or begins (k + 1) 0) x) (sym over.written)
      ∙ ap (λ (d : Numeral). numeral_text d ++ drop (get_or begins (k + 1) 0) row') (sym same))
      (before m (k + 1) (omega arith))

  pub after_or_at : (k : ℕ) → k ≤ length c → i ≤ k → drop (get_or begins k 0) row' ≡ numerals_text (drop k after)
  after_or_at k h low = elim (same_or_later i k low) [
    | inl e ↦ rw e here
    | inr l ↦ behind k l h (let r = begins_rise c row begins s kept (i + 1) (k - (i + 1)) (omega arith) in let goes : i + 1 + (k - (i + 1)) ≡ k = omega arith in subst (λ n. end ≤ get_or begins n 0) goes r)
  ]

-- What is kept of a row in which one numeral was written over.
pub overwritten : (c : List Numeral) (row row' begins : List ℕ) (i : ℕ) (s : Numeral) → HasNumerals c row begins → i < length c
    → IsWrittenOver (numeral_text s) (get_or begins i 0) (get_or begins (i + 1) 0) row row' → HasNumerals (set c i s) row' begins
overwritten c row row' begins i s kept agent over =
    let same_length = length-set c i s in
    record {
      few = omega (arith, same_length, kept.few);
      room = as_long c row row' begins i s kept agent over;
      begun = kept.begun;
      time = kept.time;
      rising = λ k h. kept.rising k (omega (arith, same_length));
      within = λ k h. kept.within k (omega (arith, same_length));
      numerals = λ k h. elim (cases_lt k i) [
        | inl m ↦ before c row row' begins i s kept agent over (i - k) k (omega arith)
        | inr l ↦ after_or_at c row row' begins i s kept agent over k (omega (arith, same_length)) l
      ];
    }

-- ---- the numerals of a configuration

pub length-numerals_of : (c : Configuration) → length (numerals_of c) ≡ 2 * length c
length-numerals_of [] = refl
length-numerals_of (s ∷ c) = omega (arith, length-numerals_of c)

numerals_are_places : (c : Configuration) → flat_map numeral_text (numerals_of c) ≡ flat_map (λ s. place_text s.place) c
numerals_are_places [] = refl
numerals_are_places (s ∷ c) =
    let column = signed_decimal s.place.x in
    let others : List ℕ = flat_map (λ (t : Standing). place_text t.place) c in
    ap (λ l. 32 ∷ (column ++ (44 ∷ (signed_decimal s.place.y ++ l)))) (numerals_are_places c)
    ∙ ap (λ l. 32 ∷ l) (sym (append_assoc column (44 ∷ signed_decimal s.place.y) others))

-- the places, and the end of the line
pub places_behind : (c : Configuration) (row begins : List ℕ) → IsLineKept c row begins → drop (get_or begins 0 0) row ≡ flat_map (λ s. place_text s.place) c ++ codes "\n"
places_behind c row begins kept = kept.numerals 0 (omega arith) ∙ ap (λ l. l ++ codes "\n") (numerals_are_places c)

column_at : (c : Configuration) (i : ℕ) (n : Numeral) → i < length c → get_or (numerals_of c) (2 * i) n ≡ numeral 32 (standing_at c i).place.x
column_at [] i n l = absurd (omega arith)
column_at (s ∷ c) zero n l = refl
column_at (s ∷ c) (suc i) n l = let two : 2 * suc i ≡ suc (suc (2 * i)) = omega arith in rw two (column_at c i n (omega arith))

row_at : (c : Configuration) (i : ℕ) (n : Numeral) → i < length c → get_or (numerals_of c) (2 * i + 1) n ≡ numeral 44 (standing_at c i).place.y
row_at [] i n l = absurd (omega arith)
row_at (s ∷ c) zero n l = refl
row_at (s ∷ c) (suc i) n l = let two : 2 * suc i + 1 ≡ suc (suc (2 * i + 1)) = omega arith in rw two (row_at c i n (omega arith))

column_set : (c : Configuration) (i : ℕ) (s : Standing) → i < length c → (standing_at c i).place.y ≡ s.place.y
    → set (numerals_of c) (2 * i) (numeral 32 s.place.x) ≡ numerals_of (set c i s)
column_set [] i s l e = absurd (omega arith)
column_set (t ∷ c) zero s l e = ap (λ y. numeral 32 s.place.x ∷ numeral 44 y ∷ numerals_of c) e
column_set (t ∷ c) (suc i) s l e =
    let two : 2 * suc i ≡ suc (suc (2 * i)) = omega arith in
    rw two (ap (λ ns. numeral 32 t.place.x ∷ numeral 44 t.place.y ∷ ns) (column_set c i s (omega arith) e))

row_set : (c : Configuration) (i : ℕ) (s : Standing) → i < length c → (standing_at c i).place.x ≡ s.place.x
    → set (numerals_of c) (2 * i + 1) (numeral 44 s.place.y) ≡ numerals_of (set c i s)
row_set [] i s l e = absurd (omega arith)
row_set (t ∷ c) zero s l e = ap (λ x. numeral 32 x ∷ numeral 44 s.place.y ∷ numerals_of c) e
row_set (t ∷ c) (suc i) s l e =
    let two : 2 * suc i + 1 ≡ suc (suc (2 * i + 1)) = omega arith in
    rw two (ap (λ ns. numeral 32 t.place.x ∷ numeral 44 t.place.y ∷ ns) (row_set c i s (omega arith) e))

pub column_numeral : (c : Configuration) (i : ℕ) (q : Place) → i < length c → (standing_at c i).place ≡ q → IsNumeralAt (numerals_of c) (2 * i) (numeral 32 q.x)
column_numeral c i q l here = subst (λ (p : Place). IsNumeralAt (numerals_of c) (2 * i) (numeral 32 p.x)) here (record { inside = omega (arith, length-numerals_of c); is = column_at c i _ l })

pub row_numeral : (c : Configuration) (i : ℕ) (q : Place) → i < length c → (standing_at c i).place ≡ q → IsNumeralAt (numerals_of c) (2 * i + 1) (numeral 44 q.y)
row_numeral c i q l here = subst (λ (p : Place). IsNumeralAt (numerals_of c) (2 * i + 1) (numeral 44 p.y)) here (record { inside = omega (arith, length-numerals_of c); is = row_at c i _ l })

-- a line in which the column or the row of a place was written anew
pub column_written : (c : Configuration) (i : ℕ) (old new : Place) (s : Standing) (row begins : List ℕ) → i < length c → (standing_at c i).place ≡ old → s.place ≡ new → old.y ≡ new.y
    → HasNumerals (set (numerals_of c) (2 * i) (numeral 32 new.x)) row begins → IsLineKept (set c i s) row begins
column_written c i old new s row begins l here there e kept =
    let kept' = subst (λ (q : Place). HasNumerals (set (numerals_of c) (2 * i) (numeral 32 q.x)) row begins) (sym there) kept in
    subst (λ ns. HasNumerals ns row begins) (column_set c i s l (ap (λ (q : Place). q.y) here ∙ (e ∙ ap (λ (q : Place). q.y) (sym there)))) kept'

pub row_written : (c : Configuration) (i : ℕ) (old new : Place) (s : Standing) (row begins : List ℕ) → i < length c → (standing_at c i).place ≡ old → s.place ≡ new → old.x ≡ new.x
    → HasNumerals (set (numerals_of c) (2 * i + 1) (numeral 44 new.y)) row begins → IsLineKept (set c i s) row begins
row_written c i old new s row begins l here there e kept =
    let kept' = subst (λ (q : Place). HasNumerals (set (numerals_of c) (2 * i + 1) (numeral 44 q.y)) row begins) (sym there) kept in
    subst (λ ns. HasNumerals ns row begins) (row_set c i s l (ap (λ (q : Place). q.x) here ∙ (e ∙ ap (λ (q : Place). q.x) (sym there)))) kept'

-- a place beside another lies in the same column, or in the same row
pub in_column_if : (o q : Place) → IsBeside o q → o.y ≢ q.y → (o.x ≡ q.x) × AreClose o.y q.y
in_column_if o q beside other = elim beside [
  | inl same ↦ same
  | inr same ↦ absurd (other same.0)
]

pub in_row_if : (o q : Place) → IsBeside o q → o.y ≡ q.y → AreClose o.x q.x
in_row_if o q beside same = elim beside [
  | inl column ↦ let e = column.0 in rw e (record { low = omega (arith, ints); high = omega (arith, ints) })
  | inr row ↦ row.1
]

-- a line of which only the end was written
pub ends_empty : (ns : List Numeral) (n at : ℕ) (row begins : List ℕ) → n ≡ length ns → length ns ≤ 2048 → at ≡ 24587 → length row ≡ 24588 → length begins ≡ 2049 → drop at row ≡ 10 ∷ []
    → EndsWith ns n at row (set begins n at)
ends_empty ns n at row begins all few is long begun end =
    let here : get_or (set begins n at) n 0 ≡ at = get_or-set_same begins n at 0 (omega arith) in
    let only : (k : ℕ) → n ≤ k → k ≤ length ns → get_or (set begins n at) k 0 ≡ at = λ k l h. let e : k ≡ n = omega arith in rw e here in
    record {
      room = omega arith;
      high = omega arith;
      long = long;
      begun = length-set begins n at ∙ begun;
      here = here;
      rising = λ k l h. omega (arith, only k l h);
      within = λ k l h. omega (arith, only k l h);
      numerals = λ k l h. rw (only k l h) (last_numeral ns row at k (omega arith) end);
    }

-- .. and of which one numeral more was written
pub ends_before : (ns : List Numeral) (k : ℕ) (n : Numeral) (row row' begins : List ℕ) (at end : ℕ) → IsNumeralAt ns k n → EndsWith ns (k + 1) end row begins → k < length begins
    → drop at row' ≡ numeral_text n ++ drop end row → length row' ≡ length row → at ≤ end → end ≤ at + 12 → EndsWith ns k at row' (set begins k at)
ends_before ns k n row row' begins at end there old inside written same low high =
    let here : get_or (set begins k at) k 0 ≡ at = get_or-set_same begins k at 0 inside in
    let other : (j : ℕ) → j ≢ k → get_or (set begins k at) j 0 ≡ get_or begins j 0 = λ j ne. get_or-set_other begins k j at 0 ne in
    let room = old.room in
    let top = old.high in
    record {
      room = omega arith;
      high = omega arith;
      long = same ∙ old.long;
      begun = length-set begins k at ∙ old.begun;
      here = here;
      rising = λ j l h. elim (same_or_later k j l) [ inl e ↦ rw e (omega (arith, here)) | inr m ↦ let o = other j (omega arith) in omega (arith, o, old.rising j (omega arith) h) ];
      within = λ j l h. elim (same_or_later k j l) [ inl e ↦ rw e (omega (arith, here)) | inr m ↦ let o = other j (omega arith) in omega (arith, o, old.within j (omega arith) h) ];
      numerals = λ j l h. elim (same_or_later k j l) [
        | inl e ↦
            rw (e, here) (placed ns row row' at end k (k + 1) n there.inside (omega arith)
            (written ∙ ap (λ (t : Numeral). numeral_text t ++ drop end row) (sym there.is))
            (ap (λ b. drop b row) (sym old.here) ∙ old.numerals (k + 1) (omega arith) (omega (arith, there.inside))))
        | inr m ↦
            rw (other j (omega arith)) (left_behind row row' (numeral_text n) at end (get_or begins j 0) written same low (omega (arith, old.long)) (old.rising j (omega arith) h)
            ∙ old.numerals j (omega arith) h)
      ];
    }

-- a line that was written whole
pub all_written : (ns : List Numeral) (at : ℕ) (row begins : List ℕ) → length ns ≤ 2048 → EndsWith ns 0 at row begins → HasNumerals ns row begins
all_written ns at row begins few h = record {
  few = few;
  room = h.long;
  begun = h.begun;
  time = omega (arith, h.here, h.room);
  rising = λ k l. omega (arith, h.here, h.rising k (omega arith) l);
  within = λ k l. h.within k (omega arith) l;
  numerals = λ k l. h.numerals k (omega arith) l;
}

-- the place of an agent
pub place_of_agent : (c : Configuration) (i : ℕ) (d : Place) → i < length c → get_or (places_of c) i d ≡ (standing_at c i).place
place_of_agent c i d agent = get_or-map (λ (s : Standing). s.place) c i (standing_at [] i) d agent

-- .. which is written anew
pub places_with : (c : Configuration) (i : ℕ) (s : Standing) → set (places_of c) i s.place ≡ places_of (set c i s)
places_with c i s = sym (map-set (λ (d : Standing). d.place) c i s)

-- the places of the agents below n
abbrev pub ArePlacesTo : Configuration → List Place → ℕ → Type 0
ArePlacesTo c places n = (k : ℕ) → k < n → get_or places k (standing_at [] 0).place ≡ (standing_at c k).place

pub one_copied : (c : Configuration) (places : List Place) (i : ℕ) (q : Place) → i < length places → q ≡ (standing_at c i).place → ArePlacesTo c places i → ArePlacesTo c (set places i q) (i + 1)
one_copied c places i q within e before k lt =
    let nowhere : Place = (standing_at [] 0).place in
    elim (cases_eq k i) [
      | inl same ↦ rw same (get_or-set_same places i q nowhere within ∙ e)
      | inr other ↦ get_or-set_other places i k q nowhere other ∙ before k (omega arith)
    ]

pub all_copied : (c : Configuration) (places : List Place) → length places ≡ length c → ArePlacesTo c places (length c) → places ≡ places_of c
all_copied c places long all =
    let nowhere : Place = (standing_at [] 0).place in
    ext_get_or nowhere places (places_of c) (long ∙ sym (length-map c (λ (s : Standing). s.place)))
    (λ k lt. let agent : k < length c = omega (arith, long) in all k agent ∙ sym (place_of_agent c k nowhere agent))

-- The row after a tick, with the places of the moved agents below one.
pub record IsRewritten (m : MachineState) (from : ℕ) (row begins : List ℕ) (places : List Place) : Type 0 where
  pub now : Configuration
  pub kept : IsLineKept now row begins
  pub placed : places ≡ places_of now
  pub agents : length now ≡ length m.configuration
  pub same : (i : ℕ) → (from ≤ i → flag_of m.moving i ≡ false) → standing_at now i ≡ standing_at m.configuration i
  pub beside : (i : ℕ) → IsBeside (standing_at now i).place (standing_at m.configuration i).place

-- each agent has a place
pub places_long : (m : MachineState) (from : ℕ) (row begins : List ℕ) (places : List Place) → IsRewritten m from row begins places → length places ≡ length m.configuration
places_long m from row begins places h = ap length h.placed ∙ length-map h.now _ ∙ h.agents

-- a place is beside itself
pub beside_itself : (q : Place) → IsBeside q q
beside_itself q = inl (refl, record { low = omega (arith, ints); high = omega (arith, ints) })

-- where an agent stood
pub stood : (m : MachineState) (from : ℕ) (row begins : List ℕ) (places : List Place) (h : IsRewritten m from row begins places) (i : ℕ) (nowhere : Place) → i < length m.configuration
    → (standing_at h.now i).place ≡ get_or places i nowhere
stood m from row begins places h i nowhere agent =
    sym (ap (λ l. get_or l i nowhere) h.placed ∙ place_of_agent h.now i nowhere (omega (arith, h.agents)))

pub rewritten_next : (m : MachineState) (from i : ℕ) (row row' begins begins' : List ℕ) (places : List Place) (h : IsRewritten m from row begins places) → IsNextFrom m.moving from i → i < length m.configuration
    → IsLineKept (set h.now i (standing_at m.configuration i)) row' begins' → IsRewritten m (i + 1) row' begins' (set places i (standing_at m.configuration i).place)
rewritten_next m from i row row' begins begins' places h next agent kept =
    let s = standing_at m.configuration i in
    let within : i < length h.now = omega (arith, h.agents) in
    record {
      now = set h.now i s;
      kept = kept;
      placed = ap (λ (l : List Place). set l i s.place) h.placed ∙ places_with h.now i s;
      agents = omega (arith, length-set h.now i s, h.agents);
      same = λ j none. elim (cases_eq j i) [
        | inl e ↦ rw e (get_or-set_same h.now i s _ within)
        | inr ne ↦ get_or-set_other h.now i j s _ ne ∙ h.same j (λ low. elim (cases_lt j i) [ inl l ↦ next.between j low l | inr l ↦ none (omega arith) ])
      ];
      beside = λ j. elim (cases_eq j i) [
        | inl e ↦ let here : standing_at (set h.now i s) i ≡ s = get_or-set_same h.now i s _ within in rw (e, here) (beside_itself s.place)
        | inr ne ↦ let there : standing_at (set h.now i s) j ≡ standing_at h.now j = get_or-set_other h.now i j s _ ne in rw there (h.beside j)
      ];
    }

module _ (m : MachineState) (from : ℕ) (row begins : List ℕ) (places : List Place) (h : IsRewritten m from row begins places) (none : AreNoneFrom m.moving from) where
  all_rewritten : h.now ≡ m.configuration
  all_rewritten = ext_get_or _ h.now m.configuration h.agents (λ i l. h.same i (none i))

  pub rewritten_all : ArePlacesKept m.configuration row begins places
  rewritten_all = subst (λ c. ArePlacesKept c row begins places) all_rewritten (record { kept = h.kept; placed = h.placed })

pub really_over : (b : Bool) (text : List ℕ) (at end : ℕ) (row row' : List ℕ) → WritesOver b text at end row row' → b ≡ true → IsWrittenOver text at end row row'
really_over true text at end row row' h e = h
really_over false text at end row row' h e = absurd cc

pub not_over : (b : Bool) (text : List ℕ) (at end : ℕ) (row row' : List ℕ) → WritesOver b text at end row row' → b ≡ false → row' ≡ row
not_over true text at end row row' h e = absurd cc
not_over false text at end row row' h e = h.same

-- where a numeral of a line ends, and its text
pub numeral_there : (ns : List Numeral) (k : ℕ) (n : Numeral) (row begins : List ℕ) → HasNumerals ns row begins → IsNumeralAt ns k n
    → (get_or begins (k + 1) 0 ≡ get_or begins k 0 + length (numeral_text n)) × (drop (get_or begins k 0) row ≡ numeral_text n ++ drop (get_or begins (k + 1) 0) row)
numeral_there ns k n row begins kept there =
    let next = next_begin ns row begins k n kept there.inside in
    subst (λ (t : Numeral). (get_or begins (k + 1) 0 ≡ get_or begins k 0 + length (numeral_text t)) × (drop (get_or begins k 0) row ≡ numeral_text t ++ drop (get_or begins (k + 1) 0) row)) there.is next

-- the begins of a numeral and of the next are in order
pub in_order : (ns : List Numeral) (k : ℕ) (row begins : List ℕ) → HasNumerals ns row begins → k < length ns → get_or begins k 0 ≤ get_or begins (k + 1) 0
in_order ns k row begins kept inside = begins_rise ns row begins (numeral 32 (pos 0)) kept k 1 (omega (arith, inside))

-- the row has the numeral of this number
pub has_number : (ns : List Numeral) (k : ℕ) (row begins : List ℕ) → HasNumerals ns row begins → k < length ns → HasNumber k row begins
has_number ns k row begins kept inside =
    let next = kept.within (k + 1) (omega (arith, inside)) in
    record { room = kept.room; number = omega (arith, kept.begun, kept.few, inside); within = omega (arith, next) }

-- the time is written before the numerals
pub timed : (ns : List Numeral) (row row' begins digits : List ℕ) (at : ℕ) → HasNumerals ns row begins → drop at row' ≡ digits ++ (58 ∷ drop (get_or begins 0 0) row)
    → length row' ≡ length row → at ≤ get_or begins 0 0 → HasNumerals ns row' begins
timed ns row row' begins digits at kept e same low = record {
  few = kept.few;
  room = same ∙ kept.room;
  begun = kept.begun;
  time = kept.time;
  rising = kept.rising;
  within = kept.within;
  numerals = λ k h. left_behind row row' (digits ++ (58 ∷ [])) at (get_or begins 0 0) (get_or begins k 0) (e ∙ sym (append_assoc digits (58 ∷ []) (drop (get_or begins 0 0) row))) same low
      (omega (arith, kept.room, kept.within 0 (omega arith))) (kept.rising k h) ∙ kept.numerals k h;
}

-- who does not move stands where it stood
pub unmoved : (p : Program) (held : ℕ → Bool) (c : Configuration) (i : ℕ) → length c ≡ length p → flag_of (moving_flags p held c) i ≡ false → standing_at c i ≡ standing_at (tick p held c) i
unmoved p held c i agents still = elim (cases_lt i (length p)) [
  | inl agent ↦
      let flag : is_moving p held c i ≡ false = sym (get_or-map-range_with_len (is_moving p held c) 0 (length p) i i false agent (omega arith)) ∙ still in
      let after : standing_after p held c i ≡ standing_at c i = rw flag refl in
      sym (standing_at_tick p held c i agent ∙ after)
  | inr past ↦ get_or_past c i _ (omega (arith, agents)) ∙ sym (get_or_past (tick p held c) i _ (omega (arith, length-tick p held c)))
]

-- ---- a step leads to a place beside

beside_stepped : (q : Place) (s : Step) → IsBeside q (stepped q s)
beside_stepped q (Go North) = inl (refl, record { low = omega (arith, ints); high = omega (arith, ints) })
beside_stepped q (Go South) = inl (refl, record { low = omega (arith, ints); high = omega (arith, ints) })
beside_stepped q (Go East) = inr (refl, record { low = omega (arith, ints); high = omega (arith, ints) })
beside_stepped q (Go West) = inr (refl, record { low = omega (arith, ints); high = omega (arith, ints) })
beside_stepped q Dwell = beside_itself q

beside_finished : (b : Bool) (s : Standing) (a : Option Action) → IsBeside s.place (if b then finished_one s a else s).place
beside_finished true s None = beside_itself s.place
beside_finished true s (Some a) = beside_stepped s.place a.step
beside_finished false s a = beside_itself s.place

beside_tick : (p : Program) (held : ℕ → Bool) (c : Configuration) (i : ℕ) → length c ≡ length p
    → IsBeside (standing_at c i).place (standing_at (tick p held c) i).place
beside_tick p held c i agents = elim (cases_lt i (length p)) [
  | inl agent ↦ rw (standing_at_tick p held c i agent) (beside_finished (is_moving p held c i) (standing_at c i) (next_action p c i))
  | inr past ↦
      let before : standing_at c i ≡ standing_at [] i = get_or_past c i _ (omega (arith, agents)) in
      let after : standing_at (tick p held c) i ≡ standing_at [] i = get_or_past (tick p held c) i _ (omega (arith, length-tick p held c)) in
      rw (before, after) (beside_itself (standing_at [] i).place)
]

pub kept_before : (p : Program) (held : ℕ → Bool) (c : Configuration) (m : MachineState) (row begins : List ℕ) (places : List Place) → length c ≡ length p → ArePlacesKept c row begins places
    → m.configuration ≡ tick p held c → m.moving ≡ moving_flags p held c → IsKeptBefore m row begins places
kept_before p held c m row begins places agents shown after moving = record {
  before = c;
  kept = shown.kept;
  placed = shown.placed;
  agents = agents ∙ sym (length-tick p held c) ∙ ap length (sym after);
  same = λ i still. unmoved p held c i agents (ap (λ flags. flag_of flags i) (sym moving) ∙ still) ∙ ap (λ d. standing_at d i) (sym after);
  beside = λ i. subst (λ d. IsBeside (standing_at c i).place (standing_at d i).place) (sym after) (beside_tick p held c i agents);
}
