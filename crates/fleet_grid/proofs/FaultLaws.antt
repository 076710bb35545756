-- Reading a map's lines fails with a fault exactly if the fault is the first.
use Rattle.std.proofs.Common.{◌≡◌, ◌≢◌, ℕ, zero, suc, ◌+◌, ◌<◌, Bool, false, ◌&&◌, eqb, List, [], ◌∷◌, length, drop, get_or, Some, None, Result, Ok, Err, refl, sym, ap, subst, ◌∙◌, arith, inl, inr}
use Rattle.std.specs.Prelude.{position, codes, ◌⊎◌, IfOk, IfErr, IsOkUnless}
use Rattle.std.specs.List.{list_all}
use Rattle.std.proofs.lemmas.Bool.{eqb-true, eq-eqb, ne_eqb, false_from_ne_true, both_ways}
use Rattle.std.proofs.lemmas.List.{drop-drop, length-drop, get_or-drop}
use Rattle.fleet_model.specs.Answer.{IsDueUnless}
use Rattle.fleet_grid.specs.declared.fault.MapFault.{MapFault}
use Rattle.fleet_grid.specs.declared.fault.MapFault.TheVariants.{OutOfMemory, Header, Size, RowCount, RowLength, Glyph, Trailing}
use Rattle.fleet_text.specs.Text.{Bytes, words_from_front}
use Rattle.fleet_grid.specs.Ground.{Ground, IsSide}
use Rattle.fleet_grid.specs.MapText.{line_at, is_no_glyph, cells_of, is_row_space, IsKindLine, IsNumberLine, IsMapLine, IsHeader, IsSizedHeader, AreMapRows, AreMapLines, HasForm, IsFirstWithoutForm, IsMapRightUpTo, IsFirstMapLineFault}
use Rattle.fleet_text.specs.Steps.{none_or, ◌>>=◌, ◌>>◌, some_or}
use Rattle.fleet_grid.specs.MapReading.{is_alone, field, number_field, is_side, header_at, row_at, rows_at, map_at}
use Rattle.fleet_text.proofs.StepLaws.{bind_err, right_err, some_err, some_ok, err_is, ok_err, none_some, option_cases, Tells}
use Rattle.fleet_grid.proofs.MapLaws.{kind_is, kind_again, number_is, number_again, map_line_is, map_line_again, sides_are, sides_again, four_lines, sized, after_width, after_height, after_kind, header_is, header_read, header_again, row_again, StartWithRows, rows_to, rows_from, rows_again, row_is, rows_are, empty_are, empty_again, after_rows_read, after_header, is_found, is_read}

-- ---- the header

kind_missing : (line : Bytes) → field (codes "type") line ≡ None → IsKindLine line → ⊥
kind_missing line none h = let again = kind_again line h in none_some (field (codes "type") line) again.0 none again.1

number_missing : (keyword line : Bytes) → number_field keyword line ≡ None → (n : ℕ) × IsNumberLine keyword line n → ⊥
number_missing keyword line none h = none_some (number_field keyword line) h.0 none (number_again keyword line h.0 h.1)

-- which lines have their form before a wrong one
abbrev Before : List Bytes → ℕ → Type 0
Before ls k = (i : ℕ) → i < k → HasForm ls i

none_before : (ls : List Bytes) → Before ls 0
none_before ls i lt = absurd (omega arith)

one_before : (ls : List Bytes) → IsKindLine (line_at ls 0) → Before ls 1
one_before ls kind zero lt = kind
one_before ls kind (suc i) lt = absurd (omega arith)

two_before : (ls : List Bytes) (h : ℕ) → IsKindLine (line_at ls 0) → IsNumberLine (codes "height") (line_at ls 1) h → Before ls 2
two_before ls h kind height zero lt = kind
two_before ls h kind height (suc zero) lt = (h, height)
two_before ls h kind height (suc (suc i)) lt = absurd (omega arith)

three_before : (ls : List Bytes) (w h : ℕ) → IsKindLine (line_at ls 0) → IsNumberLine (codes "height") (line_at ls 1) h → IsNumberLine (codes "width") (line_at ls 2) w → Before ls 3
three_before ls w h kind height width zero lt = kind
three_before ls w h kind height width (suc zero) lt = (h, height)
three_before ls w h kind height width (suc (suc zero)) lt = (w, width)
three_before ls w h kind height width (suc (suc (suc i))) lt = absurd (omega arith)

wrong_line : (ls : List Bytes) (k : ℕ) → k < 4 → Before ls k → (HasForm ls k → ⊥) → IsFirstMapLineFault ls (Header (k + 1))
wrong_line ls k within before wrong = (k, refl, record { within = within; before = before; wrong = wrong })

wrong_size : (ls : List Bytes) (w h : ℕ) (f : MapFault) → IsHeader ls w h → sized h w ≡ Err f → IsFirstMapLineFault ls f
wrong_size ls w h f header e =
    elim (right_err (is_side h && is_side w) Size (Ok (w, h)) f e) [
      | inl p ↦ subst (IsFirstMapLineFault ls) p.1 (w, h, header, λ sides. both_ways (is_side h && is_side w) p.0 (sides_again h w sides.0 sides.1))
      | inr p ↦ absurd (let g : Ok (w, h) ≡ Err f = p.1 in cc)
    ]

after_width_fails : (ls : List Bytes) (w h : ℕ) (f : MapFault) → IsKindLine (line_at ls 0) → IsNumberLine (codes "height") (line_at ls 1) h → IsNumberLine (codes "width") (line_at ls 2) w → after_width ls h w ≡ Err f → IsFirstMapLineFault ls f
after_width_fails ls w h f kind height width e =
    elim (right_err (is_alone (codes "map") (words_from_front (line_at ls 3))) (Header 4) (sized h w) f e) [
      | inl p ↦ subst (IsFirstMapLineFault ls) p.1 (wrong_line ls 3 (omega arith) (three_before ls w h kind height width) (λ form. both_ways (is_alone (codes "map") (words_from_front (line_at ls 3))) p.0 (map_line_again (line_at ls 3) form)))
      | inr p ↦ wrong_size ls w h f (record { kind = kind; height = height; width = width; map = map_line_is (line_at ls 3) p.0 }) p.1
    ]

after_height_fails : (ls : List Bytes) (h : ℕ) (f : MapFault) → IsKindLine (line_at ls 0) → IsNumberLine (codes "height") (line_at ls 1) h → after_height ls h ≡ Err f → IsFirstMapLineFault ls f
after_height_fails ls h f kind height e =
    elim (bind_err (some_or (number_field (codes "width") (line_at ls 2)) (Header 3)) (λ width. after_width ls h width) f e) [
      | inl p ↦ (
          let none = some_err (number_field (codes "width") (line_at ls 2)) (Header 3) f p in
          subst (IsFirstMapLineFault ls) none.1 (wrong_line ls 2 (omega arith) (two_before ls h kind height) (number_missing (codes "width") (line_at ls 2) none.0)))
      | inr p ↦ after_width_fails ls p.0 h f kind height (number_is (codes "width") (line_at ls 2) p.0 (some_ok (number_field (codes "width") (line_at ls 2)) (Header 3) p.0 p.1)) p.2
    ]

after_kind_fails : (ls : List Bytes) (f : MapFault) → IsKindLine (line_at ls 0) → after_kind ls ≡ Err f → IsFirstMapLineFault ls f
after_kind_fails ls f kind e =
    elim (bind_err (some_or (number_field (codes "height") (line_at ls 1)) (Header 2)) (λ height. after_height ls height) f e) [
      | inl p ↦ (
          let none = some_err (number_field (codes "height") (line_at ls 1)) (Header 2) f p in
          subst (IsFirstMapLineFault ls) none.1 (wrong_line ls 1 (omega arith) (one_before ls kind) (number_missing (codes "height") (line_at ls 1) none.0)))
      | inr p ↦ after_height_fails ls p.0 f kind (number_is (codes "height") (line_at ls 1) p.0 (some_ok (number_field (codes "height") (line_at ls 1)) (Header 2) p.0 p.1)) p.2
    ]

header_fails : (ls : List Bytes) (f : MapFault) → header_at ls ≡ Err f → IsFirstMapLineFault ls f
unfolding header_at
header_fails ls f e =
    elim (bind_err (some_or (field (codes "type") (line_at ls 0)) (Header 1)) (λ kind. after_kind ls) f e) [
      | inl p ↦ (
          let none = some_err (field (codes "type") (line_at ls 0)) (Header 1) f p in
          subst (IsFirstMapLineFault ls) none.1 (wrong_line ls 0 (omega arith) (none_before ls) (kind_missing (line_at ls 0) none.0)))
      | inr p ↦ after_kind_fails ls f (kind_is (line_at ls 0) p.0 (some_ok (field (codes "type") (line_at ls 0)) (Header 1) p.0 p.1)) p.2
    ]

-- ---- a fault of the header is read

not_kind : (line : Bytes) → (IsKindLine line → ⊥) → field (codes "type") line ≡ None
not_kind line wrong = elim (option_cases (field (codes "type") line)) [ inl none ↦ none | inr some ↦ absurd (wrong (kind_is line some.0 some.1)) ]

not_number : (keyword line : Bytes) → ((n : ℕ) × IsNumberLine keyword line n → ⊥) → number_field keyword line ≡ None
not_number keyword line wrong = elim (option_cases (number_field keyword line)) [ inl none ↦ none | inr some ↦ absurd (wrong (some.0, number_is keyword line some.0 some.1)) ]

not_alone : (line : Bytes) → (IsMapLine line → ⊥) → is_alone (codes "map") (words_from_front line) ≡ false
not_alone line wrong = false_from_ne_true (is_alone (codes "map") (words_from_front line)) (λ t. wrong (map_line_is line t))

header_fault : (ls : List Bytes) (k : ℕ) → IsFirstWithoutForm ls k → header_at ls ≡ Err (Header (k + 1))
unfolding header_at
header_fault ls zero h = rw (not_kind (line_at ls 0) h.wrong) refl
header_fault ls (suc zero) h =
    let kind = kind_again (line_at ls 0) (h.before 0 (omega arith)) in
    rw (kind.1, not_number (codes "height") (line_at ls 1) h.wrong) refl
header_fault ls (suc (suc zero)) h =
    let kind = kind_again (line_at ls 0) (h.before 0 (omega arith)) in
    let height = h.before 1 (omega arith) in
    rw (kind.1, number_again (codes "height") (line_at ls 1) height.0 height.1, not_number (codes "width") (line_at ls 2) h.wrong) refl
header_fault ls (suc (suc (suc zero))) h =
    let kind = kind_again (line_at ls 0) (h.before 0 (omega arith)) in
    let height = h.before 1 (omega arith) in
    let width = h.before 2 (omega arith) in
    rw (kind.1, number_again (codes "height") (line_at ls 1) height.0 height.1, number_again (codes "width") (line_at ls 2) width.0 width.1, not_alone (line_at ls 3) h.wrong) refl
header_fault ls (suc (suc (suc (suc k)))) h = absurd (let few = h.within in omega (arith, few))

size_fault : (ls : List Bytes) (w h : ℕ) → IsHeader ls w h → (IsSide w × IsSide h → ⊥) → header_at ls ≡ Err Size
size_fault ls w h header wrong =
    let no : (is_side h && is_side w) ≡ false = false_from_ne_true (is_side h && is_side w) (λ t. wrong (sides_are h w t)) in
    header_read ls w h header ∙ rw no refl

-- ---- a row

-- why a line is no row
abbrev IsNoRow : (w row : ℕ) → Bytes → MapFault → Type 0
IsNoRow w row line f = ((f ≡ RowLength row) × (length line ≢ w)) ⊎ ((column : ℕ) × (f ≡ Glyph row column) × (length line ≡ w) × (position is_no_glyph line ≡ Some column))

row_fails : (w row : ℕ) (line : Bytes) (f : MapFault) → row_at w row line ≡ Err f → IsNoRow w row line f
unfolding row_at
row_fails w row line f e =
    elim (right_err (eqb (length line) w) (RowLength row) (none_or (position is_no_glyph line) (Glyph row) >> Ok (cells_of line)) f e) [
      | inl p ↦ inl (sym p.1, λ same. both_ways (eqb (length line) w) p.0 (eq-eqb (length line) w same))
      | inr p ↦ elim (option_cases (position is_no_glyph line)) [
        | inl none ↦ absurd (let g : Ok (cells_of line) ≡ Err f = rw none at p.1 in cc)
        | inr some ↦ (
            let g : Err (Glyph row some.0) ≡ Err f = rw some.1 at p.1 in
            inr (some.0, sym (err_is {A = List Bool} (Glyph row some.0) f g), eqb-true (length line) w p.0, some.1))
      ]
    ]

row_fault : (w row : ℕ) (line : Bytes) (f : MapFault) → IsNoRow w row line f → row_at w row line ≡ Err f
unfolding row_at
row_fault w row line f (inl p) = rw (ne_eqb (length line) w p.1) (ap (λ (x : MapFault). Err x) (sym p.0))
row_fault w row line f (inr p) = rw (eq-eqb (length line) w p.2, p.3) (ap (λ (x : MapFault). Err x) (sym p.1))

-- ---- the rows

-- the first k of the lines are rows, and there is none after them, or it is no row of the map
abbrev StopsAt : (k w row : ℕ) → List Bytes → MapFault → Type 0
StopsAt k w row ls f = ((f ≡ RowCount) × (length ls ≡ k)) ⊎ ((k < length ls) × IsNoRow w row (get_or ls k []) f)

rows_fail : (left w row : ℕ) (ls : List Bytes) (f : MapFault) → rows_at left w row ls ≡ Err f → (k : ℕ) × (k < left) × StartWithRows k w ls × StopsAt k w (row + k) ls f
unfolding rows_at
rows_fail zero w row ls f e = absurd cc
rows_fail (suc left) w row [] f e = (0, omega arith, record { count = omega arith; rows = tt }, inl (sym (err_is {A = List (List Bool) × List Bytes} RowCount f e), refl))
rows_fail (suc left) w row (line ∷ ls) f e =
    elim (bind_err (row_at w row line) (λ first. rows_at left w (row + 1) ls >>= λ others. Ok (first ∷ others.0, others.1)) f e) [
      | inl p ↦ (
          let here : row ≡ row + 0 = omega arith in
          (0, omega arith, record { count = omega arith; rows = tt }, inr (omega arith, subst (λ (n : ℕ). IsNoRow w n line f) here (row_fails w row line f p))))
      | inr p ↦ elim (bind_err (rows_at left w (row + 1) ls) (λ others. Ok (p.0 ∷ others.0, others.1)) f p.2) [
        | inl q ↦ (
            let r = rows_fail left w (row + 1) ls f q in
            let few = r.2.count in
            let next : row + 1 + r.0 ≡ row + suc r.0 = omega arith in
            let stops : StopsAt (suc r.0) w (row + suc r.0) (line ∷ ls) f = elim r.3 [
              | inl s ↦ inl (s.0, ap suc s.1)
              | inr s ↦ inr (let lt = s.0 in omega (arith, lt), subst (λ (n : ℕ). IsNoRow w n (get_or ls r.0 []) f) next s.1)
            ] in
            (suc r.0, let lt = r.1 in omega (arith, lt), record { count = omega (arith, few); rows = ((row_is w row line p.0 p.1).0, r.2.rows) }, stops))
        | inr q ↦ absurd (let g : Ok (p.0 ∷ q.0.0, q.0.1) ≡ Err f = q.2 in cc)
      ]
    ]

rows_fault : (left w row k : ℕ) (ls : List Bytes) (f : MapFault) → k < left → StartWithRows k w ls → StopsAt k w (row + k) ls f → rows_at left w row ls ≡ Err f
unfolding rows_at
rows_fault zero w row k ls f lt h stops = absurd (omega arith)
rows_fault (suc left) w row zero [] f lt h (inl s) = ap (λ (x : MapFault). Err x) (sym s.0)
rows_fault (suc left) w row zero [] f lt h (inr s) = absurd (let some = s.0 in omega (arith, some))
rows_fault (suc left) w row zero (line ∷ ls) f lt h (inl s) = absurd (let none = s.1 in omega (arith, none))
rows_fault (suc left) w row zero (line ∷ ls) f lt h (inr s) =
    let here : row + 0 ≡ row = omega arith in
    rw (row_fault w row line f (subst (λ (n : ℕ). IsNoRow w n line f) here s.1)) refl
rows_fault (suc left) w row (suc k) [] f lt h stops = absurd (let few = h.count in omega (arith, few))
rows_fault (suc left) w row (suc k) (line ∷ ls) f lt h stops =
    let next : row + suc k ≡ row + 1 + k = omega arith in
    let rest : StartWithRows k w ls = record { count = (let few = h.count in omega (arith, few)); rows = h.rows.1 } in
    let later : StopsAt k w (row + 1 + k) ls f = elim stops [
      | inl s ↦ inl (s.0, let n = s.1 in omega (arith, n))
      | inr s ↦ inr (let more = s.0 in omega (arith, more), subst (λ (n : ℕ). IsNoRow w n (get_or ls k []) f) next s.1)
    ] in
    rw (row_again w row line h.rows.0, rows_fault left w (row + 1) k ls f (omega arith) rest later) refl

-- ---- rows of a map

row_at_line : (ls : List Bytes) (k : ℕ) → get_or (drop 4 ls) k [] ≡ line_at ls (4 + k)
row_at_line ls k = get_or-drop 4 ls k []

map_rows_fail : (ls : List Bytes) (w h : ℕ) (f : MapFault) → IsSizedHeader ls w h → rows_at h w 0 (drop 4 ls) ≡ Err f → IsFirstMapLineFault ls f
map_rows_fail ls w h f header e =
    let r = rows_fail h w 0 (drop 4 ls) f e in
    let k = r.0 in
    let right : IsMapRightUpTo k ls w h = record { header = header; rows = rows_to k w (drop 4 ls) r.2; within = r.1 } in
    let four = four_lines ls header.header.map in
    let zero_less : 0 + k ≡ k = omega arith in
    elim r.3 [
      | inl s ↦ (let n = s.1 in subst (IsFirstMapLineFault ls) (sym s.0) (w, h, k, right, omega (arith, length-drop 4 ls, n)))
      | inr s ↦ (
          let lt = s.0 in
          let here : 4 + k < length ls = omega (arith, length-drop 4 ls, lt) in
          elim s.1 [
            | inl p ↦ subst (IsFirstMapLineFault ls) (ap (λ (n : ℕ). RowLength n) (sym zero_less) ∙ sym p.0) (w, h, right, here, λ same. p.1 (ap length (row_at_line ls k) ∙ same))
            | inr p ↦ subst (IsFirstMapLineFault ls) (ap (λ (n : ℕ). Glyph n p.0) (sym zero_less) ∙ sym p.1) (w, h, right, here, ap length (sym (row_at_line ls k)) ∙ p.2, ap (position is_no_glyph) (sym (row_at_line ls k)) ∙ p.3)
          ])
    ]

map_rows_fault : (ls : List Bytes) (w h k : ℕ) (f : MapFault) → IsMapRightUpTo k ls w h → StopsAt k w k (drop 4 ls) f → map_at ls ≡ Err f
unfolding map_at
map_rows_fault ls w h k f right stops =
    let zero_less : k ≡ 0 + k = omega arith in
    let rows = rows_fault h w 0 k (drop 4 ls) f right.within (rows_from k w (drop 4 ls) right.rows) (subst (λ (n : ℕ). StopsAt k w n (drop 4 ls) f) zero_less stops) in
    rw (header_again ls w h right.header, rows) refl

-- ---- the whole map

after_rows_fail : (ls : List Bytes) (w h : ℕ) (rows : List (List Bool) × List Bytes) (f : MapFault) → IsSizedHeader ls w h → AreMapRows w h (drop 4 ls) → rows.1 ≡ drop (4 + h) ls → after_rows_read w h rows ≡ Err f → IsFirstMapLineFault ls f
after_rows_fail ls w h rows f header are rest e =
    elim (right_err (list_all (list_all is_row_space) rows.1) Trailing (Ok (record { width = w; height = h; rows = rows.0 })) f e) [
      | inl p ↦ subst (IsFirstMapLineFault ls) p.1 (w, h, header, are, λ empty. both_ways (list_all (list_all is_row_space) rows.1) p.0 (ap (list_all (list_all is_row_space)) rest ∙ empty_again (drop (4 + h) ls) empty))
      | inr p ↦ absurd (let g : Ok (record { width = w; height = h; rows = rows.0 }) ≡ Err f = p.1 in cc)
    ]

after_header_fails : (ls : List Bytes) (w h : ℕ) (f : MapFault) → IsSizedHeader ls w h → after_header ls (w, h) ≡ Err f → IsFirstMapLineFault ls f
after_header_fails ls w h f header e =
    elim (bind_err (rows_at h w 0 (drop 4 ls)) (λ rows. after_rows_read w h rows) f e) [
      | inl p ↦ map_rows_fail ls w h f header p
      | inr p ↦ (
          let rows = rows_are h w 0 (drop 4 ls) p.0 p.1 in
          after_rows_fail ls w h p.0 f header (rows_to h w (drop 4 ls) rows.0) (rows.2 ∙ drop-drop h 4 ls) p.2)
    ]

-- what reading fails with is the first fault
pub is_fault : (ls : List Bytes) (f : MapFault) → map_at ls ≡ Err f → IsFirstMapLineFault ls f
unfolding map_at
is_fault ls f e =
    elim (bind_err (header_at ls) (λ sizes. after_header ls sizes) f e) [
      | inl p ↦ header_fails ls f p
      | inr p ↦ after_header_fails ls p.0.0 p.0.1 f (header_is ls p.0 p.1) p.2
    ]

-- .. and the first fault is what reading fails with
pub is_told : (ls : List Bytes) (f : MapFault) → IsFirstMapLineFault ls f → map_at ls ≡ Err f
unfolding map_at
is_told ls OutOfMemory h = absurd h
is_told ls (Header line) h = rw (header_fault ls h.0 h.2) (ap (λ (n : ℕ). Err (Header n)) (sym h.1))
is_told ls Size h = rw (size_fault ls h.0 h.1 h.2 h.3) refl
is_told ls RowCount h = map_rows_fault ls h.0 h.1 h.2 RowCount h.3 (inl (refl, let n = h.4 in omega (arith, length-drop 4 ls, n)))
is_told ls (RowLength row) h =
    let here = h.3 in
    map_rows_fault ls h.0 h.1 row (RowLength row) h.2 (inr (omega (arith, length-drop 4 ls, here), inl (refl, λ same. h.4 (ap length (sym (row_at_line ls row)) ∙ same))))
is_told ls (Glyph row column) h =
    let here = h.3 in
    map_rows_fault ls h.0 h.1 row (Glyph row column) h.2
    (inr (omega (arith, length-drop 4 ls, here), inr (column, refl, ap length (row_at_line ls row) ∙ h.4, ap (position is_no_glyph) (row_at_line ls row) ∙ h.5)))
is_told ls Trailing h =
    let w = h.0 in
    let height = h.1 in
    let shows : list_all (list_all is_row_space) (drop height (drop 4 ls)) ≡ false = ap (list_all (list_all is_row_space)) (drop-drop height 4 ls) ∙ false_from_ne_true (list_all (list_all is_row_space) (drop (4 + height) ls)) (λ t. h.4 (empty_are (drop (4 + height) ls) t)) in
    rw (header_again ls w height h.2, rows_again height w 0 (drop 4 ls) h.3, shows) refl

-- ---- the reader's laws

pub tells : (ls : List Bytes) → Tells (AreMapLines ls) (IsFirstMapLineFault ls) (map_at ls)
tells ls = record { found = is_found ls; read = is_read ls; fault = is_fault ls; told = is_told ls }

-- ---- what the reader returned

pub found : (ls : List Bytes) (made : Result Ground MapFault) → IsDueUnless (λ g. g) made (map_at ls) OutOfMemory → IfOk made (λ g. AreMapLines ls g)
found ls (Ok g) e = is_found ls g e
found ls (Err f) e = tt

pub read : (ls : List Bytes) (made : Result Ground MapFault) → IsDueUnless (λ g. g) made (map_at ls) OutOfMemory → (g : Ground) → AreMapLines ls g → IsOkUnless made OutOfMemory
read ls (Ok h) e g a = tt
read ls (Err OutOfMemory) e g a = refl
read ls (Err f) e g a = absurd (ok_err g f (sym (is_read ls g a) ∙ e (λ memory. cc)))

pub reported_is_first : (ls : List Bytes) (made : Result Ground MapFault) → IsDueUnless (λ g. g) made (map_at ls) OutOfMemory → IfErr made (λ f. f ≢ OutOfMemory → IsFirstMapLineFault ls f)
reported_is_first ls (Ok g) e = tt
reported_is_first ls (Err f) e = λ other. is_fault ls f (e other)
