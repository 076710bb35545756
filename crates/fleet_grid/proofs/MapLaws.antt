-- What is read of a map's lines is what they stand for, and what they stand for is read.
use Rattle.std.proofs.Common.{◌≡◌, ℕ, zero, suc, ◌+◌, ◌<◌, ◌≤◌, Bool, true, false, ◌&&◌, leb, eqb, List, [], ◌∷◌, length, map, take, drop, get_or, Some, None, Result, Ok, refl, sym, ap, subst, ◌∙◌, arith, inl, inr}
use Rattle.std.specs.Prelude.{position, codes, bytes_eq}
use Rattle.std.specs.List.{AllByRecursion, AllPass, list_all, position_or_len}
use Rattle.std.proofs.lemmas.Bool.{le-ltb, cases_Bool, eq-eqb, eqb-true, leb-true, le-leb, and_parts}
use Rattle.std.proofs.lemmas.Slice.Eq.{bytes_eq-Decides}
use Rattle.std.proofs.lemmas.Option.{option_and_then_some}
use Rattle.std.proofs.lemmas.List.{drop-drop, length-map, length-take-le, get_or-map, get_or-take, get_or-drop}
use Rattle.std.proofs.lemmas.List.Elements.{All-from_recursion, recursion_from_All, All-get_or}
use Rattle.std.proofs.lemmas.List.Sums.{AllPass-from_list_all, list_all-from_AllPass}
use Rattle.fleet_grid.specs.declared.fault.MapFault.{MapFault}
use Rattle.fleet_grid.specs.declared.fault.MapFault.TheVariants.{Header, Size, RowLength, Glyph, Trailing}
use Rattle.fleet_text.specs.Text.{Bytes, words, words_from_front, number}
use Rattle.fleet_grid.specs.Ground.{Ground, is_ground_at, IsSide, IsGround}
use Rattle.fleet_grid.specs.MapText.{line_at, is_ground_glyph, is_glyph, is_no_glyph, cells_of, is_row_space, IsKindLine, IsNumberLine, IsMapLine, IsHeader, IsSizedHeader, IsGlyphRow, AreMapRows, AreEmpty, AreMapLines}
use Rattle.fleet_text.specs.Steps.{none_or, ◌>>=◌, ◌>>◌, right_or, some_or}
use Rattle.fleet_grid.specs.MapReading.{after_keyword, is_alone, field, number_field, is_side, header_at, row_at, rows_at, map_at}
use Rattle.fleet_text.proofs.TextLaws.{found_nowhere}
use Rattle.fleet_text.proofs.StepLaws.{bind_ok, right_ok, then_ok, some_ok, none_ok, ok_is}

-- ---- the header

keyword_is : (keyword : Bytes) (ws : List Bytes) (word : Bytes) → after_keyword keyword ws ≡ Some word → ws ≡ keyword ∷ word ∷ []
keyword_is keyword [] word e = absurd cc
keyword_is keyword (a ∷ []) word e = absurd cc
keyword_is keyword (a ∷ b ∷ []) word e =
    elim (cases_Bool (bytes_eq a keyword)) [
      | inl t ↦ (
          let f : Some b ≡ Some word = rw t at e in
          let g : b ≡ word = cc in
          ap (λ (x : Bytes). x ∷ b ∷ []) ((bytes_eq-Decides a keyword).0 t) ∙ ap (λ (x : Bytes). keyword ∷ x ∷ []) g)
      | inr t ↦ absurd (let f : None ≡ Some word = rw t at e in cc)
    ]
keyword_is keyword (a ∷ b ∷ c ∷ ws) word e = absurd cc

same_bytes : (a : Bytes) → bytes_eq a a ≡ true
same_bytes a = (bytes_eq-Decides a a).1 refl

pub kind_is : (line word : Bytes) → field (codes "type") line ≡ Some word → IsKindLine line
unfolding field
kind_is line word e = (word, keyword_is (codes "type") (words_from_front line) word e)

field_again : (keyword line word : Bytes) → words_from_front line ≡ keyword ∷ word ∷ [] → field keyword line ≡ Some word
unfolding field
field_again keyword line word e = ap (after_keyword keyword) e ∙ rw (same_bytes keyword) refl

pub kind_again : (line : Bytes) → IsKindLine line → (word : Bytes) × (field (codes "type") line ≡ Some word)
kind_again line h = (h.0, field_again (codes "type") line h.0 h.1)

pub number_is : (keyword line : Bytes) (n : ℕ) → number_field keyword line ≡ Some n → IsNumberLine keyword line n
unfolding number_field field
number_is keyword line n e = option_and_then_some number (field keyword line) n e (λ digits f g. (digits, keyword_is keyword (words_from_front line) digits f, g))

pub number_again : (keyword line : Bytes) (n : ℕ) → IsNumberLine keyword line n → number_field keyword line ≡ Some n
unfolding number_field
number_again keyword line n h = rw (field_again keyword line h.0 h.1) h.2

alone_is : (keyword : Bytes) (ws : List Bytes) → is_alone keyword ws ≡ true → ws ≡ keyword ∷ []
alone_is keyword [] e = absurd cc
alone_is keyword (a ∷ []) e = ap (λ (w : Bytes). w ∷ []) ((bytes_eq-Decides a keyword).0 e)
alone_is keyword (a ∷ b ∷ ws) e = absurd cc

pub map_line_is : (line : Bytes) → is_alone (codes "map") (words_from_front line) ≡ true → IsMapLine line
map_line_is line e = alone_is (codes "map") (words_from_front line) e

pub map_line_again : (line : Bytes) → IsMapLine line → is_alone (codes "map") (words_from_front line) ≡ true
map_line_again line h = ap (is_alone (codes "map")) h

side_is : (n : ℕ) → is_side n ≡ true → IsSide n
side_is n e = let p = and_parts (leb 1 n) (leb n 4096) e in record { some = leb-true 1 n p.0; few = leb-true n 4096 p.1 }

side_again : (n : ℕ) → IsSide n → is_side n ≡ true
side_again n s = rw (le-leb 1 n s.some, le-leb n 4096 s.few) refl

pub sides_are : (h w : ℕ) → (is_side h && is_side w) ≡ true → IsSide w × IsSide h
sides_are h w e = let p = and_parts (is_side h) (is_side w) e in (side_is w p.1, side_is h p.0)

pub sides_again : (h w : ℕ) → IsSide w → IsSide h → (is_side h && is_side w) ≡ true
sides_again h w sw sh = rw (side_again h sh, side_again w sw) refl

-- a header's four lines are there
pub four_lines : (ls : List Bytes) → IsMapLine (line_at ls 3) → 4 ≤ length ls
unfolding words
four_lines [] h = absurd (let e : [] ≡ codes "map" ∷ [] = h in cc)
four_lines (a ∷ []) h = absurd (let e : [] ≡ codes "map" ∷ [] = h in cc)
four_lines (a ∷ b ∷ []) h = absurd (let e : [] ≡ codes "map" ∷ [] = h in cc)
four_lines (a ∷ b ∷ c ∷ []) h = absurd (let e : [] ≡ codes "map" ∷ [] = h in cc)
four_lines (a ∷ b ∷ c ∷ d ∷ ls) h = omega arith

-- the steps after each line of the header
abbrev pub sized : ℕ → ℕ → Result (ℕ × ℕ) MapFault
sized height width = right_or (is_side height && is_side width) Size >> Ok (width, height)

abbrev pub after_width : List Bytes → ℕ → ℕ → Result (ℕ × ℕ) MapFault
after_width ls height width = right_or (is_alone (codes "map") (words_from_front (line_at ls 3))) (Header 4) >> sized height width

abbrev pub after_height : List Bytes → ℕ → Result (ℕ × ℕ) MapFault
after_height ls height = some_or (number_field (codes "width") (line_at ls 2)) (Header 3) >>= λ width. after_width ls height width

abbrev pub after_kind : List Bytes → Result (ℕ × ℕ) MapFault
after_kind ls = some_or (number_field (codes "height") (line_at ls 1)) (Header 2) >>= λ height. after_height ls height

pub header_is : (ls : List Bytes) (x : ℕ × ℕ) → header_at ls ≡ Ok x → IsSizedHeader ls x.0 x.1
unfolding header_at
header_is ls x e =
    let a = bind_ok (some_or (field (codes "type") (line_at ls 0)) (Header 1)) (λ kind. after_kind ls) x e in
    let b = bind_ok (some_or (number_field (codes "height") (line_at ls 1)) (Header 2)) (λ height. after_height ls height) x a.2 in
    let c = bind_ok (some_or (number_field (codes "width") (line_at ls 2)) (Header 3)) (λ width. after_width ls b.0 width) x b.2 in
    let d = right_ok (is_alone (codes "map") (words_from_front (line_at ls 3))) (Header 4) (sized b.0 c.0) x c.2 in
    let f = right_ok (is_side b.0 && is_side c.0) Size (Ok (c.0, b.0)) x d.1 in
    let sides = sides_are b.0 c.0 f.0 in
    let made : IsHeader ls c.0 b.0 = record {
      kind = kind_is (line_at ls 0) a.0 (some_ok (field (codes "type") (line_at ls 0)) (Header 1) a.0 a.1);
      height = number_is (codes "height") (line_at ls 1) b.0 (some_ok (number_field (codes "height") (line_at ls 1)) (Header 2) b.0 b.1);
      width = number_is (codes "width") (line_at ls 2) c.0 (some_ok (number_field (codes "width") (line_at ls 2)) (Header 3) c.0 c.1);
      map = map_line_is (line_at ls 3) d.0;
    } in
    subst (λ (y : ℕ × ℕ). IsSizedHeader ls y.0 y.1) (ok_is (c.0, b.0) x f.1) (record { header = made; width = sides.0; height = sides.1 })

-- what is left of the header once its lines are read
pub header_read : (ls : List Bytes) (w h : ℕ) → IsHeader ls w h → header_at ls ≡ sized h w
unfolding header_at
header_read ls w h p =
    let kind = kind_again (line_at ls 0) p.kind in
    rw (kind.1, number_again (codes "height") (line_at ls 1) h p.height, number_again (codes "width") (line_at ls 2) w p.width, map_line_again (line_at ls 3) p.map) refl

pub header_again : (ls : List Bytes) (w h : ℕ) → IsSizedHeader ls w h → header_at ls ≡ Ok (w, h)
header_again ls w h p = header_read ls w h p.header ∙ rw (sides_again h w p.width p.height) refl

-- ---- rows

all_from_none : (line : Bytes) → length line ≤ position_or_len is_no_glyph line → list_all is_glyph line ≡ true
all_from_none [] past = refl
all_from_none (b ∷ line) past =
    elim (cases_Bool (is_glyph b)) [
      | inl t ↦ (let h = rw t at past in rw t (all_from_none line (omega (arith, h))))
      | inr t ↦ absurd (let h = rw t at past in omega (arith, h))
    ]

none_from_all : (line : Bytes) → list_all is_glyph line ≡ true → length line ≤ position_or_len is_no_glyph line
none_from_all [] e = omega arith
none_from_all (b ∷ line) e =
    let p = and_parts (is_glyph b) (list_all is_glyph line) e in
    rw p.0 (omega (arith, none_from_all line p.1))

no_position : {X : Type 0} (p : X → Bool) (xs : List X) → length xs ≤ position_or_len p xs → position p xs ≡ None
no_position p xs past = rw (le-ltb (position_or_len p xs) (length xs) past) refl

pub glyphs_are : (line : Bytes) → position is_no_glyph line ≡ None → AllPass is_glyph line
glyphs_are line e = AllPass-from_list_all is_glyph line (all_from_none line (found_nowhere is_no_glyph line e))

pub glyphs_again : (line : Bytes) → AllPass is_glyph line → position is_no_glyph line ≡ None
glyphs_again line h = no_position is_no_glyph line (none_from_all line (list_all-from_AllPass is_glyph line h))

pub row_is : (w row : ℕ) (line : Bytes) (cells : List Bool) → row_at w row line ≡ Ok cells → IsGlyphRow w line × (cells ≡ cells_of line)
unfolding row_at
row_is w row line cells e =
    let r = right_ok (eqb (length line) w) (RowLength row) (none_or (position is_no_glyph line) (Glyph row) >> Ok (cells_of line)) cells e in
    let n = then_ok (none_or (position is_no_glyph line) (Glyph row)) (Ok (cells_of line)) cells r.1 in
    let none = none_ok (position is_no_glyph line) (Glyph row) n.0 in
    (record { width = eqb-true (length line) w r.0; glyphs = glyphs_are line none }, sym (ok_is (cells_of line) cells n.1))

pub row_again : (w row : ℕ) (line : Bytes) → IsGlyphRow w line → row_at w row line ≡ Ok (cells_of line)
unfolding row_at
row_again w row line h = rw (eq-eqb (length line) w h.width, glyphs_again line h.glyphs) refl

-- so many lines, each a row: as AreMapRows, by recursion
pub record StartWithRows (left w : ℕ) (ls : List Bytes) : Type 0 where
  pub count : left ≤ length ls
  pub rows : AllByRecursion (IsGlyphRow w) (take left ls)

pub rows_to : (left w : ℕ) (ls : List Bytes) → StartWithRows left w ls → AreMapRows w left ls
rows_to left w ls h = record { count = h.count; rows = All-from_recursion (IsGlyphRow w) (take left ls) h.rows }

pub rows_from : (left w : ℕ) (ls : List Bytes) → AreMapRows w left ls → StartWithRows left w ls
rows_from left w ls h = record { count = h.count; rows = recursion_from_All (IsGlyphRow w) (take left ls) h.rows }

pub rows_are : (left w row : ℕ) (ls : List Bytes) (x : List (List Bool) × List Bytes) → rows_at left w row ls ≡ Ok x → StartWithRows left w ls × (x.0 ≡ map cells_of (take left ls)) × (x.1 ≡ drop left ls)
unfolding rows_at
rows_are zero w row ls x e =
    let p = ok_is ([], ls) x e in
    (record { count = omega arith; rows = tt }, sym (ap (λ (y : List (List Bool) × List Bytes). y.0) p), sym (ap (λ (y : List (List Bool) × List Bytes). y.1) p))
rows_are (suc left) w row [] x e = absurd cc
rows_are (suc left) w row (line ∷ ls) x e =
    let one = bind_ok (row_at w row line) (λ first. rows_at left w (row + 1) ls >>= λ others. Ok (first ∷ others.0, others.1)) x e in
    let two = bind_ok (rows_at left w (row + 1) ls) (λ others. Ok (one.0 ∷ others.0, others.1)) x one.2 in
    let p = ok_is (one.0 ∷ two.0.0, two.0.1) x two.2 in
    let first = row_is w row line one.0 one.1 in
    let rest = rows_are left w (row + 1) ls two.0 two.1 in
    let few = rest.0.count in (
      record { count = omega (arith, few); rows = (first.0, rest.0.rows) },
      sym (ap (λ (y : List (List Bool) × List Bytes). y.0) p) ∙ ap (λ (r : List Bool). r ∷ two.0.0) first.1 ∙ ap (λ (rs : List (List Bool)). cells_of line ∷ rs) rest.1,
      sym (ap (λ (y : List (List Bool) × List Bytes). y.1) p) ∙ rest.2,
    )

rows_read : (left w row : ℕ) (ls : List Bytes) → StartWithRows left w ls → rows_at left w row ls ≡ Ok (map cells_of (take left ls), drop left ls)
unfolding rows_at
rows_read zero w row ls h = refl
rows_read (suc left) w row [] h = absurd (let few = h.count in omega (arith, few))
rows_read (suc left) w row (line ∷ ls) h =
    let rest : StartWithRows left w ls = record { count = (let few = h.count in omega (arith, few)); rows = h.rows.1 } in
    rw (row_again w row line h.rows.0, rows_read left w (row + 1) ls rest) refl

pub rows_again : (left w row : ℕ) (ls : List Bytes) → AreMapRows w left ls → rows_at left w row ls ≡ Ok (map cells_of (take left ls), drop left ls)
rows_again left w row ls h = rows_read left w row ls (rows_from left w ls h)

-- ---- what follows the rows

empty_is : (ls : List Bytes) → list_all (list_all is_row_space) ls ≡ true → AllByRecursion (AllPass is_row_space) ls
empty_is [] e = tt
empty_is (l ∷ ls) e = let p = and_parts (list_all is_row_space l) (list_all (list_all is_row_space) ls) e in (AllPass-from_list_all is_row_space l p.0, empty_is ls p.1)

pub empty_are : (ls : List Bytes) → list_all (list_all is_row_space) ls ≡ true → AreEmpty ls
empty_are ls e = All-from_recursion (AllPass is_row_space) ls (empty_is ls e)

empty_read : (ls : List Bytes) → AllByRecursion (AllPass is_row_space) ls → list_all (list_all is_row_space) ls ≡ true
empty_read [] h = refl
empty_read (l ∷ ls) h = rw (list_all-from_AllPass is_row_space l h.0) (empty_read ls h.1)

pub empty_again : (ls : List Bytes) → AreEmpty ls → list_all (list_all is_row_space) ls ≡ true
empty_again ls h = empty_read ls (recursion_from_All (AllPass is_row_space) ls h)

-- ---- the whole map

-- the steps after the header, and after the rows
abbrev pub after_rows_read : ℕ → ℕ → List (List Bool) × List Bytes → Result Ground MapFault
after_rows_read w h rows = right_or (list_all (list_all is_row_space) rows.1) Trailing >> Ok (record { width = w; height = h; rows = rows.0 })

abbrev pub after_header : List Bytes → ℕ × ℕ → Result Ground MapFault
after_header ls sizes = rows_at sizes.1 sizes.0 0 (drop 4 ls) >>= λ rows. after_rows_read sizes.0 sizes.1 rows

pub is_found : (ls : List Bytes) (g : Ground) → map_at ls ≡ Ok g → AreMapLines ls g
unfolding map_at
is_found ls g e =
    let a = bind_ok (header_at ls) (λ sizes. after_header ls sizes) g e in
    let w = a.0.0 in
    let h = a.0.1 in
    let b = bind_ok (rows_at h w 0 (drop 4 ls)) (λ rows. after_rows_read w h rows) g a.2 in
    let c = right_ok (list_all (list_all is_row_space) b.0.1) Trailing (Ok (record { width = w; height = h; rows = b.0.0 })) g b.2 in
    let rows = rows_are h w 0 (drop 4 ls) b.0 b.1 in
    let rest : b.0.1 ≡ drop (4 + h) ls = rows.2 ∙ drop-drop h 4 ls in
    let made : AreMapLines ls (record { width = w; height = h; rows = b.0.0 }) = record {
      header = header_is ls a.0 a.1;
      rows = rows_to h w (drop 4 ls) rows.0;
      cells = rows.1;
      rest = subst AreEmpty rest (empty_are b.0.1 c.0);
    } in
    subst (AreMapLines ls) (ok_is (record { width = w; height = h; rows = b.0.0 }) g c.1) made

pub is_read : (ls : List Bytes) (g : Ground) → AreMapLines ls g → map_at ls ≡ Ok g
unfolding map_at
is_read ls g h =
    let lines = take g.height (drop 4 ls) in
    let rest : list_all (list_all is_row_space) (drop g.height (drop 4 ls)) ≡ true = ap (list_all (list_all is_row_space)) (drop-drop g.height 4 ls) ∙ empty_again (drop (4 + g.height) ls) h.rest in
    let same : record { width = g.width; height = g.height; rows = map cells_of lines } ≡ g = ap (λ (rs : List (List Bool)). record { width = g.width; height = g.height; rows = rs }) (sym h.cells) in
    rw (header_again ls g.width g.height h.header, rows_again g.height g.width 0 (drop 4 ls) h.rows, rest) (ap (λ (x : Ground). Ok x) same)

-- ---- the cells of a ground

widths_are : (w : ℕ) (ls : List Bytes) → AllByRecursion (IsGlyphRow w) ls → AllByRecursion (λ row. length row ≡ w) (map cells_of ls)
widths_are w [] h = tt
widths_are w (l ∷ ls) h = (length-map l is_ground_glyph ∙ h.0.width, widths_are w ls h.1)

pub sizes_are : (ls : List Bytes) (g : Ground) → AreMapLines ls g → IsGround g
sizes_are ls g a =
    let lines = take g.height (drop 4 ls) in
    let widths : AllByRecursion (λ row. length row ≡ g.width) g.rows = subst (AllByRecursion (λ (row : List Bool). length row ≡ g.width)) (sym a.cells) (widths_are g.width lines (recursion_from_All (IsGlyphRow g.width) lines a.rows.rows)) in
    record {
      width = a.header.width;
      height = a.header.height;
      rows = ap length a.cells ∙ length-map lines cells_of ∙ length-take-le g.height (drop 4 ls) a.rows.count;
      cells = All-from_recursion (λ row. length row ≡ g.width) g.rows widths;
    }

pub cell_of : (ls : List Bytes) (g : Ground) (x y : ℕ) → AreMapLines ls g → x < g.width → y < g.height → is_ground_at g x y ≡ is_ground_glyph (get_or (line_at ls (4 + y)) x 0)
cell_of ls g x y a in_row in_rows =
    let lines = take g.height (drop 4 ls) in
    let count : length lines ≡ g.height = length-take-le g.height (drop 4 ls) a.rows.count in
    let line = get_or lines y [] in
    let row : get_or g.rows y [] ≡ cells_of line = ap (λ (rs : List (List Bool)). get_or rs y []) a.cells ∙ get_or-map cells_of lines y [] [] (omega arith) in
    let width : length line ≡ g.width = (All-get_or (IsGlyphRow g.width) lines y [] (omega arith) a.rows.rows).width in
    let same : line ≡ line_at ls (4 + y) = get_or-take g.height (drop 4 ls) y [] in_rows ∙ get_or-drop 4 ls y [] in
    ap (λ (r : List Bool). get_or r x false) row ∙ get_or-map is_ground_glyph line x 0 false (omega arith) ∙ ap (λ (l : Bytes). is_ground_glyph (get_or l x 0)) same
