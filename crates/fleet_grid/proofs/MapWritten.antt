-- Written maps are read again; what is written row by row; and the cells that are left.
use Rattle.std.proofs.Common.{◌≡◌, ℕ, ◌+◌, Bool, true, false, ◌&&◌, leb, List, [], ◌∷◌, ◌++◌, length, map, take, drop, get_or, refl, sym, ap, subst, ◌∙◌, append_assoc, arith, inl, inr}
use Rattle.std.specs.Prelude.{decimal, codes, not}
use Rattle.std.specs.Prelude.{All}
use Rattle.std.specs.List.{AllByRecursion, AllPass, list_all, list_any}
use Rattle.std.proofs.lemmas.Bool.{leb-true, and_parts, cases_lt}
use Rattle.std.proofs.lemmas.Grind.{flat_map-append}
use Rattle.std.proofs.lemmas.List.{drop-drop, length-map, map-append, append-nil, take_all, get_or_past}
use Rattle.std.proofs.lemmas.List.Elements.{All-from_recursion, recursion_from_All}
use Rattle.std.proofs.lemmas.List.FromFn.{length-map-range_with_len, map-range_with_len_more, get_or-map-range_with_len}
use Rattle.std.proofs.lemmas.List.Sums.{AllPass-from_list_all}
use Rattle.std.proofs.Math.ListN.{drop_of_length-le}
use Rattle.fleet_model.specs.declared.geometry.Cell.{Cell}
use Rattle.fleet_model.specs.Geometry.{is_same_cell, place_of}
use Rattle.fleet_model.specs.Machine.{indices}
use Rattle.fleet_text.specs.Text.{Bytes, lines}
use Rattle.fleet_text.specs.Words.{ended_text}
use Rattle.fleet_text.proofs.WrittenLaws.{spells, number_is, From, from_join, IsToken, decimal_token, tokens_from, front_join, lines_written}
use Rattle.fleet_grid.specs.Ground.{Ground, is_ground_at, is_passable, IsGround, IsSide}
use Rattle.fleet_grid.specs.MapText.{is_glyph, cells_of, is_row_space, IsNumberLine, IsHeader, IsGlyphRow, AreEmpty, AreMapLines}
use Rattle.fleet_grid.specs.MapWriting.{is_left, row_left, ground_without, glyph_of, row_text, side_text, header_lines, map_text}
use Rattle.fleet_grid.proofs.StoredLaws.{off_map}

-- ---- one cell and one row more

pub cell_more : (f : ℕ → Bool) (before text new : Bytes) (x : ℕ) → text ≡ before ++ row_text (map f (indices x)) → new ≡ text ++ glyph_of (f x) ∷ [] → new ≡ before ++ row_text (map f (indices (x + 1)))
cell_more f before text new x e g =
    g ∙ ap (λ (t : Bytes). t ++ glyph_of (f x) ∷ []) e ∙ append_assoc before (row_text (map f (indices x))) (glyph_of (f x) ∷ [])
    ∙ ap (λ (t : Bytes). before ++ t) (sym (map-append glyph_of (map f (indices x)) (f x ∷ [])) ∙ ap row_text (sym (map-range_with_len_more f 0 x x (omega arith))))

pub row_more : (f : ℕ → List Bool) (header : List Bytes) (text new : Bytes) (y : ℕ) → text ≡ ended_text (header ++ map row_text (map f (indices y)))
    → new ≡ text ++ row_text (f y) ++ 10 ∷ [] → new ≡ ended_text (header ++ map row_text (map f (indices (y + 1))))
row_more f header text new y e g =
    let ended = λ (line : Bytes). line ++ 10 ∷ [] in
    let front = header ++ map row_text (map f (indices y)) in
    let one : ended_text (row_text (f y) ∷ []) ≡ row_text (f y) ++ 10 ∷ [] = flat_one (row_text (f y)) in
    let lines_more : header ++ map row_text (map f (indices (y + 1))) ≡ front ++ row_text (f y) ∷ [] =
    ap (λ (rows : List (List Bool)). header ++ map row_text rows) (map-range_with_len_more f 0 y y (omega arith))
    ∙ ap (λ (ls : List Bytes). header ++ ls) (map-append row_text (map f (indices y)) (f y ∷ []))
    ∙ sym (append_assoc header (map row_text (map f (indices y))) (row_text (f y) ∷ [])) in
    g ∙ append_assoc text (row_text (f y)) (10 ∷ []) ∙ ap (λ (t : Bytes). t ++ (row_text (f y) ++ 10 ∷ [])) e
    ∙ ap (λ (t : Bytes). ended_text front ++ t) (sym one)
    ∙ sym (flat_map-append ended front (row_text (f y) ∷ [])) ∙ ap ended_text (sym lines_more)
  where
    flat_one : (line : Bytes) → ended_text (line ∷ []) ≡ line ++ 10 ∷ []
    flat_one line = append-nil (line ++ 10 ∷ [])

-- ---- the header

bytes_from : (least : ℕ) (bytes : Bytes) → list_all (leb least) bytes ≡ true → From least bytes
bytes_from least [] h = tt
bytes_from least (b ∷ bytes) h = let parts = and_parts (leb least b) (list_all (leb least) bytes) h in (leb-true least b parts.0, bytes_from least bytes parts.1)

kind_tokens : AllByRecursion IsToken (codes "type" ∷ codes "octile" ∷ [])
kind_tokens = (record { some = refl; bytes = bytes_from 33 (codes "type") refl }, (record { some = refl; bytes = bytes_from 33 (codes "octile") refl }, tt))

map_tokens : AllByRecursion IsToken (codes "map" ∷ [])
map_tokens = (record { some = refl; bytes = bytes_from 33 (codes "map") refl }, tt)

side_tokens : (word : Bytes) (side : ℕ) → IsToken word → IsSide side → AllByRecursion IsToken (word ∷ decimal side ∷ [])
side_tokens word side t s = let few = s.few in (t, (decimal_token side (omega (arith, few)), tt))

height_token : IsToken (codes "height")
height_token = record { some = refl; bytes = bytes_from 33 (codes "height") refl }

width_token : IsToken (codes "width")
width_token = record { some = refl; bytes = bytes_from 33 (codes "width") refl }

side_read : (word : Bytes) (side : ℕ) → IsToken word → IsSide side → IsNumberLine word (side_text word side) side
side_read word side t s =
    let few = s.few in
    (decimal side, front_join (word ∷ decimal side ∷ []) (side_tokens word side t s) (omega arith), number_is side (decimal side) (spells side (omega (arith, few))))

header_read : (g : Ground) (ls : List Bytes) → IsGround g → IsHeader (header_lines g ++ ls) g.width g.height
header_read g ls s = record {
  kind = (codes "octile", front_join (codes "type" ∷ codes "octile" ∷ []) kind_tokens (omega arith));
  height = side_read (codes "height") g.height height_token s.height;
  width = side_read (codes "width") g.width width_token s.width;
  map = front_join (codes "map" ∷ []) map_tokens (omega arith);
}

-- ---- the rows

row_from : (row : List Bool) → From 32 (row_text row)
row_from [] = tt
row_from (true ∷ row) = (omega arith, row_from row)
row_from (false ∷ row) = (omega arith, row_from row)

row_glyphs : (row : List Bool) → list_all is_glyph (row_text row) ≡ true
row_glyphs [] = refl
row_glyphs (true ∷ row) = row_glyphs row
row_glyphs (false ∷ row) = row_glyphs row

row_again : (row : List Bool) → cells_of (row_text row) ≡ row
row_again [] = refl
row_again (true ∷ row) = ap (λ (bs : List Bool). true ∷ bs) (row_again row)
row_again (false ∷ row) = ap (λ (bs : List Bool). false ∷ bs) (row_again row)

rows_again : (rows : List (List Bool)) → map cells_of (map row_text rows) ≡ rows
rows_again [] = refl
rows_again (row ∷ rows) = ap (λ (r : List Bool). r ∷ map cells_of (map row_text rows)) (row_again row) ∙ ap (λ (rs : List (List Bool)). row ∷ rs) (rows_again rows)

rows_from : (rows : List (List Bool)) → AllByRecursion (From 32) (map row_text rows)
rows_from [] = tt
rows_from (row ∷ rows) = (row_from row, rows_from rows)

rows_are : (w : ℕ) (rows : List (List Bool)) → AllByRecursion (λ row. length row ≡ w) rows → AllByRecursion (IsGlyphRow w) (map row_text rows)
rows_are w [] h = tt
rows_are w (row ∷ rows) h = (record { width = length-map row glyph_of ∙ h.0; glyphs = AllPass-from_list_all is_glyph (row_text row) (row_glyphs row) }, rows_are w rows h.1)

-- ---- the map

lines_from : (g : Ground) → IsGround g → AllByRecursion (From 32) (header_lines g ++ map row_text g.rows)
lines_from g s =
    let height = from_join (codes "height" ∷ decimal g.height ∷ []) (tokens_from (codes "height" ∷ decimal g.height ∷ []) (side_tokens (codes "height") g.height height_token s.height)) in
    let width = from_join (codes "width" ∷ decimal g.width ∷ []) (tokens_from (codes "width" ∷ decimal g.width ∷ []) (side_tokens (codes "width") g.width width_token s.width)) in
    (bytes_from 32 (codes "type octile") refl, (height, (width, (bytes_from 32 (codes "map") refl, rows_from g.rows))))

lines_are : (g : Ground) → IsGround g → AreMapLines (header_lines g ++ map row_text g.rows) g
lines_are g s =
    let rows = map row_text g.rows in
    let count : length rows ≡ g.height = length-map g.rows row_text ∙ s.rows in
    let all : take g.height rows ≡ rows = take_all g.height rows (omega (arith, count)) in
    let none : drop g.height rows ≡ [] = drop_of_length-le rows (omega (arith, count)) in
    record {
      header = record { header = header_read g rows s; width = s.width; height = s.height };
      rows = record {
        count = omega (arith, count);
        rows = subst (λ (ls : List Bytes). All (IsGlyphRow g.width) ls) (sym all) (All-from_recursion (IsGlyphRow g.width) rows (rows_are g.width g.rows (recursion_from_All (λ row. length row ≡ g.width) g.rows s.cells)));
      };
      cells = sym (ap (map cells_of) all ∙ rows_again g.rows);
      rest = subst (λ (ls : List Bytes). AreEmpty ls) (sym (past g.height rows ∙ none)) (All-from_recursion (AllPass is_row_space) [] tt);
    }
  where
    past : (h : ℕ) (rows : List Bytes) → drop (4 + h) (header_lines g ++ rows) ≡ drop h rows
    past h rows = sym (drop-drop h 4 (header_lines g ++ rows))

pub map_again : (g : Ground) → IsGround g → AreMapLines (lines (map_text g)) g
map_again g s =
    subst (λ (ls : List Bytes). AreMapLines ls g) (sym (lines_written (header_lines g ++ map row_text g.rows) (lines_from g s))) (lines_are g s)

-- ---- the cells that are left

each_row : (g : Ground) (cells : List Cell) (ys : List ℕ) → AllByRecursion (λ row. length row ≡ g.width) (map (row_left g cells) ys)
each_row g cells [] = tt
each_row g cells (y ∷ ys) = (length-map-range_with_len (is_left g cells y) 0 g.width, each_row g cells ys)

pub left_ground : (g : Ground) (cells : List Cell) → IsGround g → IsGround (ground_without g cells)
left_ground g cells s = record {
  width = s.width;
  height = s.height;
  rows = length-map-range_with_len (row_left g cells) 0 g.height;
  cells = All-from_recursion (λ row. length row ≡ g.width) (map (row_left g cells) (indices g.height)) (each_row g cells (indices g.height));
}

pub left_at : (g : Ground) (cells : List Cell) (c : Cell) → IsGround g → is_passable (ground_without g cells) (place_of c) ≡ (is_passable g (place_of c) && not (list_any (is_same_cell c) cells))
left_at g cells c s = elim (cases_lt c.y g.height) [
  | inl below ↦
      let row : get_or (map (row_left g cells) (indices g.height)) c.y [] ≡ row_left g cells c.y = get_or-map-range_with_len (row_left g cells) 0 g.height c.y c.y [] below (omega arith) in
      ap (λ (r : List Bool). get_or r c.x false) row ∙ in_row
  | inr past ↦
      get_or_false (ap (λ (r : List Bool). get_or r c.x false) (get_or_past (map (row_left g cells) (indices g.height)) c.y [] (omega (arith, past, length-map-range_with_len (row_left g cells) 0 g.height)))) (off_map g c.x c.y s (inr past))
]
  where
    get_or_false : {a : Bool} → a ≡ false → is_ground_at g c.x c.y ≡ false → a ≡ (is_ground_at g c.x c.y && not (list_any (is_same_cell c) cells))
    get_or_false e f = e ∙ rw f refl

    in_row : get_or (row_left g cells c.y) c.x false ≡ (is_ground_at g c.x c.y && not (list_any (is_same_cell c) cells))
    in_row = elim (cases_lt c.x g.width) [
      | inl right ↦ get_or-map-range_with_len (is_left g cells c.y) 0 g.width c.x c.x false right (omega arith)
      | inr past ↦ get_or_false (get_or_past (row_left g cells c.y) c.x false (omega (arith, past, length-map-range_with_len (is_left g cells c.y) 0 g.width))) (off_map g c.x c.y s (inl past))
    ]
