-- Reading a map's lines in the order of judging, with the first fault that is met.
use Rattle.std.specs.Prelude.{ℕ, zero, suc, ◌+◌, Bool, false, ◌&&◌, ◌==◌, nat_le, List, [], ◌∷◌, length, drop, Option, Some, None, Result, Ok, Err, codes, if◌then◌else◌, bytes_eq, option_and_then, position}
use Rattle.std.specs.List.{list_all}
use Rattle.fleet_grid.specs.declared.grid.TheConstants.{MAX_SIDE}
use Rattle.fleet_grid.specs.declared.fault.MapFault.{MapFault}
use Rattle.fleet_grid.specs.declared.fault.MapFault.TheVariants.{Header, Size, RowCount, RowLength, Glyph, Trailing}
use Rattle.fleet_text.specs.Text.{Bytes, words_from_front, number}
use Rattle.fleet_grid.specs.Ground.{Ground}
use Rattle.fleet_text.specs.Steps.{◌>>=◌, ◌>>◌, right_or, some_or, none_or}
use Rattle.fleet_grid.specs.MapText.{line_at, is_no_glyph, cells_of, is_row_space}

-- the one word after the keyword
abbrev pub after_keyword : Bytes → List Bytes → Option Bytes
after_keyword keyword [] = None
after_keyword keyword (first ∷ []) = None
after_keyword keyword (first ∷ word ∷ []) = if bytes_eq first keyword then Some word else None
after_keyword keyword (first ∷ word ∷ third ∷ more) = None

-- the keyword, and no other word
abbrev pub is_alone : Bytes → List Bytes → Bool
is_alone keyword [] = false
is_alone keyword (first ∷ []) = bytes_eq first keyword
is_alone keyword (first ∷ second ∷ more) = false

-- the word of a line that has a keyword and one word
unfoldable pub field : Bytes → Bytes → Option Bytes
field keyword line = after_keyword keyword (words_from_front line)

-- .. and its number, if the word spells one
unfoldable pub number_field : Bytes → Bytes → Option ℕ
number_field keyword line = option_and_then number (field keyword line)

-- a side of a map
abbrev pub is_side : ℕ → Bool
is_side n = nat_le 1 n && nat_le n MAX_SIDE

-- width and height, by the first four lines
unfoldable pub header_at : List Bytes → Result (ℕ × ℕ) MapFault
header_at ls = do
  kind ← some_or (field (codes "type") (line_at ls 0)) (Header 1)
  height ← some_or (number_field (codes "height") (line_at ls 1)) (Header 2)
  width ← some_or (number_field (codes "width") (line_at ls 2)) (Header 3)
  right_or (is_alone (codes "map") (words_from_front (line_at ls 3))) (Header 4)
  right_or (is_side height && is_side width) Size
  Ok (width, height)

-- the cells of a row
unfoldable pub row_at : (width row : ℕ) → Bytes → Result (List Bool) MapFault
row_at width row line = do
  right_or (length line == width) (RowLength row)
  none_or (position is_no_glyph line) (Glyph row)
  Ok (cells_of line)

-- so many rows from this one on, and the lines after them
unfoldable pub rows_at : (left width row : ℕ) → List Bytes → Result (List (List Bool) × List Bytes) MapFault
rows_at zero width row ls = Ok ([], ls)
rows_at (suc left) width row [] = Err RowCount
rows_at (suc left) width row (line ∷ ls) = do
  first ← row_at width row line
  others ← rows_at left width (row + 1) ls
  Ok (first ∷ others.0, others.1)

-- the ground of a map with these lines, or the first fault
unfoldable pub map_at : List Bytes → Result Ground MapFault
map_at ls = do
  sizes ← header_at ls
  rows ← rows_at sizes.1 sizes.0 0 (drop 4 ls)
  right_or (list_all (list_all is_row_space) rows.1) Trailing
  Ok (record { width = sizes.0; height = sizes.1; rows = rows.0 })
