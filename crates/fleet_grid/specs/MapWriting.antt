-- Which text is written for a ground, and the ground that is left if some of its cells are passable no more.
use Rattle.std.specs.Prelude.{ℕ, Bool, not, ◌&&◌, List, [], ◌∷◌, ◌++◌, map, codes, decimal, if◌then◌else◌}
use Rattle.std.specs.List.{list_any}
use Rattle.fleet_model.specs.declared.geometry.Cell.{Cell}
use Rattle.fleet_model.specs.Geometry.{is_same_cell}
use Rattle.fleet_model.specs.Machine.{indices}
use Rattle.fleet_text.specs.Text.{Bytes}
use Rattle.fleet_text.specs.Words.{ended_text}
use Rattle.fleet_grid.specs.Ground.{Ground, is_ground_at}

-- the cell in column x of row y is passable, and none of these
abbrev pub is_left : Ground → List Cell → (y x : ℕ) → Bool
is_left g cells y x = is_ground_at g x y && not (list_any (is_same_cell (record { x = x; y = y })) cells)

-- row y without these cells
abbrev pub row_left : Ground → List Cell → ℕ → List Bool
row_left g cells y = map (is_left g cells y) (indices g.width)

-- the ground of which these cells are not passable
abbrev pub ground_without : Ground → List Cell → Ground
ground_without g cells = record { width = g.width; height = g.height; rows = map (row_left g cells) (indices g.height) }

-- a passable cell as `.`, and another as `@`
abbrev pub glyph_of : Bool → ℕ
glyph_of b = if b then 46 else 64

-- a glyph for each cell
abbrev pub row_text : List Bool → Bytes
row_text row = map glyph_of row

-- a word and a side
abbrev pub side_text : Bytes → ℕ → Bytes
side_text word side = word ++ 32 ∷ decimal side

-- the lines before the rows
abbrev pub header_lines : Ground → List Bytes
header_lines g = codes "type octile" ∷ side_text (codes "height") g.height ∷ side_text (codes "width") g.width ∷ codes "map" ∷ []

-- a header, and a line for each row
abbrev pub map_text : Ground → Bytes
map_text g = ended_text (header_lines g ++ map row_text g.rows)
