-- The line of a fault of a map.
use Rattle.std.specs.Prelude.{ℕ, Bool, true, false, List, codes}
use Rattle.fleet_text.specs.Refusals.{memory_words, named, named_at, named_by}
use Rattle.fleet_grid.specs.declared.fault.MapFault.{MapFault}
use Rattle.fleet_grid.specs.declared.fault.MapFault.TheVariants.{OutOfMemory, Header, Size, RowCount, RowLength, Glyph, Trailing}

-- the words of its line
abbrev pub map_words : MapFault → List (List ℕ)
map_words OutOfMemory = memory_words
map_words (Header line) = named_at (codes "map") 2 (codes "Header") (codes "line") line
map_words Size = named (codes "map") 3 (codes "Size")
map_words RowCount = named (codes "map") 4 (codes "RowCount")
map_words (RowLength row) = named_at (codes "map") 5 (codes "RowLength") (codes "row") row
map_words (Glyph row column) = named_by (codes "map") 6 (codes "Glyph") (codes "row") row (codes "column") column
map_words Trailing = named (codes "map") 7 (codes "Trailing")

-- whether memory failed
abbrev pub is_map_failure : MapFault → Bool
is_map_failure OutOfMemory = true
is_map_failure _ = false
