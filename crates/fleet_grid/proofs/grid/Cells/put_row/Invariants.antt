use Rattle.std.proofs.Common.{◌≡◌, ◌≤◌, ◌+◌, ◌++◌, ◌&&◌, length}
use Rattle.std.specs.Prelude.{count_by}
use Rattle.std.specs.List.{list_all}
use Rattle.fleet_grid.specs.MapText.{is_ground_glyph, is_glyph, cells_of}
use Rattle.fleet_grid.specs.Stored.{stored_cells, with_padding}
use Rattle.fleet_grid.proofs.grid.Cells.put_row.Given as goal

abbrev pub invariant-loop-block : goal.invariant-loop-block
invariant-loop-block l = record {
  within : length l.rest ≤ length l.line;
  bytes : stored_cells l.self.bytes.items ++ with_padding (cells_of l.rest) ≡ stored_cells l.fn.self.bytes.items ++ with_padding (cells_of l.line);
  glyphs : (l.are_glyphs && list_all is_glyph l.rest) ≡ list_all is_glyph l.line;
  count : l.self.passable_count + count_by is_ground_glyph l.rest ≡ l.fn.self.passable_count + count_by is_ground_glyph l.line;
}

abbrev pub decreases-loop-block : goal.decreases-loop-block
decreases-loop-block l = length l.rest
