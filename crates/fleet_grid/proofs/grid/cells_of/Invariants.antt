use Rattle.std.proofs.Common.{◌≡◌, ◌-◌, ◌*◌, ◌≤◌, length}
use Rattle.fleet_grid.specs.Ground.{passable_cells}
use Rattle.fleet_grid.specs.Stored.{byte_count, ground_of}
use Rattle.fleet_grid.specs.MapReading.{rows_at}
use Rattle.fleet_grid.proofs.MapLoops.{after_rows}
use Rattle.fleet_grid.proofs.grid.cells_of.Given as goal

abbrev pub invariant-loop-row : goal.invariant-loop-row
invariant-loop-row l = record {
  so_far : after_rows (ground_of l.width l.row l.cells.bytes.items).rows (rows_at (l.height - l.row) l.width l.row l.lines) ≡ rows_at l.height l.width 0 l.fn.lines;
  size : length l.cells.bytes.items ≡ byte_count l.width * l.row;
  count : l.cells.passable_count ≡ passable_cells (ground_of l.width l.row l.cells.bytes.items);
  few : l.cells.passable_count ≤ 4096 * l.row;
}
