use Rattle.std.proofs.Common.{◌≡◌, length}
use Rattle.std.specs.List.{list_all}
use Rattle.fleet_grid.specs.MapText.{is_row_space}
use Rattle.fleet_grid.proofs.grid.is_ended.Given as goal

abbrev pub invariant-loop-line : goal.invariant-loop-line
invariant-loop-line l = list_all (list_all is_row_space) l.lines ≡ list_all (list_all is_row_space) l.fn.lines

abbrev pub decreases-loop-line : goal.decreases-loop-line
decreases-loop-line l = length l.lines
