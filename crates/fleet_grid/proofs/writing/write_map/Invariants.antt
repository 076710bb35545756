use Rattle.std.proofs.Common.{◌≡◌, ◌++◌, map}
use Rattle.fleet_model.specs.Machine.{indices}
use Rattle.fleet_text.specs.Words.{ended_text}
use Rattle.fleet_grid.specs.MapWriting.{row_left, row_text, header_lines}
use Rattle.fleet_grid.proofs.writing.write_map.Given as goal

abbrev pub invariant-loop-y : goal.invariant-loop-y
invariant-loop-y l = l.text.items ≡ ended_text (header_lines l.grid ++ map row_text (map (row_left l.grid l.without) (indices l.y)))
