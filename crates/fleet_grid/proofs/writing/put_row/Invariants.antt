use Rattle.std.proofs.Common.{◌≡◌, ◌++◌, map}
use Rattle.fleet_model.specs.Machine.{indices}
use Rattle.fleet_grid.specs.MapWriting.{is_left, row_text}
use Rattle.fleet_grid.proofs.writing.put_row.Given as goal

abbrev pub invariant-loop-x : goal.invariant-loop-x
invariant-loop-x l = l.text.items ≡ l.fn.text.items ++ row_text (map (is_left l.grid l.without l.y) (indices l.x))
