use Rattle.fleet_grid.specs.MapWriting.{row_left, header_lines}
use Rattle.fleet_grid.proofs.MapWritten.{row_more}
use Rattle.fleet_grid.proofs.writing.write_map.Goals as goal

pub loop-y-preserved : goal.loop-y-preserved
loop-y-preserved c =
    row_more (row_left c.args.grid.now c.args.without.now) (header_lines c.args.grid.now) c.loop-y.text.items c.put_row.new.text.items c.loop-y.y c.loop-y.invariant c.in_ok-put_row.ensures
