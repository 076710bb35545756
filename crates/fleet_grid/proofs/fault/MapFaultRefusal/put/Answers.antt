use Rattle.fleet_grid.proofs.fault.MapFaultRefusal.put.Goals as goal

pub returns-in-RowCount : goal.returns-in-RowCount
returns-in-RowCount g c = rw c.in-RowCount.is c.put_named-in-RowCount.ensures

pub returns-in-RowLength : goal.returns-in-RowLength
returns-in-RowLength g c = rw c.in-RowLength.is c.put_named_at-in-RowLength.ensures

pub returns-in-Glyph : goal.returns-in-Glyph
returns-in-Glyph g c = rw c.in-Glyph.is c.put_named_by.ensures

pub returns-in-Trailing : goal.returns-in-Trailing
returns-in-Trailing g c = rw c.in-Trailing.is c.put_named-in-Trailing.ensures
