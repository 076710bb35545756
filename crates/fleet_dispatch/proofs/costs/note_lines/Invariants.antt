use Rattle.fleet_dispatch.proofs.Cited.{◌≡◌, ◌+◌, length, AreRowsOf, lists_of, noted_by}
use Rattle.fleet_dispatch.proofs.costs.note_lines.Given as goal

abbrev pub invariant-loop-text : goal.invariant-loop-text
invariant-loop-text g l = record {
  count : l.line + length l.lines ≡ length l.fn.lines;
  shape : AreRowsOf (g.P.ProgramView.program l.program) (lists_of l.rows.items);
  so_far : noted_by (g.P.ProgramView.program l.program) l.line (lists_of l.rows.items) l.lines
      ≡ noted_by (g.P.ProgramView.program l.program) 0 (lists_of l.fn.rows.items) l.fn.lines;
}

abbrev pub decreases-loop-text : goal.decreases-loop-text
decreases-loop-text g l = length l.lines
