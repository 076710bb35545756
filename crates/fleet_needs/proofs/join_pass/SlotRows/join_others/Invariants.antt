use Rattle.fleet_needs.proofs.Words.{slice_index, made_row, next_action, AreRowsTo}
use Rattle.fleet_needs.proofs.RowsMade.{AreOthersTo}
use Rattle.fleet_needs.proofs.join_pass.SlotRows.join_others.Given as goal

abbrev pub invariant-loop-k : goal.invariant-loop-k
invariant-loop-k g l = record { rows : AreRowsTo (g.P.ProgramView.program l.program) (record l.fn.self { counts = l.counts }) l.n; others : AreOthersTo (g.P.ProgramView.program l.program) l.fn.self.columns (next_action l.fn.self.schedule l.n) l.k (slice_index (made_row l.counts)) }
