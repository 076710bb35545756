use Rattle.fleet_needs.proofs.Words.{made_row, next_action, AreRowsTo}
use Rattle.fleet_needs.proofs.RowsMade.{AreOwnTo}
use Rattle.fleet_needs.proofs.join_pass.SlotRows.finish_row.Given as goal

abbrev pub invariant-loop-k : goal.invariant-loop-k
invariant-loop-k g l = record { rows : AreRowsTo (g.P.ProgramView.program l.program) (record l.fn.self { counts = l.counts }) l.n; own : AreOwnTo (g.P.ProgramView.program l.program) l.fn.self.columns (next_action l.fn.self.schedule l.n) l.k (made_row l.counts) }
