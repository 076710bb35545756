use Rattle.fleet_needs.proofs.Words.{◌-◌, length, AreFlaggedTo, AreOfProgram}
use Rattle.fleet_needs.proofs.implied.flag_left.Given as goal

abbrev pub invariant-loop-rows : goal.invariant-loop-rows
invariant-loop-rows g l = AreOfProgram (g.P.ProgramView.program l.program) l.rows × AreFlaggedTo (g.P.ProgramView.program l.program) l.rows l.rows.columns.end l.implied

abbrev pub decreases-loop-rows : goal.decreases-loop-rows
decreases-loop-rows g l = length (g.P.ProgramView.program l.program) - l.rows.columns.end
