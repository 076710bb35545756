use Rattle.fleet_needs.proofs.Words.{AreFlaggedIn}
use Rattle.fleet_needs.proofs.implied.flag_row.Given as goal

abbrev pub invariant-loop-k : goal.invariant-loop-k
invariant-loop-k g l = AreFlaggedIn (g.P.ProgramView.program l.program) l.rows l.n l.k l.implied
