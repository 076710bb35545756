use Rattle.fleet_needs.proofs.Words.{AreFlaggedIn, AreOfSame, AreRowsTo}
use Rattle.fleet_needs.proofs.implied.flag_block.Given as goal

abbrev pub invariant-loop-n : goal.invariant-loop-n
invariant-loop-n g l = record {
  same : AreOfSame l.fn.rows l.rows;
  rows : AreRowsTo (g.P.ProgramView.program l.program) l.rows l.n;
  flags : AreFlaggedIn (g.P.ProgramView.program l.program) l.rows l.n 0 l.implied;
}
