use Rattle.fleet_needs.proofs.Words.{◌≡◌, ◌+◌, AreOfSame, AreRowsTo, IsAnswering, questions_in}
use Rattle.fleet_needs.proofs.questions.answer_block.Given as goal

abbrev pub invariant-loop-n : goal.invariant-loop-n
invariant-loop-n g l = record {
  same : AreOfSame l.fn.rows l.rows;
  rows : AreRowsTo (g.P.ProgramView.program l.program) l.rows l.n;
  answers : IsAnswering (g.P.ProgramView.program l.program) l.rows (l.n + 1) l.answering;
  questions : questions_in l.answering ≡ questions_in l.fn.answering;
}
