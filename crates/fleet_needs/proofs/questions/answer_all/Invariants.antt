use Rattle.fleet_needs.proofs.Words.{◌≡◌, ◌-◌, length, AreAnsweredFrom, AreOfProgram, questions_in}
use Rattle.fleet_needs.proofs.questions.answer_all.Given as goal

abbrev pub invariant-loop-rows : goal.invariant-loop-rows
invariant-loop-rows g l = record {
  rows : AreOfProgram (g.P.ProgramView.program l.program) l.rows;
  answers : AreAnsweredFrom (g.P.ProgramView.program l.program) l.rows l.rows.columns.end l.answering;
  same : questions_in l.answering ≡ questions_in l.fn.answering;
}

abbrev pub decreases-loop-rows : goal.decreases-loop-rows
decreases-loop-rows g l = length (g.P.ProgramView.program l.program) - l.rows.columns.end
