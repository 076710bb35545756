use Rattle.std.proofs.lemmas.Result.{err_from_is_err_and}
use Rattle.fleet_needs.proofs.Words.{All, List, inl, sym, ap, subst, arith, IsQuestion, Question, rows_of}
use Rattle.fleet_needs.proofs.questions.answer_questions.Goals as goal

pub answer_all-requires-clause-answers : goal.answer_all-requires-clause-answers
answer_all-requires-clause-answers g c =
    let listed = c.in_ok-answering.ensures in
    let made = c.in_ok-rows.ensures in
    record {
      questions = subst (λ (qs : List Question). All (IsQuestion (g.P.ProgramView.program c.args.program.now)) qs) (sym listed.questions) c.requires.questions;
      listed = rw (sym (ap rows_of made.joins)) at listed.listed;
      asked = rw (listed.questions, made.rows.asked) c.in_ok-asked.ensures;
      told = λ n l. inl (omega (arith, made.rows.first));
    }

pub returns-in_err-rows : goal.returns-in_err-rows
returns-in_err-rows g c = rw (err_from_is_err_and c.from_residual-in_err-rows.result c.from_residual-in_err-rows.ensures.1).1 tt

pub returns-in_err-answering : goal.returns-in_err-answering
returns-in_err-answering g c = rw (err_from_is_err_and c.from_residual-in_err-answering.result c.from_residual-in_err-answering.ensures.1).1 tt

pub answer_all-requires-clause-rows : goal.answer_all-requires-clause-rows
answer_all-requires-clause-rows g c = c.in_ok-rows.ensures.rows.of

pub of-requires-3-clause-asked : goal.of-requires-3-clause-asked
of-requires-3-clause-asked g c = c.in_ok-asked.ensures.all

pub of-requires-3-clause-joins : goal.of-requires-3-clause-joins
of-requires-3-clause-joins g c = c.in_ok-joins.ensures.rows
