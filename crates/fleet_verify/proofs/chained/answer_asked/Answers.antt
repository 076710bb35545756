use Rattle.fleet_verify.proofs.Words.{◌∙◌, List, sym, subst, arith, true≢false, Visit, Question, AreAnswers, OpenPair}
use Rattle.fleet_verify.proofs.Asked.{all_chained, none_flagged}
use Rattle.fleet_verify.proofs.chained.answer_asked.Goals as goal

pub returns-then-is_none : goal.returns-then-is_none
returns-then-is_none g c =
    let p = g.P.ProgramView.program c.args.program.now in
    let answers = c.in_ok-answers.answers in
    record {
      chained = all_chained p c.args.levels.rows.items c.args.pairs.items c.args.questions.items answers.flags.items c.requires.levels.levels c.requires.asked
          (subst (λ (qs : List Question). AreAnswers p qs answers.flags.items) c.in_ok-answers.ensures.questions c.in_ok-answers.ensures.answers)
          (c.is_none.ensures.0 c.if-is_none.true);
      unchained = tt;
      answers = tt;
      questions = tt;
    }

pub to-requires-clause-questions : goal.to-requires-clause-questions
to-requires-clause-questions g c = λ k d l.
    let none : Visit = record { agent = 0; position = 0 } in
    let pair : OpenPair = record { cell = record { x = 0; y = 0 }; first = none; second = none } in
    (c.requires.asked.each k pair d (omega (arith, l, c.requires.asked.all))).question

pub returns : goal.returns
returns g c =
    let p = g.P.ProgramView.program c.args.program.now in
    let answers = c.in_ok-answers.answers in
    let made = c.in_ok-answers.ensures in
    let told = subst (λ (qs : List Question). AreAnswers p qs answers.flags.items) made.questions made.answers in
    record {
      chained = tt;
      unchained = λ all. true≢false (sym (c.is_none.ensures.1 (none_flagged p c.args.pairs.items c.args.questions.items answers.flags.items c.requires.asked told all)) ∙ c.if-is_none.false);
      answers = made.answers;
      questions = made.questions;
    }
