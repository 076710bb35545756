use Rattle.fleet_needs.proofs.Words.{slice_index, ap, refl, joins_in, ◌∙◌, arith, made_row, inl, inr, questions_in, IsAskedFor}
use Rattle.fleet_needs.specs.Block.{HasItsColumn}
use Rattle.std.proofs.lemmas.List.Elements.{All-weaker}
use Rattle.fleet_needs.proofs.{Answered.answered_after, Answered.answering_on, RowsMade.counts_none, RowsMade.made_counts, RowsMade.same_on}
use Rattle.fleet_needs.proofs.questions.answer_block.Goals as goal

pub answer_row-requires-clause-row : goal.answer_row-requires-clause-row
answer_row-requires-clause-row g c =
    let m = c.args.rows.now in
    let begun = c.requires.begun in
    record { own = begun.rows.schedule.made.own; columns = begun.rows.columns; width = begun.rows.width; counts = λ i n stands. counts_none (g.P.ProgramView.program c.args.program.now) m.schedule m.columns 0 i n stands (slice_index (made_row m.counts)) refl begun.zeros }

pub answer_row-requires-clause-answers : goal.answer_row-requires-clause-answers
answer_row-requires-clause-answers g c =
    let block = c.requires.begun.rows.block in
    let was = c.requires.answers in
    let listed = was.listed in
    record {
      block = All-weaker (IsAskedFor c.args.rows.now.asked.items) (HasItsColumn c.args.rows.now.columns) (λ q asks low high. block.chosen q.first.agent low high asks) (questions_in c.args.answering.now) was.asked.each;
      answers = record {
        questions = was.questions;
        listed = record { each = listed.each; all = listed.all; sorted = listed.sorted; flags = listed.flags };
        asked = was.asked;
        told = λ n l. elim (was.told n l) [ inl from ↦ inl (from, inr (omega arith)) | inr it ↦ inr it ];
      };
      due = λ n from l. omega arith;
    }

pub answer_row-requires-in-loop-n-clause-row : goal.answer_row-requires-in-loop-n-clause-row
answer_row-requires-in-loop-n-clause-row g c =
    let m = c.finish_row.new.self in
    let made = c.finish_row.ensures.made in
    record { own = made.rows.schedule.made.own; columns = made.rows.columns; width = made.rows.width; counts = made_counts (g.P.ProgramView.program c.args.program.now) m.schedule m.columns c.loop-n.n (slice_index (made_row m.counts)) made.whole }

pub answer_row-requires-in-loop-n-clause-answers : goal.answer_row-requires-in-loop-n-clause-answers
answer_row-requires-in-loop-n-clause-answers g c = answering_on _ _ _ _ _ (same_on _ _ _ c.join_others.ensures.same c.finish_row.ensures.same) c.loop-n.invariant.answers

pub loop-n-preserved : goal.loop-n-preserved
loop-n-preserved g c =
    let was = c.loop-n.invariant in
    let row = c.answer_row-in-loop-n.ensures in
    record { same = same_on _ _ _ (same_on _ _ _ was.same c.join_others.ensures.same) c.finish_row.ensures.same; rows = c.finish_row.ensures.made.rows; answers = row.answers; questions = row.same ∙ was.questions }

pub returns-clause-answers : goal.returns-clause-answers
returns-clause-answers g c = answered_after _ c.loop-n.rows c.loop-n.answering c.loop-n.n (omega (arith, c.loop-n-test.false, c.rows-n-end.ensures, ap joins_in c.loop-n.invariant.same.schedule)) c.loop-n.invariant.answers
