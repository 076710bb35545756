use Rattle.fleet_needs.proofs.Words.{subst, ◌∙◌, List, AreAnswersIn, Question}
use Rattle.fleet_needs.proofs.{Answered.answered_end, RowsMade.block_gone}
use Rattle.fleet_needs.proofs.questions.answer_all.Goals as goal

pub answer_block-requires-clause-answers : goal.answer_block-requires-clause-answers
answer_block-requires-clause-answers g c = (let next = c.in_ok-next_block.ensures in rw (next.schedule, next.asked, (next.some c.if-branch.true).0) c.loop-rows.invariant.answers)

pub returns : goal.returns
returns g c =
    subst (λ (qs : List Question). AreAnswersIn (g.P.ProgramView.program c.args.program.now) qs c.loop-rows.answering.flags) c.loop-rows.invariant.same
    (answered_end _ c.loop-rows.rows _ c.loop-rows.answering (c.in_ok-next_block.ensures.none c.if-branch.false) c.loop-rows.invariant.answers)

pub loop-rows-preserved : goal.loop-rows-preserved
loop-rows-preserved g c =
    let was = c.loop-rows.invariant in
    let block = c.answer_block.ensures in
    record { rows = block_gone _ _ _ _ _ c.in_ok-next_block.ensures block.same was.rows; answers = block.answers; same = block.questions ∙ was.same }
