use Rattle.fleet_dispatch.proofs.Cited.{None, IsOrdered, Reported}
use Rattle.fleet_dispatch.proofs.Steps.{all_take_more, all_taken, first_is_unordered}
use Rattle.fleet_dispatch.proofs.progress.Progress.first_unordered.Goals as goal

nobody : Reported
nobody = record { agent = 0; number = None }

pub returns-then-not-is_ordered-clause-first : goal.returns-then-not-is_ordered-clause-first
unfolding nobody
returns-then-not-is_ordered-clause-first g c = λ k same.
    let p = g.P.ProgramView.program c.args.program.now in
    first_is_unordered p k c.args.self.now.done c.words-word-items.result.now c.args.report.now c.loop-word.word-index nobody c.words-word-items.ensures.words c.loop-word-test.true
    (c.loop-word.invariant k same) (c.if-not-is_ordered.ensures k same)

pub loop-word-preserved : goal.loop-word-preserved
unfolding nobody
loop-word-preserved g c = λ k same.
    let p = g.P.ProgramView.program c.args.program.now in
    all_take_more (IsOrdered p k c.args.self.now.done) c.words-word-items.result.now c.args.report.now c.loop-word.word-index nobody c.words-word-items.ensures.words c.loop-word-test.true
    (c.loop-word.invariant k same) (c.if-not-is_ordered.ensures k same)

pub returns-clause-first : goal.returns-clause-first
unfolding nobody
returns-clause-first g c = λ k same.
    let p = g.P.ProgramView.program c.args.program.now in
    all_taken (IsOrdered p k c.args.self.now.done) c.words-word-items.result.now c.args.report.now c.loop-word.word-index nobody c.words-word-items.ensures.words c.loop-word-test.false
    (c.loop-word.invariant k same)
