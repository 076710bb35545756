use Rattle.fleet_needs.proofs.Words.{◌≡◌, ◌+◌, ◌<◌, length, refl, sym, subst, ap, ◌∙◌, arith, inl, inr, get_or_read, get_or-set_same, get_or-set_other, length-set, false, slice_index, made_row, HasColumn, IsAnswer, IsAnswering, listed_at, no_question, question_of, unlisted, Answering, Question, RowQuestion}
use Rattle.fleet_needs.proofs.Answered.{answer_is, next_is, row_counts, told_on}
use Rattle.fleet_needs.proofs.questions.Answering.answer_row.Goals.{in-Some, in_default}
use Rattle.fleet_needs.proofs.questions.Answering.answer_row.Goals as goal

pub loop-self-preserved : goal.loop-self-preserved
loop-self-preserved g c =
    let p = g.P.ProgramView.program c.args.program.now in
    let made = c.args.rows.now in
    let columns = made.columns in
    let count = slice_index (made_row made.counts) in
    let m = c.loop-self.self in
    let h = c.loop-self.invariant.answers in
    let within : m.next < length m.rows.items = omega (arith, c.loop-self-test.true, c.len.ensures) in
    let x : RowQuestion = c.index-in-loop-self.result.now in
    let at : x ≡ listed_at m m.next = get_or_read m.rows.items m.next x within c.index-in-loop-self.ensures unlisted in
    let of : x.row ≡ c.args.number =
    ap (λ (y : RowQuestion). y.row) (at ∙ sym (get_or_read m.rows.items m.next c.index.result.now within c.index.ensures unlisted)) ∙ c.if-index-number.true in
    let q : Question = question_of m.questions.now x.place in
    let low = (next_is p made m c.args.number h within x at of).place in
    let is = h.answers.questions x.place no_question low in
    let counts = row_counts p made m c.args.number h within x at of count c.requires.row.counts in
    record {
      answers = elim c.match-of.branch [
        | in-Some w ↦
            let has : HasColumn columns q.first.agent w.in-Some.k = sym c.of.ensures ∙ w.in-Some.is in
            let right = answer_is p columns q count c.requires.row.own is counts w.in-Some.k has w.count_for-count.result w.count_for-count.ensures.own (λ ne. w.count_for-count.ensures.other ne ∙ ap count w.from.ensures) in
            subst (λ (y : Answering). IsAnswering p made c.args.number (record { questions = y.questions; rows = y.rows; flags = y.flags; next = y.next + 1 })) (sym w.self-is)
            (told_on p made m c.args.number h within x at of _ (length-set m.flags.items x.place _) (λ k ne. get_or-set_other m.flags.items x.place k _ false ne)
            (inl (subst (IsAnswer p q) (sym (get_or-set_same m.flags.items x.place _ false (omega (arith, low, h.answers.listed.flags)))) right)))
        | in_default w ↦
            subst (λ (y : Answering). IsAnswering p made c.args.number (record { questions = y.questions; rows = y.rows; flags = y.flags; next = y.next + 1 })) (sym w.self-is)
            (told_on p made m c.args.number h within x at of m.flags refl (λ k ne. refl) (inr (sym c.of.ensures ∙ w.in_default.is, refl)))
      ];
      same = elim c.match-of.branch [ in-Some w ↦ ap (λ (y : Answering). y.questions.now) w.self-is ∙ c.loop-self.invariant.same | in_default w ↦ ap (λ (y : Answering). y.questions.now) w.self-is ∙ c.loop-self.invariant.same ];
    }

pub count_for-count-requires : goal.count_for-count-requires
count_for-count-requires g c =
    omega (arith, c.requires.row.columns.within _ _ (sym c.of.ensures ∙ c.in-Some.is), c.requires.row.width, c.from.ensures)

pub returns-else-index-number-clause-answers : goal.returns-else-index-number-clause-answers
returns-else-index-number-clause-answers g c =
    let h = c.loop-self.invariant.answers in
    let m = c.loop-self.self in
    let within : m.next < length m.rows.items = omega (arith, c.loop-self-test.true, c.len.ensures) in
    let at = ap (λ (y : RowQuestion). y.row) (get_or_read m.rows.items m.next c.index.result.now within c.index.ensures unlisted) in
    record { block = h.block; answers = h.answers; due = λ n from l. omega (arith, h.due m.next (omega arith) within, h.answers.listed.sorted m.next n unlisted from l, at, c.if-index-number.false) }
