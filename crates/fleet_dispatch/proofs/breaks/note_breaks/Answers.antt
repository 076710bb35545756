use Rattle.fleet_dispatch.proofs.Cited.{◌≡◌, ℕ, length, set, sym, ap, subst, ◌∙◌, None, arith, false≢true, slice_index_or, take_all, length-set, slice_get-get_or, IsAction, Reported, named_action, breaks_from}
use Rattle.fleet_dispatch.proofs.BreakLemmas.{breaks_more, name_more, name_all}
use Rattle.fleet_dispatch.proofs.breaks.note_breaks.Goals as goal

pub returns-then-not-is_action : goal.returns-then-not-is_action
returns-then-not-is_action g c = λ named.
    let p = g.P.ProgramView.program c.args.program.now in
    let nobody : Reported = record { agent = 0; number = None } in
    let w : Reported = slice_index_or c.args.words.now c.loop-word.word-index nobody in
    let act : IsAction p (named_action w) = named c.loop-word.word-index w (slice_get-get_or c.args.words.now c.loop-word.word-index nobody c.loop-word-test.true) in
    let here = subst (λ (n : ℕ). IsAction p (record { agent = w.agent; number = n })) (sym c.unwrap_or-number.ensures) act in
    false≢true (sym c.if-not-is_action.true ∙ c.is_action.ensures.1 here)

pub loop-word-preserved : goal.loop-word-preserved
loop-word-preserved g c =
    let p = g.P.ProgramView.program c.args.program.now in
    let nobody : Reported = record { agent = 0; number = None } in
    let w : Reported = slice_index_or c.args.words.now c.loop-word.word-index nobody in
    let at = slice_get-get_or c.args.words.now c.loop-word.word-index nobody c.loop-word-test.true in
    let act = c.is_action.ensures.0 c.if-not-is_action.false in
    record {
      all = length-set c.loop-word.breaks.items w.agent c.unwrap_or-number.result ∙ c.loop-word.invariant.all;
      noted = breaks_more c.args.breaks.now.items c.args.words.now c.loop-word.word-index w at c.loop-word.breaks.items c.loop-word.invariant.noted _ (ap (λ (n : ℕ). set c.loop-word.breaks.items w.agent n) c.unwrap_or-number.ensures);
      actions = name_more p c.args.words.now c.loop-word.word-index w c.loop-word.invariant.actions at (subst (λ (n : ℕ). IsAction p (record { agent = w.agent; number = n })) c.unwrap_or-number.ensures act);
    }

pub returns : goal.returns
returns g c =
    let p = g.P.ProgramView.program c.args.program.now in
    let all : length c.args.words.now ≡ c.loop-word.word-index = omega (arith, c.loop-word-test.false, c.loop-word.auto.word-index-end) in
    (name_all p c.args.words.now c.loop-word.word-index c.loop-word.invariant.actions all, c.loop-word.invariant.noted ∙ ap (breaks_from c.args.breaks.now.items) (take_all c.loop-word.word-index c.args.words.now (omega (arith, all))))
