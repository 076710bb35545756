use Rattle.fleet_run.proofs.Words.{◌≡◌, ◌≢◌, ◌<◌, ◌++◌, rules, arith, [], ◌∷◌, sym, length, map, take, take_all, codes, awaits_of, takes_err, takes_err_then, stops_before, stops_past, takes_rest, with_spaces, next_words, numbered_text, place_text, step_words, await_text}
use Rattle.fleet_run.proofs.Rehearsed.{no_awaits, some_awaits, one_await_more, refused_in_await, line_after_place}
use Rattle.fleet_run.proofs.listing.put_action.Goals as goal

pub returns-in_err-put_step : goal.returns-in_err-put_step
returns-in_err-put_step g c =
    rw c.step-step.ensures
    (takes_err_then _ _ _ (with_spaces (numbered_text c.args.action.agent c.args.action.number ∷ step_words c.step-step.result)) _ (search rules) (rw c.new-row.ensures at c.in_err-put_step.ensures))

pub returns-in_err-put_place : goal.returns-in_err-put_place
returns-in_err-put_place g c =
    rw (c.step-step.ensures, sym c.requires.place)
    (takes_err _ _ _ _ (search rules)
    (stops_past _ _ _ [] _ (with_spaces (numbered_text c.args.action.agent c.args.action.number ∷ step_words c.step-step.result)) _ (rw c.new-row.ensures at c.in_ok-put_step.ensures)
    (stops_before _ _ _ (place_text c.args.place) _ c.in_err-put_place.ensures)))

pub returns-then-has_none : goal.returns-then-has_none
returns-then-has_none g c =
    let p = g.P.ProgramView.program c.args.program.now in
    let awaits = awaits_of p c.args.action.agent c.args.action.number in
    let none : length awaits ≡ 0 = omega (arith, c.await_count-awaits.ensures, c.if-has_none.true) in
    line_after_place p c.args.action c.step-step.result c.args.place c.step-step.ensures c.requires.place _ _ _ _ _ _ _ _ c.new-row.ensures c.in_ok-put_step.ensures c.in_ok-put_place.ensures
    (rw (no_awaits awaits none) c.end_line.ensures)

pub returns-in_err-put_next_word : goal.returns-in_err-put_next_word
returns-in_err-put_next_word g c =
    let p = g.P.ProgramView.program c.args.program.now in
    let awaits = awaits_of p c.args.action.agent c.args.action.number in
    let some : length awaits ≢ 0 = omega (arith, c.await_count-awaits.ensures, c.if-has_none.false) in
    line_after_place p c.args.action c.step-step.result c.args.place c.step-step.ensures c.requires.place _ _ _ _ _ _ _ _ c.new-row.ensures c.in_ok-put_step.ensures c.in_ok-put_place.ensures
    (rw (some_awaits awaits some) (takes_err _ _ _ _ (search rules) (stops_before _ _ _ (32 ∷ codes "after") (next_words (map await_text awaits) ++ 10 ∷ []) c.in_err-put_next_word.ensures)))

pub returns-in_err-add_next_two : goal.returns-in_err-add_next_two
returns-in_err-add_next_two g c =
    let p = g.P.ProgramView.program c.args.program.now in
    let awaits = awaits_of p c.args.action.agent c.args.action.number in
    let some : length awaits ≢ 0 = omega (arith, c.await_count-awaits.ensures, c.if-has_none.false) in
    let below : c.loop-k.k < length awaits = omega (arith, c.await_count-awaits.ensures, c.loop-k-test.true) in
    line_after_place p c.args.action c.step-step.result c.args.place c.step-step.ensures c.requires.place _ _ _ _ _ _ _ _ c.new-row.ensures c.in_ok-put_step.ensures c.in_ok-put_place.ensures
    (rw (some_awaits awaits some)
    (takes_rest _ _ _ _ _ _ (32 ∷ codes "after") (next_words (map await_text awaits) ++ 10 ∷ []) c.in_ok-put_next_word.ensures
    (refused_in_await _ _ _ _ _ awaits c.loop-k.k _ below c.await_at-one.ensures c.loop-k.invariant.written _ (10 ∷ []) (search rules) c.in_err-add_next_two.ensures)))

pub loop-k-preserved : goal.loop-k-preserved
loop-k-preserved g c =
    let awaits = awaits_of (g.P.ProgramView.program c.args.program.now) c.args.action.agent c.args.action.number in
    let below : c.loop-k.k < length awaits = omega (arith, c.await_count-awaits.ensures, c.loop-k-test.true) in
    record {
      written = one_await_more _ _ _ _ _ awaits c.loop-k.k _ below c.await_at-one.ensures c.loop-k.invariant.written _ c.in_ok-add_next_two.ensures;
    }

pub returns : goal.returns
returns g c =
    let p = g.P.ProgramView.program c.args.program.now in
    let awaits = awaits_of p c.args.action.agent c.args.action.number in
    let some : length awaits ≢ 0 = omega (arith, c.await_count-awaits.ensures, c.if-has_none.false) in
    let whole : take c.loop-k.k awaits ≡ awaits = take_all c.loop-k.k awaits (omega (arith, c.await_count-awaits.ensures, c.loop-k-test.false)) in
    line_after_place p c.args.action c.step-step.result c.args.place c.step-step.ensures c.requires.place _ _ _ _ _ _ _ _ c.new-row.ensures c.in_ok-put_step.ensures c.in_ok-put_place.ensures
    (rw (some_awaits awaits some)
    (takes_rest _ _ _ _ _ _ (32 ∷ codes "after") (next_words (map await_text awaits) ++ 10 ∷ []) c.in_ok-put_next_word.ensures
    (takes_rest _ _ _ _ _ _ (next_words (map await_text awaits)) (10 ∷ []) (rw whole at c.loop-k.invariant.written) c.end_line-2.ensures)))
