use Rattle.fleet_text.proofs.SinkLemmas.{gathers_err, passed_more, passed_all, stops_within_first, stops_within_next}
use Rattle.fleet_text.proofs.row.put_words.Goals as goal

pub returns-in_err-put_next_word : goal.returns-in_err-put_next_word
returns-in_err-put_next_word g c =
    gathers_err _ _ _ _ _ _ c.from_residual-in_err-put_next_word.ensures.0
    (stops_within_next _ _ _ _ _ _ _ _ _ c.loop-word-test.true c.loop-word.invariant.written c.in_err-put_next_word.ensures)

pub loop-word-preserved : goal.loop-word-preserved
loop-word-preserved g c = record {
  written = passed_more _ _ _ _ _ _ _ _ _ _ c.loop-word-test.true c.loop-word.invariant.written c.in_ok-put_next_word.ensures;
}

pub returns-in_err-put_word : goal.returns-in_err-put_word
returns-in_err-put_word g c =
    gathers_err _ _ _ _ _ _ c.from_residual.ensures.0
    (stops_within_first _ _ c.args.row.now c.args.words.now c.in-Some.rest.now c.in-Some.first.now c.in-Some.ensures.cases.0 c.in_err-put_word.ensures)

pub loop-word-init : goal.loop-word-init
loop-word-init g c = record { written = (c.in-Some.first.now, c.in-Some.ensures.cases.0, c.in_ok-put_word.ensures) }

pub returns : goal.returns
returns g c = passed_all _ _ _ _ c.args.words.now c.in-Some.rest.now c.loop-word.word-index c.loop-word-test.false c.loop-word.invariant.written
