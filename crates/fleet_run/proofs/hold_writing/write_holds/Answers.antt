use Rattle.fleet_run.proofs.Words.{◌∙◌, ap, map, take_all, text_source, holds_text}
use Rattle.fleet_run.proofs.HoldsWritten.{holds_more, rows_again}
use Rattle.fleet_run.proofs.hold_writing.write_holds.Goals as goal

pub returns-clause-read : goal.returns-clause-read
returns-clause-read c = λ n small below.
    let rows = c.args.holds.now in
    let all = take_all c.loop-held.held-index rows c.loop-held-test.false in
    let text = c.loop-held.invariant ∙ ap (λ rows. holds_text (map (λ row. row.items) rows)) all in
    ap (text_source n) text ∙ rows_again (λ row. row.items) n rows small c.requires.rising below

pub returns-clause-text : goal.returns-clause-text
returns-clause-text c = c.loop-held.invariant ∙ ap (λ rows. holds_text (map (λ row. row.items) rows)) (take_all c.loop-held.held-index c.args.holds.now c.loop-held-test.false)

pub loop-held-preserved : goal.loop-held-preserved
loop-held-preserved c = holds_more (λ row. row.items) c.loop-held.text.items c.put_tick.new.text.items c.args.holds.now c.loop-held.held-index c.held-item.result c.loop-held-test.true c.held-item.is c.loop-held.invariant (rw c.deref.ensures.value at c.in_ok-put_tick.ensures)
