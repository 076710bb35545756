use Rattle.fleet_run.proofs.Words.{◌≡◌, ◌+◌, ◌*◌, ◌-◌, ◌<◌, arith, length, refl, rules, ap, ◌∙◌, ◌∷◌, subst, drop_all, EndsWith, numerals_of}
use Rattle.fleet_run.proofs.Lines.{all_written, column_numeral, ends_empty, length-numerals_of, row_numeral}
use Rattle.fleet_run.proofs.line.write_places.Goals as goal

pub loop-i-init : goal.loop-i-init
loop-i-init c =
    let rows = c.args.rows.now in
    let at = c.write_byte-at.result in
    let end = c.write_byte-at.ensures.written ∙ ap (λ l. 10 ∷ l) (drop_all 24588 c.args.row.now (omega arith)) in
    ends_empty (numerals_of rows) (2 * length rows) at c.write_byte-at.new.row c.args.begins.now (omega (arith, length-numerals_of rows)) (omega (arith, length-numerals_of rows)) (omega arith) (omega arith)
    (omega arith) end

pub loop-i-preserved : goal.loop-i-preserved
loop-i-preserved c =
    let rows = c.args.rows.now in
    let i = c.loop-i.i - 1 in
    let inside : i < length rows = omega arith in
    let next : 2 * c.loop-i.i ≡ 2 * i + 1 + 1 = omega arith in
    let old : EndsWith (numerals_of rows) (2 * i + 1 + 1) c.loop-i.at c.loop-i.row c.loop-i.begins = subst (λ k. EndsWith (numerals_of rows) k c.loop-i.at c.loop-i.row c.loop-i.begins) next c.loop-i.invariant in
    c.write_numeral-at-in-loop-i.ensures.written (numerals_of rows) (search (rules, column_numeral rows i _ inside refl))
    (c.write_numeral-at.ensures.written (numerals_of rows) (search (rules, row_numeral rows i _ inside refl)) old)

pub returns : goal.returns
returns c =
    let ns = numerals_of c.args.rows.now in
    let first : 2 * c.loop-i.i ≡ 0 = omega arith in
    let all : EndsWith ns 0 c.loop-i.at c.loop-i.row c.loop-i.begins = subst (λ k. EndsWith ns k c.loop-i.at c.loop-i.row c.loop-i.begins) first c.loop-i.invariant in
    all_written ns c.loop-i.at c.loop-i.row c.loop-i.begins (omega (arith, length-numerals_of c.args.rows.now)) all
