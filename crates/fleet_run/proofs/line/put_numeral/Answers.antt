use Rattle.fleet_run.proofs.Words.{◌≡◌, ◌∙◌, ◌-◌, arith, append-nil, drop, rules, length-drop, take_all, numeral, numeral_text}
use Rattle.fleet_run.proofs.line.put_numeral.Goals as goal

pub returns-clause-kept : goal.returns-clause-kept
returns-clause-kept c =
    λ few ns kept inside.
    let h = c.write_separated-begin in
    let n = numeral c.args.separator c.args.value in
    let text : drop h.result h.new.row ≡ numeral_text n = search (rules, append-nil, h.ensures.written) in
    c.put_text.ensures.kept few ns n kept inside (take_all (12 - h.result) (drop h.result h.new.row) (omega (arith, length-drop h.result h.new.row, h.auto.row)) ∙ text)
