use Rattle.std.proofs.Common.{◌∙◌, List, ◌∷◌, length, drop, sym, ap, arith}
use Rattle.std.proofs.lemmas.List.{take_rest, drop_all}
use Rattle.fleet_text.specs.Text.{Bytes, words}
use Rattle.fleet_text.proofs.TextLaws.{words_from, words_none, words_nil, begins, words_first, words_last}
use Rattle.fleet_text.proofs.lines.next_word.Goals as goal

pub returns-in_err-line : goal.returns-in_err-line
returns-in_err-line c = rw c.from_residual.ensures (words_none c.args.line.now (sym c.in_err-line.ensures))

pub returns-in-Some : goal.returns-in-Some
returns-in-Some c =
    let line = c.args.line.now in
    let start = c.in_ok-line.field-0 in
    let here = sym c.in_ok-line.ensures in
    let b = begins line start here in
    let w = sym c.word_end.ensures ∙ c.in-Some.is in
    words_from line start here ∙ rw (take_rest, take_rest) (words_first (drop start line) c.in-Some.end b.1 (rw take_rest at w))

pub returns-in-None : goal.returns-in-None
returns-in-None c =
    let line = c.args.line.now in
    let start = c.in_ok-line.field-0 in
    let here = sym c.in_ok-line.ensures in
    let b = begins line start here in
    let w = sym c.word_end.ensures ∙ c.in-None.is in
    let rest = drop start line in
    words_from line start here ∙ rw take_rest (words_last rest b.0 (rw take_rest at w) ∙ ap (λ (ws : List Bytes). rest ∷ ws) (sym (rw take_rest (ap words (drop_all (length rest) rest (omega arith)) ∙ words_nil))))
