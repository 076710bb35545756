use Rattle.std.proofs.Common.{sym, ◌∙◌, ap, arith, length}
use Rattle.std.proofs.lemmas.List.{take_rest, drop_all}
use Rattle.fleet_text.specs.Text.{words}
use Rattle.fleet_text.proofs.TextLaws.{words_nil, front_blank}
use Rattle.fleet_text.proofs.lines.from_front.Goals as goal

pub returns-in-len1-up : goal.returns-in-len1-up
returns-in-len1-up c =
    let line = c.args.line.now in
    rw take_rest (ap words (drop_all (length line) line (omega arith)) ∙ words_nil ∙ sym (front_blank line c.in-len1-up.len_at_least (sym c.is_blank.ensures ∙ c.if-is_blank.true)))
