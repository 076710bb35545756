use Rattle.std.specs.Str.Lines.{strip_carriage_return}
use Rattle.std.proofs.Common.{◌<◌, ◌∙◌, List, refl, [], ◌∷◌, length, sym, ap, rules, arith}
use Rattle.std.proofs.lemmas.List.{take_rest, drop_all}
use Rattle.fleet_text.specs.Text.{Bytes, lines}
use Rattle.fleet_text.proofs.TextLaws.{lines_first, lines_last, lines_none}
use Rattle.fleet_text.proofs.lines.next_line.Goals as goal

pub returns-then-is_empty : goal.returns-then-is_empty
returns-then-is_empty c = lines_none c.args.text.now (search rules)

pub returns-in-Some : goal.returns-in-Some
returns-in-Some c =
    rw (take_rest, c.without_cr.ensures) (lines_first c.args.text.now c.in-Some.end (sym c.in-Some.ensures))

pub returns-in-None : goal.returns-in-None
returns-in-None c =
    let text = c.args.text.now in
    let some : 0 < length text = search rules in
    rw (take_rest, c.without_cr-in-None.ensures) (lines_last text some (sym c.in-None.ensures) ∙ ap (λ (ls : List Bytes). strip_carriage_return text ∷ ls) (sym (ap lines (drop_all (length text) text (omega arith)) ∙ lines_none [] refl)))
