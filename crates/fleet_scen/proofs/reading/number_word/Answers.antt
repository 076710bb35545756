use Rattle.std.proofs.Common.{sym, ap, ◌∙◌}
use Rattle.fleet_scen.specs.Fields.{next_number}
use Rattle.fleet_scen.proofs.WordLaws.{number_first, blank_before, blank_before_word}
use Rattle.fleet_scen.proofs.reading.number_word.Goals as goal

pub returns-then-ends_word-clause-some : goal.returns-then-ends_word-clause-some
returns-then-ends_word-clause-some c =
    ap next_number (sym c.past_blank.ensures.words) ∙ number_first c.past_blank.result.now (c.in_ok-number.number, c.in_ok-number.rest.now) (sym c.in_ok-number.ensures) (sym c.ends_word.ensures ∙ c.if-ends_word.true)

pub returns-in_err-number-clause-none : goal.returns-in_err-number-clause-none
returns-in_err-number-clause-none c =
    rw c.from_residual.ensures (blank_before c.args.line.now c.past_blank.result.now c.past_blank.ensures.line c.past_blank.ensures.words (sym c.in_err-number.ensures))

pub returns-else-ends_word-clause-none : goal.returns-else-ends_word-clause-none
returns-else-ends_word-clause-none c =
    blank_before_word c.args.line.now c.past_blank.result.now c.past_blank.ensures.line c.past_blank.ensures.words c.in_ok-number.number c.in_ok-number.rest.now (sym c.in_ok-number.ensures) (sym c.ends_word.ensures ∙ c.if-ends_word.false)
