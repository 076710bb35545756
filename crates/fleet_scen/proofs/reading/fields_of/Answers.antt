use Rattle.std.proofs.Common.{◌∙◌, refl, sym}
use Rattle.fleet_text.specs.Text.{words}
use Rattle.fleet_scen.proofs.FieldLaws.{fields_are}
use Rattle.fleet_scen.proofs.reading.fields_of.Goals as goal

pub returns-in_err-width : goal.returns-in_err-width
returns-in_err-width c = rw c.from_residual-in_err-width.ensures (sym (fields_are (words c.args.line.now) ∙ rw (sym c.in_ok-_bucket.ensures, sym c.in_err-width.ensures) refl))

pub returns-in_err-start_x : goal.returns-in_err-start_x
returns-in_err-start_x c = rw c.from_residual-in_err-start_x.ensures (sym (fields_are (words c.args.line.now) ∙ rw (sym c.in_ok-_bucket.ensures, sym c.in_ok-width.ensures, sym c.in_err-start_x.ensures) refl))

pub returns-in_err-goal_x : goal.returns-in_err-goal_x
returns-in_err-goal_x c = rw c.from_residual-in_err-goal_x.ensures (sym (fields_are (words c.args.line.now) ∙ rw (sym c.in_ok-_bucket.ensures, sym c.in_ok-width.ensures, sym c.in_ok-start_x.ensures, sym c.in_err-goal_x.ensures) refl))

pub returns-then-not-is_one_word : goal.returns-then-not-is_one_word
returns-then-not-is_one_word c = sym (fields_are (words c.args.line.now) ∙ rw (sym c.in_ok-_bucket.ensures, sym c.in_ok-width.ensures, sym c.in_ok-start_x.ensures, sym c.in_ok-goal_x.ensures, sym c.is_one_word.ensures, c.if-not-is_one_word.true) refl)

pub returns : goal.returns
returns c = sym (fields_are (words c.args.line.now) ∙ rw (sym c.in_ok-_bucket.ensures, sym c.in_ok-width.ensures, sym c.in_ok-start_x.ensures, sym c.in_ok-goal_x.ensures, sym c.is_one_word.ensures, c.if-not-is_one_word.false) refl)

pub returns-in_err-_bucket : goal.returns-in_err-_bucket
returns-in_err-_bucket c = rw c.from_residual.ensures (sym (fields_are (words c.args.line.now) ∙ rw (sym c.in_err-_bucket.ensures) refl))
