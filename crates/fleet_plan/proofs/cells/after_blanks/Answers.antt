use Rattle.fleet_plan.proofs.Words.{◌∙◌, sym, take_rest}
use Rattle.fleet_plan.proofs.FrontSteps.{blanks_end, no_blank_stays, blank_goes}
use Rattle.fleet_plan.proofs.cells.after_blanks.Goals as goal

pub returns-then-not-is_blank : goal.returns-then-not-is_blank
returns-then-not-is_blank c =
    sym (no_blank_stays c.loop-rest.rest.now c.in-len1-up.len_at_least (sym c.is_blank.ensures ∙ c.if-not-is_blank.true)) ∙ c.loop-rest.invariant

pub loop-rest-preserved : goal.loop-rest-preserved
loop-rest-preserved c =
    rw take_rest (blank_goes c.loop-rest.rest.now c.in-len1-up.len_at_least (sym c.is_blank.ensures ∙ c.if-not-is_blank.false) ∙ c.loop-rest.invariant)

pub returns : goal.returns
returns c = sym (blanks_end c.loop-rest.rest.now c.in_default.len_below) ∙ c.loop-rest.invariant
