use Rattle.std.proofs.Common.{option_and_then, ◌+◌, ◌*◌, drop, ◌∙◌, sym, ap, refl, arith}
use Rattle.std.proofs.lemmas.List.{take_rest}
use Rattle.fleet_text.specs.Text.{small_only, small_number_front}
use Rattle.fleet_text.proofs.TextLaws.{no_number_in_nothing, no_digit_no_number, first_digit, small_at_end, small_stays, digit_taken, stays_too_large}
use Rattle.fleet_text.proofs.numbers.any_number_front.Goals as goal

pub returns-in_default : goal.returns-in_default
unfolding small_number_front
returns-in_default c = rw (no_number_in_nothing c.args.text.now c.in_default.len_below) refl

pub returns-then-not-is_ascii_digit : goal.returns-then-not-is_ascii_digit
unfolding small_number_front
returns-then-not-is_ascii_digit c =
    rw (no_digit_no_number c.args.text.now c.in-len1-up.len_at_least (sym c.is_ascii_digit.ensures.value ∙ c.if-not-is_ascii_digit.true)) refl

pub loop-rest-init : goal.loop-rest-init
unfolding small_number_front
loop-rest-init c =
    record {
      small = omega (arith, c.from-number.ensures);
      so_far = rw (take_rest, c.from-number.ensures) (ap (option_and_then small_only) (first_digit c.args.text.now c.in-len1-up.len_at_least (sym c.is_ascii_digit.ensures.value ∙ c.if-not-is_ascii_digit.false)));
    }

pub returns-then-not-is_ascii_digit-2 : goal.returns-then-not-is_ascii_digit-2
returns-then-not-is_ascii_digit-2 c =
    small_stays c.loop-rest.number c.loop-rest.rest.now c.loop-rest.invariant.small c.in-len1-up-rest.len_at_least (sym c.is_ascii_digit-in-len1-up-rest.ensures.value ∙ c.if-not-is_ascii_digit-2.true) ∙ c.loop-rest.invariant.so_far

pub returns-then-is_too_large : goal.returns-then-is_too_large
returns-then-is_too_large c =
    rw c.from.ensures at (stays_too_large (10 * c.loop-rest.number + c.from.result) (drop 1 c.loop-rest.rest.now) c.if-is_too_large.true)
    ∙ ap small_only (digit_taken c.loop-rest.number c.loop-rest.rest.now c.in-len1-up-rest.len_at_least (sym c.is_ascii_digit-in-len1-up-rest.ensures.value ∙ c.if-not-is_ascii_digit-2.false))
    ∙ c.loop-rest.invariant.so_far

pub loop-rest-preserved : goal.loop-rest-preserved
loop-rest-preserved c =
    record {
      small = omega (arith, c.if-is_too_large.false);
      so_far = rw (take_rest, c.from.ensures) (ap small_only (digit_taken c.loop-rest.number c.loop-rest.rest.now c.in-len1-up-rest.len_at_least (sym c.is_ascii_digit-in-len1-up-rest.ensures.value ∙ c.if-not-is_ascii_digit-2.false)) ∙ c.loop-rest.invariant.so_far);
    }

pub returns : goal.returns
returns c = small_at_end c.loop-rest.number c.loop-rest.rest.now c.loop-rest.invariant.small c.in_default-rest.len_below ∙ c.loop-rest.invariant.so_far
