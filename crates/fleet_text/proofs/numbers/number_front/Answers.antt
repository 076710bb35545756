use Rattle.std.proofs.Common.{Some, option_map, ◌∙◌, sym, ap, refl, arith}
use Rattle.std.proofs.lemmas.List.{take_rest}
use Rattle.fleet_text.specs.Text.{at_most}
use Rattle.fleet_text.proofs.TextLaws.{no_number_in_nothing, no_digit_no_number, first_digit, digits_end, no_digit_stays, digit_goes}
use Rattle.fleet_text.proofs.numbers.number_front.Goals as goal
use Rattle.fleet_text.specs.declared.numbers.TheConstants.{TOO_LONG}

pub returns-in_default : goal.returns-in_default
returns-in_default c = rw (no_number_in_nothing c.args.text.now c.in_default.len_below) refl

pub returns-then-not-is_ascii_digit : goal.returns-then-not-is_ascii_digit
returns-then-not-is_ascii_digit c =
    rw (no_digit_no_number c.args.text.now c.in-len1-up.len_at_least (sym c.is_ascii_digit.ensures.value ∙ c.if-not-is_ascii_digit.true)) refl

pub loop-rest-init : goal.loop-rest-init
loop-rest-init c =
    record {
      small = omega (arith, c.from-number.ensures);
      so_far = rw (take_rest, c.from-number.ensures) (ap (option_map (at_most TOO_LONG)) (first_digit c.args.text.now c.in-len1-up.len_at_least (sym c.is_ascii_digit.ensures.value ∙ c.if-not-is_ascii_digit.false)));
    }

pub returns-then-not-is_ascii_digit-2 : goal.returns-then-not-is_ascii_digit-2
returns-then-not-is_ascii_digit-2 c =
    ap (λ x. Some x) (no_digit_stays TOO_LONG c.loop-rest.number c.loop-rest.rest.now c.loop-rest.invariant.small c.in-len1-up-rest.len_at_least (sym c.is_ascii_digit-in-len1-up-rest.ensures.value ∙ c.if-not-is_ascii_digit-2.true)) ∙ c.loop-rest.invariant.so_far

pub loop-rest-preserved : goal.loop-rest-preserved
loop-rest-preserved c =
    record {
      small = omega (arith, c.min-number.ensures);
      so_far = rw (take_rest, c.min-number.ensures, c.from.ensures) (ap (λ x. Some x) (digit_goes TOO_LONG c.loop-rest.number c.loop-rest.rest.now c.in-len1-up-rest.len_at_least (sym c.is_ascii_digit-in-len1-up-rest.ensures.value ∙ c.if-not-is_ascii_digit-2.false)) ∙ c.loop-rest.invariant.so_far);
    }

pub returns : goal.returns
returns c = ap (λ x. Some x) (digits_end TOO_LONG c.loop-rest.number c.loop-rest.rest.now c.loop-rest.invariant.small c.in_default-rest.len_below) ∙ c.loop-rest.invariant.so_far
