use Rattle.std.proofs.Common.{◌+◌, ◌*◌, ◌∙◌, sym, arith}
use Rattle.std.proofs.lemmas.List.{take_rest}
use Rattle.fleet_text.proofs.TextLaws.{number_begins, number_goes_on, number_ends}
use Rattle.fleet_text.proofs.numbers.short_number_front.Goals as goal

pub returns-in_default-digit_of : goal.returns-in_default-digit_of
returns-in_default-digit_of c =
    let text = c.args.text.now in
    let one = c.in_ok-one.one in
    let some = c.in-len5-up.len_at_least in
    rw take_rest (number_begins text one (omega (arith, some)) c.in_ok-one.ensures.some
    ∙ number_ends text 1 one (omega (arith, c.in_ok-one.ensures.few)) (omega (arith, some)) c.in_default-digit_of.ensures.none)

pub returns-in_default-digit_of-2 : goal.returns-in_default-digit_of-2
returns-in_default-digit_of-2 c =
    let text = c.args.text.now in
    let one = c.in_ok-one.one in
    let two = 10 * one + c.in-Some.b in
    let some = c.in-len5-up.len_at_least in
    rw take_rest (number_begins text one (omega (arith, some)) c.in_ok-one.ensures.some
    ∙ number_goes_on text 1 one c.in-Some.b (omega (arith, some)) c.in-Some.ensures.some
    ∙ number_ends text 2 two (omega (arith, c.in_ok-one.ensures.few, c.in-Some.ensures.few)) (omega (arith, some)) c.in_default-digit_of-2.ensures.none)

pub returns-in_default-digit_of-3 : goal.returns-in_default-digit_of-3
returns-in_default-digit_of-3 c =
    let text = c.args.text.now in
    let one = c.in_ok-one.one in
    let two = 10 * one + c.in-Some.b in
    let three = 10 * two + c.in-Some-digit_of.c in
    let some = c.in-len5-up.len_at_least in
    rw take_rest (number_begins text one (omega (arith, some)) c.in_ok-one.ensures.some
    ∙ number_goes_on text 1 one c.in-Some.b (omega (arith, some)) c.in-Some.ensures.some
    ∙ number_goes_on text 2 two c.in-Some-digit_of.c (omega (arith, some)) c.in-Some-digit_of.ensures.some
    ∙ number_ends text 3 three (omega (arith, c.in_ok-one.ensures.few, c.in-Some.ensures.few, c.in-Some-digit_of.ensures.few)) (omega (arith, some)) c.in_default-digit_of-3.ensures.none)

pub returns : goal.returns
returns c =
    let text = c.args.text.now in
    let one = c.in_ok-one.one in
    let two = 10 * one + c.in-Some.b in
    let three = 10 * two + c.in-Some-digit_of.c in
    let four = 10 * three + c.in-Some-digit_of-2.d in
    let some = c.in-len5-up.len_at_least in
    rw take_rest (number_begins text one (omega (arith, some)) c.in_ok-one.ensures.some
    ∙ number_goes_on text 1 one c.in-Some.b (omega (arith, some)) c.in-Some.ensures.some
    ∙ number_goes_on text 2 two c.in-Some-digit_of.c (omega (arith, some)) c.in-Some-digit_of.ensures.some
    ∙ number_goes_on text 3 three c.in-Some-digit_of-2.d (omega (arith, some)) c.in-Some-digit_of-2.ensures.some
    ∙ number_ends text 4 four (omega (arith, c.in_ok-one.ensures.few, c.in-Some.ensures.few, c.in-Some-digit_of.ensures.few, c.in-Some-digit_of-2.ensures.few)) (omega (arith, some)) (sym c.is_ascii_digit.ensures.value ∙ c.if-is_ascii_digit.false))
