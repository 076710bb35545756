use Rattle.std.proofs.Common.{◌≡◌, ◌∙◌, pos, rules}
use Rattle.fleet_run.proofs.Patched.{digit_over, digit_room}
use Rattle.fleet_run.proofs.line.patch_digit.Goals as goal

pub overflow_sub-digit : goal.overflow_sub-digit
overflow_sub-digit c =
    let m = c.in-Some-Some.m in
    let n = c.in-Some-Some.n in
    let is_old : c.args.old ≡ pos m = search rules in
    let is_new : c.args.new ≡ pos n = search rules in
    digit_room c.args.old c.args.new m n c.from.result is_old is_new c.requires.close (c.from.ensures ∙ c.requires.digit m is_old c.in-Some-Some.ensures.some.1)

pub returns-clause-patched : goal.returns-clause-patched
returns-clause-patched c =
    λ _.
    let m = c.in-Some-Some.m in
    let n = c.in-Some-Some.n in
    let is_old : c.args.old ≡ pos m = search rules in
    let is_new : c.args.new ≡ pos n = search rules in
    digit_over c.args.old c.args.new m n c.from.result is_old is_new c.requires.close (c.from.ensures ∙ c.requires.digit m is_old c.in-Some-Some.ensures.some.1)
    c.args.at c.args.row.now c.in-Some-Some.ensures.some.1 c.in-Some-Some.ensures'.some.1 (c.is_digit.ensures.0 c.if-not-is_digit.false)
