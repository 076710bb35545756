use Rattle.fleet_run.proofs.Words.{◌≡◌, ◌+◌, arith, pos, rules, get_or, numeral}
use Rattle.fleet_run.proofs.Lines.{numeral_there, overwritten}
use Rattle.fleet_run.proofs.Patched.{last_digit, last_patched}
use Rattle.fleet_run.proofs.line.patch.Goals as goal

pub patch_digit-requires-clause-digit : goal.patch_digit-requires-clause-digit
patch_digit-requires-clause-digit c =
    λ m is few.
    let k = c.args.at in
    let ns = c.requires.kept.0 in
    let separator = c.requires.kept.1 in
    let kept = c.requires.kept.2 in
    let at = c.requires.kept.3 in
    let there = numeral_there ns k (numeral separator c.args.old) c.args.row.now c.args.begins.now kept at in
    let is_old : c.args.old ≡ pos m = search (rules, is) in
    rw c.from-end.ensures (last_digit separator m c.args.old c.args.row.now (get_or c.args.begins.now k 0) (get_or c.args.begins.now (k + 1) 0) is_old few there.0 there.1
    (omega (arith, kept.room, kept.within (k + 1) (omega (arith, at.inside)))))

pub returns-clause-kept : goal.returns-clause-kept
returns-clause-kept c =
    λ patched ns separator kept at.
    let k = c.args.at in
    let there = numeral_there ns k (numeral separator c.args.old) c.args.row.now c.args.begins.now kept at in
    let over = rw c.from-end.ensures at c.patch_digit.ensures.patched patched in
    let is_old : c.args.old ≡ pos over.m = search (rules, over.is_old) in
    let is_new : c.args.new ≡ pos over.n = search (rules, over.is_new) in
    let written = last_patched separator over.m c.args.old c.args.row.now (get_or c.args.begins.now k 0) (get_or c.args.begins.now (k + 1) 0) is_old over.few_old there.0 there.1
    (omega (arith, kept.room, kept.within (k + 1) (omega (arith, at.inside)))) over.n c.args.new is_new over.few_new over.tens in
    overwritten ns c.args.row.now c.patch_digit.new.row c.args.begins.now k (numeral separator c.args.new) kept at.inside (rw over.written written)
