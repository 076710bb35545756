use Rattle.std.proofs.Common.{◌++◌, ℕ, length, drop, ap, sym, ◌∙◌, arith}
use Rattle.std.proofs.lemmas.Fmt.{length-decimal-le}
use Rattle.fleet_text.specs.Words.{tens_text}
use Rattle.fleet_text.proofs.DigitLemmas.{tens_text_of}
use Rattle.fleet_text.proofs.numbered.write_tens.Goals as goal

pub returns-then-tens-eq0-clause-start : goal.returns-then-tens-eq0-clause-start
returns-then-tens-eq0-clause-start c = let none = ap (λ (t : ℕ). length (tens_text t)) c.if-tens-eq0.true in omega (arith, none)

pub returns-then-tens-eq0-clause-written : goal.returns-then-tens-eq0-clause-written
returns-then-tens-eq0-clause-written c = ap (λ (t : ℕ). tens_text t ++ drop c.args.end c.args.row.now) (sym c.if-tens-eq0.true)

pub write_number-requires-clause-room : goal.write_number-requires-clause-room
write_number-requires-clause-room c = let few = length-decimal-le 9 c.args.tens (omega arith) (omega arith) (omega arith) in omega (arith, few)

pub returns-clause-start : goal.returns-clause-start
returns-clause-start c = let same = ap length (tens_text_of c.args.tens (omega (arith, c.if-tens-eq0.false))) in omega (arith, same, c.write_number.ensures.start)

pub returns-clause-written : goal.returns-clause-written
returns-clause-written c = c.write_number.ensures.written ∙ ap (λ ds. ds ++ drop c.args.end c.args.row.now) (sym (tens_text_of c.args.tens (omega (arith, c.if-tens-eq0.false))))
