use Rattle.fleet_dispatch.proofs.Cited.{◌≡◌, ◌≢◌, ◌∙◌, ◌∷◌, ◌++◌, [], ℕ, length, drop, arith, ap, sym, eqb-true, eqb-false, drop_all, Words, log_line}
use Rattle.fleet_dispatch.proofs.LogText.{spaced, empty_line, whole_line}
use Rattle.fleet_dispatch.proofs.log_text.write_log_line.Goals as goal

pub returns-then-is_empty-clause-written : goal.returns-then-is_empty-clause-written
returns-then-is_empty-clause-written c =
    let none : length c.words-words.result.now ≡ 0 = eqb-true _ _ (sym c.if-is_empty.ensures) in
    empty_line c.args.report.now _ _ _ (ap length (sym c.words-words.ensures.words) ∙ none) (drop_all 22529 c.args.row.now (omega arith)) c.write_byte-at.ensures.written c.write_byte.ensures.written

pub loop-i-init : goal.loop-i-init
loop-i-init c =
    let over = drop_all 22529 c.args.row.now (omega arith) in
    let past = drop_all (length c.words-words.result.now) c.words-words.result.now (omega arith) in
    record {
      room = omega (arith, c.words-words.ensures.few);
      high = omega arith;
      row = omega arith;
      written = c.write_byte-at.ensures.written ∙ ap (λ x. 10 ∷ x) over ∙ ap (λ (x : Words). spaced x ++ 10 ∷ []) (sym past);
    }

pub returns-clause-written : goal.returns-clause-written
returns-clause-written c =
    let some : length c.words-words.result.now ≢ 0 = eqb-false _ _ (sym c.if-is_empty.ensures) in
    let first : c.loop-i.i ≡ 0 = omega (arith, c.loop-i-test.false) in
    let all = c.loop-i.invariant.written ∙ ap (λ (k : ℕ). spaced (drop k c.words-words.result.now) ++ 10 ∷ []) first in
    whole_line c.words-words.result.now c.loop-i.row c.loop-i.at (omega (arith, some)) all ∙ ap log_line c.words-words.ensures.words
