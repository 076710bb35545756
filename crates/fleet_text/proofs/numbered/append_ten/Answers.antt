use Rattle.std.proofs.Common.{◌≡◌, ◌+◌, ◌-◌, ◌/◌, ◌%◌, ◌++◌, replicate, take, drop, ap, ◌∙◌, arith}
use Rattle.fleet_text.specs.Words.{next_front, digit_words}
use Rattle.fleet_text.proofs.NumberedLemmas.{digits_are_words, written_front}
use Rattle.fleet_text.proofs.numbered.append_ten.Goals as goal

pub returns : goal.returns
returns c =
    let front = next_front c.args.owner (c.args.number / 10) in
    let start = c.write_front-start.result in
    let word = c.write_front-start.new.row in
    let piece = take (start + 16 - start) (drop start word) in
    let is : take (16 - start) piece ≡ front = written_front front word (replicate 32 0) start c.write_front-start.ensures.within (omega arith) c.write_front-start.ensures.written (omega arith) in
    c.append_digits.ensures
    ∙ ap (λ l. c.args.row.now ++ l)
    (ap (λ f. digit_words f (48 + c.args.number % 10) c.args.count) is ∙ digits_are_words c.args.owner c.args.number c.args.count c.requires.tens (omega (arith, c.requires.few, c.requires.tens)))
