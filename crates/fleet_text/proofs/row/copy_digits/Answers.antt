use Rattle.std.proofs.Common.{◌+◌, ◌++◌, ◌∷◌, [], take, ap, sym, ◌∙◌, arith, append_assoc}
use Rattle.fleet_text.specs.Words.{digit_words}
use Rattle.fleet_text.proofs.NumberedLemmas.{digit_words_more}
use Rattle.fleet_text.proofs.row.copy_digits.Goals as goal

pub loop-k-preserved : goal.loop-k-preserved
loop-k-preserved c =
    let k = c.loop-k.k in
    let old = take c.args.begin c.args.bytes.now in
    let front = take c.args.front c.args.piece.now in
    let words = digit_words front c.args.digit k in
    record {
      end = omega (arith, c.loop-k.invariant.end, c.copy_front-at.ensures.end, c.copy_byte-at.ensures.end);
      len = c.copy_byte-at.ensures.len ∙ (c.copy_front-at.ensures.len ∙ c.loop-k.invariant.len);
      written =
          c.copy_byte-at.ensures.written
          ∙ (ap (λ l. l ++ (c.args.digit + k) ∷ []) (c.copy_front-at.ensures.written ∙ ap (λ l. l ++ front) c.loop-k.invariant.written)
          ∙ (append_assoc (old ++ words) front ((c.args.digit + k) ∷ [])
          ∙ (append_assoc old words (front ++ (c.args.digit + k) ∷ [])
          ∙ ap (λ l. old ++ l) (sym (digit_words_more front c.args.digit k)))));
    }
