-- Lines of a log, written from their ends.
use Rattle.fleet_dispatch.proofs.Cited.{◌≡◌, ℕ, ◌+◌, ◌<◌, ◌++◌, [], ◌∷◌, length, map, drop, refl, ap, sym, ◌∙◌, arith, append-nil, flat_map, join_with_byte, drop-drop, Bytes, Reported, Words, word_text, log_line}

-- each word after a space
abbrev pub spaced : Words → Bytes
spaced words = flat_map (λ w. 32 ∷ word_text w) words

pub spaced_is : (w : Reported) (words : Words) → spaced (w ∷ words) ≡ 32 ∷ join_with_byte 32 (map word_text (w ∷ words))
spaced_is w [] = ap (λ (x : Bytes). 32 ∷ x) (append-nil (word_text w))
spaced_is w (x ∷ words) = ap (λ (r : Bytes). 32 ∷ (word_text w ++ r)) (spaced_is x words)

-- ---- a line, from its end

pub empty_line : (words : Words) (rest r1 r2 : Bytes) → length words ≡ 0 → rest ≡ [] → r1 ≡ 10 ∷ rest → r2 ≡ 45 ∷ r1 → r2 ≡ log_line words
empty_line [] rest r1 r2 none over a b = rw (b, a, over) refl
empty_line (w ∷ words) rest r1 r2 none over a b = absurd (omega arith)

-- all words are written, each after its space; the first space is left out
pub whole_line : (words : Words) (row : Bytes) (at : ℕ) → 0 < length words → drop at row ≡ spaced words ++ 10 ∷ [] → drop (at + 1) row ≡ log_line words
whole_line [] row at some e = absurd (omega arith)
whole_line (w ∷ words) row at some e =
    sym (drop-drop 1 at row) ∙ ap (drop 1) (e ∙ ap (λ (x : Bytes). x ++ 10 ∷ []) (spaced_is w words))
