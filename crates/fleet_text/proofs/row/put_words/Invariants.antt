use Rattle.std.proofs.Common.{◌≡◌, ◌∷◌, map, take}
use Rattle.fleet_text.specs.declared.row.Word.{Word}
use Rattle.fleet_text.specs.Row.{PassesOn}
use Rattle.fleet_text.specs.Words.{word_text, with_spaces}
use Rattle.fleet_text.proofs.row.put_words.Given as goal

abbrev pub invariant-loop-word : goal.invariant-loop-word
invariant-loop-word g l = record {
  written : (first : Word) × (l.words ≡ first ∷ l.rest)
      × PassesOn (g.O.TraceOut.state l.fn.out) (g.O.TraceOut.state l.out) l.fn.row l.row (with_spaces (map word_text (first ∷ take l.word-index l.rest)));
}
