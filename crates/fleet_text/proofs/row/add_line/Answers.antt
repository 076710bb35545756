use Rattle.std.proofs.Common.{◌∷◌, [], map}
use Rattle.fleet_text.specs.Words.{word_text, with_spaces}
use Rattle.fleet_text.proofs.SinkLemmas.{gathers_then, gathers_err, stops_before}
use Rattle.fleet_text.proofs.row.add_line.Goals as goal

pub returns : goal.returns
returns g c = gathers_then _ _ _ _ _ _ _ (with_spaces (map word_text c.args.words.now)) (10 ∷ []) c.in_ok-put_words.ensures c.add.ensures

pub returns-in_err-put_words : goal.returns-in_err-put_words
returns-in_err-put_words g c = gathers_err _ _ _ _ _ _ c.from_residual.ensures.0 (stops_before _ _ _ (with_spaces (map word_text c.args.words.now)) (10 ∷ []) c.in_err-put_words.ensures)
