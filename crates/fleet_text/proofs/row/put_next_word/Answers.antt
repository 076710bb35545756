use Rattle.std.proofs.Common.{◌∷◌, []}
use Rattle.fleet_text.proofs.SinkLemmas.{gathers_then, gathers_err, stops_before}
use Rattle.fleet_text.specs.Words.{word_text}
use Rattle.fleet_text.proofs.row.put_next_word.Goals as goal

pub returns-in_ok-add-in_default : goal.returns-in_ok-add-in_default
returns-in_ok-add-in_default g c = gathers_then _ _ _ _ _ _ _ (32 ∷ []) (word_text c.args.word) c.in_ok-add-in_default.ensures c.put_word.ensures

pub returns-in_err-add-in_default : goal.returns-in_err-add-in_default
returns-in_err-add-in_default g c = gathers_err _ _ _ _ _ _ c.from_residual.ensures.0 (stops_before _ _ _ _ (word_text c.args.word) c.in_err-add-in_default.ensures)
