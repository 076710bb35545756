use Rattle.std.proofs.Common.{◌∷◌, []}
use Rattle.fleet_text.proofs.SinkLemmas.{takes_handed}
use Rattle.fleet_text.proofs.row.Row.end_line.Goals as goal

pub returns : goal.returns
returns g c = takes_handed _ _ _ _ _ _ (10 ∷ []) c.in_ok-add.ensures c.hand_on.ensures.taken
