use Rattle.std.proofs.Common.{[]}
use Rattle.fleet_text.proofs.SinkLemmas.{takes_err, takes_handed}
use Rattle.fleet_text.proofs.row.put_line.Goals as goal

pub returns : goal.returns
returns g c = takes_handed _ _ _ _ [] _ _ (rw c.new-row.ensures at c.in_ok-add_line.ensures) c.hand_on.ensures.taken

pub returns-in_err-add_line : goal.returns-in_err-add_line
returns-in_err-add_line g c = takes_err _ _ _ _ c.from_residual.ensures.0 (rw c.new-row.ensures at c.in_err-add_line.ensures)
