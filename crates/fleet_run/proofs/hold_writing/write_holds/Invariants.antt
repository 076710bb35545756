use Rattle.fleet_run.proofs.Words.{◌≡◌, take, map, holds_text}
use Rattle.fleet_run.proofs.hold_writing.write_holds.Given as goal

abbrev pub invariant-loop-held : goal.invariant-loop-held
invariant-loop-held l = l.text.items ≡ holds_text (map (λ row. row.items) (take l.held-index l.holds))
