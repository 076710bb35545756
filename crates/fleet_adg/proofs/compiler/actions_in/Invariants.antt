use Rattle.std.proofs.Common.{◌≡◌, ◌+◌, sum_by, take}
use Rattle.fleet_adg.proofs.compiler.actions_in.Given as goal

abbrev pub invariant-loop-row : goal.invariant-loop-row
invariant-loop-row l = l.actions ≡ sum_by (λ row. row.count + l.stays) (take l.row-index l.rows)
