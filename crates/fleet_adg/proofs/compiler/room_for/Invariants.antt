use Rattle.std.proofs.Common.{◌≡◌, ◌+◌, ◌<◌, sum_by, take, length}
use Rattle.std.specs.Prelude.{◌^◌}
use Rattle.fleet_code.specs.Offsets.{head_len}
use Rattle.fleet_adg.proofs.compiler.room_for.Given as goal

abbrev pub invariant-loop-row : goal.invariant-loop-row
invariant-loop-row l =
    6 + sum_by (λ row. length row.bytes + l.stays + head_len l.version) l.rows < 2 ^ 64
    → l.room ≡ 6 + sum_by (λ row. length row.bytes + l.stays + head_len l.version) (take l.row-index l.rows)
