use Rattle.std.proofs.Common.{ℕ, List, length, ap, arith}
use Rattle.fleet_verify.proofs.Climbing.{climbed_length}
use Rattle.fleet_verify.proofs.ahead.jump.Goals as goal

pub push-requires : goal.push-requires
push-requires c = omega (arith, ap (λ (row : List ℕ). length row) c.climb.ensures, climbed_length c.args.row.now c.args.finished c.requires.begun, c.requires.few)
