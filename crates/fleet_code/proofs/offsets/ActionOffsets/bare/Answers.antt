use Rattle.std.proofs.Common.{arith}
use Rattle.fleet_code.proofs.Even.{are_bare_offsets}
use Rattle.fleet_code.proofs.offsets.ActionOffsets.bare.Goals as goal

pub invariant_of-result : goal.invariant_of-result
invariant_of-result c = rw c.new.ensures.items (are_bare_offsets c.args.actions 1 (omega (arith, c.ranges.actions)))
