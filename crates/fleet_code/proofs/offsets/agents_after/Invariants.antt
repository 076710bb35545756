use Rattle.fleet_code.proofs.Words.{◌≤◌, ◌-◌, [], length, agents_at, with_parts}
use Rattle.fleet_code.proofs.OffsetLoop.{PartsGoOn}
use Rattle.fleet_code.proofs.offsets.agents_after.Given as goal

abbrev pub invariant-loop-own : goal.invariant-loop-own
invariant-loop-own l = record {
  so_far : PartsGoOn l.head.version l.head.whole l.head.agents l.own l.total l.rest l.parts.items (l.head.whole - length l.rest) (with_parts l.head.version [] (l.head.whole - length l.bytes) (agents_at l.head.version l.head.agents l.head.whole l.head.agents 0 0 l.bytes));
  few : l.total ≤ 4194304;
  shorter : length l.rest ≤ length l.bytes;
}
