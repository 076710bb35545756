use Rattle.std.proofs.Common.{length, ◌-◌, ◌≤◌, take}
use Rattle.fleet_text.specs.Sink.{Takes}
use Rattle.fleet_text.proofs.sink.put_all.Given as goal

abbrev pub invariant-loop-at : goal.invariant-loop-at
invariant-loop-at g l = record {
  within : l.at ≤ length l.bytes;
  so_far : Takes (g.O.TraceOut.state l.initial.out) (g.O.TraceOut.state l.out) (take l.at l.bytes);
}

abbrev pub decreases-loop-at : goal.decreases-loop-at
decreases-loop-at g l = length l.bytes - l.at
