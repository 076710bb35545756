use Rattle.std.proofs.Common.{◌≡◌, ◌≤◌, ◌-◌, ◌+◌, length, option_map}
use Rattle.std.specs.Prelude.{position}
use Rattle.fleet_text.proofs.lines.first_of.Given as goal

abbrev pub invariant-loop-block : goal.invariant-loop-block
invariant-loop-block g l = record {
  within : length l.rest ≤ length l.text;
  so_far : option_map (λ i. length l.text - length l.rest + i) (position g.C.ByteClass.test l.rest) ≡ position g.C.ByteClass.test l.text;
}

abbrev pub decreases-loop-block : goal.decreases-loop-block
decreases-loop-block g l = length l.rest
