use Rattle.std.proofs.Common.{◌≡◌, ◌≤◌, length}
use Rattle.fleet_text.specs.Text.{digits_front, small_number_front, small_only}
use Rattle.fleet_text.proofs.numbers.any_number_front.Given as goal

abbrev pub invariant-loop-rest : goal.invariant-loop-rest
invariant-loop-rest l = record {
  small : l.number ≤ 65535;
  so_far : small_only (digits_front l.number l.rest) ≡ small_number_front l.fn.text;
}

abbrev pub decreases-loop-rest : goal.decreases-loop-rest
decreases-loop-rest l = length l.rest
