use Rattle.std.proofs.Common.{◌≡◌, ◌≤◌, Some, option_map, length}
use Rattle.fleet_text.specs.Text.{digits_front, number_front, at_most}
use Rattle.fleet_text.proofs.numbers.number_front.Given as goal
use Rattle.fleet_text.specs.declared.numbers.TheConstants.{TOO_LONG}

abbrev pub invariant-loop-rest : goal.invariant-loop-rest
invariant-loop-rest l = record {
  small : l.number ≤ TOO_LONG;
  so_far : Some (at_most TOO_LONG (digits_front l.number l.rest)) ≡ option_map (at_most TOO_LONG) (number_front l.fn.text);
}

abbrev pub decreases-loop-rest : goal.decreases-loop-rest
decreases-loop-rest l = length l.rest
