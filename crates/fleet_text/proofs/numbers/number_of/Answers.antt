use Rattle.std.proofs.Common.{rules}
use Rattle.fleet_text.proofs.TextLaws.{no_number, all_number, number_and_more}
use Rattle.fleet_text.proofs.numbers.number_of.Goals as goal
use Rattle.fleet_text.specs.declared.numbers.TheConstants.{TOO_LONG}

pub returns-in_err-number : goal.returns-in_err-number
returns-in_err-number c = rw c.from_residual.ensures (no_number TOO_LONG c.args.word.now c.in_err-number.ensures)

pub returns-then-is_empty : goal.returns-then-is_empty
returns-then-is_empty c = all_number TOO_LONG c.args.word.now c.in_ok-number.number c.in_ok-number.rest.now c.in_ok-number.ensures (search rules)

pub returns-else-is_empty : goal.returns-else-is_empty
returns-else-is_empty c = number_and_more TOO_LONG c.args.word.now c.in_ok-number.number c.in_ok-number.rest.now c.in_ok-number.ensures (search rules)
