use Rattle.std.proofs.Common.{Some, None}
use Rattle.fleet_code.proofs.Bare.{none_above}
use Rattle.fleet_code.proofs.offsets.are_steps.Goals as goal

pub returns-in-None : goal.returns-in-None
returns-in-None c = rw c.in-One.is (none_above 3 c.args.actions.now None c.in-None.ensures)

pub returns-in_default : goal.returns-in_default
returns-in_default c = rw c.in-One.is (none_above 3 c.args.actions.now (Some c.in_default.field-0) c.in_default.ensures)

pub returns-in-None-matches : goal.returns-in-None-matches
returns-in-None-matches c = rw c.in-Two.is (none_above 4 c.args.actions.now None c.in-None-matches.ensures)

pub returns-in_default-matches : goal.returns-in_default-matches
returns-in_default-matches c = rw c.in-Two.is (none_above 4 c.args.actions.now (Some c.in_default-matches.field-0) c.in_default-matches.ensures)
