use Rattle.fleet_code.proofs.Words.{arith, get_or_default}
use Rattle.fleet_code.proofs.offsets.even_from.Goals as goal

pub returns-then-is_first-clause-fit : goal.returns-then-is_first-clause-fit
returns-then-is_first-clause-fit c = λ k d h. rw (get_or_default c.args.offsets.now k d 0 h) (omega (arith, c.type_inv.offsets k))

pub returns-clause-fit : goal.returns-clause-fit
returns-clause-fit c = λ k d h. rw (get_or_default c.args.offsets.now k d 0 h) (omega (arith, c.type_inv.offsets k))
