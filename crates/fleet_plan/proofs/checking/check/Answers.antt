use Rattle.fleet_grid.specs.Ground.{is_passable}
use Rattle.fleet_plan.proofs.FaultLaws.{not_free}
use Rattle.fleet_plan.proofs.checking.check.Goals as goal

pub returns-in-Err-clause-wrong : goal.returns-in-Err-clause-wrong
returns-in-Err-clause-wrong c = λ known. not_free (is_passable c.args.grid.now) c.args.instance.now c.args.plan c.in-Err.fault (c.in-Err.ensures.fault known)
