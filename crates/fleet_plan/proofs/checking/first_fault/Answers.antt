use Rattle.fleet_plan.proofs.Words.{arith, is_passable}
use Rattle.fleet_plan.proofs.FaultLaws.{free_from}
use Rattle.fleet_plan.proofs.checking.first_fault.Goals as goal

pub returns-in-None-clause-right : goal.returns-in-None-clause-right
returns-in-None-clause-right c = free_from (is_passable c.args.grid.now) c.args.instance.now c.args.plan.now
    (record { agents = omega (arith, c.if-is_other_fleet.false, c.agents.ensures.count, c.agents-2.ensures.count); starts = c.in_default.ensures.none; goals = c.in_default-first_wrong_goal.ensures.none })
    c.in_default-first_wrong_step.ensures.none
    (rw c.in-None.is at c.in_ok-conflict.ensures)
