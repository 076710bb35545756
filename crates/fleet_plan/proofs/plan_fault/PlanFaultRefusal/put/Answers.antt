use Rattle.fleet_plan.proofs.plan_fault.PlanFaultRefusal.put.Goals as goal

pub returns-in-Step : goal.returns-in-Step
returns-in-Step g c = rw c.in-Step.is c.put_named_by.ensures
