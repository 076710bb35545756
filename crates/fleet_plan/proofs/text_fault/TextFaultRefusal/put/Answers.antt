use Rattle.fleet_plan.proofs.text_fault.TextFaultRefusal.put.Goals as goal

pub returns-in-AgentCount : goal.returns-in-AgentCount
returns-in-AgentCount g c = rw c.in-AgentCount.is c.put_named.ensures
