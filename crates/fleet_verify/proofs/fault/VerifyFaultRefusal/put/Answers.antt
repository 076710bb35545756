use Rattle.fleet_verify.proofs.fault.VerifyFaultRefusal.put.Goals as goal

pub returns-in-Step : goal.returns-in-Step
returns-in-Step g c = rw c.in-Step.is c.put_action.ensures

pub returns-in-AwaitRange : goal.returns-in-AwaitRange
returns-in-AwaitRange g c = rw c.in-AwaitRange.is c.put_action-in-AwaitRange.ensures

pub returns-in-Unordered : goal.returns-in-Unordered
returns-in-Unordered g c = rw c.in-Unordered.is c.put_unordered.ensures
