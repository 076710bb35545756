use Rattle.fleet_dispatch.proofs.fault.DispatchFaultRefusal.put.Goals as goal

pub returns-in-NotOrdered : goal.returns-in-NotOrdered
returns-in-NotOrdered g c = rw c.in-NotOrdered.is c.put_named_by.ensures

pub returns-in-OtherLog : goal.returns-in-OtherLog
returns-in-OtherLog g c = rw c.in-OtherLog.is c.put_named-in-OtherLog.ensures
