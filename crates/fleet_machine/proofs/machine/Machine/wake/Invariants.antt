use Rattle.fleet_machine.proofs.Waking.{IsWaking, standing_in}
use Rattle.fleet_machine.proofs.machine.Machine.wake.Given as goal

abbrev pub invariant-loop : goal.invariant-loop
invariant-loop l = IsWaking l.j l.fn.self l.self

abbrev pub decreases-loop : goal.decreases-loop
decreases-loop l = standing_in l.self
