use Rattle.fleet_search.proofs.Entering.{AreEntered}
use Rattle.fleet_search.proofs.reservations.ReservationTable.add_all.Given as goal

abbrev pub invariant-loop-time : goal.invariant-loop-time
invariant-loop-time l = AreEntered l.paths l.path l.fn.self l.self l.from l.time
