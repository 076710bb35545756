use Rattle.fleet_verify.proofs.Words.{sym, CELLS}
use Rattle.fleet_verify.proofs.LastVisits.{stands_at, inserted_at, inserted_same, no_square}
use Rattle.fleet_verify.proofs.last_visits.look_up_square.Goals as goal

pub returns-in-Some-clause-at : goal.returns-in-Some-clause-at
returns-in-Some-clause-at c = stands_at c.args.squares.now c.args.number c.in-Some.slot (sym c.in-Some.ensures.index)

pub returns-clause-at : goal.returns-clause-at
returns-clause-at c = inserted_at c.args.squares.now c.insert_full.new.self c.args.number c.in_ok-slot.slot _ c.in_ok-slot.ensures.index c.in_ok-slot.ensures.entries

pub returns-clause-same : goal.returns-clause-same
returns-clause-same c =
    inserted_same c.args.squares.now c.insert_full.new.self c.args.number CELLS c.in_ok-slot.ensures.updates (no_square c.args.squares.now c.args.number c.in_default.ensures.found)
