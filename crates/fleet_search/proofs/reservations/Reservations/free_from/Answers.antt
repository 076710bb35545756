use Rattle.fleet_search.proofs.Words.{sym, subst, arith, AreOccupanciesOn, no_occupancy}
use Rattle.fleet_search.proofs.ReservationTables.{never_visited, never_free, free_from-last}
use Rattle.fleet_search.proofs.reservations.Reservations.free_from.Goals as goal

pub returns-in-None-clause-some : goal.returns-in-None-clause-some
returns-in-None-clause-some c =
    let h = subst (AreOccupanciesOn c.args.self.now c.args.cell) (sym c.occupancies.ensures) (c.table.ensures c.args.cell) in
    never_visited c.args.self.now c.args.cell c.occupancies.result.now h (omega (arith, c.in-None.ensures.item.3))

pub returns-then-is_forever-clause-none : goal.returns-then-is_forever-clause-none
returns-then-is_forever-clause-none c =
    let h = subst (AreOccupanciesOn c.args.self.now c.args.cell) (sym c.occupancies.ensures) (c.table.ensures c.args.cell) in
    let last = c.in-Some.ensures.item.3 in
    never_free c.args.self.now c.args.cell c.occupancies.result.now h c.in-Some.occupancy.now last.0 (last.1 no_occupancy) c.if-is_forever.true

pub returns-else-is_forever-clause-some : goal.returns-else-is_forever-clause-some
returns-else-is_forever-clause-some c =
    let h = subst (AreOccupanciesOn c.args.self.now c.args.cell) (sym c.occupancies.ensures) (c.table.ensures c.args.cell) in
    let last = c.in-Some.ensures.item.3 in
    free_from-last c.args.self.now c.args.cell c.occupancies.result.now h c.in-Some.occupancy.now last.0 (last.1 no_occupancy) c.if-is_forever.false
