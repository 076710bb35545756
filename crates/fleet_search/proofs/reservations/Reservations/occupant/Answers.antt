use Rattle.fleet_search.proofs.Words.{◌<◌, refl, sym, subst, arith, AreOccupanciesOn}
use Rattle.fleet_search.proofs.ReservationTables.{AreInOrder-occupancies, nobody_yet, is_there, gone}
use Rattle.fleet_search.proofs.reservations.Reservations.occupant.Goals as goal

pub count_begun-count-requires : goal.count_begun-count-requires
count_begun-count-requires c = AreInOrder-occupancies c.args.self.now c.args.cell c.occupancies-occupancies.result.now (subst (AreOccupanciesOn c.args.self.now c.args.cell) (sym c.occupancies-occupancies.ensures) (c.table.ensures c.args.cell))

pub returns-then-is_before_all-clause-none : goal.returns-then-is_before_all-clause-none
returns-then-is_before_all-clause-none c =
    let h = subst (AreOccupanciesOn c.args.self.now c.args.cell) (sym c.occupancies-occupancies.ensures) (c.table.ensures c.args.cell) in
    nobody_yet c.args.self.now c.args.cell c.occupancies-occupancies.result.now h c.args.time c.count_begun-count.result (omega arith) c.count_begun-count.ensures.point c.count_begun-count.ensures.bound (omega (arith, c.if-is_before_all.true))

pub returns-then-is_there-clause-some : goal.returns-then-is_there-clause-some
returns-then-is_there-clause-some c =
    let h = subst (AreOccupanciesOn c.args.self.now c.args.cell) (sym c.occupancies-occupancies.ensures) (c.table.ensures c.args.cell) in
    let some : 0 < c.count_begun-count.result = omega (arith, c.if-is_before_all.false) in
    is_there c.args.self.now c.args.cell c.occupancies-occupancies.result.now h c.args.time c.count_begun-count.result (omega arith) c.count_begun-count.ensures.point c.count_begun-count.ensures.bound _ refl some c.if-is_there.true

pub returns-else-is_there-clause-none : goal.returns-else-is_there-clause-none
returns-else-is_there-clause-none c =
    let h = subst (AreOccupanciesOn c.args.self.now c.args.cell) (sym c.occupancies-occupancies.ensures) (c.table.ensures c.args.cell) in
    let some : 0 < c.count_begun-count.result = omega (arith, c.if-is_before_all.false) in
    gone c.args.self.now c.args.cell c.occupancies-occupancies.result.now h c.args.time c.count_begun-count.result (omega arith) c.count_begun-count.ensures.point c.count_begun-count.ensures.bound _ refl some c.if-is_there.false
