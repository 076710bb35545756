use Rattle.fleet_search.proofs.Words.{◌+◌, ◌-◌, ◌<◌, length, sym, ap, subst, arith, AreInOrder, occupancy_at, AreBegun, occupancies_on}
use Rattle.fleet_search.proofs.IntervalLaws.{begun-point}
use Rattle.fleet_search.proofs.Occupants.{yes_from_true}
use Rattle.fleet_search.proofs.ReservationTables.{AreInOrder-occupancies}
use Rattle.fleet_search.proofs.Turning.{turning-begin, turning-more, turned, all_later}
use Rattle.fleet_search.proofs.frontier.Frontier.successors_at.Goals as goal

pub count_begun-first-requires : goal.count_begun-first-requires
count_begun-first-requires c =
    let q = c.args.query.now in
    let cell = c.args.neighbour.now.cell in
    subst AreInOrder (sym c.requires.neighbour.occupancies) (AreInOrder-occupancies q.reserved.now cell _ (c.requires.leaving.frontier.measured.occupancies cell))

pub loop-interval-init : goal.loop-interval-init
loop-interval-init c =
    let q = c.args.query.now in
    let cell = c.args.neighbour.now.cell in
    let first = c.count_begun-first.result in
    let counted = begun-point _ (c.from.result + 1) first c.count_begun-first.ensures.bound c.count_begun-first.ensures.point in
    let begun = subst (λ t. AreBegun (occupancies_on q cell) (t + 1) first) c.from.ensures (subst (λ z. AreBegun z (c.from.result + 1) first) c.requires.neighbour.occupancies counted) in
    turning-begin q c.args.bucket c.args.left cell first c.args.self.now c.requires.leaving begun

pub loop-interval-preserved : goal.loop-interval-preserved
loop-interval-preserved c = turning-more c.args.query.now c.args.bucket c.args.left c.args.neighbour.now.cell c.loop-interval.interval c.args.self.now c.loop-interval.self c.successor_in-in-loop-interval.new.self c.loop-interval.invariant c.in_ok-successor_in.ensures

pub returns-then-begins_after : goal.returns-then-begins_after
returns-then-begins_after c =
    let q = c.args.query.now in
    let cell = c.args.neighbour.now.cell in
    let m = c.requires.leaving.frontier.measured in
    let interval = c.loop-interval.interval in
    let same = ap length c.requires.neighbour.occupancies in
    let late = subst (λ z. c.args.left.until < (occupancy_at z (interval - 1)).from) c.requires.neighbour.occupancies (yes_from_true c.begins_after.result c.if-begins_after.true c.begins_after.ensures) in
    turned q m c.args.bucket c.args.left cell interval c.args.self.now c.loop-interval.self c.loop-interval.invariant (omega arith) (λ i h l. all_later q m cell c.args.left.until (interval - 1) (omega arith) late i (omega arith) l)

pub returns : goal.returns
returns c =
    let q = c.args.query.now in
    let same = ap length c.requires.neighbour.occupancies in
    turned q c.requires.leaving.frontier.measured c.args.bucket c.args.left c.args.neighbour.now.cell c.loop-interval.interval c.args.self.now c.loop-interval.self c.loop-interval.invariant (omega arith) (λ i h l. absurd (omega arith))
