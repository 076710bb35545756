use Rattle.fleet_search.proofs.Words.{[], ◌∷◌, ◌++◌, length, sym, ap, ◌∙◌, subst, arith, Node, earliest_in, IsLabelSet, AreBegun, AreInOrder, occupancies_on}
use Rattle.fleet_search.proofs.Spread.{on_map}
use Rattle.fleet_search.specs.Rows.{IsPut}
use Rattle.fleet_search.proofs.ReservationTables.{AreInOrder-occupancies}
use Rattle.fleet_search.proofs.IntervalLaws.{begun-point, few-occupancies, free-interval}
use Rattle.fleet_search.proofs.SearchSteps.{opening}
use Rattle.fleet_search.proofs.frontier.Frontier.begin.Goals as goal

pub returns : goal.returns
returns c =
    let q = c.args.query.now in
    let labels = earliest_in c.clear.new.self.labels in
    let new = earliest_in c.add.new.self.labels in
    let interval = c.count_begun-interval.result in
    let first : Node = record { state = record { time = 0; cell = q.start }; parent = c.to-parent.result } in
    let begun = subst (λ z. AreBegun z 0 interval) c.occupancies.ensures (begun-point _ 0 interval c.count_begun-interval.ensures.bound c.count_begun-interval.ensures.point) in
    let inside = free-interval q.reserved.now q.start (occupancies_on q q.start) (c.requires.asked.measured.occupancies q.start) 0 interval (omega arith) begun c.requires.asked.free in
    let set = subst (λ z. IsLabelSet labels new z interval 0) c.cell_index-number.ensures.value c.in_ok-add.ensures.labels in
    let put = subst (IsPut c.clear.new.self.open_list c.add.new.self.open_list c.bucket-bucket.result) (ap length c.clear.ensures.nodes) c.in_ok-add.ensures.open_list in
    opening q c.requires.asked c.requires.in_time labels new c.clear.new.self.open_list c.add.new.self.open_list c.clear.ensures.labels c.add.new.self.nodes c.to-parent.result (c.in_ok-add.ensures.nodes ∙ ap (λ z. z ++ first ∷ []) c.clear.ensures.nodes) interval inside set c.clear.ensures.open_list c.bucket-bucket.result (c.bucket-bucket.ensures q.start c.heuristic.ensures.value) put

pub cell_index-number-requires-clause-column : goal.cell_index-number-requires-clause-column
cell_index-number-requires-clause-column c = (on_map c.args.query.now.grid.now c.args.query.now.start c.requires.asked.measured.heuristic.ready.map c.requires.asked.on_ground).0

pub cell_index-number-requires-clause-row : goal.cell_index-number-requires-clause-row
cell_index-number-requires-clause-row c = (on_map c.args.query.now.grid.now c.args.query.now.start c.requires.asked.measured.heuristic.ready.map c.requires.asked.on_ground).1

pub heuristic-requires-clause-cell : goal.heuristic-requires-clause-cell
heuristic-requires-clause-cell c = c.requires.asked.on_ground

pub heuristic-requires-clause-measured : goal.heuristic-requires-clause-measured
heuristic-requires-clause-measured c = c.requires.asked.measured

pub count_begun-interval-requires : goal.count_begun-interval-requires
count_begun-interval-requires c =
    let q = c.args.query.now in
    subst AreInOrder (sym c.occupancies.ensures) (AreInOrder-occupancies q.reserved.now q.start _ (c.requires.asked.measured.occupancies q.start))

pub add-requires-clause-interval : goal.add-requires-clause-interval
add-requires-clause-interval c =
    let q = c.args.query.now in
    let few = few-occupancies q.reserved.now q.start (occupancies_on q q.start) (c.requires.asked.measured.occupancies q.start) in
    omega (arith, c.count_begun-interval.ensures.bound, ap length c.occupancies.ensures)
