use Rattle.fleet_search.proofs.Words.{◌+◌, ◌-◌, ◌≤◌, inr, sym, ap, ◌∙◌, subst, arith, both_ways, place_of, is_passable, State, IsInInterval, earliest_in, IsSeen, IsLabelSet, heuristic_of, occupancies_on, IsStep, IsMove, earliest_of}
use Rattle.fleet_search.proofs.Spread.{on_map}
use Rattle.fleet_search.proofs.IntervalLaws.{interval-free, few-occupancies}
use Rattle.fleet_search.proofs.SearchSteps.{near-beside, bucket-next, covered-seen, covered-new, expands_on, found_already, pushed, pushed-grows}
use Rattle.fleet_search.proofs.frontier.Frontier.push_successor.Goals as goal

pub returns-then-is_reached : goal.returns-then-is_reached
returns-then-is_reached c = found_already _ _ _ _ _ c.requires.leaving (λ step h.
    let q = c.args.query.now in
    let s = c.args.self.now in
    let cell = c.args.neighbour.now.cell in
    let seen : IsSeen (earliest_of q (earliest_in s.labels) cell c.args.interval) (c.args.begin + 1) = subst (λ z. IsSeen (earliest_in s.labels z c.args.interval) (c.args.begin + 1)) c.cell_index-number.ensures.value (c.is_reached.ensures.0 c.if-is_reached.true) in
    covered-seen q _ _ s.nodes (earliest_in s.labels) s.open_list c.requires.leaving.frontier cell c.args.interval (c.args.begin + 1) c.requires.neighbour.on_ground seen (subst (λ z. IsInInterval z c.args.interval (c.args.begin + 1)) c.requires.neighbour.occupancies c.requires.interval))

pub fits-requires-clause-free : goal.fits-requires-clause-free
fits-requires-clause-free c =
    let q = c.args.query.now in
    interval-free q.reserved.now c.args.neighbour.now.cell (occupancies_on q c.args.neighbour.now.cell) (c.requires.leaving.frontier.measured.occupancies c.args.neighbour.now.cell) c.args.interval (c.args.begin + 1) (subst (λ z. IsInInterval z c.args.interval (c.args.begin + 1)) c.requires.neighbour.occupancies c.requires.interval)

pub add-requires-clause-interval : goal.add-requires-clause-interval
add-requires-clause-interval c =
    let q = c.args.query.now in
    let few = few-occupancies q.reserved.now c.args.neighbour.now.cell (occupancies_on q c.args.neighbour.now.cell) (c.requires.leaving.frontier.measured.occupancies c.args.neighbour.now.cell) in
    let bound = (subst (λ z. IsInInterval z c.args.interval (c.args.begin + 1)) c.requires.neighbour.occupancies c.requires.interval).bound in
    omega arith

pub returns : goal.returns
returns c =
    let s = c.args.self.now in
    let q = c.args.query.now in
    let r = s.nodes in
    let fr = c.requires.leaving.frontier in
    let l = c.args.left in
    let cell = c.args.neighbour.now.cell in
    let labels = earliest_in s.labels in
    let new = earliest_in c.add.new.self.labels in
    let unseen : IsSeen (earliest_of q labels cell c.args.interval) (c.args.begin + 1) → ⊥ = λ w. both_ways c.is_reached.result c.if-is_reached.false (c.is_reached.ensures.1 (subst (λ z. IsSeen (labels z c.args.interval) (c.args.begin + 1)) (sym c.cell_index-number.ensures.value) w)) in
    let step : IsStep q c.args.begin l.state.cell cell = record { beside = inr c.requires.neighbour.neighbours; on_ground = c.requires.neighbour.on_ground; fits = c.fits.ensures.0 c.if-not-fits.false } in
    let move : IsMove q l.state c.args.begin cell = record { waits = c.requires.waits; free = λ x a b. c.requires.leaving.until.0 x a (omega arith); step = step } in
    let in_time : c.args.begin + 1 + heuristic_of q cell ≤ q.horizon = omega (arith, c.heuristic-heuristic.ensures.value) in
    let set : IsLabelSet labels new _ c.args.interval (c.args.begin + 1) = subst (λ z. IsLabelSet labels new z c.args.interval (c.args.begin + 1)) c.cell_index-number.ensures.value c.in_ok-add.ensures.labels in
    let bucket = c.bucket.ensures cell c.heuristic-heuristic.ensures.value in
    let ground = ap (λ (z : State). is_passable q.grid.now (place_of z.cell)) (sym c.requires.leaving.left.here) ∙ (fr.sound l.place c.requires.leaving.left.within).on_ground in
    let near = near-beside q fr.measured l.state.cell cell ground c.requires.neighbour.on_ground (inr c.requires.neighbour.neighbours) in
    let waits = c.requires.waits in
    let late = bucket-next q l.state (record { time = c.args.begin + 1; cell = cell }) c.args.bucket c.bucket.result c.requires.leaving.left.bucket bucket (omega arith) near.1 in
    record {
      expands_on = expands_on q c.args.bucket l s _ c.requires.leaving (pushed q (c.args.bucket - 1) l.place r labels s.open_list fr c.in_ok-add.ensures.places l.state c.requires.leaving.left.within c.requires.leaving.left.here c.args.begin cell c.args.interval (subst (λ z. IsInInterval z c.args.interval (c.args.begin + 1)) c.requires.neighbour.occupancies c.requires.interval) unseen move in_time c.add.new.self.nodes new c.add.new.self.open_list c.bucket.result c.to.result c.to.ensures c.in_ok-add.ensures.nodes set bucket c.in_ok-add.ensures.open_list late) (pushed-grows s _ (record { state = record { time = c.args.begin + 1; cell = cell }; parent = c.to.result }) c.in_ok-add.ensures.nodes);
      found = λ step h. covered-new q r c.add.new.self.nodes c.to.result c.args.begin cell c.in_ok-add.ensures.nodes step.fits.vertex;
    }

pub cell_index-number-requires-clause-column : goal.cell_index-number-requires-clause-column
cell_index-number-requires-clause-column c = (on_map c.args.query.now.grid.now c.args.neighbour.now.cell c.requires.leaving.frontier.measured.heuristic.ready.map c.requires.neighbour.on_ground).0

pub cell_index-number-requires-clause-row : goal.cell_index-number-requires-clause-row
cell_index-number-requires-clause-row c = (on_map c.args.query.now.grid.now c.args.neighbour.now.cell c.requires.leaving.frontier.measured.heuristic.ready.map c.requires.neighbour.on_ground).1

pub fits-requires-clause-few : goal.fits-requires-clause-few
fits-requires-clause-few c = omega (arith, c.requires.leaving.horizon)

pub fits-requires-clause-until : goal.fits-requires-clause-until
fits-requires-clause-until c = c.requires.leaving.until

pub fits-requires-clause-waits : goal.fits-requires-clause-waits
fits-requires-clause-waits c = c.requires.waits

pub heuristic-heuristic-requires-clause-cell : goal.heuristic-heuristic-requires-clause-cell
heuristic-heuristic-requires-clause-cell c = c.requires.neighbour.on_ground

pub heuristic-heuristic-requires-clause-measured : goal.heuristic-heuristic-requires-clause-measured
heuristic-heuristic-requires-clause-measured c = c.requires.leaving.frontier.measured
