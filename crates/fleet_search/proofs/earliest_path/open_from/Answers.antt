use Rattle.fleet_search.proofs.Words.{◌≤◌, sym, ap, ◌∙◌, arith, both_ways, place_of, is_passable, arrival}
use Rattle.fleet_search.proofs.Chase.{of_some}
use Rattle.fleet_search.proofs.Optimal.{no-way-taken, no-way-busy}
use Rattle.fleet_search.proofs.earliest_path.open_from.Goals as goal

pub returns-then-not-passable-clause-none : goal.returns-then-not-passable-clause-none
returns-then-not-passable-clause-none c = λ path w h.
    both_ways c.passable.result c.if-not-passable.true (c.passable.ensures.value ∙ ap (λ z. is_passable c.args.grid.now (place_of z)) (sym w.starts) ∙ w.on_ground 0)

pub returns-then-not-passable-2-clause-none : goal.returns-then-not-passable-2-clause-none
returns-then-not-passable-2-clause-none c = λ path w h.
    both_ways c.passable-2.result c.if-not-passable-2.true (c.passable-2.ensures.value ∙ ap (λ z. is_passable c.args.grid.now (place_of z)) (sym w.ends) ∙ w.on_ground (arrival path))

pub returns-then-is_some-clause-none : goal.returns-then-is_some-clause-none
returns-then-is_some-clause-none c = λ path w h.
    let j = of_some c.occupant.result c.is_some.result c.is_some.ensures c.if-is_some.true c.occupant.ensures.some in
    no-way-taken (is_passable c.args.grid.now) c.args.reserved.now c.args.start c.args.goal path w j.0 j.1.agent j.1.on

pub returns-in_err-from-clause-none : goal.returns-in_err-from-clause-none
returns-in_err-from-clause-none c = rw c.from_residual.ensures (λ path w h.
    c.in_err-from.ensures.none (arrival path) (no-way-busy (is_passable c.args.grid.now) c.args.reserved.now c.args.start c.args.goal path w))

pub returns-else-is_in_time-clause-none : goal.returns-else-is_in_time-clause-none
returns-else-is_in_time-clause-none c = λ path w h.
    let late : c.in_ok-from.from ≤ arrival path = (c.in_ok-from.ensures.some (arrival path)).0 (no-way-busy (is_passable c.args.grid.now) c.args.reserved.now c.args.start c.args.goal path w) in
    absurd (omega arith)
