use Rattle.fleet_adg.proofs.Words.{◌+◌, ◌<◌, ◌≤◌, length, get_or, sym, ap, subst, ◌∙◌, arith, take_all, kind_of, movers}
use Rattle.fleet_adg.proofs.SweepSteps.{IsNotedBelow, row_short, count_is, length-all_bytes_by, noting_begins, one_leaves}
use Rattle.fleet_adg.proofs.MoveRows.{no_move, move_at, length-moves, all_noted}
use Rattle.fleet_adg.proofs.sweep.note_leavings.Goals as goal

pub loop-one-init : goal.loop-one-init
loop-one-init c = noting_begins c.args.at.now.grid.now c.args.at.now.plan.now (kind_of c.args.leavings.now) c.args.at.now.time c.args.leavings.now c.requires.leavings

pub bounds-actions-from : goal.bounds-actions-from
bounds-actions-from c =
    let plan = c.args.at.now.plan.now in
    let m = move_at plan c.args.at.now.time c.loop-one.one-index c.args.moves.now c.requires.moves c.loop-one-test.true in
    omega (arith, c.from.ensures, m.below, ap length c.requires.actions, length-all_bytes_by plan (kind_of c.args.leavings.now) c.args.at.now.version c.args.at.now.time)

pub overflow_cast-number : goal.overflow_cast-number
overflow_cast-number c =
    let plan = c.args.at.now.plan.now in
    let m = move_at plan c.args.at.now.time c.loop-one.one-index c.args.moves.now c.requires.moves c.loop-one-test.true in
    let short = row_short plan (kind_of c.args.leavings.now) c.args.at.now.version c.args.at.now.time c.from.result c.args.actions.now c.index-actions-from.result c.requires.actions (omega (arith, c.from.ensures, m.below)) c.index-actions-from.is in
    omega (arith, short, c.count.ensures, c.requires.time)

pub overflow_add-number : goal.overflow_add-number
overflow_add-number c =
    let plan = c.args.at.now.plan.now in
    let m = move_at plan c.args.at.now.time c.loop-one.one-index c.args.moves.now c.requires.moves c.loop-one-test.true in
    let short = row_short plan (kind_of c.args.leavings.now) c.args.at.now.version c.args.at.now.time c.from.result c.args.actions.now c.index-actions-from.result c.requires.actions (omega (arith, c.from.ensures, m.below)) c.index-actions-from.is in
    omega (arith, short, c.count.ensures, c.requires.time)

pub cell_index-requires-clause-column : goal.cell_index-requires-clause-column
cell_index-requires-clause-column c =
    let plan = c.args.at.now.plan.now in
    let m = move_at plan c.args.at.now.time c.loop-one.one-index c.args.moves.now c.requires.moves c.loop-one-test.true in
    subst (λ q. q.x < c.args.at.now.grid.now.width) (sym m.from) (c.requires.on_map.columns (get_or c.args.moves.now c.loop-one.one-index no_move).agent c.args.at.now.time m.below)

pub cell_index-requires-clause-row : goal.cell_index-requires-clause-row
cell_index-requires-clause-row c =
    let plan = c.args.at.now.plan.now in
    let m = move_at plan c.args.at.now.time c.loop-one.one-index c.args.moves.now c.requires.moves c.loop-one-test.true in
    subst (λ q. q.y < c.args.at.now.grid.now.height) (sym m.from) (c.requires.on_map.rows (get_or c.args.moves.now c.loop-one.one-index no_move).agent c.args.at.now.time m.below)

pub loop-one-preserved : goal.loop-one-preserved
loop-one-preserved c =
    let g = c.args.at.now.grid.now in
    let deps = kind_of c.args.leavings.now in
    let x = c.args.at.now.time in
    let k = c.loop-one.one-index in
    let one = get_or c.args.moves.now k no_move in
    let i = one.agent in
    let plan = c.args.at.now.plan.now in
    let m = move_at plan c.args.at.now.time c.loop-one.one-index c.args.moves.now c.requires.moves c.loop-one-test.true in
    one_leaves g plan deps x (movers plan x) k i c.loop-one.leavings c.note.new.self one.from (record { agent = i; count = c.count.result + 1 }) (c.cells_have_places_of_their_own.ensures g)
    (subst (λ q. q.x < g.width) (sym m.from) (c.requires.on_map.columns i x m.below))
    m.from
    (count_is plan deps c.args.at.now.version x i c.count.result c.args.actions.now c.index-actions-from.result c.requires.actions m.below (c.index-actions-from.is ∙ ap (λ n. get_or c.args.actions.now n c.index-actions-from.result) c.from.ensures) c.count.ensures m.changes)
    m.place m.agent m.changes
    c.in_ok-note.ensures.kind
    (rw c.cell_index.ensures.value at c.in_ok-note.ensures.here)
    (rw c.cell_index.ensures.value at c.in_ok-note.ensures.others)
    c.loop-one.invariant

pub returns : goal.returns
returns c =
    let plan = c.args.at.now.plan.now in
    let deps = kind_of c.args.leavings.now in
    let x = c.args.at.now.time in
    let over : length (movers plan x) ≤ c.loop-one.one-index = omega (arith, length-moves plan x c.args.moves.now c.requires.moves, c.loop-one-test.false) in
    all_noted c.args.at.now.grid.now plan deps x c.loop-one.leavings
    (subst (λ zs. IsNotedBelow c.args.at.now.grid.now plan deps x zs c.loop-one.leavings) (take_all c.loop-one.one-index (movers plan x) over) c.loop-one.invariant)
