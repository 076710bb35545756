use Rattle.fleet_adg.proofs.Words.{◌+◌, ◌<◌, ◌≤◌, ◌==◌, not, filter, map, set, length, get_or, refl, sym, ap, subst, ◌∙◌, arith, fold, take_all, Go, Action, cell_index, kind_of, row_of, written, movers, all_actions_by}
use Rattle.fleet_adg.proofs.Folds.{add_by}
use Rattle.fleet_adg.proofs.SweepSteps.{length-all_actions_by, length-all_bytes_by, bytes_grow, action_is}
use Rattle.fleet_adg.proofs.MoveRows.{awaits_fit, no_move, move_at, length-moves, all_added}
use Rattle.fleet_adg.proofs.sweep.add_actions.Goals as goal

pub cell_index-requires-clause-column : goal.cell_index-requires-clause-column
cell_index-requires-clause-column c =
    let plan = c.args.at.now.plan.now in
    let m = move_at plan c.args.at.now.time c.loop-one.one-index c.args.moves.now c.requires.moves c.loop-one-test.true in
    subst (λ q. q.x < c.args.at.now.grid.now.width) (sym m.to) (c.requires.on_map.columns (get_or c.args.moves.now c.loop-one.one-index no_move).agent (c.args.at.now.time + 1) m.below)

pub cell_index-requires-clause-row : goal.cell_index-requires-clause-row
cell_index-requires-clause-row c =
    let plan = c.args.at.now.plan.now in
    let m = move_at plan c.args.at.now.time c.loop-one.one-index c.args.moves.now c.requires.moves c.loop-one-test.true in
    subst (λ q. q.y < c.args.at.now.grid.now.height) (sym m.to) (c.requires.on_map.rows (get_or c.args.moves.now c.loop-one.one-index no_move).agent (c.args.at.now.time + 1) m.below)

pub bounds-actions-from : goal.bounds-actions-from
bounds-actions-from c =
    let plan = c.args.at.now.plan.now in
    let m = move_at plan c.args.at.now.time c.loop-one.one-index c.args.moves.now c.requires.moves c.loop-one-test.true in
    omega (arith, c.from.ensures, m.below, c.loop-one.auto.actions, ap length c.requires.actions, length-all_bytes_by plan (kind_of c.args.leavings.now) c.args.at.now.version c.args.at.now.time)

pub add_action-requires : goal.add_action-requires
add_action-requires c =
    let g = c.args.at.now.grid.now in
    let deps = kind_of c.args.leavings.now in
    let v = c.args.at.now.version in
    let x = c.args.at.now.time in
    let one = get_or c.args.moves.now c.loop-one.one-index no_move in
    let i = one.agent in
    let plan = c.args.at.now.plan.now in
    let m = move_at plan x c.loop-one.one-index c.args.moves.now c.requires.moves c.loop-one-test.true in
    rw c.cell_index.ensures.value (awaits_fit g plan deps v x i c.args.leavings.now one.to c.requires.leavings m.to
    (subst (λ q. q.x < g.width) (sym m.to) (c.requires.on_map.columns i (x + 1) m.below))
    (subst (λ q. q.y < g.height) (sym m.to) (c.requires.on_map.rows i (x + 1) m.below))
    c.requires.time)

pub loop-one-preserved : goal.loop-one-preserved
loop-one-preserved c =
    let g = c.args.at.now.grid.now in
    let deps = kind_of c.args.leavings.now in
    let v = c.args.at.now.version in
    let x = c.args.at.now.time in
    let k = c.loop-one.one-index in
    let one = get_or c.args.moves.now k no_move in
    let i = one.agent in
    let rows = c.loop-one.actions in
    let awaits = filter (λ w. not (w.agent == i)) (row_of c.args.leavings.now (cell_index g one.to)) in
    let action : Action = record { step = Go c.direction.result; awaits = awaits } in
    let plan = c.args.at.now.plan.now in
    let m = move_at plan x k c.args.moves.now c.requires.moves c.loop-one-test.true in
    let within : i < length (all_actions_by plan deps x) = omega (arith, m.below, length-all_actions_by plan deps x) in
    let this = action_is g plan deps x i c.args.leavings.now one.from one.to c.direction.result awaits c.requires.leavings m.from m.to
    (subst (λ q. q.x < g.width) (sym m.to) (c.requires.on_map.columns i (x + 1) m.below))
    (subst (λ q. q.y < g.height) (sym m.to) (c.requires.on_map.rows i (x + 1) m.below))
    c.direction.ensures refl in
    let found = c.index-actions-from.result in
    let grows = rw c.cell_index.ensures.value at c.in_ok-add_action.ensures in
    ap (λ n. set rows n c.add_action.new.actions) c.from.ensures
    ∙ bytes_grow plan deps v x (movers plan x) k i (all_actions_by plan deps x) rows found c.add_action.new.actions action m.place m.agent m.changes within (c.index-actions-from.is ∙ ap (λ n. get_or rows n found) c.from.ensures) this (λ before was. grows before (sym c.index-actions-from.is ∙ was)) c.loop-one.invariant

pub returns : goal.returns
returns c =
    let plan = c.args.at.now.plan.now in
    let deps = kind_of c.args.leavings.now in
    let x = c.args.at.now.time in
    let over : length (movers plan x) ≤ c.loop-one.one-index = omega (arith, length-moves plan x c.args.moves.now c.requires.moves, c.loop-one-test.false) in
    c.loop-one.invariant
    ∙ ap (map (written c.args.at.now.version)) (ap (fold (add_by plan deps x) (all_actions_by plan deps x)) (take_all c.loop-one.one-index (movers plan x) over)
    ∙ all_added plan deps x (all_actions_by plan deps x) refl)
