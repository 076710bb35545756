use Rattle.fleet_plan.proofs.Words.{◌≡◌, ◌<◌, ◌≤◌, ◌+◌, ◌-◌, length, get_or, sym, ap, ◌∙◌, subst, below_more, arith, iff_false, origin, is_passable, cell_at, IsRightAt}
use Rattle.fleet_plan.proofs.PathLaws.{at_within, right_at, not_on_ground, not_beside, right_all}
use Rattle.fleet_plan.proofs.plan.first_wrong_time.Goals as goal
use Rattle.fleet_plan.proofs.plan.first_wrong_time.Goals.{then-not-passable-via-then-not-passable, then-not-passable-via-else-not-passable+then-not-is_beside}

pub returns-then-not-passable-clause-some : goal.returns-then-not-passable-clause-some
returns-then-not-passable-clause-some c =
    let path = c.args.path.now in
    let time = c.loop-time.time in
    let same = c.cells-cell-items.ensures.value in
    let within : time < length path = subst (λ xs. time < length xs) same c.loop-time-test.true in
    let cell : get_or c.cells-cell-items.result.now time origin ≡ cell_at path time = ap (λ xs. get_or xs time origin) same ∙ sym (at_within path time origin within) in
    record {
      wrong = elim c.then-not-passable.branch [
        | then-not-passable-via-then-not-passable w ↦ not_on_ground (is_passable c.args.grid.now) path time (get_or c.cells-cell-items.result.now time origin) cell (sym c.passable.ensures.value ∙ w.if-not-passable.true)
        | then-not-passable-via-else-not-passable+then-not-is_beside w ↦ not_beside (is_passable c.args.grid.now) path time c.loop-time.before (get_or c.cells-cell-items.result.now time origin) c.loop-time.invariant.0 cell (iff_false w.is_beside.ensures w.if-not-is_beside.true)
      ];
      least = c.loop-time.invariant.1;
    }

pub loop-time-preserved : goal.loop-time-preserved
loop-time-preserved c =
    let path = c.args.path.now in
    let time = c.loop-time.time in
    let same = c.cells-cell-items.ensures.value in
    let within : time < length path = subst (λ xs. time < length xs) same c.loop-time-test.true in
    let cell : get_or c.cells-cell-items.result.now time origin ≡ cell_at path time = ap (λ xs. get_or xs time origin) same ∙ sym (at_within path time origin within) in
    let back : time ≡ time + 1 - 1 = omega arith in (
      cell ∙ ap (cell_at path) back,
      below_more (IsRightAt (is_passable c.args.grid.now) path) time c.loop-time.invariant.1
          (right_at (is_passable c.args.grid.now) path time c.loop-time.before (get_or c.cells-cell-items.result.now time origin) c.loop-time.invariant.0 cell (sym c.passable.ensures.value ∙ c.if-not-passable.false) (c.is_beside.ensures.0 c.if-not-is_beside.false)),
    )

pub returns-clause-none : goal.returns-clause-none
returns-clause-none c = right_all (is_passable c.args.grid.now) c.args.path.now c.loop-time.time c.cells-cell-items.ensures.limits.some_cells (subst (λ xs. length xs ≤ c.loop-time.time) c.cells-cell-items.ensures.value c.loop-time-test.false) c.loop-time.invariant.1
