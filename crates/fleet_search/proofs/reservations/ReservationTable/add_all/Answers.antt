use Rattle.fleet_search.proofs.Words.{◌≡◌, ◌≤◌, length, refl, sym, ap, ◌∙◌, arith, not-false, on_ok_weaker, is_same_cell-true, MAX_HORIZON, cell_at, without}
use Rattle.fleet_search.proofs.Entering.{entered-none, entered-same, entered-more, entered-all, entered-rest, entered-order, from_ok_or_err}
use Rattle.fleet_search.proofs.reservations.ReservationTable.add_all.Goals as goal
use Rattle.fleet_search.proofs.reservations.ReservationTable.add_all.Goals.{then-ne+in_ok-add, else-ne}

pub loop-time-init : goal.loop-time-init
loop-time-init c = entered-none c.args.paths.now c.args.path.now c.args.self.now c.requires.occupancies

pub add-requires : goal.add-requires
add-requires c = entered-order c.args.paths.now c.args.path.now c.requires.fits c.args.self.now c.loop-time.self c.loop-time.from c.loop-time.time c.loop-time.invariant c.cell-cell.result

pub loop-time-preserved : goal.loop-time-preserved
loop-time-preserved c =
    elim c.if-ne.branch [
      | then-ne+in_ok-add w ↦ rw (w.self-is, w.from-is) (entered-more c.args.paths.now c.args.path.now c.requires.fits c.args.self.now c.loop-time.self c.loop-time.from c.loop-time.time c.loop-time.invariant w.add.new.self c.cell-cell.result _ w.in_ok-add.ensures.ok c.cell-cell.ensures refl refl (let f = c.steps-end.ensures.limits.few_cells in let g = c.steps-end.ensures.time in omega arith) refl)
      | else-ne w ↦ rw (w.self-is, w.from-is) (entered-same c.args.paths.now c.args.path.now c.requires.fits c.args.self.now c.loop-time.self c.loop-time.from c.loop-time.time c.loop-time.invariant (sym c.cell-cell.ensures ∙ is_same_cell-true c.cell-cell.result c.cell.result (not-false _ (sym c.ne.ensures ∙ w.if-ne.false)) ∙ c.cell.ensures))
    ]

pub add-requires-2 : goal.add-requires-2
add-requires-2 c = entered-order c.args.paths.now c.args.path.now c.requires.fits c.args.self.now c.loop-time.self c.loop-time.from c.loop-time.time c.loop-time.invariant c.cell-2.result

pub returns-clause-ok : goal.returns-clause-ok
returns-clause-ok c =
    let time = c.loop-time.time in
    let path = c.args.path.now in
    let e : c.steps-end.result ≡ time = omega arith in
    let few : time ≤ MAX_HORIZON = let f = c.steps-end.ensures.limits.few_cells in let g = c.steps-end.ensures.time in omega arith in
    on_ok_weaker c.add-2.result (λ a. entered-all c.args.paths.now path c.requires.fits c.args.self.now c.loop-time.self c.loop-time.from time c.loop-time.invariant c.add-2.new.self c.cell-2.result _ a (c.cell-2.ensures ∙ ap (cell_at path) e) refl refl few refl (let g = c.steps-end.ensures.time in omega arith)) c.add-2.ensures.ok

pub returns-clause-rest : goal.returns-clause-rest
returns-clause-rest c =
    let time = c.loop-time.time in
    let path = c.args.path.now in
    let e : c.steps-end.result ≡ time = omega arith in
    let few : time ≤ MAX_HORIZON = let f = c.steps-end.ensures.limits.few_cells in let g = c.steps-end.ensures.time in omega arith in
    from_ok_or_err c.add-2.result c.add-2.ensures.ok c.add-2.ensures.err (λ a. entered-rest c.args.paths.now path c.requires.fits c.args.self.now c.loop-time.self c.loop-time.from time c.loop-time.invariant c.add-2.new.self c.cell-2.result _ a (c.cell-2.ensures ∙ ap (cell_at path) e) refl refl few) (λ h d. ap (without (length c.args.paths.now)) (h d) ∙ c.loop-time.invariant.rest d)
