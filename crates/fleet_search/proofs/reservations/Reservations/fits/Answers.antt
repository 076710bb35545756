use Rattle.fleet_search.proofs.Words.{◌≡◌, ◌≤◌, refl, sym, subst, arith, cell_at, StepFits, arrival, StandsOn, IsFreeFrom}
use Rattle.fleet_search.proofs.Occupants.{no_from_false, yes_from_true}
use Rattle.fleet_search.proofs.Chase.{none_iff, of_some}
use Rattle.fleet_search.proofs.FitCode.{misfit_first, misfit_step, fits-rest, up_to-all}
use Rattle.fleet_search.proofs.reservations.Reservations.fits.Goals as goal

pub returns-then-not-is_free_from : goal.returns-then-not-is_free_from
returns-then-not-is_free_from c =
    let plan = c.args.self.now in
    let path = c.args.path.now in
    let b : arrival path ≤ c.steps-end.result = omega (arith, c.steps-end.ensures.time) in
    none_iff (λ fits. no_from_false c.is_free_from.result c.if-not-is_free_from.true c.is_free_from.ensures
    (subst (λ z. IsFreeFrom plan z c.steps-end.result) (sym c.cell.ensures) (fits-rest plan path c.steps-end.result b fits)))

pub returns-then-is_some : goal.returns-then-is_some
returns-then-is_some c =
    let w = of_some c.occupant.result c.is_some.result c.is_some.ensures c.if-is_some.true c.occupant.ensures.some in
    none_iff (misfit_first c.args.self.now c.args.path.now w.0 (subst (λ z. StandsOn c.args.self.now 0 z w.0) c.cell-2.ensures w.1))

pub returns-then-not-step_fits : goal.returns-then-not-step_fits
returns-then-not-step_fits c =
    let plan = c.args.self.now in
    let t = c.loop-time.time in
    let not = no_from_false c.step_fits.result c.if-not-step_fits.true c.step_fits.ensures in
    none_iff (misfit_step plan c.args.path.now t (λ s. not (subst (λ z. StepFits plan t z c.cell-in-loop-time-2.result) (sym c.cell-in-loop-time.ensures) (subst (StepFits plan t _) (sym c.cell-in-loop-time-2.ensures) s))))

pub returns : goal.returns
returns c =
    let plan = c.args.self.now in
    let path = c.args.path.now in
    let end = c.steps-end.result in
    let b : arrival path ≤ c.loop-time.time = omega (arith, c.steps-end.ensures.time) in
    let same : end ≡ c.loop-time.time = omega arith in
    let free = yes_from_true c.is_free_from.result c.if-not-is_free_from.false c.is_free_from.ensures in
    let rest = subst (λ z. IsFreeFrom plan (cell_at path z) z) same (subst (λ z. IsFreeFrom plan z end) c.cell.ensures free) in
    (λ h. up_to-all plan path c.loop-time.time c.loop-time.invariant b rest, λ h. refl)
