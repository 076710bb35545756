use Rattle.fleet_dispatch.proofs.Cited.{◌≡◌, ◌+◌, ◌-◌, ◌∙◌, arith, ap, sym, path, in_reach}
use Rattle.fleet_dispatch.proofs.BackLemmas.{leads_back}
use Rattle.fleet_dispatch.proofs.progress.place_before.Goals as goal

pub after-place-requires : goal.after-place-requires
after-place-requires g c =
    let p = g.P.ProgramView.program c.args.program.now in
    in_reach p c.requires.well_formed c.args.i c.steps.at c.steps.place (omega (arith, c.steps.invariant.within, c.requires.within)) c.steps.invariant.here

pub steps-preserved : goal.steps-preserved
steps-preserved g c =
    let p = g.P.ProgramView.program c.args.program.now in
    let again : c.steps.at - 1 + 1 ≡ c.steps.at = omega (arith, c.steps-test.true) in
    record {
      before = omega (arith, c.steps-test.true);
      within = omega (arith, c.steps.invariant.within);
      here = c.after-place.ensures ∙ leads_back p c.args.i (c.steps.at - 1) c.steps.place _ _ (c.steps.invariant.here ∙ ap (path p c.args.i) (sym again)) c.step.ensures c.back.ensures;
    }
