use Rattle.fleet_dispatch.proofs.Cited.{arith, sym, ◌∙◌, in_reach, step_from}
use Rattle.fleet_dispatch.proofs.progress.place_after.Goals as goal

pub after-place-requires : goal.after-place-requires
after-place-requires g c =
    let p = g.P.ProgramView.program c.args.program.now in
    in_reach p c.requires.well_formed c.args.i c.loop-n.n c.loop-n.place (omega (arith, c.loop-n-test.true, c.requires.within)) c.loop-n.invariant

pub loop-n-preserved : goal.loop-n-preserved
loop-n-preserved g c =
    let p = g.P.ProgramView.program c.args.program.now in
    c.after-place.ensures ∙ sym (step_from p c.args.i c.loop-n.n c.loop-n.place _ c.loop-n.invariant c.step.ensures)
