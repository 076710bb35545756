use Rattle.fleet_verify.proofs.Words.{◌≡◌, ◌+◌, arith, refl, ◌∙◌, sym, nth, next_of}
use Rattle.fleet_verify.proofs.Waiting.{blocked_next, steps_more, nth_more}
use Rattle.fleet_verify.proofs.unheld_run.leads_back.Goals as goal

pub loop-steps-preserved : goal.loop-steps-preserved
loop-steps-preserved g c =
    let on : next_of c.args.wants.now c.loop-steps.agent ≡ nth (next_of c.args.wants.now) (c.loop-steps._steps + 1) c.args.i =
    nth_more (next_of c.args.wants.now) c.loop-steps._steps c.args.i c.loop-steps.agent c.loop-steps.invariant.agent in
    record {
      blocked = blocked_next (g.P.ProgramView.program c.args.program.now) c.args.counts.now c.args.wants.now c.requires.ranges c.requires.wants c.loop-steps.agent c.loop-steps.invariant.blocked;
      agent = on;
      apart = steps_more (next_of c.args.wants.now) c.loop-steps._steps c.args.i c.loop-steps.invariant.apart (λ e. c.if-is_back.false (on ∙ e));
    }

pub returns-then-is_back : goal.returns-then-is_back
returns-then-is_back g c = (
  (λ h. (
    c.loop-steps._steps + 1,
    omega arith,
    omega (arith, c.agents-steps-end.ensures.count),
    sym (nth_more (next_of c.args.wants.now) c.loop-steps._steps c.args.i c.loop-steps.agent c.loop-steps.invariant.agent) ∙ c.if-is_back.true,
  )),
  (λ h. refl),
)

pub returns : goal.returns
returns g c = (
  (λ e. absurd (cc e)),
  (λ (m, f, l, e). absurd (c.loop-steps.invariant.apart m f (omega (arith, c.agents-steps-end.ensures.count)) e)),
)
