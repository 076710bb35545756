use Rattle.fleet_plan.proofs.Words.{◌≡◌, ◌+◌, true, false, inl, inr, refl, arith, cases_lt, HasComeTo}
use Rattle.fleet_plan.proofs.SweepLaws.{few_steps}
use Rattle.fleet_plan.proofs.Following.{none_found, all_apart}
use Rattle.fleet_plan.proofs.sweep.Sweep.is_apart.Goals as goal

pub has_following-requires-clause-time : goal.has_following-requires-clause-time
has_following-requires-clause-time c =
    omega (arith, c.steps-time-end.ensures.time, few_steps c.args.plan.now c.steps-time-end.ensures.limits.paths, c.loop-time-test.true)

pub step-requires-clause-time : goal.step-requires-clause-time
step-requires-clause-time c =
    omega (arith, c.steps-time-end.ensures.time, few_steps c.args.plan.now c.steps-time-end.ensures.limits.paths, c.loop-time-test.true)

pub loop-time-init : goal.loop-time-init
loop-time-init c = record {
  come = none_found c.args.plan.now (HasComeTo c.args.grid.now c.args.plan.now 0 c.begin.new.self) c.requires.free c.in_ok-begin.field-0 c.in_ok-begin.ensures;
  nobody = λ x l. absurd (omega (arith, l));
}

pub loop-time-preserved : goal.loop-time-preserved
loop-time-preserved c = record {
  come = none_found c.args.plan.now (HasComeTo c.args.grid.now c.args.plan.now (c.loop-time.time + 1) c.step.new.self) c.requires.free c.in_ok-step.field-0 c.in_ok-step.ensures;
  nobody = λ x l f. elim (cases_lt x c.loop-time.time) [
    | inl b ↦ c.loop-time.invariant.nobody x b f
    | inr b ↦
        let e : x ≡ c.loop-time.time = omega (arith, l, b) in
        let yes : c.has_following.result ≡ true = c.has_following.ensures.1 (rw e at f) in
        let not : c.has_following.result ≡ false = c.if-has_following.false in absurd (cc)
  ];
}

pub returns : goal.returns
returns c = (λ yes. all_apart c.args.plan.now c.requires.free c.loop-time.time (omega (arith, c.steps-time-end.ensures.time, c.loop-time-test.false)) c.loop-time.invariant.nobody, λ apart. refl)
