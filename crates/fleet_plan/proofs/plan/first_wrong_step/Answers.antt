use Rattle.fleet_plan.proofs.Words.{[], sym, subst, below_more, arith, get_or_from_slice_get, is_passable, IsFirstTime, GoesOver, GoesRight}
use Rattle.fleet_plan.proofs.plan.first_wrong_step.Goals as goal

pub loop-i-preserved : goal.loop-i-preserved
loop-i-preserved c =
    let passable = is_passable c.args.grid.now in
    below_more (GoesRight passable c.args.plan.now) c.loop-i.i c.loop-i.invariant
    (subst (GoesOver passable) (sym (get_or_from_slice_get c.args.plan.now c.loop-i.i c.path.result.now [] c.path.ensures)) c.in_default.ensures.none)

pub returns-clause-none : goal.returns-clause-none
returns-clause-none c = λ i l. c.loop-i.invariant i (omega (arith, l, c.loop-i-test.false, c.agents-i-end.ensures.count))

pub returns-in-Some-clause-some : goal.returns-in-Some-clause-some
returns-in-Some-clause-some c = record {
  agent = omega (arith, c.loop-i-test.true, c.agents-i-end.ensures.count);
  time = subst (λ path. IsFirstTime (is_passable c.args.grid.now) path c.in-Some.time) (sym (get_or_from_slice_get c.args.plan.now c.loop-i.i c.path.result.now [] c.path.ensures)) c.in-Some.ensures.some;
  least = c.loop-i.invariant;
}
