use Rattle.fleet_needs.proofs.Words.{◌∙◌, List, Await, length, refl, sym, subst, ap, arith, length_push}
use Rattle.fleet_needs.proofs.Walking.{AreDeep, deep_push, deep_pop, deep_next, grown, less_more, less_waiting, less_reached}
use Rattle.fleet_needs.proofs.cost_walk.reach.Goals as goal

pub loop-walk-smaller-in_default : goal.loop-walk-smaller-in_default
loop-walk-smaller-in_default g c =
    let w = c.loop-walk.walk in
    let was = c.loop-walk.invariant in
    let after = c.in_ok-awaited-in-None.ensures.walk in
    let noted = rw c.in_default.is at c.in_ok-awaited-in-None.ensures.noted in
    less_more w c.advance.new.walk c.loop-walk.last.agent 1 (omega (arith, was.last.action.agent, was.walk.rows)) noted (g.P.ProgramView.program c.args.program.now) c.loop-walk.last (length c.loop-walk.goals.items) refl (omega (arith, was.last.deep was.walk.numbered)) after.rows (λ j l. (after.each j l).few)

pub loop-walk-preserved-in_default : goal.loop-walk-preserved-in_default
loop-walk-preserved-in_default g c =
    let w = c.loop-walk.walk in
    let was = c.loop-walk.invariant in
    let noted = rw c.in_default.is at c.in_ok-awaited-in-None.ensures.noted in
    record {
      walk = c.in_ok-awaited-in-None.ensures.walk;
      grown = λ j. omega (arith, was.grown j, (grown w c.advance.new.walk c.loop-walk.last.agent 1 (omega (arith, was.last.action.agent, was.walk.rows)) noted j).0);
      goals = was.goals;
      last = was.last;
    }

pub loop-walk-smaller-in-Some-2 : goal.loop-walk-smaller-in-Some-2
loop-walk-smaller-in-Some-2 g c =
    let w = c.loop-walk.walk in
    let was = c.loop-walk.invariant in
    let goals = c.loop-walk.goals.items in
    let still = c.in-None.ensures.open in
    less_waiting w c.advance.new.walk c.loop-walk.last.agent 0 (omega (arith, was.last.action.agent, was.walk.rows)) (rw c.in-Some-2.is at c.in_ok-awaited-in-None.ensures.same) (g.P.ProgramView.program c.args.program.now) c.loop-walk.last (length goals) refl
    (omega (arith, was.last.deep was.walk.numbered, was.walk.numbered.rising.positive _ was.last.action)) still c.in-Some-2.awaited (rw c.in-Some-2.is at c.in_ok-awaited-in-None.ensures.unmet).unfinished (length c.push.new.self.items) (omega (arith, c.in_ok-push-in-None.ensures.len))

pub loop-walk-preserved-in-Some-2 : goal.loop-walk-preserved-in-Some-2
loop-walk-preserved-in-Some-2 g c =
    let p = g.P.ProgramView.program c.args.program.now in
    let w = c.loop-walk.walk in
    let was = c.loop-walk.invariant in
    let goals = c.loop-walk.goals.items in
    let items = c.in_ok-push-in-None.ensures.items in
    let still = c.in-None.ensures.open in
    record {
      walk = c.in_ok-awaited-in-None.ensures.walk;
      grown = λ j. omega (arith, was.grown j, (grown w c.advance.new.walk c.loop-walk.last.agent 0 (omega (arith, was.last.action.agent, was.walk.rows)) (rw c.in-Some-2.is at c.in_ok-awaited-in-None.ensures.same) j).0);
      goals = subst (AreDeep p c.args.goal) (sym items) (deep_push p c.args.goal goals c.loop-walk.last was.goals was.last);
      last = deep_next p c.args.goal goals c.loop-walk.last was.walk.numbered.range w c.in-Some-2.awaited was.last still (rw c.in-Some-2.is at c.in_ok-awaited-in-None.ensures.unmet) (length c.push.new.self.items) (omega (arith, c.in_ok-push-in-None.ensures.len));
    }

pub loop-walk-smaller : goal.loop-walk-smaller
loop-walk-smaller g c =
    let over = c.in-Some.ensures.last in
    let fewer = ap (λ (xs : List Await). length xs) c.in-Some-pop.ensures.items ∙ length_push c.pop.new.self.items c.in-Some-pop.before in
    less_reached (g.P.ProgramView.program c.args.program.now) c.loop-walk.walk c.loop-walk.last c.in-Some-pop.before (length c.loop-walk.goals.items) (length c.pop.new.self.items) over fewer

pub loop-walk-preserved : goal.loop-walk-preserved
loop-walk-preserved g c =
    let was = c.loop-walk.invariant in
    let popped = deep_pop (g.P.ProgramView.program c.args.program.now) c.args.goal c.pop.new.self.items c.in-Some-pop.before (subst (AreDeep (g.P.ProgramView.program c.args.program.now) c.args.goal) c.in-Some-pop.ensures.items was.goals) in
    record { walk = was.walk; grown = was.grown; goals = popped.0; last = popped.1 }
