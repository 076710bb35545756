use Rattle.fleet_search.proofs.Words.{◌+◌, ◌-◌, ◌<◌, ◌≤◌, max, length, inl, inr, sym, ◌∙◌, subst, arith, IfNone, cases_lt, get_or_default, is_passable, IsStuckInTries, IsBestSoFar}
use Rattle.fleet_search.proofs.InTurnLaws.{same_agent}
use Rattle.fleet_search.proofs.Occupants.{no_from_false}
use Rattle.fleet_search.proofs.BestLaws.{best_planned, best_stuck, stuck_at_last, if_none, if_some}
use Rattle.fleet_search.proofs.best.best_from.Goals as goal
use Rattle.fleet_search.proofs.best.best_from.Goals.{in-Planned, in-NoPathAt+else-is_none, else-is_none-via-then-is_none+else-is_last_try, else-is_none-via-else-is_none}

pub returns-then-is_last_try-clause-no_path : goal.returns-then-is_last_try-clause-no_path
returns-then-is_last_try-clause-no_path g c = λ agent e.
    let problem = c.args.problem.now in
    let next = c.try_order.new.turn.order.items in
    let tried = rw c.in-NoPathAt.is at c.in_ok-measured.ensures.tried.tried in
    let some : 0 < length next = (let l = c.in_ok-measured.ensures.tried.turn.fewer in omega arith) in
    let few : c.loop-tried.tried ≤ c.args.tries - 1 = omega (arith, c.loop-tried-test.true, c.max-tried-end.ensures, c.loop-tried.auto.tried-end) in
    same_agent (IsStuckInTries (is_passable problem.grid.now) problem.instance.now problem.horizon c.args.tries) c.index-agent.result.now agent e
    (stuck_at_last problem (g.M.Measure.is_measure c.args.measure.now) c.loop-tried.turn.order.items next c.loop-tried.tried c.args.tries c.loop-tried.best c.in-NoPathAt.place c.index-agent.result.now c.is_none.result c.is_none.ensures c.if-is_none.true
    c.loop-tried.invariant.turn.each_once c.loop-tried.invariant.so_far tried few (c.is_last_try.ensures.0 c.if-is_last_try.true)
    (c.index-agent.ensures ∙ get_or_default next 0 c.index-agent.result.now 0 some))

pub loop-tried-preserved : goal.loop-tried-preserved
loop-tried-preserved g c =
    let problem = c.args.problem.now in
    let measures = g.M.Measure.is_measure c.args.measure.now in
    let order = c.loop-tried.turn.order.items in
    let next = c.try_order.new.turn.order.items in
    elim c.match-branch-2.branch [
      | in-Planned w ↦ record {
        turn = c.in_ok-measured.ensures.tried.turn;
        tables = c.in_ok-measured.ensures.tables;
        so_far = subst (IsBestSoFar problem measures next (c.loop-tried.tried + 1)) (sym w.best-is)
            (best_planned problem measures order next c.loop-tried.tried c.loop-tried.best w.in-Planned.measured w.lesser.result c.loop-tried.invariant.so_far (rw w.in-Planned.is at c.in_ok-measured.ensures.tried.tried) w.lesser.ensures.none w.lesser.ensures.earlier w.lesser.ensures.later);
        more = subst (λ b. IfNone b (c.loop-tried.tried + 1 < max c.args.tries 1)) (sym w.best-is) tt;
      }
      | in-NoPathAt+else-is_none w ↦
          let more : IfNone c.loop-tried.best (c.loop-tried.tried + 1 < max c.args.tries 1) = elim w.else-is_none.branch [
            | else-is_none-via-then-is_none+else-is_last_try v ↦ if_none c.loop-tried.best (c.loop-tried.tried + 1 < max c.args.tries 1) (elim (cases_lt (c.loop-tried.tried + 1) c.args.tries) [
              | inl less ↦ omega arith
              | inr late ↦ absurd (no_from_false v.is_last_try.result v.if-is_last_try.false v.is_last_try.ensures (inr late))
            ])
            | else-is_none-via-else-is_none v ↦ if_some c.loop-tried.best (c.loop-tried.tried + 1 < max c.args.tries 1) w.is_none.result w.is_none.ensures v.if-is_none.false
          ] in
          record {
            turn = c.in_ok-measured.ensures.tried.turn;
            tables = c.in_ok-measured.ensures.tables;
            so_far = subst (IsBestSoFar problem measures next (c.loop-tried.tried + 1)) (sym w.best-is)
                (best_stuck problem measures order next c.loop-tried.tried c.loop-tried.best w.in-NoPathAt.place c.loop-tried.invariant.so_far (rw w.in-NoPathAt.is at c.in_ok-measured.ensures.tried.tried));
            more = subst (λ b. IfNone b (c.loop-tried.tried + 1 < max c.args.tries 1)) (sym w.best-is) more;
          }
    ]
