use Rattle.fleet_search.proofs.Words.{◌+◌, ◌-◌, ◌<◌, ◌≤◌, length, inl, inr, ◌∙◌, subst, arith, cases_lt, get_or_default, is_passable, IsMadeInOrder, IsStuckInTries}
use Rattle.fleet_search.proofs.InTurnLaws.{same_agent}
use Rattle.fleet_search.proofs.Occupants.{no_from_false}
use Rattle.fleet_search.proofs.OrderLaws.{order_after-more}
use Rattle.fleet_search.proofs.TurnLaws.{first_after_none, made_in_try, stuck_in_turn}
use Rattle.fleet_search.proofs.orders.plan_from.Goals as goal

pub loop-failed-init : goal.loop-failed-init
loop-failed-init c = record {
  more = omega arith;
  turn = c.requires.first.turn;
  after = first_after_none c.args.problem.now c.args.turn.now.order.items c.requires.first.first;
  tables = c.requires.tables;
}

pub returns-then-is_last_try-clause-no_path : goal.returns-then-is_last_try-clause-no_path
returns-then-is_last_try-clause-no_path c = λ agent e.
    let problem = c.args.problem.now in
    let i = c.loop-failed.invariant in
    let next = c.note_stuck.new.turn.order.items in
    let stuck = c.in_ok-place-in-Stuck.ensures in
    let few : c.loop-failed.failed ≤ c.args.tries - 1 = (let m = i.more in omega arith) in
    let some : 0 < length next = (let f = stuck.turn.turn.fewer in omega arith) in
    same_agent (IsStuckInTries (is_passable problem.grid.now) problem.instance.now problem.horizon c.args.tries) c.index-agent.result.now agent e
    (stuck_in_turn problem c.loop-failed.turn.order.items next c.args.tries c.loop-failed.failed c.in_ok-place-in-Stuck.place c.index-agent.result.now i.turn.each_once few i.after stuck.stuck stuck.turn.next
    (c.index-agent.ensures ∙ get_or_default next 0 c.index-agent.result.now 0 some) (c.is_last_try.ensures.0 c.if-is_last_try.true))

pub loop-failed-preserved : goal.loop-failed-preserved
loop-failed-preserved c =
    let problem = c.args.problem.now in
    let i = c.loop-failed.invariant in
    let stuck = c.in_ok-place-in-Stuck.ensures in
    record {
      more = elim (cases_lt (c.loop-failed.failed + 1) c.args.tries) [
        | inl less ↦ omega arith
        | inr late ↦ absurd (no_from_false c.is_last_try.result c.if-is_last_try.false c.is_last_try.ensures (inr late))
      ];
      turn = stuck.turn.turn;
      after = order_after-more (is_passable problem.grid.now) problem.instance.now problem.horizon c.loop-failed.failed c.in_ok-place-in-Stuck.place c.loop-failed.turn.order.items c.note_stuck.new.turn.order.items i.after stuck.stuck stuck.turn.next;
      tables = c.in_ok-paths.ensures.tables;
    }

pub returns-in-Made-clause-made : goal.returns-in-Made-clause-made
returns-in-Made-clause-made c =
    let problem = c.args.problem.now in
    let plan = c.in_ok-checked-in-Made.checked.plan in
    let i = c.loop-failed.invariant in
    let checked = c.in_ok-checked-in-Made.ensures in
    made_in_try problem c.loop-failed.turn.order.items plan c.args.tries c.loop-failed.failed i.turn.each_once i.more i.after checked.agents
    (subst (λ z. IsMadeInOrder (is_passable problem.grid.now) problem.instance.now problem.horizon z plan) c.as_slice.ensures.value checked.made)
