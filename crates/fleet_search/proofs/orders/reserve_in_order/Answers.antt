use Rattle.fleet_search.proofs.Words.{◌≡◌, [], suc, ◌-◌, get_or, ◌+◌, ◌<◌, ◌≤◌, length, sym, subst, arith, IsOldPath}
use Rattle.fleet_search.proofs.OrderLaws.{agents_below}
use Rattle.fleet_search.proofs.Attempting.{nothing_made, old_path, added_made, stuck_attempt, kept_attempt}
use Rattle.fleet_search.proofs.orders.reserve_in_order.Goals as goal

pub add_path-requires-clause-agent : goal.add_path-requires-clause-agent
add_path-requires-clause-agent c = agents_below (length c.args.problem.now.instance.now) c.args.order.now c.requires.turn.each_once 0 0 (let f = c.requires.turn.fewer in omega arith)

pub returns-then-not-branch-clause-attempt : goal.returns-then-not-branch-clause-attempt
returns-then-not-branch-clause-attempt c =
    let problem = c.args.problem.now in
    let order = c.args.order.now in
    let each = c.requires.turn.each_once in
    stuck_attempt problem order each 0 c.args.reserved.now c.add_path.new.reserved (omega (arith, c.requires.turn.fewer)) (nothing_made problem order each c.args.reserved.now c.requires.none)
    (rw c.if-not-branch.true at c.in_ok-add_path.ensures.added)

pub loop-place-init : goal.loop-place-init
loop-place-init c =
    let turn = c.requires.turn in (
      kept_attempt c.args.problem.now c.args.order.now turn.each_once c.args.reserved.now c.add_path.new.reserved c.keep_paths.new.reserved c.args.kept.now c.in_ok-first.field-0 turn c.requires.none
          (rw c.if-not-branch.false at c.in_ok-add_path.ensures.added) c.in_ok-first.ensures,
      c.in_ok-add_path.ensures.tables,
    )

pub add_path_again-requires-clause-agent : goal.add_path_again-requires-clause-agent
add_path_again-requires-clause-agent c = agents_below (length c.args.problem.now.instance.now) c.args.order.now c.requires.turn.each_once c.loop-place.place 0 (omega arith)

pub add_path_again-requires-clause-old : goal.add_path_again-requires-clause-old
add_path_again-requires-clause-old c = λ h.
    let problem = c.args.problem.now in
    let order = c.args.order.now in
    let kept = c.args.kept.now in
    let place = c.loop-place.place in
    let e : suc (place - 1) ≡ place = omega arith in
    subst (λ z. IsOldPath problem (get_or order z 0) (get_or kept (place - 1) [])) e (old_path problem order c.requires.turn.each_once kept (place - 1) (omega arith) c.requires.turn.made h)

pub returns-then-not-branch-2-clause-attempt : goal.returns-then-not-branch-2-clause-attempt
returns-then-not-branch-2-clause-attempt c =
    let l : c.loop-place.place < length c.args.order.now = omega arith in
    stuck_attempt c.args.problem.now c.args.order.now c.requires.turn.each_once c.loop-place.place c.loop-place.reserved c.add_path_again.new.reserved l c.loop-place.invariant.0
    (rw c.if-not-branch-2.true at c.in_ok-add_path_again.ensures.added)

pub loop-place-preserved : goal.loop-place-preserved
loop-place-preserved c =
    let l : c.loop-place.place < length c.args.order.now = omega arith in (
      added_made c.args.problem.now c.args.order.now c.requires.turn.each_once c.loop-place.place c.loop-place.reserved c.add_path_again.new.reserved l c.loop-place.invariant.0
          (rw c.if-not-branch-2.false at c.in_ok-add_path_again.ensures.added),
      c.in_ok-add_path_again.ensures.tables,
    )

pub returns-clause-attempt : goal.returns-clause-attempt
returns-clause-attempt c =
    let few : c.in_ok-first.field-0 + 1 ≤ length c.args.order.now = (let f = c.requires.turn.fewer in let b = c.in_ok-first.ensures.bound in omega arith) in
    let all : c.loop-place.place ≡ length c.args.order.now = omega arith in
    rw (sym all) c.loop-place.invariant.0
