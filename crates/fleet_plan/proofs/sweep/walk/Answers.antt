use Rattle.fleet_plan.proofs.Words.{◌≡◌, Some, None, sym, ap, ◌∙◌, arith, ahead_of, walk_of}
use Rattle.fleet_plan.proofs.RingLaws.{some_is}
use Rattle.fleet_plan.proofs.WalkLaws.{fewer, walk_begins, walk-more, walk_ends, walk_meets_itself, walk_meets_another}
use Rattle.fleet_plan.proofs.sweep.walk.Goals as goal

pub loop-next-init : goal.loop-next-init
loop-next-init c = walk_begins c.args.ahead.now c.args.walks.now c.args.number c.args.first c.requires.closed c.requires.agent

pub returns-then-is_own : goal.returns-then-is_own
returns-then-is_own c =
    let own : c.in-Some.walk ≡ c.args.number = omega (arith, c.if-is_own.true) in
    let here : walk_of c.loop-next.walks c.loop-next.agent ≡ Some c.in-Some.walk = ap (walk_of c.loop-next.walks) (sym c.from-in-loop-next.ensures) ∙ c.in-Some.is in
    walk_meets_itself c.args.ahead.now c.args.walks.now c.loop-next.walks c.args.number c.args.first c.loop-next.agent c.loop-next.invariant c.requires.closed (here ∙ ap (λ n. Some n) own)

pub returns-else-is_own : goal.returns-else-is_own
returns-else-is_own c =
    let here : walk_of c.loop-next.walks c.loop-next.agent ≡ Some c.in-Some.walk = ap (walk_of c.loop-next.walks) (sym c.from-in-loop-next.ensures) ∙ c.in-Some.is in
    walk_meets_another c.args.ahead.now c.args.walks.now c.loop-next.walks c.args.number c.args.first c.loop-next.agent c.loop-next.invariant c.requires.closed (c.in-Some.walk, here)
    (λ e. let own = some_is c.in-Some.walk c.args.number (walk_of c.loop-next.walks c.loop-next.agent) here e in omega (arith, own, c.if-is_own.false))

pub returns-in_err-next : goal.returns-in_err-next
returns-in_err-next c =
    let ends : ahead_of c.args.ahead.now c.loop-next.agent ≡ None = ap (ahead_of c.args.ahead.now) (sym c.from.ensures) ∙ c.in_err-next.was in
    rw c.from_residual.ensures (walk_ends c.args.ahead.now c.args.walks.now c.loop-next.walks c.args.number c.args.first c.loop-next.agent c.loop-next.invariant c.requires.closed ends)

pub loop-next-preserved : goal.loop-next-preserved
loop-next-preserved c =
    let free : walk_of c.loop-next.walks c.loop-next.agent ≡ None = ap (walk_of c.loop-next.walks) (sym c.from-in-loop-next.ensures) ∙ c.in_default.is in
    let next : ahead_of c.args.ahead.now c.loop-next.agent ≡ Some c.in_ok-next.next = ap (ahead_of c.args.ahead.now) (sym c.from.ensures) ∙ c.in_ok-next.was in
    rw c.from-in-loop-next-2.ensures (walk-more c.args.ahead.now c.args.walks.now c.loop-next.walks c.args.number c.args.first c.loop-next.agent c.loop-next.invariant free c.requires.agents c.in_ok-next.next next)

pub loop-next-smaller : goal.loop-next-smaller
loop-next-smaller c =
    let free : walk_of c.loop-next.walks c.loop-next.agent ≡ None = ap (walk_of c.loop-next.walks) (sym c.from-in-loop-next.ensures) ∙ c.in_default.is in
    rw c.from-in-loop-next-2.ensures (fewer c.loop-next.walks c.loop-next.agent c.args.number (omega (arith, c.loop-next.invariant.within, c.loop-next.invariant.all)) free)
