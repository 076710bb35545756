use Rattle.fleet_plan.proofs.Words.{◌≡◌, ◌≤◌, ◌⊎◌, Some, sym, ap, ◌∙◌, inl, inr, arith, ahead_of}
use Rattle.fleet_plan.proofs.RingLaws.{ring-reaches}
use Rattle.fleet_plan.proofs.AroundLaws.{around-none, around-back, around-more}
use Rattle.fleet_plan.proofs.sweep.least_around.Goals as goal
use Rattle.fleet_plan.proofs.sweep.least_around.Goals.{then-is_less, else-is_less}

pub loop-step-init : goal.loop-step-init
loop-step-init c = around-none c.args.ahead.now c.args.first c.requires.agents c.requires.ring

pub returns-then-is_back-clause-ring : goal.returns-then-is_back-clause-ring
returns-then-is_back-clause-ring c = (ring-reaches c.args.ahead.now c.args.first c.loop-step.invariant.among.0 c.loop-step.least c.requires.ring c.loop-step.invariant.among.1).0

pub returns-then-is_back-clause-least : goal.returns-then-is_back-clause-least
returns-then-is_back-clause-least c =
    let back : ahead_of c.args.ahead.now c.loop-step.agent ≡ Some c.args.first = ap (ahead_of c.args.ahead.now) (sym c.from.ensures) ∙ c.in-Some.is ∙ ap (λ n. Some n) (omega (arith, c.if-is_back.true)) in
    around-back c.args.ahead.now c.args.first c.loop-step.agent c.loop-step.least c.loop-step._step c.loop-step.invariant back

pub loop-step-preserved : goal.loop-step-preserved
loop-step-preserved c =
    let e : ahead_of c.args.ahead.now c.loop-step.agent ≡ Some c.in-Some.next = ap (ahead_of c.args.ahead.now) (sym c.from.ensures) ∙ c.in-Some.is in
    let below : c.if-is_less.least ≤ c.loop-step.least = elim c.if-is_less.branch [ then-is_less w ↦ omega arith | else-is_less w ↦ omega arith ] in
    let here : c.if-is_less.least ≤ c.in-Some.next = elim c.if-is_less.branch [ then-is_less w ↦ omega arith | else-is_less w ↦ omega arith ] in
    let which : (c.if-is_less.least ≡ c.loop-step.least) ⊎ (c.if-is_less.least ≡ c.in-Some.next) = elim c.if-is_less.branch [ then-is_less w ↦ inr (omega arith) | else-is_less w ↦ inl (omega arith) ] in
    around-more c.args.ahead.now c.args.first c.loop-step.agent c.loop-step.least c.loop-step._step c.loop-step.invariant c.in-Some.next c.if-is_less.least e (λ s. c.if-is_back.false (omega (arith, s))) below here which
