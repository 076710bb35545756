use Rattle.fleet_needs.proofs.Words.{◌≡◌, ◌+◌, ℕ, set, refl, sym, ap, ◌∙◌, arith, inl, inr, is_some, not-false, flags_of, critical_cost, first_await, ReachesNeed}
use Rattle.fleet_needs.specs.Settled.{HasOpenNeed, IsKnown}
use Rattle.fleet_needs.proofs.{AwaitOrder.known_put, Settling.need_by, Settling.settled_by, Settling.settled_on, Settling.await_of, Settling.first_next}
use Rattle.fleet_needs.proofs.settled.settle_action.Goals.{then-is_passed, else-is_passed, then-is_other, else-is_other}
use Rattle.fleet_needs.proofs.settled.settle_action.Goals as goal

pub returns-then-awaits-eq0 : goal.returns-then-awaits-eq0
returns-then-awaits-eq0 g c = settled_on _ _ _ _ _ (omega (arith, c.if-awaits-eq0.true, c.await_count-awaits.ensures, first_next (g.P.ProgramView.program c.args.program.now) c.args.action c.requires.action.first)) c.requires.settled

pub loop-k-init : goal.loop-k-init
loop-k-init g c = settled_on _ _ _ _ _ (omega arith) c.requires.settled

pub loop-k-preserved : goal.loop-k-preserved
loop-k-preserved g c =
    let p = g.P.ProgramView.program c.args.program.now in
    let a = c.args.action in
    let k : ℕ = c.loop-k.k in
    let flag = c.unwrap_or.result in
    let shown : IsKnown (ReachesNeed p c.awaited_at-awaited.result a k) (HasOpenNeed p (critical_cost c.args.levels.now) c.awaited_at-awaited.result a k) c.if-is_passed.known =
    elim c.if-is_passed.branch [
      | then-is_passed w ↦ rw w.known-is (elim c.if-is_other.branch [
        | then-is_other v ↦ need_by p c.awaited_at-awaited.result a k c.latest_await-latest.result (await_of c.awaited_at-other.result) (λ same. omega (arith, v.if-is_other.true, same)) c.awaited_at-other.ensures.awaited (v.is_needed-is_passed.ensures (sym v.is_passed-is ∙ w.if-is_passed.true))
        | else-is_other v ↦ absurd (omega (arith, v.if-is_other.false, sym v.is_passed-is ∙ w.if-is_passed.true))
      ])
      | else-is_passed w ↦ rw w.known-is w.reaches_need-known.ensures.known
    ] in
    let place : c.first-place.result + c.from.result ≡ first_await p a + k = omega (arith, c.from.ensures, c.first-place.ensures.place) in
    record {
      agents = c.ask_if.ensures.all ∙ c.loop-k.invariant.agents;
      settled = known_put p _ _ a c.requires.action k (await_of c.awaited_at-awaited.result) c.awaited_at-awaited.ensures.awaited c.loop-k.implied _ flag refl (ap (λ (n : ℕ). set (flags_of c.loop-k.implied) n flag) place)
          (λ b j v there ne left. elim left [ inl past ↦ inl (omega (arith, past, ne)) | inr set ↦ inr (c.ask_if.ensures.more v.agent set) ])
          (rw c.unwrap_or.ensures (settled_by p c.agents.ensures.well_formed c.requires.levels.range a c.requires.action.first k c.awaited_at-awaited.result c.awaited_at-awaited.ensures.awaited c.ask_if.new.asked.items (first_await p a + (k + 1)) c.if-is_passed.known
          (λ e. c.ask_if.ensures.asks (not-false c.is_none.result (sym c.is_none.ensures ∙ ap is_some e))) (critical_cost c.args.levels.now) shown)) c.loop-k.invariant.settled;
    }

pub returns : goal.returns
returns g c = settled_on _ _ _ _ _ (omega (arith, c.loop-k-test.false, c.await_count-awaits.ensures, c.loop-k.auto.k-end, first_next (g.P.ProgramView.program c.args.program.now) c.args.action c.requires.action.first)) c.loop-k.invariant
