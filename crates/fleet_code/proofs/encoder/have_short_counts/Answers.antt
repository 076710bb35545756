use Rattle.fleet_code.proofs.Words.{◌<◌, ◌≤◌, ◌∙◌, List, All, length, refl, sym, arith, false≢true, take_all, Action, Await, MAX_AWAIT_V1}
use Rattle.fleet_model.proofs.ActionRows.{all_at, all_more}
use Rattle.fleet_code.proofs.encoder.have_short_counts.Goals as goal

-- the counts fit version 1
abbrev AreShort : List Await → Type 0
AreShort ws = All (λ (w : Await). w.count ≤ MAX_AWAIT_V1) ws

pub returns-then-not-are_short : goal.returns-then-not-are_short
returns-then-not-are_short c =
    let within : c.loop-k.k < length c.args.actions.now = omega (arith, c.loop-k-test.true, c.len-k-end.ensures) in (
      λ t. absurd (false≢true t),
      λ h. absurd (false≢true (sym c.if-not-are_short.true ∙ c.are_short.ensures.1 (all_at (λ (s : Action). s.awaits) AreShort c.args.actions.now c.loop-k.k c.awaits.result.now within c.awaits.ensures h))),
    )

pub loop-k-preserved : goal.loop-k-preserved
loop-k-preserved c =
    all_more (λ (s : Action). s.awaits) AreShort c.args.actions.now c.loop-k.k c.awaits.result.now (omega (arith, c.loop-k-test.true, c.len-k-end.ensures)) c.awaits.ensures c.loop-k.invariant
    (c.are_short.ensures.0 c.if-not-are_short.false)

pub returns : goal.returns
returns c = (λ t. rw (take_all c.loop-k.k c.args.actions.now (omega (arith, c.loop-k-test.false, c.len-k-end.ensures))) at c.loop-k.invariant, λ h. refl)
