use Rattle.fleet_needs.proofs.Words.{rules, ◌≡◌, true, false, sym, ap, ◌∙◌, arith, refl, inr, Some, critical_cost}
use Rattle.fleet_needs.proofs.{Settling.await_of, Settling.none_if_low, Settling.own_known, Settling.none_next, Settling.none_before, Settling.none_need, Settling.need_by, Settling.need_known}
use Rattle.fleet_needs.proofs.settled.+reaches.Goals as goal
use Rattle.fleet_needs.proofs.settled.+reaches.Goals.{reaches_need-then-is_other+in-Some-false, reaches_need-then-is_other+in-None, reaches_need-else-is_other, reaches_need-then-is_first, reaches_need-else-is_first}

pub reaches-returns-then-is_own-clause-known : goal.reaches-returns-then-is_own-clause-known
reaches-returns-then-is_own-clause-known g t c =
    own_known (g.P.ProgramView.program c.args.program.now) (critical_cost c.args.levels.now) c.requires.look.levels.rising c.args.first.now.action c.args.last c.requires.look.action c.requires.last (omega (arith, c.if-is_own.true)) _ refl

pub reaches-returns-then-cost-first-clause-known : goal.reaches-returns-then-cost-first-clause-known
reaches-returns-then-cost-first-clause-known g t c =
    none_if_low (g.P.ProgramView.program c.args.program.now) (critical_cost c.args.levels.now) c.requires.look.levels.rising c.args.first.now.action c.args.last (λ s. omega (arith, s, c.if-is_own.false))
    (omega (arith, c.if-cost-first.true, c.cost.ensures, c.requires.look.level))

pub reaches-returns-clause-known : goal.reaches-returns-clause-known
reaches-returns-clause-known g t c =
    need_known (g.P.ProgramView.program c.args.program.now) (critical_cost c.args.levels.now) c.args.first.now.action c.args.last c.await_count-no_await.result c.requires.last (omega (arith, c.await_count-no_await.ensures))
    ((λ s. omega (arith, s, c.if-is_own.false)), omega (arith, c.if-cost-first.false, c.cost.ensures, c.requires.look.level)) _ c.reaches_need.ensures.known

pub reaches_need-returns-in-Some-true-clause-known : goal.reaches_need-returns-in-Some-true-clause-known
reaches_need-returns-in-Some-true-clause-known g t c =
    need_by (g.P.ProgramView.program c.args.program.now) c.args.first.now.action c.args.action c.args.but c.loop-k.k (await_of c.awaited_at-needed.result) (λ s. omega (arith, s, c.if-is_other.true)) c.awaited_at-needed.ensures.awaited
    (rw (c.in-Some-true.is ∙ ap Some c.in-Some-true.field-0-test) at c.reaches.ensures.known)

pub reaches_need-loop-k-preserved : goal.reaches_need-loop-k-preserved
reaches_need-loop-k-preserved g t c =
    let p = g.P.ProgramView.program c.args.program.now in
    record {
      fewer = search rules;
      apart = λ known. elim c.if-is_other.branch [
        | reaches_need-then-is_other+in-Some-false w ↦
            none_next p c.args.first.now.action c.args.action c.args.but c.loop-k.k (await_of w.awaited_at-needed.result) w.awaited_at-needed.ensures.awaited
            (λ ne. rw (w.in-Some-false.is ∙ ap Some w.in-Some-false.field-0-test) at w.reaches.ensures.known) (c.loop-k.invariant.apart (sym w.known-is ∙ known))
        | reaches_need-then-is_other+in-None w ↦ absurd (let e : true ≡ false = sym known ∙ w.known-is in cc)
        | reaches_need-else-is_other w ↦ λ m v l other. c.loop-k.invariant.apart (sym w.known-is ∙ known) m v (omega (arith, l, other, w.if-is_other.false)) other
      ];
      unsure = λ known. elim c.if-is_other.branch [
        | reaches_need-then-is_other+in-Some-false w ↦ c.loop-k.invariant.unsure (sym w.known-is ∙ known)
        | reaches_need-then-is_other+in-None w ↦
            inr (c.loop-k.k, await_of w.awaited_at-needed.result, (λ s. omega (arith, s, w.if-is_other.true)), w.awaited_at-needed.ensures.awaited, rw w.in-None.is at w.reaches.ensures.known)
        | reaches_need-else-is_other w ↦ c.loop-k.invariant.unsure (sym w.known-is ∙ known)
      ];
    }

pub reaches_need-returns-in_default-2-clause-known : goal.reaches_need-returns-in_default-2-clause-known
reaches_need-returns-in_default-2-clause-known g t c =
    let p = g.P.ProgramView.program c.args.program.now in
    rw c.in-Some-false-own.field-0-test (none_need p c.args.first.now.action c.args.action c.args.but c.loop-k.k (omega (arith, c.loop-k-test.false, c.await_count-k-end.ensures, c.loop-k.auto.k-end))
    (c.loop-k.invariant.apart c.if-not-known.false)
    (elim c.if-is_first.branch [
      | reaches_need-then-is_first w ↦ none_before p c.args.first.now.action c.args.action (omega (arith, w.if-is_first.true))
      | reaches_need-else-is_first w ↦ rw (sym w.own-is ∙ c.in-Some-false-own.is ∙ ap Some c.in-Some-false-own.field-0-test) at w.reaches-own.ensures.known
    ]))

pub reaches_need-returns-in-Some-false-own-clause-known : goal.reaches_need-returns-in-Some-false-own-clause-known
reaches_need-returns-in-Some-false-own-clause-known g t c = c.loop-k.invariant.unsure c.if-not-known.true
