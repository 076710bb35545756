use Rattle.fleet_plan.proofs.Words.{◌≡◌, ℕ, ◌<◌, Bool, true, false, length, set, slice_index, Option, Some, None, IfSome, sym, subst, ◌∙◌, arith, inl, inr, ◌≢◌, ahead_of, IsAhead, Exchange, HasNone}
use Rattle.fleet_plan.proofs.RingLaws.{none_is_not}
use Rattle.fleet_plan.proofs.RowLaws.{but_begins, but_ends}
use Rattle.fleet_plan.proofs.MeetLaws.{ahead_more, ahead_other, no_exchange_more}
use Rattle.fleet_plan.proofs.sweep.fill_ahead.Goals.{then-is_behind, else-is_behind}
use Rattle.fleet_plan.proofs.sweep.fill_ahead.Goals as goal

-- who is ahead is another agent
another : (n i : ℕ) (o : Option ℕ) → IfSome o (λ j. (j < n) × (j ≢ i)) → IfSome o (λ j. j ≢ i)
another n i None h = tt
another n i (Some j) h = h.1

-- what holds where the answer is no, where it is no
told : (P : ℕ → Type 0) (answer : Bool) (o : Option ℕ) → answer ≡ false → IfSome o (λ j. answer ≡ false → P j) → IfSome o P
told P answer None is h = tt
told P answer (Some j) is h = h is

pub loop-i-init : goal.loop-i-init
loop-i-init c =
    let places = c.args.places.now in
    let next = c.args.next.now in
    let ahead = c.args.ahead.now in
    record {
      each = but_begins c.args.agents.now (length places) (λ (k : ℕ). IsAhead places next k (ahead_of ahead k))
          (λ i l. elim (c.requires.agents.others i l) [ inl later ↦ inl later | inr stays ↦ inr (subst (IsAhead places next i) (sym (c.requires.ahead.none i)) (inl stays)) ]);
      apart = λ yes i j both. none_is_not j (ahead_of ahead i) both.there (c.requires.ahead.none i);
    }

pub loop-i-preserved : goal.loop-i-preserved
loop-i-preserved c =
    let places = c.args.places.now in
    let next = c.args.next.now in
    let old = c.loop-i.ahead in
    let index = c.loop-i.i-index in
    let i : ℕ = slice_index c.args.agents.now index in
    let one = c.agent_ahead-next_one.result in
    let agent : i < length places = c.requires.agents.agents index 0 c.loop-i-test.true in
    let within : i < length old = omega (arith, agent, c.requires.ahead.all, c.loop-i.auto.ahead) in
    record {
      each = ahead_more c.args.agents.now places next old index (length places) c.from.result one c.from.ensures within c.agent_ahead-next_one.ensures c.loop-i.invariant.each;
      apart = elim c.if-is_behind.branch [
        | then-is_behind w ↦ λ yes. (let left : c.if-is_behind.apart ≡ false = w.apart-is in let kept : c.if-is_behind.apart ≡ true = yes in absurd (cc))
        | else-is_behind w ↦ λ yes. subst (λ (p : ℕ). HasNone (Exchange (set old p one))) (sym c.from.ensures)
            (no_exchange_more old i one within (c.loop-i.invariant.apart (sym w.apart-is ∙ yes)) (another (length places) i one (ahead_other places next i one c.agent_ahead-next_one.ensures))
            (told (λ j. ahead_of old j ≢ Some i) c.is_behind.result one w.if-is_behind.false c.is_behind.ensures))
      ];
    }

pub returns-clause-ahead : goal.returns-clause-ahead
returns-clause-ahead c =
    let places = c.args.places.now in
    let next = c.args.next.now in
    let ahead = c.loop-i.ahead in
    record {
      all = omega (arith, c.requires.ahead.all, c.loop-i.auto.ahead);
      each = but_ends c.args.agents.now c.loop-i.i-index (length places) (λ (k : ℕ). IsAhead places next k (ahead_of ahead k)) c.loop-i.invariant.each c.loop-i-test.false;
    }

pub returns-clause-apart : goal.returns-clause-apart
returns-clause-apart c = c.loop-i.invariant.apart
