use Rattle.fleet_verify.proofs.Words.{ℕ, ◌+◌, List, length, get_or, ap, sym, ◌∙◌, subst, arith, length_push, Question, IsAskedOf, BeginsLater, AreVisits}
use Rattle.fleet_verify.proofs.Asked.{asked_more}
use Rattle.fleet_verify.proofs.chained.ask_all.Goals as goal

pub ask-requires-clause-visits : goal.ask-requires-clause-visits
ask-requires-clause-visits g c =
    let p = g.P.ProgramView.program c.args.program.now in
    subst (AreVisits p) (c.pair_at.ensures c.pair_at.result) (c.requires.visits c.loop-k.k c.pair_at.result (omega arith))

pub loop-k-preserved : goal.loop-k-preserved
loop-k-preserved g c =
    let p = g.P.ProgramView.program c.args.program.now in
    let was = c.loop-k.invariant in
    let asked = c.loop-k.asked.items in
    let pairs = c.args.pairs.now.items in
    let pushed = c.in_ok-push.ensures.items in
    record {
      all = ap (λ (xs : List Question). length xs) pushed ∙ length_push asked c.in-Some.question ∙ ap (λ (n : ℕ). n + 1) was.all;
      each = λ j o q l. subst (λ (xs : List Question). IsAskedOf p (get_or pairs j o) (get_or xs j q)) (sym pushed)
          (asked_more p pairs c.loop-k.k asked c.pair_at.result c.in-Some.question was.all c.pair_at.ensures c.in-Some.ensures.asked was.each j o q l);
    }

pub returns-in_default-clause-none : goal.returns-in_default-clause-none
returns-in_default-clause-none g c = λ later.
    c.in_default.ensures.none (subst (BeginsLater c.args.rows.now.items) (c.pair_at.ensures c.pair_at.result) (later c.loop-k.k c.pair_at.result (omega arith)))
