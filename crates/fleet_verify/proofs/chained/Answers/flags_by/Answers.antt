use Rattle.fleet_verify.proofs.Words.{◌≡◌, Bool, true, false, [], ◌∷◌, length, get_or, ap, sym, subst, arith, ◌↔◌, length-append, slice_get_within, get_or_from_slice_get, slice_get-get_or, Reaches, nat_eq, get, Question, IsFlagOf}
use Rattle.fleet_verify.proofs.Asked.{flag_more, flag_there}
use Rattle.fleet_verify.proofs.chained.Answers.flags_by.Goals as goal

pub returns-clause-some : goal.returns-clause-some
returns-clause-some c = λ p answers. record {
  all = omega (arith, c.loop-k.invariant.all, c.loop-k-test.false);
  each = λ k q at.
      let questions = c.args.questions.now in
      let is = c.loop-k.invariant.each k q (omega (arith, slice_get_within questions k q at, c.loop-k-test.false)) in
      let of = subst (λ (x : Question). IsFlagOf c.args.self.now x (get_or c.loop-k.flags.items k false)) (get_or_from_slice_get questions k q q at) is in
      subst (λ (b : Bool). (b ≡ true) ↔ (Reaches p q.first q.last → ⊥)) (sym of.flag) (answers.each of.place q of.asked);
}

pub loop-k-preserved : goal.loop-k-preserved
loop-k-preserved c =
    let questions = c.args.questions.now in
    let k = c.loop-k.k in
    let at = slice_get-get_or questions k _ (omega (arith, c.loop-k-test.true)) in
    record {
      all = omega (arith, ap length c.in_ok-push.ensures.items, length-append c.loop-k.flags.items (c.in-Some.flag ∷ []), c.loop-k.invariant.all);
      each = rw c.in_ok-push.ensures.items (flag_more c.args.self.now questions c.loop-k.flags.items k _ c.in-Some.flag c.loop-k.invariant.all at c.in-Some.ensures.some c.loop-k.invariant.each);
    }

pub returns-in_default-clause-none : goal.returns-in_default-clause-none
returns-in_default-clause-none c =
    let questions = c.args.questions.now in
    let at = slice_get-get_or questions c.loop-k.k _ (omega (arith, c.loop-k-test.true)) in
    flag_there c.args.self.now questions c.loop-k.k _ (get nat_eq c.args.places.now) at c.requires c.in_default.ensures.none
