use Rattle.fleet_verify.proofs.Words.{ℕ, arith, inl, inr, ap, subst, sym, ◌∙◌, get_or, cases_lt, IsChained}
use Rattle.fleet_verify.proofs.chained.are_near.Goals as goal

pub loop-k-preserved : goal.loop-k-preserved
loop-k-preserved g c =
    let p = g.P.ProgramView.program c.args.program.now in
    let pairs = c.args.pairs.now.items in
    record {
      chained = λ j o l. elim (cases_lt j c.loop-k.k) [
        | inl less ↦ c.loop-k.invariant.chained j o less
        | inr high ↦ subst (IsChained p) (sym (ap (λ (n : ℕ). get_or pairs n o) (omega (arith, l, high)) ∙ c.pair_at.ensures o)) (c.is_near.ensures c.if-not-is_near.false)
      ];
    }
