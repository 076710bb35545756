use Rattle.fleet_code.proofs.Words.{◌<◌, ◌≡◌, ◌∙◌, length, refl, sym, subst, arith, inl, inr, cases_lt, false≢true, MovesAlways}
use Rattle.fleet_code.proofs.Stays.{none_stays}
use Rattle.fleet_code.proofs.code_view.all_move.Goals as goal

pub returns-then-not-are_moves : goal.returns-then-not-are_moves
returns-then-not-are_moves g c =
    let p = g.P.ProgramView.program c.args.program.now in
    let within : c.loop-i.i < length p = omega (arith, c.loop-i-test.true, c.agents-i-end.ensures.count) in (
      λ t. absurd (false≢true t),
      λ h. absurd (false≢true (sym c.if-not-are_moves.true ∙ c.are_moves.ensures.1 ((none_stays p).1 h c.loop-i.i within))),
    )

pub loop-i-preserved : goal.loop-i-preserved
loop-i-preserved g c = λ k lt. elim (cases_lt k c.loop-i.i) [
  | inl low ↦ c.loop-i.invariant k low
  | inr high ↦
      let same : c.loop-i.i ≡ k = omega arith in
      subst (MovesAlways (g.P.ProgramView.program c.args.program.now)) same (c.are_moves.ensures.0 c.if-not-are_moves.false)
]

pub returns : goal.returns
returns g c =
    let p = g.P.ProgramView.program c.args.program.now in (
      λ t. (none_stays p).0 (λ k lt. c.loop-i.invariant k (omega (arith, lt, c.loop-i-test.false, c.agents-i-end.ensures.count))),
      λ h. refl,
    )
