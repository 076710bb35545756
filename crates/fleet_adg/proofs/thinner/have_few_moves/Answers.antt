use Rattle.fleet_adg.proofs.Words.{◌≤◌, ◌≡◌, [], length, refl, ap, subst, arith, inl, inr, Option, option_map_or, cases_lt, slice_get_past, MAX_MOVES_V1, AgentProgram, moves}
use Rattle.fleet_adg.proofs.thinner.have_few_moves.Goals as goal

pub loop-i-preserved : goal.loop-i-preserved
loop-i-preserved g c = λ k lt. elim (cases_lt k c.loop-i.i) [
  | inl low ↦ c.loop-i.invariant k low
  | inr high ↦
      let same : c.loop-i.i ≡ k = omega arith in
      subst (λ n. moves (g.P.ProgramView.program c.args.program.now) n ≤ MAX_MOVES_V1) same (omega (arith, c.moves-has_more.ensures, c.if-has_more.false))
]

pub returns : goal.returns
returns g c =
    let p = g.P.ProgramView.program c.args.program.now in (
      λ t k. elim (cases_lt k c.loop-i.i) [
        | inl low ↦ c.loop-i.invariant k low
        | inr high ↦
            let past : length p ≤ k = omega (arith, c.loop-i-test.false, c.agents-i-end.ensures.count) in
            let none : moves p k ≡ 0 = ap (λ (o : Option AgentProgram). length (option_map_or (λ (a : AgentProgram). a.actions) o [])) (slice_get_past p k past) in
            omega (arith, none)
      ],
      λ h. refl,
    )
