use Rattle.fleet_verify.proofs.Words.{◌≡◌, length, ap, ◌∙◌, subst, sym, arith, subst₂, AreZeros, IsNeededRow}
use Rattle.fleet_verify.proofs.Rows.{written_back}
use Rattle.fleet_verify.proofs.needed.needed_for.Goals as goal

pub returns : goal.returns
returns g c =
    let long : length c.close.new.needed ≡ c.in_ok-needed.needed.len = omega (arith, c.close.auto.needed, c.deref_mut.ensures.len) in
    let wide = ap length c.deref_mut.ensures.value ∙ (c.in_ok-needed.ensures.all ∙ c.agents.ensures.count) in
    subst (IsNeededRow (g.P.ProgramView.program c.args.program.now) c.args.first c.args.second) (sym (written_back c.in_ok-needed.needed.len c.close.new.needed c.in_ok-needed.needed.items long))
    (record { all = c.close.auto.needed ∙ wide; needed = c.close.ensures })

pub close-requires : goal.close-requires
close-requires g c = record {
  visits = c.requires.visits;
  apart = c.requires.apart;
  range = c.requires.range;
  needed = subst₂ AreZeros c.agents.ensures.count (sym c.deref_mut.ensures.value) c.in_ok-needed.ensures;
  looked = subst₂ AreZeros c.agents-2.ensures.count (sym c.deref_mut-2.ensures.value) c.in_ok-looked.ensures;
}
