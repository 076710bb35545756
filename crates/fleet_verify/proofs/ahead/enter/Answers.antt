use Rattle.fleet_verify.proofs.Words.{Option, sym, ◌∙◌, subst, rules, IsCell, Visit, ComesAfterByAwait, IsOpenNext}
use Rattle.fleet_verify.proofs.ahead.enter.Goals as goal

pub returns-in_ok-open_unless_follows-in-Some-clause-kept : goal.returns-in_ok-open_unless_follows-in-Some-clause-kept
returns-in_ok-open_unless_follows-in-Some-clause-kept g c =
    let kept = c.in_ok-first.ensures.kept in
    let before = sym c.in-Some.is ∙ kept.before in
    record {
      here = kept.here;
      others = kept.others;
      pairs = subst (λ (o : Option Visit). IsOpenNext (ComesAfterByAwait (g.P.ProgramView.program c.args.program.now)) o c.args.placed c.args.pairs.now.items c.open_unless_follows.new.pairs.items) before c.in_ok-open_unless_follows-in-Some.ensures;
    }

pub open_unless_follows-requires-clause-earlier : goal.open_unless_follows-requires-clause-earlier
open_unless_follows-requires-clause-earlier g c =
    let before = sym c.in-Some.is ∙ c.in_ok-first.ensures.kept.before in
    let there : IsCell c.args.placed.cell = search rules in
    c.requires.before.earlier c.args.placed.cell there c.in-Some.first (sym before)
