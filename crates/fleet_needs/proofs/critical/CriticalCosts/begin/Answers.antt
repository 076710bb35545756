use Rattle.fleet_needs.proofs.Words.{◌≡◌, ◌∙◌, List, length, ap, inl, inr, cases_lt, get_or_append_left, get_or_push, refl, rules, row_in, sym, subst, arith, no_row, Finished, IsRun}
use Rattle.fleet_needs.proofs.Walking.{greatest_own}
use Rattle.fleet_needs.proofs.critical.CriticalCosts.begin.Goals as goal

pub returns : goal.returns
returns g c cost =
    let p = g.P.ProgramView.program c.args.program.now in
    let offset = g.P.ProgramView.offset c.args.program.now in
    let was = c.loop-i.invariant in
    let rows : length c.loop-i.rows.items ≡ length p = omega (arith, was.all, c.loop-i-test.false, c.loop-i.auto.i-end, c.agents-agents.ensures.count) in
    record {
      numbered = c.requires;
      rows = rows;
      each = λ i l. subst (IsRun p cost offset i) (sym (was.each i (omega (arith, l, rows, was.all)))) (record {
        few = omega arith;
        noted = λ n l. absurd (omega (arith, l));
        next = record { within = omega arith; at = refl; greatest = greatest_own p cost i 0 0 (inl (refl, refl)) };
      });
    }

pub loop-i-preserved : goal.loop-i-preserved
loop-i-preserved g c =
    let was = c.loop-i.invariant in
    let xs = c.loop-i.rows.items in
    record {
      all = omega (arith, was.all, c.in_ok-push.ensures.len);
      each = λ k l. ap (λ (ys : List Finished). row_in ys k) c.in_ok-push.ensures.items ∙ elim (cases_lt k (length xs)) [
        | inl low ↦ get_or_append_left xs _ no_row k low ∙ was.each k (omega (arith, low, was.all))
        | inr high ↦ (let e : length xs ≡ k = omega (arith, high, l, was.all) in get_or_push xs _ no_row k e ∙ search rules)
      ];
    }
