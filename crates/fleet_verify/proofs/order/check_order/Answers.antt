use Rattle.fleet_verify.proofs.Words.{◌≡◌, ℕ, List, length, map, None, refl, sym, ◌∙◌, subst, arith, err_from_is_err_and, All, eqb-true, nat_eq, IsQuestion, OpenPair, AreVisits, question_of, IsChained, AnswersFirstBad, get}
use Rattle.fleet_verify.proofs.Judged.{none_broken}
use Rattle.fleet_verify.proofs.OpenPairs.{are_visits, are_questions, violations_are, none_open}
use Rattle.fleet_verify.proofs.Ordered.{no_entries}
use Rattle.fleet_verify.proofs.Stays.{ranges_all}
use Rattle.fleet_verify.proofs.order.check_order.Goals as goal

pub returns-then-is_empty-clause-ok : goal.returns-then-is_empty-clause-ok
returns-then-is_empty-clause-ok g c =
    let p = g.P.ProgramView.program c.args.program.now in
    let added = c.requires.added in
    let range = ranges_all p c.requires.before.ranges in
    none_broken p added.placed (λ d. None) added.all added.each
    (none_open p c.args.run.now.visits added.placed added.all added.grouped range (no_entries c.args.run.now.visits.pairs.items (let none : c.args.run.now.visits.pairs.len ≡ 0 = eqb-true c.args.run.now.visits.pairs.len 0 (sym c.is_empty.ensures ∙ c.if-is_empty.true) in omega (arith, c.args.run.now.visits.pairs.ok.0))))
    (λ d. refl)

pub find_violations-requires-clause-range : goal.find_violations-requires-clause-range
find_violations-requires-clause-range g c = ranges_all (g.P.ProgramView.program c.args.program.now) c.requires.before.ranges

pub find_violations-requires-clause-visits : goal.find_violations-requires-clause-visits
find_violations-requires-clause-visits g c =
    let added = c.requires.added in
    let p = g.P.ProgramView.program c.args.program.now in
    subst (All (AreVisits p)) (sym c.deref.ensures.value) (are_visits p c.args.run.now.visits added.placed added.all added.grouped)

pub find_violations-requires-clause-questions : goal.find_violations-requires-clause-questions
find_violations-requires-clause-questions g c =
    let added = c.requires.added in
    let p = g.P.ProgramView.program c.args.program.now in
    subst (λ (ps : List OpenPair). All (IsQuestion p) (map (question_of p) ps)) (sym c.deref.ensures.value)
    (are_questions p c.args.run.now.visits added.placed added.all added.grouped c.args.instance.now c.requires.before.before.before.before c.agents-agents.ensures.instance)

pub returns-in_err-violations-clause-err : goal.returns-in_err-violations-clause-err
returns-in_err-violations-clause-err g c =
    let e = err_from_is_err_and c.from_residual.result c.from_residual.ensures.1 in
    rw (e.1, e.2) tt

pub check_cells-requires-clause-violations : goal.check_cells-requires-clause-violations
check_cells-requires-clause-violations g c =
    let p = g.P.ProgramView.program c.args.program.now in
    let added = c.requires.added in
    let found = c.in_ok-violations.violations in
    let tells = subst (λ (ps : List OpenPair). (n : ℕ) → AnswersFirstBad (λ _ o. ¬ IsChained p o) ps (length ps) n (get nat_eq found n)) c.deref.ensures.value c.in_ok-violations.ensures in
    record {
      placed = added.placed;
      all = added.all;
      each = added.each;
      violations = violations_are p c.args.run.now.visits added.placed added.all added.grouped (ranges_all p c.requires.before.ranges) (λ n. get nat_eq found n) tells;
    }
