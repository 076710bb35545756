use Rattle.fleet_verify.proofs.Words.{◌≡◌, ◌≤◌, ◌++◌, ◌∷◌, [], ℕ, List, length, get_or, set, refl, sym, ap, ◌∙◌, subst, arith, get_or-set_other, length-set, climbed, last_level}
use Rattle.fleet_verify.proofs.Climbing.{raised_next, raised_by, raised_begun, row_there}
use Rattle.fleet_verify.proofs.ahead.raise.Goals as goal

pub returns-then-climbs : goal.returns-then-climbs
returns-then-climbs c = record {
  rows = refl;
  begun = omega (arith, c.requires.begun);
  raised = raised_next c.args.rows.now.items c.args.agent c.args.runner.finished c.args.level c.requires.agent c.requires.begun (omega (arith, c.if-climbs.true, c.requires.level, c.requires.some));
  others = λ j ne. refl;
}

pub jump-requires-clause-begun : goal.jump-requires-clause-begun
jump-requires-clause-begun c =
    let here = row_there c.args.rows.now.items c.args.agent c.from.result c.index_mut-row.result.now c.requires.agent c.from.ensures c.index_mut-row.ensures.value in
    subst (λ (row : List ℕ). length row ≤ c.args.runner.finished) (sym here) c.requires.begun

pub jump-requires-clause-last : goal.jump-requires-clause-last
jump-requires-clause-last c =
    let here = row_there c.args.rows.now.items c.args.agent c.from.result c.index_mut-row.result.now c.requires.agent c.from.ensures c.index_mut-row.ensures.value in
    subst (λ (row : List ℕ). c.args.runner.level ≡ last_level (climbed row c.args.runner.finished)) (sym here) c.requires.level

pub returns : goal.returns
returns c =
    let rows = c.args.rows.now.items in
    let here = row_there rows c.args.agent c.from.result c.index_mut-row.result.now c.requires.agent c.from.ensures c.index_mut-row.ensures.value in
    let made : c.jump.new.row ≡ climbed (get_or rows c.args.agent []) c.args.runner.finished ++ c.args.level ∷ [] = c.in_ok-jump.ensures ∙ ap (λ (row : List ℕ). climbed row c.args.runner.finished ++ c.args.level ∷ []) here in
    record {
      rows = length-set rows c.from.result c.jump.new.row;
      begun = raised_begun rows c.jump.new.row c.args.agent c.from.result c.args.runner.finished c.args.level c.requires.agent c.requires.begun c.from.ensures made;
      raised = raised_by rows (set rows c.from.result c.jump.new.row) c.jump.new.row c.args.agent c.args.runner.finished c.args.level c.requires.agent c.requires.begun made (ap (λ (k : ℕ). set rows k c.jump.new.row) c.from.ensures);
      others = λ j ne. ap (λ (k : ℕ). get_or (set rows k c.jump.new.row) j []) c.from.ensures ∙ get_or-set_other rows c.args.agent j c.jump.new.row [] ne;
    }
