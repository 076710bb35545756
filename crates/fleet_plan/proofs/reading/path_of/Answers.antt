use Rattle.fleet_plan.proofs.Words.{◌≡◌, ◌≤◌, ◌<◌, ◌∙◌, [], ◌∷◌, length, sym, rules, arith, length-append, MAX_CELLS}
use Rattle.fleet_plan.proofs.CellLaws.{passes}
use Rattle.fleet_plan.proofs.LineLoop.{fewer_words, no_blank_after, begins_with_no_word, cells_end, cells_fail, cells_more, too_many_cells}
use Rattle.fleet_plan.proofs.reading.path_of.Goals as goal

pub returns-then-not-begins_with_word : goal.returns-then-not-begins_with_word
returns-then-not-begins_with_word c = λ other. begins_with_no_word c.args.number c.args.line.now (sym c.begins_with_word.ensures ∙ c.if-not-begins_with_word.true)

pub returns-in_default : goal.returns-in_default
returns-in_default c =
    let l = c.loop-rest in
    λ other. cells_fail c.args.number c.args.line.now l.cells.items l.rest.now l.invariant.so_far l.invariant.front (search rules) (sym c.in_default.ensures)

pub too_long-requires : goal.too_long-requires
too_long-requires c = no_blank_after c.loop-rest.rest.now _ _ c.loop-rest.invariant.front (sym c.in-Some.ensures)

pub returns-then-is_full : goal.returns-then-is_full
returns-then-is_full c =
    let l = c.loop-rest in
    let many : MAX_CELLS ≤ length l.cells.items = omega (arith, c.len-is_full.ensures, c.if-is_full.true) in
    rw c.too_long.ensures (λ other. too_many_cells c.args.number c.args.line.now l.cells.items l.rest.now l.invariant.so_far l.invariant.front _ _ (sym c.in-Some.ensures) many)

pub loop-rest-smaller : goal.loop-rest-smaller
loop-rest-smaller c =
    let rest = c.loop-rest.rest.now in
    fewer_words rest _ _ (passes rest _ _ c.loop-rest.invariant.front (sym c.in-Some.ensures))

pub loop-rest-preserved : goal.loop-rest-preserved
loop-rest-preserved c =
    let l = c.loop-rest in
    let few : length l.cells.items < MAX_CELLS = omega (arith, c.len-is_full.ensures, c.if-is_full.false) in
    rw c.in_ok-push.ensures.items (record {
      front = no_blank_after l.rest.now _ _ l.invariant.front (sym c.in-Some.ensures);
      some = omega (arith, length-append l.cells.items (c.in-Some.cell ∷ []));
      few = omega (arith, few, length-append l.cells.items (c.in-Some.cell ∷ []));
      so_far = cells_more c.args.number c.args.line.now l.cells.items l.rest.now l.invariant.so_far l.invariant.front _ _ (sym c.in-Some.ensures);
    })

pub returns : goal.returns
returns c =
    let l = c.loop-rest in
    let none : length l.rest.now ≡ 0 = search rules in
    let some : 1 ≤ length l.cells.items = let h = l.invariant.some in omega (arith, h, none) in
    rw c.new.ensures (cells_end c.args.number c.args.line.now l.cells.items l.rest.now l.invariant.so_far none some l.invariant.few)
