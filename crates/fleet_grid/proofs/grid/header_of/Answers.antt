use Rattle.std.proofs.Common.{◌≡◌, ◌∙◌, drop, false, true, sym, arith, rules}
use Rattle.std.specs.Prelude.{is_none, codes}
use Rattle.std.proofs.lemmas.Grind.{common_steps}
use Rattle.fleet_grid.specs.MapText.{line_at}
use Rattle.fleet_grid.specs.MapReading.{field}
use Rattle.fleet_grid.proofs.HeaderLaws.{header_is, if_ok}
use Rattle.fleet_grid.proofs.grid.header_of.Goals as goal

pub returns-then-not-is_alone-clause-value : goal.returns-then-not-is_alone-clause-value
returns-then-not-is_alone-clause-value c =
    let ls = c.args.lines.now in
    let kind : is_none (field (codes "type") (line_at ls 0)) ≡ false = search rules in
    let height = rw c.next_of.ensures.rest at (sym c.number_field.ensures.value ∙ c.in-Some.is) in
    let width = rw (c.number_field.ensures.rest, c.next_of.ensures.rest) at (sym c.number_field-2.ensures.value ∙ c.in-Some-number_field.is) in
    let alone = rw (c.number_field-2.ensures.rest, c.number_field.ensures.rest, c.next_of.ensures.rest) at (sym c.if-not-is_alone.true ∙ c.is_alone.ensures.value) in
    sym (header_is ls c.in-Some.height c.in-Some-number_field.width kind height width false alone)

pub returns-clause-rest : goal.returns-clause-rest
returns-clause-rest c =
    let rest : c.is_alone.new.lines ≡ drop 4 c.args.lines.now = grind (arith, common_steps) in
    if_ok c.sizes_of.result _ rest

pub returns-clause-value : goal.returns-clause-value
returns-clause-value c =
    let ls = c.args.lines.now in
    let kind : is_none (field (codes "type") (line_at ls 0)) ≡ false = search rules in
    let height = rw c.next_of.ensures.rest at (sym c.number_field.ensures.value ∙ c.in-Some.is) in
    let width = rw (c.number_field.ensures.rest, c.next_of.ensures.rest) at (sym c.number_field-2.ensures.value ∙ c.in-Some-number_field.is) in
    let alone = rw (c.number_field-2.ensures.rest, c.number_field.ensures.rest, c.next_of.ensures.rest) at (sym c.if-not-is_alone.false ∙ c.is_alone.ensures.value) in
    c.sizes_of.ensures.value ∙ sym (header_is ls c.in-Some.height c.in-Some-number_field.width kind height width true alone)
