use Rattle.std.proofs.Common.{◌≡◌, ◌∙◌, ap, sym, ℕ, length, Ok, arith}
use Rattle.std.proofs.lemmas.Result.{err_from_is_err_and}
use Rattle.std.proofs.lemmas.List.Sums.{count_by-le-length}
use Rattle.fleet_grid.specs.MapText.{is_ground_glyph, cells_of}
use Rattle.fleet_grid.specs.Stored.{ground_of}
use Rattle.fleet_grid.proofs.MapLoops.{no_rows, no_cells, row_missing, row_fails, row_next, rows_done, size_put, rows_put, count_put}
use Rattle.fleet_grid.proofs.grid.cells_of.Goals as goal

pub loop-row-init : goal.loop-row-init
loop-row-init c =
    let w = c.args.width in
    let bytes = c.in_ok-cells.cells.bytes.items in
    record {
      so_far = no_rows w c.args.height bytes c.args.lines.now;
      size = ap length c.in_ok-cells.ensures.bytes ∙ omega arith;
      count = c.in_ok-cells.ensures.count ∙ sym (no_cells w bytes);
      few = omega (arith, c.in_ok-cells.ensures.count);
    }

pub returns-in_default-clause-value : goal.returns-in_default-clause-value
returns-in_default-clause-value c =
    λ other. row_missing c.args.width c.args.height c.loop-row.row _ c.loop-row.lines _ c.loop-row.invariant.so_far c.loop-row-test.true c.in_default.ensures.0

pub returns-in_err-put_row-clause-value : goal.returns-in_err-put_row-clause-value
returns-in_err-put_row-clause-value c =
    let p = err_from_is_err_and c.from_residual-in_err-put_row.result c.from_residual-in_err-put_row.ensures.1 in
    rw (p.1, p.2)
    (row_fails c.args.width c.args.height c.loop-row.row _ c.loop-row.lines _ c.loop-row.invariant.so_far c.in_err-put_row.field-0.0 c.in-Some.line.now c.next_line.new.self c.loop-row-test.true c.in-Some.ensures c.in_err-put_row.ensures.value)

pub loop-row-preserved : goal.loop-row-preserved
loop-row-preserved c =
    let w = c.args.width in
    let k = c.loop-row.row in
    let line = c.in-Some.line.now in
    let old = c.loop-row.cells.bytes.items in
    let new = c.put_row.new.cells.bytes.items in
    let size = c.loop-row.invariant.size in
    let width = c.in_ok-put_row.ensures.width in
    let put = c.in_ok-put_row.ensures.bytes in
    let counted = c.in_ok-put_row.ensures.count in
    let next = row_next w c.args.height k _ c.loop-row.lines _ c.loop-row.invariant.so_far line c.next_line.new.self (cells_of line) c.loop-row-test.true c.in-Some.ensures c.in_ok-put_row.ensures.value in
    record {
      so_far = rw (rows_put w k old new line size width put) next;
      size = size_put w k old new line size width put;
      count = count_put w k old new line size width put c.loop-row.cells.passable_count c.put_row.new.cells.passable_count c.loop-row.invariant.count counted;
      few = omega (arith, counted, c.loop-row.invariant.few, count_by-le-length is_ground_glyph line, width);
    }

pub returns-clause-value : goal.returns-clause-value
returns-clause-value c =
    let end : c.loop-row.row ≡ c.args.height = omega (arith, c.loop-row.auto, c.loop-row-test.false) in
    rows_done c.args.width c.args.height c.loop-row.row _ c.loop-row.lines _ c.loop-row.invariant.so_far c.loop-row-test.false ∙ ap (λ (n : ℕ). Ok ((ground_of c.args.width n c.loop-row.cells.bytes.items).rows, c.loop-row.lines)) end

pub returns-clause-stored : goal.returns-clause-stored
returns-clause-stored c =
    let end : c.loop-row.row ≡ c.args.height = omega (arith, c.loop-row.auto, c.loop-row-test.false) in
    rw (sym end) (record { width = omega (arith, c.requires.width); height = omega (arith, end, c.requires.height); size = c.loop-row.invariant.size; count = c.loop-row.invariant.count })
