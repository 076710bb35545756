use Rattle.std.proofs.Common.{◌≡◌, ◌++◌, ◌&&◌, ◌<◌, length, sym, ap, arith, length-append, take-append-drop}
use Rattle.std.proofs.lemmas.List.Sums.{count_by-le-length}
use Rattle.fleet_grid.specs.MapText.{is_ground_glyph}
use Rattle.fleet_grid.specs.Stored.{stored_cells}
use Rattle.fleet_grid.proofs.RowLaws.{row_goes_on, count_goes_on, glyphs_go_on, row_ends, count_ends, glyphs_end}
use Rattle.fleet_grid.proofs.grid.Cells.put_row.Goals as goal

pub put_block-requires-clause-count : goal.put_block-requires-clause-count
put_block-requires-clause-count c = omega (arith, c.loop-block.invariant.count, c.requires.count, count_by-le-length is_ground_glyph c.args.line.now)

pub put_block-requires-2-clause-count : goal.put_block-requires-2-clause-count
put_block-requires-2-clause-count c = omega (arith, c.loop-block.invariant.count, c.requires.count, count_by-le-length is_ground_glyph c.args.line.now)

pub loop-block-preserved : goal.loop-block-preserved
loop-block-preserved c =
    let found = c.in-Some.ensures.cases in
    let rest = c.loop-block.rest.now in
    let block = c.in-Some.block.now in
    let after = c.in-Some.after.now in
    let whole : rest ≡ block ++ after = rw (found.0, found.1) (sym (take-append-drop 64 rest)) in
    let size : length block ≡ 64 = omega (arith, found.2, length-append block after, ap length whole) in
    record {
      within = omega (arith, found.2, c.loop-block.invariant.within);
      bytes = row_goes_on rest block after whole size (stored_cells c.loop-block.self.bytes.items) (stored_cells c.put_block.new.self.bytes.items) _ c.loop-block.invariant.bytes c.in_ok-are_glyphs.ensures.bytes;
      glyphs = glyphs_go_on rest block after whole size c.loop-block.are_glyphs _ _ c.loop-block.invariant.glyphs (ap (λ b. c.loop-block.are_glyphs && b) c.in_ok-are_glyphs.ensures.glyphs);
      count = count_goes_on rest block after whole size c.loop-block.self.passable_count c.put_block.new.self.passable_count _ c.loop-block.invariant.count c.in_ok-are_glyphs.ensures.count;
    }

pub returns-clause-bytes : goal.returns-clause-bytes
returns-clause-bytes c =
    let rest = c.loop-block.rest.now in
    let few : length rest < 64 = c.in_default.ensures.cases in
    row_ends rest c.block_of.result few c.block_of.ensures (stored_cells c.loop-block.self.bytes.items) (stored_cells c.put_block-2.new.self.bytes.items) _ c.loop-block.invariant.bytes c.in_ok-are_glyphs-2.ensures.bytes

pub returns-clause-count : goal.returns-clause-count
returns-clause-count c =
    let rest = c.loop-block.rest.now in
    let few : length rest < 64 = c.in_default.ensures.cases in
    count_ends rest c.block_of.result few c.block_of.ensures c.loop-block.self.passable_count c.put_block-2.new.self.passable_count _ c.loop-block.invariant.count c.in_ok-are_glyphs-2.ensures.count

pub returns-clause-glyphs : goal.returns-clause-glyphs
returns-clause-glyphs c =
    let rest = c.loop-block.rest.now in
    let few : length rest < 64 = c.in_default.ensures.cases in
    glyphs_end rest c.block_of.result few c.block_of.ensures c.loop-block.are_glyphs _ _ c.loop-block.invariant.glyphs (ap (λ b. c.loop-block.are_glyphs && b) c.in_ok-are_glyphs-2.ensures.glyphs)
