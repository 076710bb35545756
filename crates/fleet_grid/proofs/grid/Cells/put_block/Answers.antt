use Rattle.std.proofs.Common.{◌+◌, ap, arith, map, ◌∙◌}
use Rattle.std.proofs.lemmas.Simd.{ones-mask_l}
use Rattle.std.specs.Int.RustNames.{count_ones}
use Rattle.std.proofs.lemmas.List.{length-map}
use Rattle.fleet_grid.specs.MapText.{is_ground_glyph}
use Rattle.fleet_grid.proofs.BitLaws.{cells_in-put}
use Rattle.fleet_grid.proofs.grid.Cells.put_block.Goals as goal

pub returns-clause-bytes : goal.returns-clause-bytes
returns-clause-bytes c =
    let ms = map is_ground_glyph c.args.block.now in
    cells_in-put c.args.self.now.bytes.items _ _ ms c.ground_mask-mask.result _ _ (length-map c.args.block.now is_ground_glyph ∙ c.told-block) c.ground_mask-mask.ensures
    c.to_le_bytes.ensures c.byte_count.ensures (omega arith) c.in_ok-extend_from_slice.ensures.items

pub returns-clause-count : goal.returns-clause-count
returns-clause-count c = ap (λ n. c.args.self.now.passable_count + n) (ap count_ones c.ground_mask-mask.ensures ∙ ones-mask_l is_ground_glyph c.args.block.now)
