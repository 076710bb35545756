use Rattle.std.proofs.Common.{refl}
use Rattle.fleet_grid.specs.MapText.{is_ground_glyph}
use Rattle.fleet_text.proofs.BlockLaws.{masked}
use Rattle.fleet_grid.proofs.GlyphLaws.{compared}
use Rattle.fleet_grid.proofs.grid.ground_mask.Goals as goal

pub returns : goal.returns
returns c =
    let v = c.args.block in
    masked _ is_ground_glyph v _ c.fits-block (compared _ _ v _ c.looked_up.ensures) refl
