use Rattle.std.proofs.Common.{eqb, map, ap, refl, ◌∙◌}
use Rattle.std.proofs.lemmas.Simd.{zip2_of_maps, map-map}
use Rattle.fleet_grid.specs.MapText.{is_glyph, is_no_glyph}
use Rattle.fleet_text.proofs.BlockLaws.{masked}
use Rattle.fleet_grid.proofs.GlyphLaws.{compared, none_other}
use Rattle.fleet_grid.proofs.grid.are_glyphs.Goals as goal

pub returns : goal.returns
returns c =
    let v = c.args.block in
    let either = zip2_of_maps _ _ _ v (compared _ _ v _ c.looked_up.ensures) (compared _ _ v _ c.looked_up-2.ensures) in
    ap (λ m. eqb m 0) (masked _ is_no_glyph v _ c.fits-block (ap (map _) either ∙ map-map _ _ v) refl) ∙ none_other is_glyph v
