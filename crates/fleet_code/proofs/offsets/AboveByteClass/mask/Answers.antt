use Rattle.fleet_code.proofs.Words.{◌%◌, ◌^◌, ltb, replicate, map, List, Bool, w8, ap, ◌∙◌, arith, length-map}
use Rattle.std.proofs.lemmas.Simd.{zip2_splat_left, tops_compared, mask_l-mod}
use Rattle.std.specs.Simd.Lanes.{mask_l}
use Rattle.fleet_code.proofs.offsets.AboveByteClass.mask.Goals as goal

pub returns : goal.returns
returns g c =
    let block = c.args.block in
    let above = map (ltb g.row.MOST) block in
    ap (λ (ms : List Bool). mask_l ms % 2 ^ 64) (tops_compared w8 ltb (replicate 64 g.row.MOST) block ∙ zip2_splat_left ltb g.row.MOST 64 block c.fits-block.0)
    ∙ mask_l-mod above 64 (omega (arith, c.fits-block.0, length-map block (ltb g.row.MOST)))
