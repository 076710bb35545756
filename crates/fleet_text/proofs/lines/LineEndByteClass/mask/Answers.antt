use Rattle.std.proofs.Common.{refl}
use Rattle.std.proofs.lemmas.Simd.{zip2_splat}
use Rattle.fleet_text.specs.Text.{is_lf}
use Rattle.fleet_text.proofs.BlockLaws.{masked}
use Rattle.fleet_text.proofs.lines.LineEndByteClass.mask.Goals as goal

pub returns : goal.returns
returns c = masked _ is_lf c.args.block _ c.fits-block (zip2_splat _ c.args.block 64 10 c.fits-block.0) refl
