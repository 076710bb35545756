use Rattle.fleet_code.proofs.Words.{arith, refl, two_bytes}
use Rattle.fleet_code.proofs.InPlace.{front_stands, back_stands}
use Rattle.fleet_code.proofs.code_view.cell_in.Goals as goal

pub returns : goal.returns
returns c =
    λ cell fits there.
    let x_fits = fits.x in
    let y_fits = fits.y in
    let x = c.number_in.ensures cell.x (omega (arith, x_fits)) (front_stands c.args.bytes.now c.args.at (two_bytes cell.x) (two_bytes cell.y) there) in
    let y = c.number_in-2.ensures cell.y (omega (arith, y_fits)) (back_stands c.args.bytes.now c.args.at (two_bytes cell.x) (two_bytes cell.y) there) in
    rw (x, y) refl
