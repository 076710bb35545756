use Rattle.fleet_grid.proofs.GlyphLaws.{looked_up_is, places_fit}
use Rattle.fleet_grid.proofs.grid.looked_up.Goals as goal

pub swizzle : goal.swizzle
swizzle c = places_fit c.args.block c.fits-block

pub returns : goal.returns
returns c = looked_up_is c.args.table.now c.args.block c.fits-block c.told-table
