use Rattle.std.proofs.Common.{◌≡◌, refl, arith, ℤ}
use Rattle.std.proofs.lemmas.Int.{ints}
use Rattle.fleet_model.specs.declared.geometry.Place.{Place}
use Rattle.fleet_model.specs.declared.geometry.Step.{Step}
use Rattle.fleet_model.specs.Geometry.{stepped}
use Rattle.fleet_model.proofs.geometry.Place.after.Goals as goal

both_ways : (q : Place) (s : Step) (x y : ℤ) → x ≡ (stepped q s).x → y ≡ (stepped q s).y → record { x = x; y = y } ≡ stepped q s
both_ways q s x y east south = rw (east, south) refl

pub returns : goal.returns
returns c =
    both_ways c.args.self c.args.step _ _
    (omega (arith, ints, c.eastward.ensures.columns c.args.self, c.requires.west, c.requires.east, c.eastward.ensures.least, c.eastward.ensures.most))
    (omega (arith, ints, c.southward.ensures.rows c.args.self, c.requires.north, c.requires.south, c.southward.ensures.least, c.southward.ensures.most))
