use Rattle.fleet_adg.proofs.Limits.{compiled-well_formed}
use Rattle.fleet_adg.proofs.laws.compiled_plans_are_well_formed.Goals as goal

pub returns : goal.returns
returns c = compiled-well_formed
