use Rattle.fleet_search.proofs.Steps.{each_step, from_each_step}
use Rattle.fleet_search.proofs.laws.fits_by_steps.Goals as goal

pub returns : goal.returns
returns c = λ reserved path. (each_step reserved path, from_each_step reserved path)
