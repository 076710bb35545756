use Rattle.fleet_code.proofs.Versions.{beginnings_are_truncated}
use Rattle.fleet_code.proofs.laws.beginnings_are_truncated.Goals as goal

pub returns : goal.returns
returns c = beginnings_are_truncated
