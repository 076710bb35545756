use Rattle.fleet_code.proofs.Versions.{faults_stay}
use Rattle.fleet_code.proofs.laws.faults_stay.Goals as goal

pub returns : goal.returns
returns c = faults_stay
