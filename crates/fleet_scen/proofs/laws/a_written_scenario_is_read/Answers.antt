use Rattle.fleet_scen.proofs.Written.{scen_again}
use Rattle.fleet_scen.proofs.laws.a_written_scenario_is_read.Goals as goal

pub returns : goal.returns
returns c = λ g tasks s instance ends. scen_again g tasks s instance ends
