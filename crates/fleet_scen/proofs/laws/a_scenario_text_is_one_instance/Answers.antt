use Rattle.fleet_text.specs.Text.{lines}
use Rattle.fleet_text.proofs.StepLaws.{one_value}
use Rattle.fleet_scen.proofs.ScenFaults.{tells}
use Rattle.fleet_scen.proofs.laws.a_scenario_text_is_one_instance.Goals as goal

pub returns-clause-one : goal.returns-clause-one
returns-clause-one c = λ text g asked. one_value (tells g asked (lines text))

pub returns-clause-instance : goal.returns-clause-instance
returns-clause-instance c = λ text g asked t a. a.instance
