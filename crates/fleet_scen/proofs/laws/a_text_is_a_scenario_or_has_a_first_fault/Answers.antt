use Rattle.fleet_text.specs.Text.{lines}
use Rattle.fleet_text.proofs.StepLaws.{one_verdict}
use Rattle.fleet_scen.proofs.ScenFaults.{tells}
use Rattle.fleet_scen.proofs.laws.a_text_is_a_scenario_or_has_a_first_fault.Goals as goal

pub returns : goal.returns
returns c = λ text g asked. one_verdict (tells g asked (lines text))
