use Rattle.fleet_text.specs.Text.{lines}
use Rattle.fleet_text.proofs.StepLaws.{one_verdict}
use Rattle.fleet_grid.proofs.FaultLaws.{tells}
use Rattle.fleet_grid.proofs.laws.a_text_is_a_map_or_has_a_first_fault.Goals as goal

pub returns : goal.returns
returns c = λ text. one_verdict (tells (lines text))
