use Rattle.fleet_text.specs.Text.{lines}
use Rattle.fleet_text.proofs.StepLaws.{one_value}
use Rattle.fleet_grid.proofs.FaultLaws.{tells}
use Rattle.fleet_grid.proofs.StoredLaws.{off_map}
use Rattle.fleet_grid.proofs.MapLaws.{sizes_are, cell_of}
use Rattle.fleet_grid.proofs.laws.a_map_text_is_one_ground.Goals as goal

pub returns-clause-one : goal.returns-clause-one
returns-clause-one c = λ text. one_value (tells (lines text))

pub returns-clause-sizes : goal.returns-clause-sizes
returns-clause-sizes c = λ text g a. sizes_are (lines text) g a

pub returns-clause-cells : goal.returns-clause-cells
returns-clause-cells c = λ text g x y a in_row in_rows. cell_of (lines text) g x y a in_row in_rows

pub returns-clause-elsewhere : goal.returns-clause-elsewhere
returns-clause-elsewhere c = λ text g x y a past. off_map g x y (sizes_are (lines text) g a) past
