use Rattle.fleet_grid.proofs.MapWritten.{map_again, left_ground, left_at}
use Rattle.fleet_grid.proofs.laws.a_written_map_is_read.Goals as goal

pub returns-clause-read : goal.returns-clause-read
returns-clause-read c = λ g s. map_again g s

pub returns-clause-sizes : goal.returns-clause-sizes
returns-clause-sizes c = λ g cells s. left_ground g cells s

pub returns-clause-cells : goal.returns-clause-cells
returns-clause-cells c = λ g cells at s. left_at g cells at s
