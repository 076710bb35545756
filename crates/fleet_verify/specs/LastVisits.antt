-- The last visit of each cell.
use Rattle.std.specs.Prelude.{Option}
use Rattle.fleet_model.specs.declared.geometry.Cell.{Cell}
use Rattle.fleet_model.specs.declared.program.Visit.{Visit}
use Rattle.fleet_verify.specs.declared.last_visits.LastVisits.{LastVisits}
use Rattle.fleet_verify.specs.Squares.{last_in}

-- the last visit of the cell
abbrev pub kept_at : LastVisits → Cell → Option Visit
kept_at visits c = last_in visits.squares c
