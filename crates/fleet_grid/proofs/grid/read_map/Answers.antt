use Rattle.fleet_text.specs.Text.{lines}
use Rattle.fleet_grid.proofs.FaultLaws.{found, read, reported_is_first}
use Rattle.fleet_grid.proofs.grid.read_map.Goals as goal

pub returns-clause-found : goal.returns-clause-found
returns-clause-found c = found (lines c.args.bytes.now) c.map_of.result c.map_of.ensures

pub returns-clause-read : goal.returns-clause-read
returns-clause-read c = read (lines c.args.bytes.now) c.map_of.result c.map_of.ensures

pub returns-clause-fault : goal.returns-clause-fault
returns-clause-fault c = reported_is_first (lines c.args.bytes.now) c.map_of.result c.map_of.ensures
