use Rattle.fleet_args.proofs.{NoCommand.unnamed, OwnCommand.read_alone}
use Rattle.fleet_args.proofs.laws.commands_stand_alone.Goals as goal

pub returns-clause-alone : goal.returns-clause-alone
returns-clause-alone c = read_alone

pub returns-clause-unnamed : goal.returns-clause-unnamed
returns-clause-unnamed c = unnamed
