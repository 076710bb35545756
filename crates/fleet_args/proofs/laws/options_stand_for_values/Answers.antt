use Rattle.fleet_args.proofs.ValueLaws.{all_stand}
use Rattle.fleet_args.proofs.laws.options_stand_for_values.Goals as goal

pub returns : goal.returns
returns c = all_stand
