use Rattle.fleet_verify.proofs.RunsRight.{schedules_accepted}
use Rattle.fleet_verify.proofs.schedules.schedules_need_acceptance.Goals as goal

pub returns : goal.returns
returns c = schedules_accepted
