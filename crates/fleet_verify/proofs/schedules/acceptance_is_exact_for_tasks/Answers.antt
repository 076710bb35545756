use Rattle.fleet_verify.proofs.RunsRight.{runs_right, right_accepted}
use Rattle.fleet_verify.proofs.schedules.acceptance_is_exact_for_tasks.Goals as goal

pub returns : goal.returns
returns c passable tasks p wf of = (runs_right passable tasks p, right_accepted passable tasks p wf of)
