use Rattle.fleet_verify.proofs.Claimed.{reports_tick}
use Rattle.fleet_verify.proofs.runs.reports_make_a_run.Goals as goal

pub returns : goal.returns
returns c = reports_tick
