use Rattle.fleet_dispatch.proofs.Stood.{stood}
use Rattle.fleet_dispatch.proofs.standing.reports_lead_as_runs_do.Goals as goal

pub returns : goal.returns
returns c = λ p ahead reports taken. stood p ahead reports taken
