use Rattle.fleet_adg.proofs.Accepted.{compiled-accepted}
use Rattle.fleet_adg.proofs.laws.compiled_plans_are_accepted.Goals as goal

pub returns : goal.returns
returns c passable tasks plan deps free = compiled-accepted passable tasks plan free deps
