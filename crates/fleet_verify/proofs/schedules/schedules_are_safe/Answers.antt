use Rattle.fleet_verify.proofs.Words.{subst, IsTrue, Place}
use Rattle.fleet_verify.proofs.Timed.{no_two_on, places_on}
use Rattle.fleet_verify.proofs.schedules.schedules_are_safe.Goals as goal

pub returns-clause-apart : goal.returns-clause-apart
returns-clause-apart c passable tasks p ok s is x = no_two_on p s is x ok.orderly

pub returns-clause-on_ground : goal.returns-clause-on_ground
returns-clause-on_ground c passable tasks p ok s x i q h m = subst (λ (r : Place). IsTrue (passable r)) m.place (ok.right.on_ground i m.position h m.within)

pub returns-clause-places : goal.returns-clause-places
returns-clause-places c = places_on
