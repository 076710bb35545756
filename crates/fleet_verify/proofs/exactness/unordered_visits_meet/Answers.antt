use Rattle.fleet_verify.proofs.Listing.{as_visit}
use Rattle.fleet_verify.proofs.BreakingHolds.{breaking_made, breaking_conflict}
use Rattle.fleet_verify.proofs.exactness.unordered_visits_meet.Goals as goal

pub returns : goal.returns
returns c = λ p number q v w s range u.
    let made = breaking_made p number s range v w (as_visit p q v u.first) (as_visit p q w u.second) in
    (made.0, made.1, breaking_conflict p number s q v w u made.0 made.1)
