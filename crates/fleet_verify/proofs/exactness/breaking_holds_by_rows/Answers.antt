use Rattle.fleet_verify.proofs.Listing.{as_visit}
use Rattle.fleet_verify.proofs.BreakingHolds.{held_by_rows, prepared_by_counts}
use Rattle.fleet_verify.proofs.exactness.breaking_holds_by_rows.Goals as goal

pub returns : goal.returns
returns c = record {
  held = λ p v w first second c i f s. held_by_rows p v w first second f s c i;
  prepared = λ p q v w holds t u. prepared_by_counts p v w (as_visit p q v u.first) (as_visit p q w u.second) holds t;
}
