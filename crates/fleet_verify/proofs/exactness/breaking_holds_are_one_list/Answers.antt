use Rattle.fleet_verify.proofs.Listing.{levels_number, as_visit}
use Rattle.fleet_verify.proofs.BreakingHolds.{breaking_made, breaking_unique, breaking_short}
use Rattle.fleet_verify.proofs.exactness.breaking_holds_are_one_list.Goals as goal

pub returns : goal.returns
returns c = record {
  there_are = λ p number q v w s range u. breaking_made p number s range v w (as_visit p q v u.first) (as_visit p q w u.second);
  only = λ p v w holds other a b. breaking_unique p v w holds other a b;
  short = λ p level v w holds n h range b l m. breaking_short p level (levels_number p level h) range v w holds b n l m;
}
