use Rattle.fleet_verify.proofs.Listing.{levels_number, unordered_refuses}
use Rattle.fleet_verify.proofs.Unordered.{neighbours_unordered}
use Rattle.fleet_verify.proofs.exactness.unordered_visits_are_found.Goals as goal

pub returns : goal.returns
returns c = record {
  neighbours = λ p level q sorted k v w h g ev ew n. neighbours_unordered p level (levels_number p level h) q sorted g k v w ev ew n;
  told = λ p q v w u. neighbours_unordered p u.level (levels_number p u.level u.levels) q u.sorted u.listing u.broken.at v w u.broken.here u.broken.next u.broken.breaks;
  refused = λ p q v w u o. unordered_refuses p q v w u (o q).0 (o q).1 (o q).2;
}
