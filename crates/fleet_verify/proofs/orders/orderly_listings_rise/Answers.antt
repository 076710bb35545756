use Rattle.fleet_verify.proofs.Words.{◌<◌, ComesAfterByAwait, ComesAfterByChain, entry_level}
use Rattle.fleet_verify.proofs.Neighbours.{adjacent_from}
use Rattle.fleet_verify.proofs.Listing.{levels_number, listing_rises, after_reaches, await_chain}
use Rattle.fleet_verify.proofs.orders.orderly_listings_rise.Goals as goal

pub returns : goal.returns
returns c = record {
  by_chain = λ p level q listing h l a.
      adjacent_from (λ v w. entry_level level v < entry_level level w) listing
      (listing_rises p level (levels_number p level h) q (ComesAfterByChain p) (after_reaches p q) listing l a);
  by_await = λ p level q listing h range l a.
      adjacent_from (λ v w. entry_level level v < entry_level level w) listing
      (listing_rises p level (levels_number p level h) q (ComesAfterByAwait p) (λ v w k o. after_reaches p q v w k (await_chain p range q v w k o)) listing l a);
}
