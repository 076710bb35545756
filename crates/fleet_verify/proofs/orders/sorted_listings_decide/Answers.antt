use Rattle.fleet_model.specs.Visit.{ComesAfterByAwait, ComesAfterByChain}
use Rattle.fleet_verify.proofs.Listing.{levels_number, sorted_passes, after_reaches, await_chain}
use Rattle.fleet_verify.proofs.orders.sorted_listings_decide.Goals as goal

pub returns : goal.returns
returns c = record {
  by_chain = λ p level q sorted h g. (
    (λ (l, k, a). sorted_passes p level (levels_number p level h) q (ComesAfterByChain p) (after_reaches p q) l k a sorted g),
    (λ a. (sorted, g.lists, a)),
  );
  by_await = λ p level q sorted h range g. (
    (λ (l, k, a). sorted_passes p level (levels_number p level h) q (ComesAfterByAwait p) (λ v w m o. after_reaches p q v w m (await_chain p range q v w m o)) l k a sorted g),
    (λ a. (sorted, g.lists, a)),
  );
}
