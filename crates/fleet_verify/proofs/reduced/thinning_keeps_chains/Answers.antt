use Rattle.fleet_verify.proofs.SameChains.{thinned_reduced, thinned_again, reduced_chains, range_there, thinned_range}
use Rattle.fleet_verify.proofs.reduced.thinning_keeps_chains.Goals as goal

pub returns : goal.returns
returns c = record {
  thinned = λ p q number s h. reduced_chains p q (thinned_reduced p q number s h);
  again = λ p q number s h. thinned_again p q number s h;
  reduced = λ p q h. reduced_chains p q h;
  in_range = λ p q range h. range_there p q h range;
  thinned_in_range = λ p q range h. thinned_range p q h range;
}
