use Rattle.fleet_verify.proofs.SameChains.{turned, level_over, longest_over, numbering_over, accepted_over, run_over}
use Rattle.fleet_verify.proofs.reduced.same_chains_run_equally.Goals as goal

pub returns : goal.returns
returns c = record {
  equally = λ p q range range' h holds t. run_over p q range range' h holds t;
  levels = λ p q a n range range' h. ((λ l. level_over p q range range' h a n l), (λ l. level_over q p range' range (turned p q h) a n l));
  longest = λ p q n range range' h. ((λ l. longest_over p q range range' h n l), (λ l. longest_over q p range' range (turned p q h) n l));
  numberings = λ p q number range h s. numbering_over p q range h number s;
  accepted = λ p q passable tasks range h a. accepted_over p q range h passable tasks a;
}
