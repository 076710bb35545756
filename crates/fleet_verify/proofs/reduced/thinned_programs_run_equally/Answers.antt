use Rattle.fleet_verify.proofs.Words.{AreInRange, HaveSameChains}
use Rattle.fleet_verify.proofs.SameChains.{turned, longest_over, accepted_over, run_over, thinned_reduced, reduced_chains, thinned_range}
use Rattle.fleet_verify.proofs.reduced.thinned_programs_run_equally.Goals as goal

pub returns : goal.returns
returns c = λ p q passable tasks a h.
    let same : HaveSameChains p q = reduced_chains p q (thinned_reduced p q a.numbering.0 a.numbering.1 h) in
    let there : AreInRange q = thinned_range p q h a.right.in_range in (
      accepted_over p q there same passable tasks a,
      (λ holds t. run_over p q a.right.in_range there same holds t),
      (λ n. ((λ l. longest_over p q a.right.in_range there same n l), (λ l. longest_over q p there a.right.in_range (turned p q same) n l))),
    )
