use Rattle.fleet_verify.proofs.Words.{◌<◌, ℕ, get_or, OpenPair, IsChained}
use Rattle.fleet_verify.proofs.chained.are_near.Given as goal

abbrev pub invariant-loop-k : goal.invariant-loop-k
invariant-loop-k g l = record {
  chained : (j : ℕ) (o : OpenPair) → j < l.k → IsChained (g.P.ProgramView.program l.program) (get_or l.pairs.items j o);
}
