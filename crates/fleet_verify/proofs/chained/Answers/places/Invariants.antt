use Rattle.fleet_verify.proofs.Words.{nat_eq, get}
use Rattle.fleet_verify.proofs.Asked.{HavePlaces}
use Rattle.fleet_verify.proofs.chained.Answers.places.Given as goal

abbrev pub invariant-loop-k : goal.invariant-loop-k
invariant-loop-k l = HavePlaces l.self.questions.items l.k (get nat_eq l.places)
