use Rattle.fleet_verify.proofs.Words.{◌≡◌, map, take, question_of}
use Rattle.fleet_verify.proofs.order.questions_of.Given as goal

abbrev pub invariant-loop-pair : goal.invariant-loop-pair
invariant-loop-pair g l = l.questions.items ≡ map (question_of (g.P.ProgramView.program l.program)) (take l.pair-index l.pairs)
