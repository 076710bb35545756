use Rattle.std.proofs.Common.{arith}
use Rattle.std.proofs.lemmas.Bool.{false≢true}
use Rattle.fleet_example.proofs.programs.excursion_is_refused.Goals as goal

pub returns-clause-refused : goal.returns-clause-refused
returns-clause-refused c columns rows tasks right = false≢true (right.on_ground 0 1 (omega arith) (omega arith))
