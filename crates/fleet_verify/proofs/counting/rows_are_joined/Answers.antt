use Rattle.fleet_verify.proofs.Levels.{joined_row}
use Rattle.fleet_verify.proofs.counting.rows_are_joined.Goals as goal

pub returns : goal.returns
returns c = λ p a rows row k h j. joined_row p a k rows h row j
