use Rattle.fleet_plan.proofs.Words.{◌≡◌, length, after_blanks}
use Rattle.fleet_plan.proofs.cells.after_blanks.Given as goal

abbrev pub invariant-loop-rest : goal.invariant-loop-rest
invariant-loop-rest l = after_blanks l.rest ≡ after_blanks l.fn.text

abbrev pub decreases-loop-rest : goal.decreases-loop-rest
decreases-loop-rest l = length l.rest
