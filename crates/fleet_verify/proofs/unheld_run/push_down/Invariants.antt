use Rattle.fleet_verify.proofs.Words.{◌≡◌, ◌++◌, down_from}
use Rattle.fleet_verify.proofs.unheld_run.push_down.Given as goal

abbrev pub invariant-loop-back : goal.invariant-loop-back
invariant-loop-back l = l.trail.items ≡ l.initial.trail.items ++ down_from l.agent l.last l.back
