use Rattle.fleet_adg.proofs.Words.{◌≡◌, moves_by}
use Rattle.fleet_adg.proofs.sweep.moves_of.Given as goal

abbrev pub invariant-loop-time : goal.invariant-loop-time
invariant-loop-time l = l.moves ≡ moves_by l.plan l.i l.time
