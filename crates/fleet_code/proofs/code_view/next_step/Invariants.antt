use Rattle.fleet_code.proofs.Words.{◌≡◌, ◌≤◌, ◌+◌, ◌-◌, length, awaits_of}
use Rattle.fleet_code.proofs.code_view.next_step.Given as goal

abbrev pub invariant-instructions : goal.invariant-instructions
invariant-instructions g l = record {
  within : l.k ≤ length (awaits_of (g.P.ProgramView.program l.program) l.i (l.finished + 1));
  at : l.at ≡ g.P.ProgramView.offset l.program l.i l.finished l.k;
}

abbrev pub decreases-instructions : goal.decreases-instructions
decreases-instructions g l = length (awaits_of (g.P.ProgramView.program l.program) l.i (l.finished + 1)) + 1 - l.k
