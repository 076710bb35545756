use Rattle.fleet_adg.proofs.Words.{◌≡◌, ◌≤◌, ◌+◌, ◌-◌, length, awaits_of, AddsAwaits}
use Rattle.fleet_adg.proofs.thinner.put_action.Given as goal

abbrev pub invariant-instructions : goal.invariant-instructions
invariant-instructions g l = record {
  within : l.k ≤ length (awaits_of (g.P.ProgramView.program l.program) l.action.agent l.action.number);
  at : l.at ≡ g.P.ProgramView.offset l.program l.action.agent l.finished l.k;
  put : AddsAwaits l.version (g.P.ProgramView.program l.program) l.action l.k l.fn.out.items l.out.items;
}

abbrev pub decreases-instructions : goal.decreases-instructions
decreases-instructions g l = length (awaits_of (g.P.ProgramView.program l.program) l.action.agent l.action.number) + 1 - l.k
