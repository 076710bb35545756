use Rattle.fleet_verify.proofs.Words.{◌≡◌, ◌≤◌, ◌+◌, ◌-◌, length, awaits_of, IsAwaitOrOwn, IsLastAwait, climbed_in}
use Rattle.fleet_verify.proofs.NextLevel.{IsLeastTo}
use Rattle.fleet_verify.proofs.ahead.needs_of.Given as goal

abbrev pub invariant-instructions : goal.invariant-instructions
invariant-instructions g l = record {
  within : l.k ≤ length (awaits_of (g.P.ProgramView.program l.program) l.agent (l.finished + 1));
  least : IsLeastTo (g.P.ProgramView.program l.program) (climbed_in l.rows.items l.agent l.finished) l.agent (l.finished + 1) l.k l.least;
  latest : IsAwaitOrOwn (g.P.ProgramView.program l.program) l.agent (l.finished + 1) l.latest;
  last : IsLastAwait (g.P.ProgramView.program l.program) l.agent (l.finished + 1) l.k l.latest;
  at : l.at ≡ g.P.ProgramView.offset l.program l.agent l.finished l.k;
}

abbrev pub decreases-instructions : goal.decreases-instructions
decreases-instructions g l = length (awaits_of (g.P.ProgramView.program l.program) l.agent (l.finished + 1)) + 1 - l.k
