use Rattle.fleet_verify.proofs.Words.{◌≡◌, ◌≤◌, count_by, indices}
use Rattle.fleet_verify.proofs.CriticalPaths.{misses}
use Rattle.fleet_verify.proofs.stopped.stopped_agents.Given as goal

abbrev pub invariant-loop-i : goal.invariant-loop-i
invariant-loop-i g l = record {
  counted : l.stopped ≡ count_by (misses (g.P.ProgramView.program l.program) l.counts) (indices l.i);
  few : l.stopped ≤ l.i;
}
