use Rattle.fleet_verify.proofs.Words.{◌≤◌, ◌+◌, ◌-◌, is_passable, IsRunner, KeepsOthers}
use Rattle.fleet_verify.proofs.ahead.run_bare.Given as goal

abbrev pub invariant-loop-runner : goal.invariant-loop-runner
invariant-loop-runner g l = record {
  runner : IsRunner (is_passable l.grid) (g.P.ProgramView.program l.program) (g.P.ProgramView.offset l.program) l.ahead l.agent l.runner;
  finished : l.initial.runner.finished ≤ l.runner.finished;
  others : KeepsOthers l.initial.ahead.rows.items l.ahead.rows.items l.agent;
  fits : l.runner.level + l.moves ≤ 4294967295 + l.runner.finished;
}

abbrev pub decreases-loop-runner : goal.decreases-loop-runner
decreases-loop-runner g l = l.moves - l.runner.finished
