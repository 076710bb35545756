use Rattle.fleet_verify.proofs.Words.{◌≡◌, ◌-◌, ◌<◌, ◌⊎◌, is_passable, IsRunner, KeepsOthers, count_in}
use Rattle.fleet_verify.proofs.ahead.run_agent.Given as goal

abbrev pub invariant-loop-runner : goal.invariant-loop-runner
invariant-loop-runner g l = record {
  runner : IsRunner (is_passable l.grid) (g.P.ProgramView.program l.program) (g.P.ProgramView.offset l.program) l.ahead l.agent l.runner;
  own : (count_in l.initial.ahead.rows.items l.agent < l.runner.finished) ⊎ ((l.runner.finished ≡ count_in l.initial.ahead.rows.items l.agent) × (l.ahead.rows.items ≡ l.initial.ahead.rows.items));
  others : KeepsOthers l.initial.ahead.rows.items l.ahead.rows.items l.agent;
}

abbrev pub decreases-loop-runner : goal.decreases-loop-runner
decreases-loop-runner g l = l.moves - l.runner.finished
