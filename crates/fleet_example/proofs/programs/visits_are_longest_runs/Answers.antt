use Rattle.fleet_example.proofs.LongestRuns.{visit_is_run, run_is_visit}
use Rattle.fleet_example.proofs.programs.visits_are_longest_runs.Goals as goal

pub returns-clause-run : goal.returns-clause-run
returns-clause-run c = visit_is_run

pub returns-clause-all : goal.returns-clause-all
returns-clause-all c = run_is_visit
