use Rattle.fleet_adg.proofs.Words.{◌≡◌, map, indices, task_of}
use Rattle.fleet_adg.proofs.remaining.tasks_of.Given as goal

abbrev pub invariant-loop-i : goal.invariant-loop-i
invariant-loop-i g l = l.tasks.items ≡ map (task_of (g.P.ProgramView.program l.program)) (indices l.i)
