use Rattle.std.proofs.Common.{◌≡◌, ◌∷◌, map, take}
use Rattle.std.specs.Prelude.{codes}
use Rattle.fleet_text.specs.Words.{ended_text}
use Rattle.fleet_scen.specs.ScenWriting.{task_line}
use Rattle.fleet_scen.proofs.writing.write_scen.Given as goal

abbrev pub invariant-loop-task : goal.invariant-loop-task
invariant-loop-task l = l.text.items ≡ ended_text (codes "version 1" ∷ map (task_line l.width l.height) (take l.task-index l.tasks))
