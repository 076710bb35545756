use Rattle.std.proofs.Common.{◌≡◌, ◌+◌, [], length}
use Rattle.std.specs.HashSet.{contains}
use Rattle.fleet_model.specs.Geometry.{is_same_cell}
use Rattle.fleet_scen.specs.ScenReading.{tasks_at}
use Rattle.fleet_scen.proofs.ScenLoop.{HasTaskCells}
use Rattle.fleet_scen.proofs.reading.tasks_of.Given as goal

abbrev pub invariant-loop-lines : goal.invariant-loop-lines
invariant-loop-lines l = record {
  so_far : tasks_at l.grid l.asked l.number l.tasks.items l.lines ≡ tasks_at l.grid l.asked l.before [] l.fn.lines;
  count : l.number + length l.lines ≡ l.before + length l.fn.lines;
  starts : HasTaskCells (contains is_same_cell l.starts) (λ t. t.start) l.tasks.items;
  goals : HasTaskCells (contains is_same_cell l.goals) (λ t. t.goal) l.tasks.items;
}

abbrev pub decreases-loop-lines : goal.decreases-loop-lines
decreases-loop-lines l = length l.lines
