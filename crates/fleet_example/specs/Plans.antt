-- Small plans, worked out by hand, and the tasks of some.
use Rattle.std.specs.Prelude.{List, [], ◌∷◌}
use Rattle.fleet_model.specs.declared.task.Task.{Task}
use Rattle.fleet_plan.specs.Plan.{Plan}
use Rattle.fleet_plan.specs.declared.plan_fault.Conflict.TheVariants.{Swapping, Cycle}
use Rattle.fleet_plan.specs.declared.plan_fault.PlanFault.{PlanFault}
use Rattle.fleet_plan.specs.declared.plan_fault.PlanFault.TheVariants as fault
use Rattle.fleet_example.specs.Programs.{cell_xy, task_between}

-- the plan of the pair, whose tasks are its own
abbrev pub base_plan : Plan
base_plan = (cell_xy 1 0 ∷ cell_xy 2 0 ∷ cell_xy 3 0 ∷ []) ∷ (cell_xy 0 0 ∷ cell_xy 1 0 ∷ cell_xy 2 0 ∷ []) ∷ []

-- three agents in a row, each on the heels of the one before it
abbrev pub corridor : Plan
corridor = (cell_xy 2 0 ∷ cell_xy 3 0 ∷ cell_xy 4 0 ∷ []) ∷ (cell_xy 1 0 ∷ cell_xy 2 0 ∷ cell_xy 3 0 ∷ []) ∷ (cell_xy 0 0 ∷ cell_xy 1 0 ∷ cell_xy 2 0 ∷ []) ∷ []

-- one agent that goes east and comes back
abbrev pub there_and_back_plan : Plan
there_and_back_plan = (cell_xy 0 0 ∷ cell_xy 1 0 ∷ cell_xy 0 0 ∷ []) ∷ []

-- an agent lets another pass, and then goes to the cells where that was
abbrev pub pass_plan : Plan
pass_plan = (cell_xy 0 0 ∷ cell_xy 1 0 ∷ cell_xy 2 0 ∷ []) ∷ (cell_xy 1 1 ∷ cell_xy 1 1 ∷ cell_xy 1 0 ∷ cell_xy 0 0 ∷ []) ∷ []

-- two agents exchange their cells
abbrev pub swap_plan : Plan
swap_plan = (cell_xy 0 0 ∷ cell_xy 1 0 ∷ []) ∷ (cell_xy 1 0 ∷ cell_xy 0 0 ∷ []) ∷ []

abbrev pub swap_tasks : List Task
swap_tasks = task_between (cell_xy 0 0) (cell_xy 1 0) ∷ task_between (cell_xy 1 0) (cell_xy 0 0) ∷ []

-- its first fault: agents 0 and 1 swap in the step from time 0 to 1
abbrev pub swap_fault : PlanFault
swap_fault = fault.Conflict (Swapping 0 0 1)

-- four agents go round on four cells
abbrev pub ring_plan : Plan
ring_plan = (cell_xy 0 0 ∷ cell_xy 1 0 ∷ []) ∷ (cell_xy 1 0 ∷ cell_xy 1 1 ∷ []) ∷ (cell_xy 1 1 ∷ cell_xy 0 1 ∷ []) ∷ (cell_xy 0 1 ∷ cell_xy 0 0 ∷ []) ∷ []

abbrev pub ring_tasks : List Task
ring_tasks = task_between (cell_xy 0 0) (cell_xy 1 0) ∷ task_between (cell_xy 1 0) (cell_xy 1 1) ∷ task_between (cell_xy 1 1) (cell_xy 0 1) ∷ task_between (cell_xy 0 1) (cell_xy 0 0) ∷ []

-- its first fault: a cycle whose least agent is 0, in the step from time 0 to 1
abbrev pub ring_fault : PlanFault
ring_fault = fault.Conflict (Cycle 0 0)
