-- Reading a scenario's lines in the order of judging, with the first fault that is met.
use Rattle.std.specs.Prelude.{ℕ, ◌+◌, Bool, true, not, ◌&&◌, ◌==◌, nat_lt, nat_le, List, [], ◌∷◌, ◌++◌, length, Option, Some, None, Result, Ok, Err, if◌then◌else◌}
use Rattle.std.specs.List.{list_any}
use Rattle.fleet_model.specs.declared.geometry.Cell.{Cell}
use Rattle.fleet_model.specs.declared.limits.TheConstants.{MAX_AGENTS}
use Rattle.fleet_model.specs.declared.task.Task.{Task}
use Rattle.fleet_model.specs.Geometry.{is_same_cell, place_of}
use Rattle.fleet_text.specs.Text.{Bytes, words}
use Rattle.fleet_text.specs.Steps.{◌>>=◌, ◌>>◌, right_or, some_or}
use Rattle.fleet_grid.specs.Ground.{Ground, is_passable}
use Rattle.fleet_scen.specs.declared.fault.ScenFault.{ScenFault}
use Rattle.fleet_scen.specs.declared.fault.ScenFault.TheVariants.{Version, Fields, Number, OtherMap, Blocked, SharedStart, SharedGoal, NoAgents, TooMany, Fewer}
use Rattle.fleet_scen.specs.Fields.{fields_of}
use Rattle.fleet_scen.specs.ScenText.{is_filled, is_version}

-- two numbers, which are this field of a line and the next
abbrev pub pair_at : (line field : ℕ) → Option ℕ → Option ℕ → Result (ℕ × ℕ) ScenFault
pair_at line field first second = do
  a ← some_or first (Number line field)
  b ← some_or second (Number line (field + 1))
  Ok (a, b)

-- width, height and task, by the words of a line
unfoldable pub numbers_at : ℕ → List Bytes → Result (ℕ × ℕ × Task) ScenFault
numbers_at line ws = do
  f ← some_or (fields_of ws) (Fields line)
  width ← some_or f.width (Number line 3)
  height ← some_or f.height (Number line 4)
  start_x ← some_or f.start_x (Number line 5)
  start_y ← some_or f.start_y (Number line 6)
  goal_x ← some_or f.goal_x (Number line 7)
  goal_y ← some_or f.goal_y (Number line 8)
  Ok (width, height, record { start = record { x = start_x; y = start_y }; goal = record { x = goal_x; y = goal_y } })

-- the task of a line with these words, if the line is for a map of these sizes and both cells of the task are passable
unfoldable pub task_at : Ground → ℕ → List Bytes → Result Task ScenFault
task_at g line ws = do
  n ← numbers_at line ws
  right_or (n.0 == g.width && n.1 == g.height) (OtherMap line)
  right_or (is_passable g (place_of n.2.start) && is_passable g (place_of n.2.goal)) (Blocked line)
  Ok n.2

-- the task begins on the cell
abbrev pub starts_at : Cell → Task → Bool
starts_at c t = is_same_cell t.start c

-- the task ends on the cell
abbrev pub ends_at : Cell → Task → Bool
ends_at c t = is_same_cell t.goal c

-- the task shares neither its start nor its goal with the tasks of earlier agents
unfoldable pub apart_at : ℕ → List Task → Task → Result (Unit {0}) ScenFault
apart_at line earlier t = do
  right_or (not (list_any (starts_at t.start) earlier)) (SharedStart line)
  right_or (not (list_any (ends_at t.goal) earlier)) (SharedGoal line)

-- more agents are to be read after so many: fewer than were asked for, or all were
abbrev pub lacks : Option ℕ → ℕ → Bool
lacks None count = true
lacks (Some asked) count = nat_lt count asked

-- the judgement at the end of the text, or once all that were asked for are read
abbrev pub enough_tasks : Option ℕ → List Task → Result (List Task) ScenFault
enough_tasks None [] = Err NoAgents
enough_tasks None (t ∷ tasks) = Ok (t ∷ tasks)
enough_tasks (Some asked) tasks = right_or (not (nat_lt (length tasks) asked)) Fewer >> Ok tasks

-- the tasks of earlier agents and of these lines, before which so many lines stand
unfoldable pub tasks_at : Ground → Option ℕ → ℕ → List Task → List Bytes → Result (List Task) ScenFault
tasks_at g asked before earlier [] = enough_tasks asked earlier
tasks_at g asked before earlier (line ∷ ls) =
    if not (lacks asked (length earlier)) then enough_tasks asked earlier
    else if not (is_filled (words line)) then tasks_at g asked (before + 1) earlier ls
    else right_or (nat_lt (length earlier) MAX_AGENTS) TooMany >> (task_at g (before + 1) (words line) >>= λ task. apart_at (before + 1) earlier task >> tasks_at g asked (before + 1) (earlier ++ task ∷ []) ls)

-- how many lines stand up to the version line, and the lines after it
unfoldable pub after_version : ℕ → List Bytes → Result (ℕ × List Bytes) ScenFault
after_version before [] = Err Version
after_version before (line ∷ ls) =
    if not (is_filled (words line)) then after_version (before + 1) ls
    else right_or (is_version (words line)) Version >> Ok (before + 1, ls)

-- so many agents may be asked for
abbrev pub judge_asked : Option ℕ → Result (Unit {0}) ScenFault
judge_asked None = Ok tt
judge_asked (Some asked) = right_or (nat_lt 0 asked) NoAgents >> right_or (nat_le asked MAX_AGENTS) TooMany

-- the tasks of a scenario with these lines, or the first fault
unfoldable pub scen_at : Ground → Option ℕ → List Bytes → Result (List Task) ScenFault
scen_at g asked ls = do
  judge_asked asked
  rest ← after_version 0 ls
  tasks_at g asked rest.0 [] rest.1
