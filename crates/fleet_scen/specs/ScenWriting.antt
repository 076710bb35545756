-- Which text is written for tasks.
use Rattle.std.specs.Prelude.{ℕ, List, [], ◌∷◌, ◌++◌, map, codes, decimal}
use Rattle.std.specs.List.{join_with_byte}
use Rattle.fleet_model.specs.declared.task.Task.{Task}
use Rattle.fleet_text.specs.Text.{Bytes}
use Rattle.fleet_text.specs.Words.{ended_text}

-- two numbers, each with a tab after it
abbrev pub pair_text : ℕ → ℕ → Bytes
pair_text a b = decimal a ++ 9 ∷ (decimal b ++ 9 ∷ [])

-- the words of a task: bucket, map, sizes, start, goal and distance
unfoldable pub task_words : (width height : ℕ) → Task → List Bytes
task_words width height t =
    codes "0" ∷ codes "map" ∷ decimal width ∷ decimal height ∷ decimal t.start.x ∷ decimal t.start.y ∷ decimal t.goal.x ∷ decimal t.goal.y ∷ codes "0" ∷ []

-- .. with a tab between two
abbrev pub task_line : (width height : ℕ) → Task → Bytes
task_line width height t = join_with_byte 9 (task_words width height t)

-- a version line, and a line for each task
abbrev pub scen_text : (width height : ℕ) → List Task → Bytes
scen_text width height tasks = ended_text (codes "version 1" ∷ map (task_line width height) tasks)
