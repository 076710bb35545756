-- Reading agents line by line, as the loop does.
use Rattle.std.proofs.Common.{◌≡◌, ℕ, ◌+◌, ◌≤◌, ◌<◌, Bool, true, false, not, ◌||◌, cond, ltb, List, [], ◌∷◌, ◌++◌, length, Option, Result, Ok, Err, refl, sym, ap, ◌∙◌}
use Rattle.std.specs.List.{list_any}
use Rattle.std.proofs.lemmas.Bool.{lt-ltb, le-ltb}
use Rattle.std.proofs.lemmas.List.Folds.{list_any-append}
use Rattle.fleet_model.specs.declared.geometry.Cell.{Cell}
use Rattle.fleet_model.specs.declared.task.Task.{Task}
use Rattle.fleet_model.specs.Geometry.{is_same_cell}
use Rattle.fleet_text.specs.Text.{Bytes, words}
use Rattle.fleet_grid.specs.Ground.{Ground}
use Rattle.fleet_text.specs.Steps.{◌>>=◌, ◌>>◌}
use Rattle.fleet_scen.specs.declared.fault.ScenFault.{ScenFault}
use Rattle.fleet_scen.specs.declared.fault.ScenFault.TheVariants.{SharedStart, SharedGoal, TooMany}
use Rattle.fleet_scen.specs.ScenText.{is_filled}
use Rattle.fleet_scen.specs.ScenReading.{starts_at, ends_at, task_at, apart_at, lacks, enough_tasks, tasks_at}
use Rattle.fleet_model.specs.declared.limits.TheConstants.{MAX_AGENTS}

stopped : (g : Ground) (asked : Option ℕ) (n : ℕ) (earlier : List Task) (ls : List Bytes) → lacks asked (length earlier) ≡ false → tasks_at g asked n earlier ls ≡ enough_tasks asked earlier
unfolding tasks_at
stopped g asked n earlier [] e = refl
stopped g asked n earlier (line ∷ after) e = rw e refl

-- the agents that are read, after the earlier ones
abbrev task_next : Ground → Option ℕ → ℕ → List Task → List Bytes → Task → Result (List Task) ScenFault
task_next g asked n earlier after task = apart_at n earlier task >> tasks_at g asked n (earlier ++ task ∷ []) after

module _ (g : Ground) (asked : Option ℕ) (n : ℕ) (earlier : List Task) (ls : List Bytes) (total : Result (List Task) ScenFault) (so_far : tasks_at g asked n earlier ls ≡ total) where
  pub stops : lacks asked (length earlier) ≡ false → total ≡ enough_tasks asked earlier
  stops e = sym so_far ∙ stopped g asked n earlier ls e

  pub ends : ls ≡ [] → total ≡ enough_tasks asked earlier
  unfolding tasks_at
  ends e = sym so_far ∙ ap (tasks_at g asked n earlier) e

  module _ (line : Bytes) (after : List Bytes) (more : lacks asked (length earlier) ≡ true) (next : ls ≡ line ∷ after) where
    pub skips : is_filled (words line) ≡ false → tasks_at g asked (n + 1) earlier after ≡ total
    unfolding tasks_at
    skips empty =
        let one : tasks_at g asked n earlier ls ≡ tasks_at g asked (n + 1) earlier after = ap (tasks_at g asked n earlier) next ∙ rw (more, empty) refl in
        sym one ∙ so_far

    module _ (filled : is_filled (words line) ≡ true) where
      pub too_many : MAX_AGENTS ≤ length earlier → total ≡ Err TooMany
      unfolding tasks_at
      too_many many =
          let full : ltb (length earlier) MAX_AGENTS ≡ false = le-ltb _ _ many in
          sym so_far ∙ ap (tasks_at g asked n earlier) next ∙ rw (more, filled, full) refl

      module _ (few : length earlier < MAX_AGENTS) where
        reads_task : total ≡ (task_at g (n + 1) (words line) >>= λ task. task_next g asked (n + 1) earlier after task)
        unfolding tasks_at
        reads_task =
            let room : ltb (length earlier) MAX_AGENTS ≡ true = lt-ltb _ _ few in
            sym so_far ∙ ap (tasks_at g asked n earlier) next ∙ rw (more, filled, room) refl

        pub fails : (f : ScenFault) → task_at g (n + 1) (words line) ≡ Err f → total ≡ Err f
        fails f h =
            reads_task ∙ ap (λ (r : Result Task ScenFault). r >>= λ task. task_next g asked (n + 1) earlier after task) h

        module _ (t : Task) (read : task_at g (n + 1) (words line) ≡ Ok t) where
          read_one : total ≡ task_next g asked (n + 1) earlier after t
          read_one = reads_task ∙ ap (λ (r : Result Task ScenFault). r >>= λ task. task_next g asked (n + 1) earlier after task) read

          pub shares_start : list_any (starts_at t.start) earlier ≡ true → total ≡ Err (SharedStart (n + 1))
          unfolding apart_at
          shares_start shared = read_one ∙ rw shared refl

          pub shares_goal : list_any (starts_at t.start) earlier ≡ false → list_any (ends_at t.goal) earlier ≡ true → total ≡ Err (SharedGoal (n + 1))
          unfolding apart_at
          shares_goal new shared = read_one ∙ rw (new, shared) refl

          pub goes_on : list_any (starts_at t.start) earlier ≡ false → list_any (ends_at t.goal) earlier ≡ false → tasks_at g asked (n + 1) (earlier ++ t ∷ []) after ≡ total
          unfolding apart_at
          goes_on new_start new_goal = sym (read_one ∙ rw (new_start, new_goal) refl)

-- ---- the cells that were seen

-- a set has a cell exactly if one of the tasks has it
abbrev pub HasTaskCells : (Cell → Bool) → (Task → Cell) → List Task → Type 0
HasTaskCells has cell tasks = (c : Cell) → has c ≡ list_any (λ t. is_same_cell (cell t) c) tasks

either : (b x : Bool) → cond b true x ≡ (x || (b || false))
either true true = refl
either true false = refl
either false true = refl
either false false = refl

-- .. and the cell of one task more, once it is put in
pub holds_more : (old new : Cell → Bool) (cell : Task → Cell) (tasks : List Task) (t : Task) → HasTaskCells old cell tasks → ((c : Cell) → new c ≡ cond (is_same_cell (cell t) c) true (old c)) → HasTaskCells new cell (tasks ++ t ∷ [])
holds_more old new cell tasks t h put = λ c.
    let p : Task → Bool = λ s. is_same_cell (cell s) c in
    put c ∙ ap (λ x. cond (p t) true x) (h c) ∙ either (p t) (list_any p tasks) ∙ sym (list_any-append p tasks (t ∷ []))

-- what the insertion of a cell says of it
pub was_in : (added has : Bool) → added ≡ not has → added ≡ false → has ≡ true
was_in added true e f = refl
was_in added false e f = absurd (let g : true ≡ false = sym e ∙ f in cc)

pub was_new : (added has : Bool) → added ≡ not has → added ≡ true → has ≡ false
was_new added true e f = absurd (let g : false ≡ true = sym e ∙ f in cc)
was_new added false e f = refl
