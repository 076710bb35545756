-- Which tasks a scenario text stands for, for a map and a number of agents asked for, and which fault is the first of a
-- text that stands for none.
use Rattle.std.specs.Prelude.{◌≡◌, ◌≢◌, ℕ, ◌+◌, ◌<◌, ◌≤◌, Bool, true, false, ◌&&◌, ◌||◌, List, [], ◌∷◌, length, map, filter, take, drop, get_or, slice_get, position, Option, Some, None, is_none, IsTrue, MatchOption, Any, codes, bytes_eq, ◌⊎◌}
use Rattle.std.specs.List.{AllZip, enumerate_from}
use Rattle.fleet_model.specs.declared.limits.TheConstants.{MAX_AGENTS}
use Rattle.fleet_model.specs.declared.task.Task.{Task}
use Rattle.fleet_model.specs.Geometry.{place_of}
use Rattle.fleet_text.specs.Text.{Bytes, lines, words, small_number}
use Rattle.fleet_grid.specs.Ground.{Ground, is_passable}
use Rattle.fleet_scen.specs.declared.fault.ScenFault.{ScenFault}
use Rattle.fleet_scen.specs.declared.fault.ScenFault.TheVariants.{OutOfMemory, Version, Fields, Number, OtherMap, Blocked, SharedStart, SharedGoal, NoAgents, TooMany, Fewer}
use Rattle.fleet_scen.specs.Instance.{AreTasksApart, IsInstance}

-- ---- the parts of a scenario text

-- some word stands in the line
abbrev pub is_filled : List Bytes → Bool
is_filled [] = false
is_filled (word ∷ others) = true

-- the number of a line, counted from 1, and its words
abbrev pub Line : Type 0
Line = ℕ × List Bytes

-- the lines that have some word
abbrev pub filled_lines : List Bytes → List Line
filled_lines ls = filter (λ line. is_filled line.1) (enumerate_from 1 (map words ls))

-- the words of the first of them
abbrev pub version_line : List Bytes → List Bytes
version_line ls = (get_or (filled_lines ls) 0 (0, [])).1

-- .. and the others, of which each is for an agent
abbrev pub agent_lines : List Bytes → List Line
agent_lines ls = drop 1 (filled_lines ls)

-- `version 1` or `version 1.0`
abbrev pub is_version : List Bytes → Bool
is_version [] = false
is_version (first ∷ []) = false
is_version (first ∷ second ∷ []) = bytes_eq first (codes "version") && (bytes_eq second (codes "1") || bytes_eq second (codes "1.0"))
is_version (first ∷ second ∷ third ∷ more) = false

-- fields 3 to 8 of a line, each if it is a number up to 65,535
abbrev pub numbers_in : List Bytes → List (Option ℕ)
numbers_in ws = map small_number (take 6 (drop 2 ws))

-- what these fields are for a map of these sizes and a task
abbrev pub numbers_of : (width height : ℕ) → Task → List (Option ℕ)
numbers_of width height t = Some width ∷ Some height ∷ Some t.start.x ∷ Some t.start.y ∷ Some t.goal.x ∷ Some t.goal.y ∷ []

-- nine words, of which six are the numbers of these sizes and this task
pub record SpellsTask (ws : List Bytes) (width height : ℕ) (t : Task) : Type 0 where
  pub fields : length ws ≡ 9
  pub numbers : numbers_in ws ≡ numbers_of width height t

-- both cells of the task are passable
pub record HasPassableEnds (g : Ground) (t : Task) : Type 0 where
  pub start : IsTrue (is_passable g (place_of t.start))
  pub goal : IsTrue (is_passable g (place_of t.goal))

-- the line stands for the task, on this map
pub record StandsForTask (g : Ground) (line : Line) (t : Task) : Type 0 where
  pub spells : SpellsTask line.1 g.width g.height t
  pub cells : HasPassableEnds g t

-- ---- a scenario text

-- a version line, then a line for each agent: all lines, or as many as were asked for
pub record AreScenLines (ls : List Bytes) (g : Ground) (asked : Option ℕ) (tasks : List Task) : Type 0 where
  pub version : IsTrue (is_version (version_line ls))
  pub agents : AllZip (StandsForTask g) (take (length tasks) (agent_lines ls)) tasks
  pub all : MatchOption asked (length (agent_lines ls) ≡ length tasks) (λ count. length tasks ≡ count)
  pub instance : IsInstance tasks

-- the text stands for the tasks
abbrev pub IsScenText : Bytes → Ground → Option ℕ → List Task → Type 0
IsScenText text g asked tasks = AreScenLines (lines text) g asked tasks

-- ---- the first fault

-- so many may be asked for
abbrev pub MayBeAsked : Option ℕ → Type 0
MayBeAsked asked = MatchOption asked (Unit {0}) (λ count. (1 ≤ count) × (count ≤ MAX_AGENTS))

-- what was asked for and the version line are right, and the first agent lines stand for these tasks, which are apart
pub record IsScenRightUpTo (earlier : List Task) (ls : List Bytes) (g : Ground) (asked : Option ℕ) : Type 0 where
  pub may_be_asked : MayBeAsked asked
  pub version : IsTrue (is_version (version_line ls))
  pub agents : AllZip (StandsForTask g) (take (length earlier) (agent_lines ls)) earlier
  pub apart : AreTasksApart earlier

-- all that is judged before this agent line is right, and the line is to be read
pub record ReachesScenLine (earlier : List Task) (line : Line) (ls : List Bytes) (g : Ground) (asked : Option ℕ) : Type 0 where
  pub right : IsScenRightUpTo earlier ls g asked
  pub wanted : MatchOption asked (Unit {0}) (λ count. length earlier < count)
  pub few : length earlier < MAX_AGENTS
  pub is_next : slice_get (agent_lines ls) (length earlier) ≡ Some line

-- the fault is there, and all that is judged before it is right. Lines and fields count from 1
abbrev pub IsFirstScenLineFault : List Bytes → Ground → Option ℕ → ScenFault → Type 0
IsFirstScenLineFault ls g asked OutOfMemory = ⊥
IsFirstScenLineFault ls g asked Version = MayBeAsked asked × (IsTrue (is_version (version_line ls)) → ⊥)
IsFirstScenLineFault ls g asked (Fields line) =
    (earlier : List Task) × (ws : List Bytes) × ReachesScenLine earlier (line, ws) ls g asked × (length ws ≢ 9)
IsFirstScenLineFault ls g asked (Number line field) =
    (earlier : List Task) × (ws : List Bytes) × ReachesScenLine earlier (line, ws) ls g asked × (length ws ≡ 9)
    × (k : ℕ) × (field ≡ k + 3) × (position is_none (numbers_in ws) ≡ Some k)
IsFirstScenLineFault ls g asked (OtherMap line) =
    (earlier : List Task) × (ws : List Bytes) × ReachesScenLine earlier (line, ws) ls g asked
    × (w h : ℕ) × (t : Task) × SpellsTask ws w h t × ((w ≡ g.width) × (h ≡ g.height) → ⊥)
IsFirstScenLineFault ls g asked (Blocked line) =
    (earlier : List Task) × (ws : List Bytes) × ReachesScenLine earlier (line, ws) ls g asked
    × (t : Task) × SpellsTask ws g.width g.height t × (HasPassableEnds g t → ⊥)
IsFirstScenLineFault ls g asked (SharedStart line) =
    (earlier : List Task) × (ws : List Bytes) × ReachesScenLine earlier (line, ws) ls g asked
    × (t : Task) × StandsForTask g (line, ws) t × Any (λ s. s.start ≡ t.start) earlier
IsFirstScenLineFault ls g asked (SharedGoal line) =
    (earlier : List Task) × (ws : List Bytes) × ReachesScenLine earlier (line, ws) ls g asked
    × (t : Task) × StandsForTask g (line, ws) t × (Any (λ s. s.start ≡ t.start) earlier → ⊥) × Any (λ s. s.goal ≡ t.goal) earlier
IsFirstScenLineFault ls g asked NoAgents =
    (asked ≡ Some 0) ⊎ ((asked ≡ None) × IsTrue (is_version (version_line ls)) × (agent_lines ls ≡ []))
IsFirstScenLineFault ls g asked TooMany =
    ((count : ℕ) × (asked ≡ Some count) × (MAX_AGENTS < count))
    ⊎ ((asked ≡ None) × (earlier : List Task) × IsScenRightUpTo earlier ls g asked × (length earlier ≡ MAX_AGENTS) × (MAX_AGENTS < length (agent_lines ls)))
IsFirstScenLineFault ls g asked Fewer =
    (count : ℕ) × (asked ≡ Some count) × (earlier : List Task) × IsScenRightUpTo earlier ls g asked × (length (agent_lines ls) ≡ length earlier) × (length earlier < count)

-- the same of a text
abbrev pub IsFirstScenFault : Bytes → Ground → Option ℕ → ScenFault → Type 0
IsFirstScenFault text g asked fault = IsFirstScenLineFault (lines text) g asked fault
