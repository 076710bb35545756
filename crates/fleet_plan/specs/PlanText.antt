-- Which plan a text stands for, which fault is the first of a text that stands for none, and which text is written for
-- a plan.
use Rattle.std.specs.Prelude.{◌≡◌, ℕ, ◌+◌, ◌<◌, ◌≤◌, ◌==◌, List, [], ◌∷◌, ◌++◌, length, map, take, slice_get, All, Option, Some, None, option_and_then, decimal, ◌⊎◌}
use Rattle.std.specs.List.{AllZip, slice_split, join_with_byte}
use Rattle.fleet_model.specs.declared.limits.TheConstants.{MAX_AGENTS, MAX_HORIZON}
use Rattle.fleet_model.specs.declared.geometry.Cell.{Cell}
use Rattle.fleet_text.specs.Text.{Bytes, lines, words_from_front, small_number}
use Rattle.fleet_text.specs.Words.{ended_text}
use Rattle.fleet_plan.specs.Plan.{Path, Plan, IsFleet}
use Rattle.fleet_plan.specs.declared.text_fault.TextFault.{TextFault}
use Rattle.fleet_plan.specs.declared.text_fault.TextFault.TheVariants.{OutOfMemory, Form, Length, AgentCount}

-- ---- the parts of a plan text

-- two numbers up to 65,535
abbrev pub cell_of_parts : List Bytes → Option Cell
cell_of_parts [] = None
cell_of_parts (x ∷ []) = None
cell_of_parts (x ∷ y ∷ []) = option_and_then (λ column. option_and_then (λ row. Some (record { x = column; y = row })) (small_number y)) (small_number x)
cell_of_parts (x ∷ y ∷ z ∷ more) = None

-- the cell that a word spells: two numbers up to 65,535 with one comma between
unfoldable pub spelled_cell : Bytes → Option Cell
spelled_cell word = cell_of_parts (slice_split (λ b. b == 44) word)

-- one word or more, and each spells a cell of the path. No blank stands in front
pub record SpellsPath (line : Bytes) (path : Path) : Type 0 where
  pub some : 1 ≤ length path
  pub cells : map spelled_cell (words_from_front line) ≡ map (λ cell. Some cell) path

-- the line stands for the path
pub record StandsForPath (line : Bytes) (path : Path) : Type 0 where
  pub spells : SpellsPath line path
  pub few : length path ≤ MAX_HORIZON + 1

-- ---- a plan text

-- a line for each path
pub record ArePlanLines (ls : List Bytes) (plan : Plan) : Type 0 where
  pub agents : IsFleet plan
  pub paths : AllZip StandsForPath ls plan

-- the text stands for the plan
abbrev pub IsPlanText : Bytes → Plan → Type 0
IsPlanText text plan = ArePlanLines (lines text) plan

-- ---- the first fault

-- the line stands for some path
abbrev pub IsRightLine : Bytes → Type 0
IsRightLine line = (path : Path) × StandsForPath line path

-- this is line k, counted from 0, there may be so many agents, and all lines before it are right
pub record ReachesPlanLine (ls : List Bytes) (k : ℕ) (line : Bytes) : Type 0 where
  pub few : k < MAX_AGENTS
  pub before : All IsRightLine (take k ls)
  pub here : slice_get ls k ≡ Some line

-- the fault is there, and all that is judged before it is right. The lines that are reported count from 1
abbrev pub IsFirstPlanLineFault : List Bytes → TextFault → Type 0
IsFirstPlanLineFault ls OutOfMemory = ⊥
IsFirstPlanLineFault ls (Form number) = (k : ℕ) × (line : Bytes) × (number ≡ k + 1) × ReachesPlanLine ls k line × ((path : Path) → SpellsPath line path → ⊥)
IsFirstPlanLineFault ls (Length number) = (k : ℕ) × (line : Bytes) × (number ≡ k + 1) × ReachesPlanLine ls k line × (path : Path) × SpellsPath line path × (MAX_HORIZON + 1 < length path)
IsFirstPlanLineFault ls AgentCount = (ls ≡ []) ⊎ ((MAX_AGENTS < length ls) × All IsRightLine (take MAX_AGENTS ls))

-- the same of a text
abbrev pub IsFirstTextFault : Bytes → TextFault → Type 0
IsFirstTextFault text fault = IsFirstPlanLineFault (lines text) fault

-- ---- what is written

-- a cell as x,y
abbrev pub cell_text : Cell → Bytes
cell_text c = decimal c.x ++ 44 ∷ decimal c.y

-- cells with a space between
abbrev pub path_text : Path → Bytes
path_text path = join_with_byte 32 (map cell_text path)

-- a line for each path
abbrev pub plan_text : Plan → Bytes
plan_text plan = ended_text (map path_text plan)
