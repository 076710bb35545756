-- Reading a plan's lines in the order of judging, with the first fault that is met.
use Rattle.std.specs.Prelude.{ℕ, ◌+◌, nat_le, nat_lt, List, [], ◌∷◌, ◌++◌, length, Option, Some, None, option_map, option_and_then, is_some, if◌then◌else◌, Result, Ok, Err}
use Rattle.fleet_model.specs.declared.limits.TheConstants.{MAX_AGENTS, MAX_HORIZON}
use Rattle.fleet_text.specs.Text.{Bytes, words, words_from_front}
use Rattle.fleet_text.specs.Steps.{◌>>=◌, ◌>>◌, right_or, some_or}
use Rattle.fleet_plan.specs.Plan.{Path, Plan}
use Rattle.fleet_plan.specs.PlanText.{spelled_cell}
use Rattle.fleet_plan.specs.declared.text_fault.TextFault.{TextFault}
use Rattle.fleet_plan.specs.declared.text_fault.TextFault.TheVariants.{Form, Length, AgentCount}

-- the cells that these words spell, if each spells one
unfoldable pub spelled_cells : List Bytes → Option Path
spelled_cells [] = Some []
spelled_cells (word ∷ others) = option_and_then (λ cell. option_map (λ cells. cell ∷ cells) (spelled_cells others)) (spelled_cell word)

-- the fault of a line with too many cells in front, by what follows them
abbrev pub too_long : ℕ → Bytes → TextFault
too_long number rest = if is_some (spelled_cells (words rest)) then Length number else Form number

-- one cell or more
abbrev pub some_cells : Path → Option Path
some_cells [] = None
some_cells (cell ∷ cells) = Some (cell ∷ cells)

-- the path of a line
unfoldable pub path_at : ℕ → Bytes → Result Path TextFault
path_at number line = do
  path ← some_or (option_and_then some_cells (spelled_cells (words_from_front line))) (Form number)
  right_or (nat_le (length path) (MAX_HORIZON + 1)) (Length number)
  Ok path

-- the judgement at the end of the text
abbrev pub enough_paths : Plan → Result Plan TextFault
enough_paths [] = Err AgentCount
enough_paths (path ∷ plan) = Ok (path ∷ plan)

-- the paths of earlier lines and of these
unfoldable pub paths_at : Plan → List Bytes → Result Plan TextFault
paths_at earlier [] = enough_paths earlier
paths_at earlier (line ∷ ls) = right_or (nat_lt (length earlier) MAX_AGENTS) AgentCount >> (path_at (length earlier + 1) line >>= λ path. paths_at (earlier ++ path ∷ []) ls)
