-- A program as text: a line for each agent, and after it one for each of its actions.
use Rattle.std.specs.Prelude.{ℕ, zero, suc, ◌+◌, List, [], ◌∷◌, ◌++◌, length, map, codes, decimal}
use Rattle.std.specs.Option.{option_map_or}
use Rattle.fleet_model.specs.declared.geometry.Cell.{Cell}
use Rattle.fleet_model.specs.declared.geometry.Dir.{Dir}
use Rattle.fleet_model.specs.declared.geometry.Dir.TheVariants.{North, East, South, West}
use Rattle.fleet_model.specs.declared.geometry.Step.{Step}
use Rattle.fleet_model.specs.declared.geometry.Step.TheVariants.{Go, Dwell}
use Rattle.fleet_model.specs.declared.program.Await.{Await}
use Rattle.fleet_model.specs.Program.{Program, start_of, goal_of, moves, step_of, awaits_of, path}
use Rattle.fleet_text.specs.Words.{pair_text, place_text, numbered_text, with_spaces, line_text, next_words}

-- a direction by its name
abbrev pub dir_name : Dir → List ℕ
dir_name North = codes "north"
dir_name East = codes "east"
dir_name South = codes "south"
dir_name West = codes "west"

-- what a step does, before the place where it ends: `east to`, or `stays at`
abbrev pub step_words : Step → List (List ℕ)
step_words (Go dir) = dir_name dir ∷ codes "to" ∷ []
step_words Dwell = codes "stays" ∷ codes "at" ∷ []

-- the last action of another agent that has to be finished, as `j:m`
abbrev pub await_text : Await → List ℕ
await_text w = numbered_text w.agent w.count

-- what an action awaits: `after j:m ..`, or no word
abbrev pub await_words : List Await → List (List ℕ)
await_words [] = []
await_words (w ∷ awaits) = codes "after" ∷ map await_text (w ∷ awaits)

-- the line of an agent: `agent i: x,y to x,y`, its start and its goal
unfoldable pub agent_line : ℕ → Cell → Cell → List ℕ
agent_line i start goal =
    line_text (codes "agent" ∷ (decimal i ++ 58 ∷ []) ∷ pair_text start.x start.y ∷ codes "to" ∷ pair_text goal.x goal.y ∷ [])

-- the line of action n of agent i that does this step: `i:n east to x,y after j:m ..`, with the place where the agent
-- is then
abbrev pub step_line : Program → ℕ → ℕ → Step → List ℕ
step_line p i n step =
    with_spaces (numbered_text i n ∷ step_words step) ++ (place_text (path p i n) ++ (next_words (await_words (awaits_of p i n)) ++ 10 ∷ []))

-- the line of action n of agent i, if there is one
abbrev pub action_line : Program → ℕ → ℕ → List ℕ
action_line p i n = option_map_or (step_line p i n) (step_of p i n) []

-- the texts of the numbers below n, one after another
abbrev pub texts_below : (ℕ → List ℕ) → ℕ → List ℕ
texts_below text zero = []
texts_below text (suc n) = texts_below text n ++ text n

-- the lines of the actions of agent i, from the first
abbrev pub actions_text : Program → ℕ → List ℕ
actions_text p i = texts_below (λ n. action_line p i (n + 1)) (moves p i)

-- the line of agent i, and those of its actions
abbrev pub agent_text : Program → ℕ → List ℕ
agent_text p i = agent_line i (start_of p i) (goal_of p i) ++ actions_text p i

-- the text of a program
abbrev pub program_text : Program → List ℕ
program_text p = texts_below (agent_text p) (length p)
