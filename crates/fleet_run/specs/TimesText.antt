-- When agents arrive, as text.
use Rattle.std.specs.Prelude.{ℕ, List, [], ◌∷◌, ◌++◌, length, map, codes, decimal, slice_index}
use Rattle.fleet_model.specs.declared.program.ActionId.{ActionId}
use Rattle.fleet_run.specs.Listing.{texts_below}
use Rattle.fleet_text.specs.Words.{line_text, next_words, count_line}
use Rattle.fleet_verify.specs.RefusalWords.{action_text}

-- the line of agent i with its number: `i: N`
abbrev pub label_line : ℕ → ℕ → List ℕ
label_line i number = line_text ((decimal i ++ 58 ∷ []) ∷ decimal number ∷ [])

-- the lines of all agents
abbrev pub agent_lines : List ℕ → List ℕ
agent_lines numbers = texts_below (λ i. label_line i (slice_index numbers i)) (length numbers)

-- the line of a path: `path i:n ..`
abbrev pub path_line : List ActionId → List ℕ
path_line path = codes "path" ++ (next_words (map action_text path) ++ 10 ∷ [])

-- how many agents and actions there are, when the last agent arrives, and the path
abbrev pub closing_text : (agents moves last : ℕ) → List ActionId → List ℕ
closing_text agents moves last path =
    count_line (codes "agents") agents ++ (count_line (codes "moves") moves ++ (count_line (codes "arrival") last ++ path_line path))

-- when each agent arrives, and then these
abbrev pub times_text : List ℕ → (moves last : ℕ) → List ActionId → List ℕ
times_text arrivals moves last path = agent_lines arrivals ++ closing_text (length arrivals) moves last path

-- the last action that each agent reaches, how many agents and actions there are, and how many agents do not arrive
abbrev pub reached_text : List ℕ → (moves stopped : ℕ) → List ℕ
reached_text counts moves stopped =
    agent_lines counts
    ++ (count_line (codes "agents") (length counts) ++ (count_line (codes "moves") moves ++ count_line (codes "stopped") stopped))
