-- What is answered to the question where the agents are.
use Rattle.std.specs.Prelude.{ℕ, ◌+◌, not, nat_lt, List, [], ◌++◌, length, Option, codes, if◌then◌else◌}
use Rattle.std.specs.List.{flat_map, find}
use Rattle.std.specs.Fmt.{decimal}
use Rattle.std.specs.Option.{option_map_or}
use Rattle.fleet_model.specs.declared.geometry.Place.{Place}
use Rattle.fleet_model.specs.declared.program.Await.{Await}
use Rattle.fleet_model.specs.Program.{Program, moves, path, awaits_of}
use Rattle.fleet_model.specs.Machine.{indices}
use Rattle.fleet_text.specs.Words.{place_text}
use Rattle.fleet_dispatch.specs.Report.{Counts, count_of}
use Rattle.fleet_dispatch.specs.Ahead.{is_done}

-- ` waits B:C`, of an await
abbrev pub await_text : Await → List ℕ
await_text w = codes " waits " ++ (decimal w.agent ++ (codes ":" ++ decimal w.count))

-- `at A X,Y done N of M`: where agent A stands, and how many of its actions it has carried out, of how many; and an
-- await for which it waits, if it does
abbrev pub standing_text : (agent : ℕ) (place : Place) (done moves : ℕ) → Option Await → List ℕ
standing_text agent place done moves waits =
    codes "at " ++ (decimal agent ++ (place_text place ++ (codes " done " ++ (decimal done ++ (codes " of " ++ (decimal moves ++ (option_map_or await_text waits [] ++ codes "\n")))))))

-- the first await of the agent's next action that is not carried out, if there is one
abbrev pub next_wait : Program → Counts → ℕ → Option Await
next_wait p counts i = find (λ w. not (is_done counts w)) (awaits_of p i (count_of counts i + 1))

-- where agent i stands that has carried out so many of its actions, and for what it waits
abbrev pub standing_line : Program → Counts → ℕ → List ℕ
standing_line p counts i = standing_text i (path p i (count_of counts i)) (count_of counts i) (moves p i) (next_wait p counts i)

-- .. if an action is left to it
abbrev pub left_line : Program → Counts → ℕ → List ℕ
left_line p counts i = if nat_lt (count_of counts i) (moves p i) then standing_line p counts i else []

-- the lines of the agents that have an action left, in rising order
unfoldable pub standings_text : Program → Counts → List ℕ
standings_text p counts = flat_map (left_line p counts) (indices (length p))
