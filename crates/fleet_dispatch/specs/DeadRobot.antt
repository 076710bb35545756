-- Which robot is dead, and on which cells it stands, by a text.
use Rattle.std.specs.Prelude.{ℕ, ◌+◌, ◌==◌, Bool, nat_lt, position, take, drop, Option, None, Some, option_and_then, option_map, if◌then◌else◌}
use Rattle.fleet_model.specs.declared.geometry.Cell.{Cell}
use Rattle.fleet_text.specs.Text.{Bytes}
use Rattle.fleet_dispatch.specs.declared.dead_robot.DeadRobot.{DeadRobot}
use Rattle.fleet_dispatch.specs.ReportText.{long_number, is_colon}

-- the byte between a column and a row
abbrev pub is_comma : ℕ → Bool
is_comma b = b == 44

-- the number that a word spells, if it is below this one
abbrev pub number_below : ℕ → Bytes → Option ℕ
number_below limit word = option_and_then (λ n. if nat_lt n limit then Some n else None) (long_number word)

-- the cell `X,Y` of a map of these sizes
abbrev pub cell_of : (width height : ℕ) → Bytes → Option Cell
cell_of width height word =
    option_and_then
    (λ end. option_and_then (λ x. option_map (λ y. record { x = x; y = y }) (number_below height (drop (end + 1) word))) (number_below width (take end word)))
    (position is_comma word)

-- one cell, twice, or two with a colon between them
abbrev pub cells_by : (width height : ℕ) → Bytes → Option ℕ → Option (Cell × Cell)
cells_by width height word None = option_map (λ c. (c, c)) (cell_of width height word)
cells_by width height word (Some end) =
    option_and_then (λ c. option_map (λ d. (c, d)) (cell_of width height (drop (end + 1) word))) (cell_of width height (take end word))

-- the cells `X,Y`, or `X,Y:X,Y`
abbrev pub cells_of : (width height : ℕ) → Bytes → Option (Cell × Cell)
cells_of width height word = cells_by width height word (position is_colon word)

-- the agent and its cells, `A:X,Y` or `A:X,Y:X,Y`
abbrev pub dead_robot_of : (agents width height : ℕ) → Bytes → Option DeadRobot
dead_robot_of agents width height text =
    option_and_then
    (λ end. option_and_then (λ i. option_map (λ cs. record { agent = i; first = cs.0; second = cs.1 }) (cells_of width height (drop (end + 1) text))) (number_below agents (take end text)))
    (position is_colon text)
