-- Which ticks a text of holds stands for, line by line.
use Rattle.std.specs.Prelude.{◌≡◌, ℕ, ◌+◌, ◌<◌, Bool, false, ◌&&◌, nat_le, nat_lt, List, [], ◌∷◌, map, All, Option, None, Some, option_and_then, option_map, codes, decimal, if◌then◌else◌}
use Rattle.std.specs.List.{slice_split, join_with_byte}
use Rattle.std.specs.List.Sorted.{IsStrictlyIncreasing}
use Rattle.fleet_model.specs.Machine.{Holds}
use Rattle.fleet_text.specs.Text.{Bytes, lines, is_space, is_dash, plain_number}
use Rattle.fleet_text.specs.Words.{ended_text}
use Rattle.fleet_run.specs.Source.{SourceState}
use Rattle.fleet_run.specs.declared.source.SourceFault.{SourceFault}
use Rattle.fleet_run.specs.declared.source.SourceFault.TheVariants.{Text}

-- ---- the form of a line, said of the agents that it holds

-- `-` for nobody, or the agents' numbers with one space between two
abbrev pub tick_line : List ℕ → Bytes
tick_line [] = codes "-"
tick_line (agent ∷ others) = join_with_byte 32 (map decimal (agent ∷ others))

-- the line of a tick that holds these agents, of n
pub record IsTickLine (n : ℕ) (line : Bytes) (held : List ℕ) : Type 0 where
  pub rising : IsStrictlyIncreasing held
  pub agents : All (λ i. i < n) held
  pub written : line ≡ tick_line held

-- ---- the agents that a line holds, read from its front

-- the agents below n that the words name in strictly rising order from the number `least` on, if they do
abbrev pub agents_of : ℕ → ℕ → List Bytes → Option (List ℕ)
agents_of n least [] = Some []
agents_of n least (word ∷ words) =
    option_and_then
    (λ i. if nat_le least i && nat_lt i n then option_map (λ others. i ∷ others) (agents_of n (i + 1) words) else None)
    (plain_number word)

-- the agents that a line holds, if it is the line of a tick of n agents
abbrev pub tick_of : ℕ → Bytes → Option (List ℕ)
tick_of n line = if is_dash line then Some [] else agents_of n 0 (slice_split is_space line)

-- ---- the ticks of a text

-- the ticks from a line on, by its own tick and those after it: none if it is no tick's
abbrev pub tick_before : Option (List ℕ) → Holds → Holds
tick_before None ticks = []
tick_before (Some tick) ticks = tick ∷ ticks

-- the ticks of the lines before the first that is no tick's
abbrev pub ticks_of : ℕ → List Bytes → Holds
ticks_of n [] = []
ticks_of n (line ∷ lines) = tick_before (tick_of n line) (ticks_of n lines)

-- what comes after the ticks from a line on: the failure if it is no tick's
abbrev pub fault_before : Option (List ℕ) → Option SourceFault → Option SourceFault
fault_before None last = Some Text
fault_before (Some tick) last = last

-- what comes after them: nothing, or the failure at a line that is no tick's
abbrev pub last_of : ℕ → List Bytes → Option SourceFault
last_of n [] = None
last_of n (line ∷ lines) = fault_before (tick_of n line) (last_of n lines)

-- a text of holds that is read in place
pub record HoldLines : Type 0 where
  pub lines : List Bytes  -- those that are left
  pub agents : ℕ
  pub has_failed : Bool

-- the source that gives its ticks
abbrev pub source_of : HoldLines → SourceState
source_of t = record { ticks = ticks_of t.agents t.lines; last = last_of t.agents t.lines; fault = if t.has_failed then Some Text else None }

-- a text of holds as a source, for so many agents, before its first tick is asked for
abbrev pub text_source : ℕ → Bytes → SourceState
text_source n text = source_of (record { lines = lines text; agents = n; has_failed = false })

-- ---- what is written

-- a line for each tick
abbrev pub holds_text : Holds → Bytes
holds_text ticks = ended_text (map tick_line ticks)
