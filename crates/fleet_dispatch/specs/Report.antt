-- Reports: which actions robots say that they have carried out, and what is carried out by them.
use Rattle.std.specs.Prelude.{◌≡◌, ℕ, ◌+◌, ◌-◌, ◌<◌, ◌≤◌, Bool, false, not, List, [], ◌∷◌, length, get_or, set, map, take, nat_lt, nat_le, if◌then◌else◌}
use Rattle.std.specs.List.{list_all}
use Rattle.std.specs.List.Sorted.{IsStrictlyIncreasing}
use Rattle.std.specs.Option.{option_map_or}
use Rattle.fleet_model.specs.declared.limits.TheConstants.{MAX_AGENTS}
use Rattle.fleet_dispatch.specs.declared.report.Reported.{Reported}

-- the words of a report
abbrev pub Words : Type 0
Words = List Reported

-- each word names a later agent than the one before it
abbrev pub IsRising : Words → Type 0
IsRising words = IsStrictlyIncreasing (map (λ w. w.agent) words)

-- the first words of these are a report
pub record AreWords (words : Words) (count : ℕ) : Type 0 where
  pub room : length words ≡ MAX_AGENTS
  pub few : count ≤ MAX_AGENTS
  pub rising : IsRising (take count words)

-- there may be one word more, and it names a later agent than they do
pub record IsBehind (words : Words) (word : Reported) : Type 0 where
  pub few : length words < MAX_AGENTS
  pub later : 0 < length words → (get_or words (length words - 1) word).agent < word.agent

-- how many of its actions each agent has carried out
abbrev pub Counts : Type 0
Counts = List ℕ

-- how many of them agent i has
abbrev pub count_of : Counts → ℕ → ℕ
count_of counts i = get_or counts i 0

-- how many its agent has carried out by the word: those up to its number, or without a number one more than before
abbrev pub said_of : Counts → Reported → ℕ
said_of counts w = option_map_or (λ n. n) w.number (count_of counts w.agent + 1)

-- agent i has carried out so many, or as many as before, if these were more
abbrev pub raised : Counts → ℕ → ℕ → Counts
raised counts i n = if nat_lt (count_of counts i) n then set counts i n else counts

-- what is carried out by a report: each agent that it names has carried out what its word says, and no other has more
abbrev pub counts_after : Counts → Words → Counts
counts_after counts [] = counts
counts_after counts (w ∷ ws) = counts_after (raised counts w.agent (said_of counts w)) ws

-- a report that names somebody, and only actions that are carried out already
abbrev pub is_repeat : Counts → Words → Bool
is_repeat counts [] = false
is_repeat counts (w ∷ ws) = list_all (λ x. nat_le (said_of counts x) (count_of counts x.agent)) (w ∷ ws)

-- what a line says that is heard
pub data Line : Type 0 where
  Reports : Words → Line  -- that this is carried out
  Asks : Line  -- the question where the agents are

-- the words of a report; the question says of nobody that something is carried out
abbrev pub words_in : Line → Words
words_in (Reports words) = words
words_in Asks = []

-- a report is taken that is no repeat, and the question is none
abbrev pub is_taken : Counts → Line → Bool
is_taken counts (Reports words) = not (is_repeat counts words)
is_taken counts Asks = false
