-- Where the parts of a program stand in its bytes.
use Rattle.std.specs.Prelude.{◌≡◌, ◌≢◌, ℕ, ◌+◌, ◌-◌, ◌*◌, ◌^◌, ◌<◌, Bool, List, [], ◌∷◌, ◌++◌, length, map, take, drop, slice_index_or, All, ◌≤◌, Result, Ok, Err}
use Rattle.std.specs.List.{flat_map, range_with_len}
use Rattle.std.specs.Result.{result_unwrap_or}
use Rattle.fleet_model.specs.declared.program.Action.{Action}
use Rattle.fleet_model.specs.declared.program.AgentProgram.{AgentProgram}
use Rattle.fleet_model.specs.Program.{Program, actions_of}
use Rattle.fleet_code.specs.declared.fault.LoadFault.{LoadFault}
use Rattle.fleet_code.specs.declared.fault.LoadFault.TheVariants.{OutOfMemory}
use Rattle.fleet_code.specs.declared.format.TheConstants.{HEAD_LEN}
use Rattle.fleet_code.specs.declared.format.Version.{Version}
use Rattle.fleet_code.specs.declared.format.Version.TheVariants.{One, Two}
use Rattle.fleet_code.specs.Spelling.{count_len, action, agent, SpellsIn}
use Rattle.fleet_code.specs.Reading.{Field, program_at}

-- how many bytes stand before an agent's actions: two cells and the number of actions
abbrev pub head_len : Version → ℕ
head_len v = 8 + count_len v

-- how many bytes an await has: its opcode, an agent and a count
abbrev pub await_len : Version → ℕ
await_len v = 3 + count_len v

-- how many opcodes an action has: one for each await, and one for its step
abbrev pub opcodes : Action → ℕ
opcodes a = length a.awaits + 1

-- where an agent's actions begin in the bytes; and how many opcodes stand before each of them, counted from there, and
-- last how many they have together
pub record PartOffsets : Type 0 where
  pub begin : ℕ
  pub offsets : List ℕ

-- after how many opcodes each of these actions ends, if so many stand before the first of them
abbrev pub ends_of : ℕ → List Action → List ℕ
ends_of at [] = []
ends_of at (a ∷ actions) = (at + opcodes a) ∷ ends_of (at + opcodes a) actions

-- the part of an agent that begins there
abbrev pub part_of : Version → ℕ → AgentProgram → PartOffsets
part_of v at a = record { begin = at + head_len v; offsets = 0 ∷ ends_of 0 a.actions }

-- the parts of these agents, if the first of them begins there
abbrev pub parts_of : Version → ℕ → Program → List PartOffsets
parts_of v at [] = []
parts_of v at (a ∷ p) = part_of v at a ∷ parts_of v (at + length (agent v a)) p

-- the n offsets after this one, each so far from the one before it
abbrev pub further : ℕ → ℕ → ℕ → List ℕ
further last stride n = map (λ k. last + (k + 1) * stride) (range_with_len 0 n)

-- the numbers of opcodes before so many actions, and last in all of them: those that are kept, and after the last of
-- them others that are so far from each other. If none is kept, each action has one opcode
abbrev pub offsets_of : ℕ → ℕ → List ℕ → List ℕ
offsets_of actions stride [] = range_with_len 0 (actions + 1)
offsets_of actions stride (o ∷ kept) = (o ∷ kept) ++ further (slice_index_or (o ∷ kept) (length kept) 0) stride (actions + 1 - length (o ∷ kept))

-- one offset more than there are actions, each of four bytes
pub record AreOffsets (actions : ℕ) (offsets : List ℕ) : Type 0 where
  pub count : length offsets ≡ actions + 1
  pub fit : All (λ o. o < 2 ^ 32) offsets

-- from that offset on each is so far from the one before it
abbrev pub IsEvenFrom : List ℕ → ℕ → ℕ → Type 0
IsEvenFrom offsets at stride =
    (n : ℕ) → at ≤ n → n < length offsets → slice_index_or offsets n 0 ≡ slice_index_or offsets at 0 + (n - at) * stride

-- the greatest opcode of a step
abbrev pub last_step : Version → ℕ
last_step One = 3
last_step Two = 4

-- each of the next bytes is there and a step
pub record AreBare (v : Version) (count : ℕ) (bytes : List ℕ) : Type 0 where
  pub there : count ≤ length bytes
  pub steps : All (λ b. b ≤ last_step v) (take count bytes)

-- the actions, one after the other, with their ends after the offsets that are known
abbrev pub with_ends : List ℕ → ℕ → Field (List Action) → Field (List ℕ)
with_ends known at (Ok x) = Ok (known ++ ends_of at x.0, x.1)
with_ends known at (Err f) = Err f

-- the agents, one after the other, with their parts after those that are known
abbrev pub with_parts : Version → List PartOffsets → ℕ → Field Program → Field (List PartOffsets)
with_parts v known at (Ok x) = Ok (known ++ parts_of v at x.0, x.1)
with_parts v known at (Err f) = Err f

-- the result stands so to the one that is due, unless memory ran out
abbrev pub Finds : {X Y : Type 0} → (X → Y → Type 0) → Result X LoadFault → Result Y LoadFault → Type 0
Finds {Y = Y} stands (Ok x) due = (y : Y) × (due ≡ Ok y) × stands x y
Finds stands (Err e) due = e ≢ OutOfMemory → due ≡ Err e

-- the text stands there in the bytes
abbrev pub StandsAt : List ℕ → ℕ → List ℕ → Type 0
StandsAt bytes at text = (rest : List ℕ) × (drop at bytes ≡ text ++ rest)

-- where agent i begins in the spelling of p
abbrev pub begin_of : Version → Program → ℕ → ℕ
begin_of v p i = HEAD_LEN + length (flat_map (agent v) (take i p))

-- where the first n actions of agent i end in the spelling of p
abbrev pub end_of : Version → Program → ℕ → ℕ → ℕ
end_of v p i n = begin_of v p i + head_len v + length (flat_map (action v) (take n (actions_of p i)))

-- where n opcodes of steps and so many awaits of agent i end, counted from its first action
abbrev pub after_opcodes : Version → Program → (i n awaits : ℕ) → ℕ
after_opcodes v p i n awaits = begin_of v p i + head_len v + n + await_len v * awaits

-- the part of agent i
abbrev pub part_at : Version → Program → ℕ → PartOffsets
part_at v p i = record { begin = begin_of v p i + head_len v; offsets = 0 ∷ ends_of 0 (actions_of p i) }

-- the program that the bytes spell, if they spell one
abbrev pub program_in : List ℕ → Program
program_in bytes = result_unwrap_or (program_at bytes) []

-- a program that is read in place, the version of its bytes, and whether each action is known to be a move
pub record Viewed : Type 0 where
  pub version : Version
  pub program : Program
  pub all_move : Bool

-- the bytes spell the program in this version, and these are its parts
pub record IsViewOf (v : Version) (bytes : List ℕ) (p : Program) (parts : List PartOffsets) : Type 0 where
  pub spelled : SpellsIn v bytes p
  pub parts_are : parts ≡ parts_of v HEAD_LEN p
