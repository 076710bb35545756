-- Sets of agents, as bits of words.
use Rattle.std.specs.Prelude.{◌≡◌, ℕ, ◌+◌, ◌-◌, ◌/◌, ◌%◌, ◌<◌, ◌≤◌, ◌↔◌, Bool, true, false, List, length, map, slice_index, if◌then◌else◌, ◌==◌, Option, MatchOption, IfSome}
use Rattle.std.specs.Int.{bit_at}
use Rattle.fleet_model.specs.declared.limits.TheConstants.{MAX_AGENTS}
use Rattle.fleet_model.specs.Machine.{indices}
use Rattle.fleet_machine.specs.declared.agent_set.Cursor.{Cursor}
use Rattle.fleet_machine.specs.Machine.{flag_of}

-- the bit of a member, or of none
abbrev pub bit_if : Bool → ℕ
bit_if b = if b then 1 else 0

-- bit i of the words, 64 to each, the first in the lowest bit of the first word
abbrev pub is_bit : List ℕ → ℕ → Bool
is_bit words i = bit_at (slice_index words (i / 64)) (i % 64) == 1

-- a flag for each of n agents
abbrev pub flags_in : List ℕ → ℕ → List Bool
flags_in words n = map (is_bit words) (indices n)

-- words for all agents that there can be, with bits for the first n alone
pub record AreBits (words : List ℕ) (n : ℕ) : Type 0 where
  pub few : n ≤ MAX_AGENTS
  pub long : length words ≡ MAX_AGENTS / 64 + 1
  pub rest : (i : ℕ) → n ≤ i → is_bit words i ≡ false

-- bit k of the marks is clear exactly if word k has no bit
abbrev pub AreMarks : List ℕ → ℕ → Type 0
AreMarks words marks = (k : ℕ) → k < 64 → (bit_at marks k ≡ 0) ↔ (slice_index words k ≡ 0)

-- words for n agents, and marks for the words
pub record AreBitsMarked (words : List ℕ) (marks n : ℕ) : Type 0 where
  pub bits : AreBits words n
  pub marked : AreMarks words marks

-- the lowest bit of the word that is set
pub record IsLowest (word place : ℕ) : Type 0 where
  pub within : place < 64
  pub is_set : bit_at word place ≡ 1
  pub lower : (k : ℕ) → k < place → bit_at word k ≡ 0

-- no flag is set from there on
abbrev pub AreNoneFrom : List Bool → ℕ → Type 0
AreNoneFrom flags from = (k : ℕ) → from ≤ k → flag_of flags k ≡ false

-- no flag is set from there on before the end
abbrev pub AreNoneIn : List Bool → (from end : ℕ) → Type 0
AreNoneIn flags from end = (k : ℕ) → from ≤ k → k < end → flag_of flags k ≡ false

-- the first flag from there on that is set
pub record IsNextFrom (flags : List Bool) (from i : ℕ) : Type 0 where
  pub agent : i < length flags
  pub later : from ≤ i
  pub member : flag_of flags i ≡ true
  pub between : (k : ℕ) → from ≤ k → k < i → flag_of flags k ≡ false

-- the bits of the cursor are the flags of a word from its agent on, and no bit before or behind them is set
pub record IsCursorOf (flags : List Bool) (cursor : Cursor) : Type 0 where
  pub few : cursor.first ≤ MAX_AGENTS
  pub word : cursor.first % 64 ≡ 0
  pub later : cursor.first ≤ cursor.from
  pub within : cursor.from ≤ cursor.first + 64
  pub here : (k : ℕ) → cursor.from ≤ k → k < cursor.first + 64 → flag_of flags k ≡ (bit_at cursor.bits (k - cursor.first) == 1)
  pub only : (k : ℕ) → bit_at cursor.bits k ≡ 1 → (cursor.from ≤ cursor.first + k) × (k < 64)

-- this is the first member from the cursor on, if there is one, and the cursor goes on behind it
pub record GoesOn (flags : List Bool) (old new : Cursor) (found : Option ℕ) : Type 0 where
  pub next : MatchOption found (AreNoneFrom flags old.from) (IsNextFrom flags old.from)
  pub behind : IfSome found (λ i. new.from ≡ i + 1)
  pub cursor : IsCursorOf flags new
