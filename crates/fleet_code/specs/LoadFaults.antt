-- Which fault is the first of bytes that spell no program: what stands before it is right, up to the field that is not.
use Rattle.std.specs.Prelude.{◌≡◌, ◌≢◌, ℕ, ◌+◌, ◌<◌, ◌≤◌, List, [], ◌∷◌, ◌++◌, length, get_or, slice_get, Some, All, IsTrue, ◌⊎◌}
use Rattle.std.specs.List.{Any, flat_map}
use Rattle.fleet_model.specs.declared.limits.TheConstants.{MAX_AGENTS, MAX_MOVES_IN_ALL}
use Rattle.fleet_model.specs.declared.geometry.Cell.{Cell}
use Rattle.fleet_model.specs.declared.geometry.Step.{Step}
use Rattle.fleet_model.specs.declared.program.Await.{Await}
use Rattle.fleet_model.specs.declared.program.Action.{Action}
use Rattle.fleet_model.specs.declared.program.AgentProgram.{AgentProgram}
use Rattle.fleet_model.specs.Program.{Program, AreAwaits, IsCell, IsAgent, total_moves}
use Rattle.fleet_code.specs.declared.fault.LoadFault.{LoadFault}
use Rattle.fleet_code.specs.declared.fault.LoadFault.TheVariants.{OutOfMemory, Magic, Truncated, AgentCount, Total, Opcode, AwaitAgent, AwaitOrder, AwaitCount, Trailing}
use Rattle.fleet_code.specs.declared.format.Version.{Version}
use Rattle.fleet_code.specs.Spelling.{magic, two_bytes, count, count_len, most_count, most_moves, cell, opcode, has_opcode, await, action, agent, AreSpellable, CanSpell}

-- ---- fields

-- the bytes are a number and then the rest
pub record BeginsWithNumber (bytes : List ℕ) (n : ℕ) (rest : List ℕ) : Type 0 where
  pub fits : n < 65536
  pub parts : bytes ≡ two_bytes n ++ rest

-- .. a number of actions or a count, as wide as the version has it, and then the rest
pub record BeginsWithCount (v : Version) (bytes : List ℕ) (n : ℕ) (rest : List ℕ) : Type 0 where
  pub fits : n ≤ most_count v
  pub parts : bytes ≡ count v n ++ rest

-- the bytes are two cells, a number of actions, and then the rest
pub record HasHead (v : Version) (bytes : List ℕ) (moves : ℕ) (rest : List ℕ) : Type 0 where
  pub start : Cell
  pub goal : Cell
  pub start_fits : IsCell start
  pub goal_fits : IsCell goal
  pub moves_fit : moves ≤ most_count v
  pub parts : bytes ≡ cell start ++ cell goal ++ count v moves ++ rest

-- the rest ends the bytes, of which so many stand before it
abbrev pub IsOffset : List ℕ → List ℕ → ℕ → Type 0
IsOffset bytes rest at = at + length rest ≡ length bytes

-- ---- fronts of a spelling in which all is right

-- the magic, the number n of agents, and then these agents of them
pub record ReachesAgent (v : Version) (bytes : List ℕ) (n : ℕ) (p : Program) (rest : List ℕ) : Type 0 where
  pub some : 1 ≤ n
  pub few : n ≤ MAX_AGENTS
  pub agents : (i : ℕ) (a : AgentProgram) → slice_get p i ≡ Some a → IsAgent n i a
  pub spellable : CanSpell v p
  pub total : total_moves p ≤ MAX_MOVES_IN_ALL
  pub parts : bytes ≡ magic v ++ two_bytes n ++ flat_map (agent v) p ++ rest

-- .. and then the head of agent i and some of its actions, but not all
pub record ReachesAction (v : Version) (bytes : List ℕ) (n i : ℕ) (rest : List ℕ) : Type 0 where
  pub before : Program
  pub at_agent : List ℕ
  pub agents : ReachesAgent v bytes n before at_agent
  pub own : length before ≡ i
  pub within : i < n
  pub count : ℕ
  pub at_actions : List ℕ
  pub head : HasHead v at_agent count at_actions
  pub few : count ≤ most_moves v
  pub total : total_moves before + count ≤ MAX_MOVES_IN_ALL
  pub actions : List Action
  pub more : length actions < count
  pub awaits : All (λ s. AreAwaits n i s.awaits) actions
  pub spellable : AreSpellable v actions
  pub parts : at_actions ≡ flat_map (action v) actions ++ rest

-- .. and then these awaits of the next action. What follows is to be an opcode
pub record ReachesOpcode (v : Version) (bytes : List ℕ) (n i : ℕ) (awaits : List Await) (rest : List ℕ) : Type 0 where
  pub at_action : List ℕ
  pub actions : ReachesAction v bytes n i at_action
  pub right : AreAwaits n i awaits
  pub fit : All (λ w. w.count ≤ most_count v) awaits
  pub parts : at_action ≡ flat_map (await v) awaits ++ rest

-- .. and then the opcode of an await, at this offset
pub record ReachesAwait (v : Version) (bytes : List ℕ) (n i : ℕ) (awaits : List Await) (at : ℕ) (rest : List ℕ) : Type 0 where
  pub opcode : ReachesOpcode v bytes n i awaits (16 ∷ rest)
  pub offset : IsOffset bytes (16 ∷ rest) at

-- .. and then the awaited agent, which is another one of the n agents
pub record ReachesOrder (v : Version) (bytes : List ℕ) (n : ℕ) (awaits : List Await) (at j : ℕ) (rest : List ℕ) : Type 0 where
  pub i : ℕ
  pub at_agent : List ℕ
  pub opcode : ReachesAwait v bytes n i awaits at at_agent
  pub agent : BeginsWithNumber at_agent j rest
  pub within : j < n
  pub other : j ≢ i

-- .. and higher than all that the action awaits before
pub record ReachesCount (v : Version) (bytes : List ℕ) (at : ℕ) (rest : List ℕ) : Type 0 where
  pub n : ℕ
  pub awaits : List Await
  pub j : ℕ
  pub agent : ReachesOrder v bytes n awaits at j rest
  pub rising : All (λ w. w.agent < j) awaits

-- ---- the first fault

-- one of the first four bytes is there and differs
abbrev pub IsWithoutMagic : Version → List ℕ → Type 0
IsWithoutMagic v bytes = (k : ℕ) × (k < 4) × (k < length bytes) × (get_or bytes k 0 ≢ get_or (magic v) k 0)

-- the bytes end where the magic, the number of agents, the head of an agent, an opcode, an awaited agent or a count is
-- to be and is not wholly there
abbrev pub EndsWithin : Version → List ℕ → Type 0
EndsWithin v bytes =
    ((rest : List ℕ) × (magic v ≡ bytes ++ rest) × (length bytes < 4))
    ⊎ ((rest : List ℕ) × (bytes ≡ magic v ++ rest) × (length rest < 2))
    ⊎ ((n : ℕ) × (p : Program) × (rest : List ℕ) × ReachesAgent v bytes n p rest × (length p < n) × (length rest < 8 + count_len v))
    ⊎ ((n i : ℕ) × (awaits : List Await) × ReachesOpcode v bytes n i awaits [])
    ⊎ ((n i : ℕ) × (awaits : List Await) × (at : ℕ) × (rest : List ℕ) × ReachesAwait v bytes n i awaits at rest × (length rest < 2))
    ⊎ ((at : ℕ) × (rest : List ℕ) × ReachesCount v bytes at rest × (length rest < count_len v))

-- as this version the bytes have the fault, and all that is judged before it is right. Offsets count from 0
abbrev pub IsFirstFaultIn : Version → List ℕ → LoadFault → Type 0
IsFirstFaultIn v bytes OutOfMemory = ⊥
IsFirstFaultIn v bytes Magic = IsWithoutMagic v bytes
IsFirstFaultIn v bytes Truncated = EndsWithin v bytes
IsFirstFaultIn v bytes AgentCount = (n : ℕ) × (at_number rest : List ℕ) × (bytes ≡ magic v ++ at_number) × BeginsWithNumber at_number n rest × ((n ≡ 0) ⊎ (MAX_AGENTS < n))
IsFirstFaultIn v bytes Total =
    (n : ℕ) × (p : Program) × (at_agent : List ℕ) × (moves : ℕ) × (rest : List ℕ) × ReachesAgent v bytes n p at_agent × (length p < n)
    × HasHead v at_agent moves rest × ((most_moves v < moves) ⊎ (MAX_MOVES_IN_ALL < total_moves p + moves))
IsFirstFaultIn v bytes (Opcode at) =
    (n i : ℕ) × (awaits : List Await) × (b : ℕ) × (rest : List ℕ) × ReachesOpcode v bytes n i awaits (b ∷ rest) × IsOffset bytes (b ∷ rest) at
    × (b ≢ 16) × ((s : Step) → IsTrue (has_opcode v s) → b ≢ opcode s)
IsFirstFaultIn v bytes (AwaitAgent at) =
    (n i : ℕ) × (awaits : List Await) × (at_agent : List ℕ) × (j : ℕ) × (rest : List ℕ) × ReachesAwait v bytes n i awaits at at_agent × BeginsWithNumber at_agent j rest
    × ((n ≤ j) ⊎ (j ≡ i))
IsFirstFaultIn v bytes (AwaitOrder at) =
    (n : ℕ) × (awaits : List Await) × (j : ℕ) × (rest : List ℕ) × ReachesOrder v bytes n awaits at j rest × Any (λ w. j ≤ w.agent) awaits
IsFirstFaultIn v bytes (AwaitCount at) = (at_count rest : List ℕ) × ReachesCount v bytes at at_count × BeginsWithCount v at_count 0 rest
IsFirstFaultIn v bytes (Trailing at) =
    (p : Program) × (b : ℕ) × (rest : List ℕ) × ReachesAgent v bytes (length p) p (b ∷ rest) × IsOffset bytes (b ∷ rest) at

-- the first fault: that the magic is neither version's, or another one in the version whose magic the bytes have, or
-- may yet have
abbrev pub IsFirstLoadFault : List ℕ → LoadFault → Type 0
IsFirstLoadFault bytes Magic = (v : Version) → IsFirstFaultIn v bytes Magic
IsFirstLoadFault bytes f = (v : Version) × IsFirstFaultIn v bytes f
