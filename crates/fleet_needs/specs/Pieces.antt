-- Counts of chains, kept as pieces.
use Rattle.std.specs.Prelude.{◌≡◌, ◌≢◌, ℕ, ◌+◌, ◌-◌, ◌*◌, ◌<◌, ◌≤◌, List, ◌∷◌, length, min, get_or}
use Rattle.std.specs.List.Sorted.{IsNonDecreasingBy}
use Rattle.fleet_needs.specs.Words.{ActionId, Program, IsAction}
use Rattle.fleet_needs.specs.Rows.{IsColumn}
use Rattle.fleet_needs.specs.declared.gather.Piece.{Piece}
use Rattle.fleet_needs.specs.declared.gather.TheConstants.{AGENTS, NUMBERS}

-- the count of a piece at action n of its last agent: with each action one more, up to the most
abbrev pub count_by : Piece → ℕ → ℕ
count_by x n = min (x.count + (n - x.from)) x.most

-- by which pieces are sorted
abbrev pub key_of : Piece → ℕ
key_of x = (x.last_agent * AGENTS + x.first_agent) * NUMBERS + x.from

-- the pieces stand in that order
abbrev pub AreSorted : List Piece → Type 0
AreSorted pieces = IsNonDecreasingBy key_of pieces

-- a piece of chains that begin with actions of agent j and end with actions of agent i
abbrev pub IsOf : ℕ → ℕ → Piece → Type 0
IsOf i j x = (x.last_agent ≡ i) × (x.first_agent ≡ j)

-- before the first piece of two agents nothing is counted
abbrev pub no_piece : ℕ → ℕ → Piece
no_piece i j = record { last_agent = i; first_agent = j; from = 0; count = 0; most = 0 }

-- the piece at place k, from 1 on; at place 0 that of agents i and j before their first one
abbrev pub piece_at : List Piece → (i j k : ℕ) → Piece
piece_at pieces i j k = get_or (no_piece i j ∷ pieces) k (no_piece 0 0)

-- of the pieces of the two agents that at place k is the last one that begins with action n or before
pub record IsLatest (at : ℕ → Piece) (i j n k : ℕ) : Type 0 where
  pub here : IsOf i j (at k)
  pub begun : (at k).from ≤ n
  pub latest : (m : ℕ) → IsOf i j (at m) → (at m).from ≤ n → (at m).from ≤ (at k).from

-- the latest of the pieces at these places has the count of agent j at action n of agent i
abbrev pub IsToldBy : Program → (ℕ → Piece) → ℕ → ℕ → ℕ → Type 0
IsToldBy p at i j n = (k : ℕ) → IsLatest at i j n k → IsColumn p (record { agent = i; number = n }) j (count_by (at k) n)

-- .. of the pieces
abbrev pub IsTold : Program → List Piece → ℕ → ℕ → ℕ → Type 0
IsTold p pieces i j n = IsToldBy p (piece_at pieces i j) i j n

-- the pieces have the counts of these agents at all actions of others
abbrev pub AreTold : Program → List Piece → (ℕ → Type 0) → Type 0
AreTold p pieces Agents = (a : ActionId) (j : ℕ) → IsAction p a → Agents j → j ≢ a.agent → IsTold p pieces a.agent j a.number

-- the pieces of a program in which no action needs a later one of its agent
pub record ArePiecesOf (p : Program) (pieces : List Piece) : Type 0 where
  pub sorted : AreSorted pieces
  pub told : AreTold p pieces (λ j. j < length p)
  pub own : (a : ActionId) → IsAction p a → IsColumn p a a.agent a.number
