-- Who is ahead of whom in one step, and rings of agents each of which is ahead of the one before it.
use Rattle.std.specs.Prelude.{◌≡◌, ℕ, ◌+◌, ◌<◌, ◌≤◌, List, [], ◌∷◌, length, get_or, Option, Some, None, ◌⊎◌, MatchOption}

-- the agent ahead of agent i, if there is one
abbrev pub ahead_of : List (Option ℕ) → ℕ → Option ℕ
ahead_of ahead i = get_or ahead i None

-- a row in which nothing is noted for any of n agents
pub record IsBlank (n : ℕ) (row : List (Option ℕ)) : Type 0 where
  pub all : length row ≡ n
  pub none : (i : ℕ) → get_or row i None ≡ None

-- whoever is ahead of an agent is one of the agents
abbrev pub NamesAgents : List (Option ℕ) → Type 0
NamesAgents ahead = (i j : ℕ) → ahead_of ahead i ≡ Some j → j < length ahead

-- the list leads from agent i to agent e: each agent of it is ahead of the one before it, the first of i, and the last
-- is e
abbrev pub Leads : List (Option ℕ) → ℕ → List ℕ → ℕ → Type 0
Leads ahead i [] e = i ≡ e
Leads ahead i (j ∷ js) e = (ahead_of ahead i ≡ Some j) × Leads ahead j js e

-- the agents ahead of agent i, one after another, lead to agent e
abbrev pub LeadsTo : List (Option ℕ) → ℕ → ℕ → Type 0
LeadsTo ahead i e = (js : List ℕ) × Leads ahead i js e

-- the agents ahead of agent i lead back to it
pub record IsOnRing (ahead : List (Option ℕ)) (i : ℕ) : Type 0 where
  pub next : ℕ
  pub ahead_is : ahead_of ahead i ≡ Some next
  pub back : LeadsTo ahead next i

-- the least agent on a ring
pub record IsLeastOnRing (ahead : List (Option ℕ)) (i : ℕ) : Type 0 where
  pub ring : IsOnRing ahead i
  pub least : (j : ℕ) → IsOnRing ahead j → i ≤ j

-- ---- walks along those who are ahead

-- the walk in which the agent was met first
abbrev pub walk_of : List (Option ℕ) → ℕ → Option ℕ
walk_of walks i = get_or walks i None

-- the agent was met in some walk
abbrev pub IsWalked : List (Option ℕ) → ℕ → Type 0
IsWalked walks i = (w : ℕ) × (walk_of walks i ≡ Some w)

-- somebody is ahead of each agent that was met, and was met too unless nobody is ahead of that one; and walks have
-- numbers below n
pub record AreClosed (ahead walks : List (Option ℕ)) (n : ℕ) : Type 0 where
  pub all : length walks ≡ length ahead
  pub live : (i : ℕ) → IsWalked walks i → (j : ℕ) × (ahead_of ahead i ≡ Some j)
  pub ahead_too : (i j : ℕ) → IsWalked walks i → ahead_of ahead i ≡ Some j → IsWalked walks j ⊎ (ahead_of ahead j ≡ None)
  pub below : (i w : ℕ) → walk_of walks i ≡ Some w → w < n

-- walk n was made from a first agent on, and met itself at an agent of the only new ring that it met, or met none
pub record HasWalked (ahead old new : List (Option ℕ)) (n first : ℕ) (met : Option ℕ) : Type 0 where
  pub closed : AreClosed ahead new (n + 1)
  pub walked : IsWalked new first ⊎ (ahead_of ahead first ≡ None)
  pub kept : (k : ℕ) → IsWalked old k → IsWalked new k
  pub rings : MatchOption met ((k : ℕ) → IsWalked new k → IsOnRing ahead k → IsWalked old k)
      (λ agent. IsOnRing ahead agent × ((k : ℕ) → IsWalked new k → IsOnRing ahead k → IsWalked old k ⊎ LeadsTo ahead agent k))
