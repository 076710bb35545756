-- Rows of counts: for each agent, how many of its actions begin a chain that ends with an action.
use Rattle.std.specs.Prelude.{◌≡◌, ◌≢◌, ℕ, ◌-◌, ◌<◌, ◌≤◌, ◌↔◌, ◌⊎◌, slice_get, Some}
use Rattle.fleet_needs.specs.Words.{ActionId, Await, Program, awaits_of, Reaches, awaited}

-- n is the greatest number of which it is so, or 0; it is so of all from 1 up to there
abbrev pub IsMost : (ℕ → Type 0) → ℕ → Type 0
IsMost Is n = (c : ℕ) → Is c ↔ ((1 ≤ c) × (c ≤ n))

-- n is the greatest c such that action c of agent j begins a chain that ends with the action, or 0
abbrev pub IsColumn : Program → ActionId → ℕ → ℕ → Type 0
IsColumn p a j n = IsMost (λ c. Reaches p (record { agent = j; number = c }) a) n

-- the action before, of the same agent
abbrev pub action_before : ActionId → ActionId
action_before a = record { agent = a.agent; number = a.number - 1 }

-- x is reached from one of these awaits of the action
pub record ByOneOf (These : ℕ → Await → Type 0) (p : Program) (x a : ActionId) : Type 0 where
  pub place : ℕ
  pub await : Await
  pub this : These place await
  pub at : slice_get (awaits_of p a.agent a.number) place ≡ Some await
  pub reaches : Reaches p x (awaited await)

-- x is reached from the action before, or from one of these awaits
abbrev pub ByBeforeOr : (ℕ → Await → Type 0) → Program → ActionId → ActionId → Type 0
ByBeforeOr These p x a = Reaches p x (action_before a) ⊎ ByOneOf These p x a

-- the column of agent j is that of the action before a and of these awaits of a
abbrev pub IsJoined : (ℕ → Await → Type 0) → Program → ActionId → ℕ → ℕ → Type 0
IsJoined These p a j n = IsMost (λ c. ByBeforeOr These p (record { agent = j; number = c }) a) n

-- the await is among the first k
abbrev pub OfFirst : ℕ → ℕ → Await → Type 0
OfFirst k place w = place < k

-- .. and one of these
abbrev pub OfThese : (Await → Type 0) → ℕ → ℕ → Await → Type 0
OfThese These k place w = (place < k) × These w

-- .. of another agent than j
abbrev pub OfOthers : ℕ → ℕ → ℕ → Await → Type 0
OfOthers j = OfThese (λ w. w.agent ≢ j)

-- .. of agent j
abbrev pub OfOwn : ℕ → ℕ → ℕ → Await → Type 0
OfOwn j = OfThese (λ w. w.agent ≡ j)
