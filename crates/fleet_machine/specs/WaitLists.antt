-- Lists of agents, of which each agent stands in one at most.
use Rattle.std.specs.Prelude.{◌≡◌, ℕ, ◌<◌, List, [], ◌∷◌, length, get_or, Option, Some, None, Contains}

-- how many lists there are, and in which one each agent stands, if it stands in one
pub record WaitState : Type 0 where
  pub lists : ℕ
  pub homes : List (Option ℕ)

-- the list in which agent i stands
abbrev pub home_of : List (Option ℕ) → ℕ → Option ℕ
home_of homes i = get_or homes i None

-- from this agent on the links lead to these, one after another, and end
abbrev pub IsLinked : List (Option ℕ) → Option ℕ → List ℕ → Type 0
IsLinked next None [] = Unit {0}
IsLinked next (Some i) (x ∷ xs) = (x ≡ i) × (i < length next) × IsLinked next (get_or next i None) xs
IsLinked next None (x ∷ xs) = ⊥
IsLinked next (Some i) [] = ⊥

-- the links from there on lead to the agents of list j, and to no others
pub record IsChain (next homes : List (Option ℕ)) (first : Option ℕ) (j : ℕ) : Type 0 where
  pub agents : List ℕ
  pub linked : IsLinked next first agents
  pub home : (i : ℕ) → Contains agents i → home_of homes i ≡ Some j
  pub all : (i : ℕ) → home_of homes i ≡ Some j → Contains agents i

-- each list is linked
pub record AreChains (first next homes : List (Option ℕ)) : Type 0 where
  pub links : length next ≡ length homes
  pub chains : (j : ℕ) → j < length first → IsChain next homes (get_or first j None) j
