-- What an action needs, and the chains of needs: the edges and the paths of the action dependency graph.
use Rattle.std.specs.Prelude.{◌≡◌, ℕ, ◌+◌, ◌<◌, ◌≤◌, List, [], ◌∷◌, length, sum_by, ◌⊎◌, Contains}
use Rattle.fleet_model.specs.declared.program.Await.{Await}
use Rattle.fleet_model.specs.declared.program.ActionId.{ActionId}
use Rattle.fleet_model.specs.Program.{Program, moves, awaits_of}

-- the action is one of the program
pub record IsAction (p : Program) (a : ActionId) : Type 0 where
  pub agent : a.agent < length p
  pub first : 1 ≤ a.number
  pub last : a.number ≤ moves p a.agent

-- the action that has to be finished for an await
abbrev pub awaited : Await → ActionId
awaited w = record { agent = w.agent; number = w.count }

-- a directly needs b: b is the action of the same agent right before a, or an action that a awaits
abbrev pub DirectlyNeeds : Program → ActionId → ActionId → Type 0
DirectlyNeeds p a b =
    ((a.agent ≡ b.agent) × (a.number ≡ b.number + 1) × (1 ≤ b.number))
    ⊎ Contains (awaits_of p a.agent a.number) (record { agent = b.agent; count = b.number })

-- a list of actions, the first of which is a and the last of which is b, in which each directly needs the one before
abbrev pub ChainFrom : Program → ActionId → List ActionId → ActionId → Type 0
ChainFrom p a [] b = IsAction p a × (a ≡ b)
ChainFrom p a (c ∷ cs) b = IsAction p a × DirectlyNeeds p c a × ChainFrom p c cs b

-- a begins a chain that ends with b
abbrev pub Reaches : Program → ActionId → ActionId → Type 0
Reaches p a b = (cs : List ActionId) × ChainFrom p a cs b

-- b ends a chain whose actions cost m in all
abbrev pub EndsChainOfCost : Program → (ActionId → ℕ) → ℕ → ActionId → Type 0
EndsChainOfCost p cost m b =
    (a : ActionId) × (cs : List ActionId) × ChainFrom p a cs b × (m ≡ sum_by cost (a ∷ cs))

-- the cost of the critical path of an action: the greatest cost of a chain that ends with it
pub record IsCriticalCost (p : Program) (cost : ActionId → ℕ) (b : ActionId) (m : ℕ) : Type 0 where
  pub some : EndsChainOfCost p cost m b
  pub most : (n : ℕ) → EndsChainOfCost p cost n b → n ≤ m

-- each action costs one
abbrev pub unit_cost : ActionId → ℕ
unit_cost a = 1

-- b ends a chain of n actions
abbrev pub EndsChain : Program → ℕ → ActionId → Type 0
EndsChain p = EndsChainOfCost p unit_cost

-- the level of an action: the greatest number of actions in a chain that ends with it
abbrev pub IsLevel : Program → ActionId → ℕ → Type 0
IsLevel p = IsCriticalCost p unit_cost

-- the number of actions of the longest chain: some chain has as many, and none has more; 0 without actions
pub record IsLongestChain (p : Program) (n : ℕ) : Type 0 where
  pub some : (n ≡ 0) ⊎ ((b : ActionId) × EndsChain p n b)
  pub most : (b : ActionId) (m : ℕ) → EndsChain p m b → m ≤ n

-- positive numbers of actions, each greater than those of the actions that it directly needs
pub record IsNumbering (p : Program) (number : ActionId → ℕ) : Type 0 where
  pub positive : (a : ActionId) → IsAction p a → 1 ≤ number a
  pub rising : (a b : ActionId) → IsAction p a → IsAction p b
      → DirectlyNeeds p a b → number b < number a
