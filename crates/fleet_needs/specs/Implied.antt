-- Awaits that others imply, and the places of their flags.
use Rattle.std.specs.Prelude.{◌≡◌, ◌≢◌, ℕ, ◌+◌, ◌-◌, Bool, true, false, List, length, take, slice_get, get_or, Some, ◌↔◌}
use Rattle.fleet_needs.specs.Words.{Await, ActionId, Program, awaits_before, awaits_of, total_awaits, IsAction, DirectlyNeeds, Reaches, awaited}
use Rattle.fleet_needs.specs.Places.{AreFirsts}

-- the awaited action begins a chain that ends with another action that a directly needs
abbrev pub IsImplied : Program → ActionId → Await → Type 0
IsImplied p a w = (b : ActionId) × (b ≢ awaited w) × DirectlyNeeds p a b × Reaches p (awaited w) b

-- the flag says whether the await of the action is implied
abbrev pub IsImpliedFlag : Program → ActionId → Await → Bool → Type 0
IsImpliedFlag p a w flag = (flag ≡ true) ↔ IsImplied p a w

-- how many awaits stand before those of the action, agent by agent
abbrev pub first_await : Program → ActionId → ℕ
first_await p a = total_awaits (take a.agent p) + awaits_before p a.agent (a.number - 1)

-- for each agent, how many awaits those before it have together
abbrev pub AreAwaitPlaces : Program → List ℕ → Type 0
AreAwaitPlaces p firsts = AreFirsts (λ i. total_awaits (take i p)) (length p) firsts

-- this is so of each await of the program, with its place and its flag
abbrev pub EachFlag : Program → (ActionId → ℕ → Await → Bool → Type 0) → List Bool → Type 0
EachFlag p Is flags =
    (a : ActionId) → IsAction p a → (k : ℕ) (w : Await) → slice_get (awaits_of p a.agent a.number) k ≡ Some w → Is a k w (get_or flags (first_await p a + k) false)

-- the flags of all awaits of the action are set
abbrev pub AreSet : Program → List Bool → ActionId → Type 0
AreSet p flags a = (k : ℕ) (w : Await) → slice_get (awaits_of p a.agent a.number) k ≡ Some w → get_or flags (first_await p a + k) false ≡ true

-- no flag is set but of awaits that others imply
abbrev pub AreSure : Program → List Bool → Type 0
AreSure p flags = EachFlag p (λ a k w flag. flag ≡ true → IsImplied p a w) flags

-- the action is to have no row: it has one await alone, whose flag is set
abbrev pub IsLeftOut : Program → List Bool → ActionId → Type 0
IsLeftOut p flags a = (length (awaits_of p a.agent a.number) ≡ 1) × (get_or flags (first_await p a) false ≡ true)
