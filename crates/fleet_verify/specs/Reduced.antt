-- Programs that differ in awaits alone and have the same chains, as one without the awaits that others imply.
use Rattle.std.specs.Prelude.{◌≡◌, ℕ, length, map, ◌↔◌, ◌⊎◌, Contains}
use Rattle.fleet_model.specs.declared.program.Await.{Await}
use Rattle.fleet_model.specs.declared.program.ActionId.{ActionId}
use Rattle.fleet_model.specs.Program.{Program, start_of, goal_of, actions_of, awaits_of}
use Rattle.fleet_model.specs.Machine.{Holds, run}
use Rattle.fleet_model.specs.Chain.{IsAction, Reaches, awaited}
use Rattle.fleet_needs.specs.Implied.{IsImplied}

-- the same but for the awaits
pub record DiffersInAwaits (p q : Program) : Type 0 where
  pub agents : length q ≡ length p
  pub starts : (i : ℕ) → start_of q i ≡ start_of p i
  pub goals : (i : ℕ) → goal_of q i ≡ goal_of p i
  pub steps : (i : ℕ) → map (λ a. a.step) (actions_of q i) ≡ map (λ a. a.step) (actions_of p i)

-- q is p without its implied awaits
pub record IsThinned (p q : Program) : Type 0 where
  pub rest : DiffersInAwaits p q
  pub awaits : (i n : ℕ) (w : Await) → Contains (awaits_of q i n) w ↔ (Contains (awaits_of p i n) w × (IsImplied p (record { agent = i; number = n }) w → ⊥))

-- what an action awaits in the first program it awaits in the second too
abbrev pub KeepsAwaits : Program → Program → Type 0
KeepsAwaits q r = (i n : ℕ) (w : Await) → Contains (awaits_of q i n) w → Contains (awaits_of r i n) w

-- q is p without some awaits, and whatever it no longer awaits it needs through a chain
pub record IsReduced (p q : Program) : Type 0 where
  pub rest : DiffersInAwaits p q
  pub fewer : KeepsAwaits q p
  pub needed : (i n : ℕ) (w : Await) → IsAction p (record { agent = i; number = n }) → Contains (awaits_of p i n) w → Contains (awaits_of q i n) w ⊎ Reaches q (awaited w) (record { agent = i; number = n })

-- for every list of holds their configurations agree after every number of ticks
abbrev pub RunEqually : Program → Program → Type 0
RunEqually p q = (holds : Holds) (t : ℕ) → run p holds t ≡ run q holds t

-- the same but for the awaits, and a chain leads from one action to another in both or in neither
pub record HaveSameChains (p q : Program) : Type 0 where
  pub rest : DiffersInAwaits p q
  pub chains : (a b : ActionId) → Reaches p a b ↔ Reaches q a b

-- no program with the starts, goals, steps and chains of p does without an await of q
abbrev pub HasLeastAwaits : Program → Program → Type 0
HasLeastAwaits p q = (r : Program) → HaveSameChains p r → KeepsAwaits q r
