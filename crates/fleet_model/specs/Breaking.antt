-- The holds that bring two agents onto one place, if no chain orders their visits of it.
use Rattle.std.specs.Prelude.{◌≡◌, ℕ, ◌+◌, ◌<◌, ◌≤◌, [], length, get_or, ◌⊎◌, ◌↔◌, Contains}
use Rattle.std.specs.List.Sorted.{IsStrictlyIncreasing}
use Rattle.fleet_model.specs.declared.geometry.Place.{Place}
use Rattle.fleet_model.specs.declared.program.ActionId.{ActionId}
use Rattle.fleet_model.specs.declared.program.Visit.{Visit}
use Rattle.fleet_model.specs.Program.{Program, moves}
use Rattle.fleet_model.specs.Machine.{Configuration, Holds, count_at, place_at, run}
use Rattle.fleet_model.specs.Chain.{Reaches}
use Rattle.fleet_model.specs.Visit.{entering}

-- the action enters one of the two visits, or one of these two needs it through a chain
abbrev pub IsNeededFor : Program → Visit → Visit → ActionId → Type 0
IsNeededFor p v w a = Reaches p a (entering v) ⊎ Reaches p a (entering w)

-- agent i has an action left, and the next one is not needed for the two visits
pub record IsHeldBack (p : Program) (v w : Visit) (c : Configuration) (i : ℕ) : Type 0 where
  pub left : count_at c i < moves p i
  pub unneeded : IsNeededFor p v w (record { agent = i; number = count_at c i + 1 }) → ⊥

-- all that is needed for the two visits is finished
abbrev pub IsPrepared : Program → Visit → Visit → Configuration → Type 0
IsPrepared p v w c = (a : ActionId) → IsNeededFor p v w a → a.number ≤ count_at c a.agent

-- in each tick the agents that are held back, in rising order, until all that is needed is finished
pub record AreBreakingHolds (p : Program) (v w : Visit) (holds : Holds) : Type 0 where
  pub rising : (t : ℕ) → IsStrictlyIncreasing (get_or holds t [])
  pub rows : (t i : ℕ) → t < length holds → Contains (get_or holds t []) i ↔ IsHeldBack p v w (run p holds t) i
  pub sooner : (t : ℕ) → t < length holds → IsPrepared p v w (run p holds t) → ⊥
  pub prepared : IsPrepared p v w (run p holds (length holds))

-- after these holds the agents of both visits stand on the place
abbrev pub MeetOn : Program → Place → Visit → Visit → Holds → Type 0
MeetOn p q v w holds = (place_at (run p holds (length holds)) v.agent ≡ q) × (place_at (run p holds (length holds)) w.agent ≡ q)
