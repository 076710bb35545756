-- Agents that are reported to have carried out their orders.
use Rattle.std.specs.Prelude.{◌≡◌, ℕ, ◌<◌, Bool, true, false, not, length, IsTrue}
use Rattle.fleet_model.specs.Program.{Program}
use Rattle.fleet_model.specs.Machine.{Configuration, is_ready}

-- all but these agents
abbrev pub all_but : (ℕ → Bool) → ℕ → Bool
all_but done i = not (done i)

-- each of these agents is ready
abbrev pub AreAllReady : Program → Configuration → (ℕ → Bool) → Type 0
AreAllReady p c done = (i : ℕ) → i < length p → IsTrue (done i) → IsTrue (is_ready p c i)

-- the first of these agents that is not ready
pub record IsFirstUnready (p : Program) (c : Configuration) (done : ℕ → Bool) (i : ℕ) : Type 0 where
  pub agent : i < length p
  pub reported : done i ≡ true
  pub unready : is_ready p c i ≡ false
  pub sooner : (j : ℕ) → j < i → IsTrue (done j) → IsTrue (is_ready p c j)
