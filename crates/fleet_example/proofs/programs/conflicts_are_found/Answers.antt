use Rattle.std.proofs.Common.{◌≡◌, ◌≢◌, ℕ, zero, suc, ◌<◌, [], ◌∷◌, get_or, refl, arith}
use Rattle.std.proofs.lemmas.Cmp.{nat_eq_equiv}
use Rattle.std.proofs.lemmas.Map.Made.{IsDistinct-from_count}
use Rattle.fleet_model.specs.Conflict.{after_in}
use Rattle.fleet_model.specs.Run.{motion}
use Rattle.fleet_example.specs.Programs.{carousel}
use Rattle.fleet_example.proofs.Computed.{other_place}
use Rattle.fleet_example.proofs.programs.conflicts_are_found.Goals as goal

next : (k : ℕ) → k < 4 → motion carousel [] 1 (get_or (0 ∷ 1 ∷ 2 ∷ 3 ∷ []) k 0) ≡ motion carousel [] 0 (after_in (0 ∷ 1 ∷ 2 ∷ 3 ∷ []) k)
next zero lt = refl
next (suc zero) lt = refl
next (suc (suc zero)) lt = refl
next (suc (suc (suc zero))) lt = refl
next (suc (suc (suc (suc k)))) lt = absurd (omega arith)

moves : (k : ℕ) → k < 4 → motion carousel [] 1 (get_or (0 ∷ 1 ∷ 2 ∷ 3 ∷ []) k 0) ≢ motion carousel [] 0 (get_or (0 ∷ 1 ∷ 2 ∷ 3 ∷ []) k 0)
moves zero lt = other_place _ _ refl
moves (suc zero) lt = other_place _ _ refl
moves (suc (suc zero)) lt = other_place _ _ refl
moves (suc (suc (suc zero))) lt = other_place _ _ refl
moves (suc (suc (suc (suc k)))) lt = absurd (omega arith)

pub returns-clause-cycle : goal.returns-clause-cycle
returns-clause-cycle c = record { three = omega arith; distinct = IsDistinct-from_count nat_eq_equiv (0 ∷ 1 ∷ 2 ∷ 3 ∷ []) refl; next = next; moves = moves }
