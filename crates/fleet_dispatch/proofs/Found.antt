-- The first element that does not pass a test.
use Rattle.fleet_dispatch.proofs.Cited.{◌≡◌, ℕ, zero, suc, Bool, true, false, not, List, [], ◌∷◌, take, Some, None, slice_get, refl, list_all, find, and_parts, same_Some}

pub none_found : {A : Type 0} (test : A → Bool) (xs : List A) → list_all test xs ≡ true → None ≡ find (λ x. not (test x)) xs
none_found test [] all = refl
none_found test (x ∷ xs) all = let both = and_parts (test x) (list_all test xs) all in rw both.0 (none_found test xs both.1)

pub first_found : {A : Type 0} (test : A → Bool) (xs : List A) (k : ℕ) (x : A) → list_all test (take k xs) ≡ true → slice_get xs k ≡ Some x → test x ≡ false
    → Some x ≡ find (λ y. not (test y)) xs
first_found test [] k x all at fails = absurd cc
first_found test (y ∷ xs) zero x all at fails = let same : y ≡ x = same_Some y x at in rw (same, fails) refl
first_found test (y ∷ xs) (suc k) x all at fails =
    let both = and_parts (test y) (list_all test (take k xs)) all in rw both.0 (first_found test xs k x both.1 at fails)
