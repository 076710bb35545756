-- Rows of counts.
use Rattle.fleet_verify.proofs.Words.{◌≡◌, ℕ, List, [], ◌++◌, length, map, get_or, subst, take, drop, All, IsStrictlyIncreasing, take_at, get_or-map}

-- what a call wrote through a slice of a whole vector
pub written_back : {X : Type 0} (n : ℕ) (new old : List X) → length new ≡ n → take n (new ++ drop (length new) old) ≡ new
written_back n new old e = take_at new (drop (length new) old) n e

-- rows of which each is in rising order
pub rising_rows : {X : Type 0} (f : X → List ℕ) (rows : List X) → ((t : ℕ) → IsStrictlyIncreasing (get_or (map f rows) t [])) → All (λ row. IsStrictlyIncreasing (f row)) rows
rising_rows f rows h k d l = subst IsStrictlyIncreasing (get_or-map f rows k d [] l) (h k)
