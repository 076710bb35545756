-- Rows of numbers by their keys: buckets.
use Rattle.std.specs.Prelude.{◌≡◌, ℕ, ◌==◌, cond, List, [], ◌∷◌, ◌++◌, map, get_or, Vec}
use Rattle.std.specs.declared.alloc.Global.{Global}

-- the row of this key, which is empty past the last one
abbrev pub bucket_of : List (List ℕ) → ℕ → List ℕ
bucket_of rows k = get_or rows k []

-- the rows as lists
abbrev pub lists_of : List (Vec ℕ Global) → List (List ℕ)
lists_of rows = map (λ v. v.items) rows

-- the number is last in its row, and the others are as before
abbrev pub IsPut : List (List ℕ) → List (List ℕ) → ℕ → ℕ → Type 0
IsPut old new key n = (k : ℕ) → bucket_of new k ≡ cond (k == key) (bucket_of old k ++ n ∷ []) (bucket_of old k)
