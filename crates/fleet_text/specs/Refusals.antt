-- The words of a refusal.
use Rattle.std.specs.Prelude.{ℕ, List, [], ◌∷◌, codes, decimal}

-- the words of the line that says that memory ran out
abbrev pub memory_words : List (List ℕ)
memory_words = codes "memory" ∷ []

-- the part, the refusal's number and its name
abbrev pub named : List ℕ → ℕ → List ℕ → List (List ℕ)
named part number name = part ∷ decimal number ∷ name ∷ []

-- the same, with the name and the value of its one field
abbrev pub named_at : List ℕ → ℕ → List ℕ → List ℕ → ℕ → List (List ℕ)
named_at part number name field value = part ∷ decimal number ∷ name ∷ field ∷ decimal value ∷ []

-- the same, with two fields
abbrev pub named_by : List ℕ → ℕ → List ℕ → List ℕ → ℕ → List ℕ → ℕ → List (List ℕ)
named_by part number name first a second b = part ∷ decimal number ∷ name ∷ first ∷ decimal a ∷ second ∷ decimal b ∷ []
