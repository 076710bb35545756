-- Rows of counts, joined place by place.
use Rattle.std.specs.Prelude.{◌≡◌, ℕ, ◌<◌, ◌≤◌, List, get_or, max}

-- from one place up to another each count is the greater one of two rows
abbrev pub AreJoined : List ℕ → List ℕ → List ℕ → ℕ → ℕ → Type 0
AreJoined row other joined from to =
    (k : ℕ) → from ≤ k → k < to → get_or joined k 0 ≡ max (get_or row k 0) (get_or other k 0)
