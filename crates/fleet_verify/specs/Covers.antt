-- Rows of counts, compared place by place.
use Rattle.std.specs.Prelude.{ℕ, ◌<◌, ◌≤◌, List, get_or}

-- from one place up to another the counts of the first row are at least those of the second
abbrev pub AreCovered : List ℕ → List ℕ → ℕ → ℕ → Type 0
AreCovered row other from to = (k : ℕ) → from ≤ k → k < to → get_or other k 0 ≤ get_or row k 0
