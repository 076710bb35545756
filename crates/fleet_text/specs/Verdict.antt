-- What a reader says of a text: which value it stands for, or which fault is its first.
use Rattle.std.specs.Prelude.{◌≡◌, ◌⊎◌}

-- a value or a first fault, never both, and one first fault at most
pub record HasOneVerdict {V F : Type 0} (StandsFor : V → Type 0) (IsFirst : F → Type 0) : Type 0 where
  pub either : ((v : V) × StandsFor v) ⊎ ((f : F) × IsFirst f)
  pub not_both : (v : V) (f : F) → StandsFor v → IsFirst f → ⊥
  pub one : (e f : F) → IsFirst e → IsFirst f → e ≡ f
