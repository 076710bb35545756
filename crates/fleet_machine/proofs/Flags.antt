-- Stretches of flags, and sets that are filled by flags.
use Rattle.std.proofs.Common.{◌≡◌, ◌<◌, ◌≤◌, ◌+◌, ℕ, Bool, false, List, length, sym, ◌∙◌, inl, inr, arith}
use Rattle.std.proofs.lemmas.Bool.{cases_eq, cases_lt}
use Rattle.std.proofs.lemmas.List.{ext_get_or}
use Rattle.fleet_machine.specs.Machine.{flag_of}
use Rattle.fleet_machine.specs.AgentSet.{AreNoneFrom, AreNoneIn}

-- ---- stretches without a set flag

pub none_in : (flags : List Bool) (from : ℕ) → AreNoneIn flags from from
none_in flags from k ge lt = absurd (omega arith)

pub none_more : (flags : List Bool) (from at : ℕ) → AreNoneIn flags from at → flag_of flags at ≡ false → AreNoneIn flags from (at + 1)
none_more flags from at before here k ge lt =
    elim (cases_eq k at) [
      | inl same ↦ rw same here
      | inr other ↦ before k ge (omega arith)
    ]

-- ---- a set that is filled

-- up to there the members are those that are flagged, and there are no others
pub record IsFilledTo (flags now : List Bool) (from : ℕ) : Type 0 where
  pub long : length now ≡ length flags
  pub within : from ≤ length flags
  pub so_far : (k : ℕ) → k < from → flag_of now k ≡ flag_of flags k
  pub rest : (k : ℕ) → from ≤ k → flag_of now k ≡ false

module _ (flags now : List Bool) (from : ℕ) (before : IsFilledTo flags now from) where
  pub all_filled : AreNoneFrom flags from → now ≡ flags
  all_filled none =
      ext_get_or false now flags before.long
      (λ k lt.
      elim (cases_lt k from) [
        | inl below ↦ before.so_far k below
        | inr above ↦ before.rest k above ∙ sym (none k above)
      ])
