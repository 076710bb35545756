-- Marks of the words that have a bit, and the next flag by them.
use Rattle.std.proofs.Common.{zero, suc, not, ◌==◌, ◌≡◌, ◌≢◌, ◌<◌, ◌≤◌, ◌+◌, ◌-◌, ◌*◌, ◌/◌, ◌%◌, ◌^◌, ◌↔◌, ℕ, false, List, length, set, slice_index, refl, ap, sym, ◌∙◌, inl, inr, arith, get_or-set_same, get_or-set_other}
use Rattle.std.specs.Prelude.{◌⊎◌}
use Rattle.std.specs.Int.{bit_at}
use Rattle.std.proofs.lemmas.Nat.Bits.{bit_at-zero, bit_at_above}
use Rattle.std.proofs.Math.Dec.{eqb-suc-zero, eqb-zero-suc}
use Rattle.std.proofs.lemmas.Bool.{cases_eq, cases_lt}
use Rattle.std.proofs.lemmas.List.{get_or_past}
use Rattle.fleet_machine.specs.AgentSet.{is_bit, bit_if, flags_in, AreBits, AreMarks, IsLowest, IsNextFrom, AreNoneFrom}
use Rattle.fleet_machine.proofs.Bits.{bit_shifted, none_is, later_found}

-- no word has a bit, and none is marked
pub no_marks : (words : List ℕ) → ((k : ℕ) → slice_index words k ≡ 0) → AreMarks words 0
no_marks words none k lt = (λ h. none k, λ h. bit_at-zero k)

-- a mark that is set exactly where the word is not zero, whichever stood first when they were compared
pub marked_by : (word marks at : ℕ) → (bit_at marks at ≡ bit_if (not (word == 0))) ⊎ (bit_at marks at ≡ bit_if (not (0 == word)))
    → (bit_at marks at ≡ 0) ↔ (word ≡ 0)
marked_by zero marks at o = (λ _. refl, λ _. elim o [ inl h ↦ h | inr h ↦ h ])
marked_by (suc n) marks at o =
    let marked : bit_at marks at ≡ 1 = elim o [ inl h ↦ rw (eqb-suc-zero n) at h | inr h ↦ rw (eqb-zero-suc n) at h ] in
    (λ none. absurd (omega (arith, marked, none)), λ none. absurd (omega (arith, none)))

-- a word written, and its mark
module _ (words : List ℕ) (marks at word new : ℕ) (marked : AreMarks words marks) (within : at < length words)
    (here : (bit_at new at ≡ 0) ↔ (word ≡ 0)) (others : (k : ℕ) → k < 64 → k ≢ at → bit_at new k ≡ bit_at marks k) where
  pub mark_written : AreMarks (set words at word) new
  mark_written k lt =
      elim (cases_eq k at) [
        | inl same ↦ rw (same, get_or-set_same words at word 0 within) here
        | inr other ↦ rw (others k lt other, get_or-set_other words at k word 0 other) (marked k lt)
      ]

-- after the word of `from`, in which no bit stands from there on
module _ (words : List ℕ) (n marks from : ℕ) (bits : AreBits words n) (marked : AreMarks words marks) (fits : marks < 2 ^ 64)
    (clear : (k : ℕ) → from ≤ k → k < 64 * (from / 64 + 1) → is_bit words k ≡ false) where
  -- a later word without a mark is empty
  empty_word : (k : ℕ) → from / 64 < k → bit_at (marks / 2 ^ (from / 64 + 1)) (k - (from / 64 + 1)) ≡ 0 → slice_index words k ≡ 0
  empty_word k later none =
      let nothing : ℕ = 0 in
      elim (cases_lt k 64) [
        | inl lt ↦
            let place : from / 64 + 1 + (k - (from / 64 + 1)) ≡ k = omega arith in
            (marked k lt).0 (ap (bit_at marks) (sym place) ∙ (sym (bit_shifted marks (from / 64 + 1) (k - (from / 64 + 1))) ∙ none))
        | inr le ↦ get_or_past words k nothing (let long = bits.long in let few = bits.few in omega arith)
      ]

  clear_in : (k : ℕ) → slice_index words (k / 64) ≡ 0 → is_bit words k ≡ false
  clear_in k none = rw (none, bit_at-zero (k % 64)) refl

  pub none_marked : marks / 2 ^ (from / 64 + 1) ≡ 0 → AreNoneFrom (flags_in words n) from
  none_marked none =
      none_is words n bits from (λ k ge.
      elim (cases_lt k (64 * (from / 64 + 1))) [
        | inl lt ↦ clear k ge lt
        | inr le ↦ clear_in k (empty_word (k / 64) (omega arith) (rw (none, bit_at-zero (k / 64 - (from / 64 + 1))) refl))
      ])

  module _ (skipped : ℕ) (low : IsLowest (marks / 2 ^ (from / 64 + 1)) skipped) where
    at_mark : bit_at marks (from / 64 + 1 + skipped) ≡ 1
    at_mark = sym (bit_shifted marks (from / 64 + 1) skipped) ∙ low.is_set

    few_marks : from / 64 + 1 + skipped < 64
    few_marks =
        elim (cases_lt (from / 64 + 1 + skipped) 64) [
          | inl lt ↦ lt
          | inr le ↦ absurd (omega (arith, at_mark, bit_at_above marks 64 (from / 64 + 1 + skipped) fits le))
        ]

    pub word_filled : slice_index words (from / 64 + 1 + skipped) ≢ 0
    word_filled none = omega (arith, at_mark, (marked (from / 64 + 1 + skipped) few_marks).1 none)

    pub word_there : from / 64 + 1 + skipped < length words
    word_there =
        let nothing : ℕ = 0 in
        elim (cases_lt (from / 64 + 1 + skipped) (length words)) [
          | inl lt ↦ lt
          | inr le ↦ absurd (word_filled (get_or_past words (from / 64 + 1 + skipped) nothing le))
        ]

    clear_before : (k : ℕ) → from ≤ k → k < 64 * (from / 64 + 1 + skipped) → is_bit words k ≡ false
    clear_before k ge lt =
        elim (cases_lt k (64 * (from / 64 + 1))) [
          | inl below ↦ clear k ge below
          | inr above ↦ clear_in k (empty_word (k / 64) (omega arith) (low.lower (k / 64 - (from / 64 + 1)) (omega arith)))
        ]

    pub next_marked : (place : ℕ) → IsLowest (slice_index words (from / 64 + 1 + skipped)) place
        → IsNextFrom (flags_in words n) from (64 * (from / 64 + 1 + skipped) + place)
    next_marked place at = later_found words n bits from (from / 64 + 1 + skipped) (omega arith) clear_before place at
