-- A cursor that goes on through the members of a set.
use Rattle.std.proofs.Common.{◌≡◌, ◌≢◌, ◌<◌, ◌≤◌, ◌+◌, ◌-◌, ◌/◌, ◌%◌, ◌^◌, ℕ, zero, suc, Bool, true, false, List, length, slice_index, refl, ap, sym, ◌∙◌, inl, inr, arith}
use Rattle.std.specs.Prelude.{◌==◌}
use Rattle.std.specs.Int.{bit_at}
use Rattle.std.proofs.lemmas.Nat.Bits.{bit_at-lt, bit_at_above}
use Rattle.std.proofs.lemmas.Bool.{cases_lt, true≢false}
use Rattle.std.proofs.lemmas.List.{get_or_past}
use Rattle.fleet_model.specs.declared.limits.TheConstants.{MAX_AGENTS}
use Rattle.fleet_machine.specs.declared.agent_set.Cursor.{Cursor}
use Rattle.fleet_machine.specs.Machine.{flag_of}
use Rattle.fleet_machine.specs.AgentSet.{flags_in, AreBits, IsLowest, IsNextFrom, IsCursorOf}
use Rattle.fleet_machine.proofs.Bits.{flag_is}

-- with the flags of a word from agent i on, before whom no flag of the word is set
module _ (words : List ℕ) (n : ℕ) (bits : AreBits words n) (i first : ℕ) (fits : slice_index words (i / 64) < 2 ^ 64)
    (few : first ≤ MAX_AGENTS) (is_first : first ≡ i - i % 64) (clear : (k : ℕ) → first ≤ k → k < i → flag_of (flags_in words n) k ≡ false) where
  pub cursor_in_word : IsCursorOf (flags_in words n) (record { from = i; first = first; bits = slice_index words (i / 64) })
  cursor_in_word = record {
    few = few;
    word = omega arith;
    later = omega arith;
    within = omega arith;
    here = λ k ge lt.
        let word : k / 64 ≡ i / 64 = omega arith in
        let place : k - first ≡ k % 64 = omega arith in
        flag_is words n k bits ∙ rw (word, place) refl;
    only = λ k is_set.
        let bit : k < 64 = elim (cases_lt k 64) [ inl lt ↦ lt | inr le ↦ absurd (omega (arith, is_set, bit_at_above (slice_index words (i / 64)) 64 k fits le)) ] in
        let word : (first + k) / 64 ≡ i / 64 = omega arith in
        let place : (first + k) % 64 ≡ k = omega arith in (
          elim (cases_lt (first + k) i) [
            | inl lt ↦
                let member : flag_of (flags_in words n) (first + k) ≡ true = flag_is words n (first + k) bits ∙ rw (word, place, is_set) refl in
                absurd (true≢false (sym member ∙ clear (first + k) (omega arith) lt))
            | inr le ↦ le
          ],
          bit,
        );
  }

  pub lowest_here : flag_of (flags_in words n) i ≡ true → IsLowest (slice_index words (i / 64)) (i % 64)
  lowest_here member = record {
    within = omega arith;
    is_set = is_one (bit_at (slice_index words (i / 64)) (i % 64)) (bit_at-lt (slice_index words (i / 64)) (i % 64)) (sym (flag_is words n i bits) ∙ member);
    lower = λ k lt.
        let word : (first + k) / 64 ≡ i / 64 = omega arith in
        let place : (first + k) % 64 ≡ k = omega arith in
        let there : (bit_at (slice_index words (i / 64)) k == 1) ≡ false = rw (flag_is words n (first + k) bits, word, place) at (clear (first + k) (omega arith) (omega arith)) in
        is_none (bit_at (slice_index words (i / 64)) k) (bit_at-lt (slice_index words (i / 64)) k) there;
  }
    where
      is_one : (b : ℕ) → b < 2 → (b == 1) ≡ true → b ≡ 1
      is_one zero _ h = absurd (true≢false (sym h))
      is_one (suc zero) _ h = refl
      is_one (suc (suc b)) lt h = absurd (omega arith)

      is_none : (b : ℕ) → b < 2 → (b == 1) ≡ false → b ≡ 0
      is_none zero _ h = refl
      is_none (suc zero) _ h = absurd (true≢false h)
      is_none (suc (suc b)) lt h = absurd (omega arith)

-- with the flags of the first word
pub cursor_at_first : (words : List ℕ) (n : ℕ) → AreBits words n → slice_index words 0 < 2 ^ 64 → IsCursorOf (flags_in words n) (record { from = 0; first = 0; bits = slice_index words 0 })
cursor_at_first words n bits fits = cursor_in_word words n bits 0 0 fits (omega arith) (omega arith) (λ k ge lt. absurd (omega arith))

-- at the lowest bit
module _ (flags : List Bool) (cursor : Cursor) (is : IsCursorOf flags cursor) (place : ℕ) (low : IsLowest cursor.bits place) where
  later : cursor.from ≤ cursor.first + place
  later = (is.only place low.is_set).0

  member_at : flag_of flags (cursor.first + place) ≡ true
  member_at =
      let there : cursor.first + place - cursor.first ≡ place = omega arith in
      is.here (cursor.first + place) later (omega (arith, low.within)) ∙ rw (there, low.is_set) refl

  pub agent_at : cursor.first + place < length flags
  agent_at =
      elim (cases_lt (cursor.first + place) (length flags)) [
        | inl lt ↦ lt
        | inr le ↦ absurd (true≢false (sym member_at ∙ get_or_past flags (cursor.first + place) false le))
      ]

  pub next_by_bit : IsNextFrom flags cursor.from (cursor.first + place)
  next_by_bit = record {
    agent = agent_at;
    later = later;
    member = member_at;
    between = λ k ge lt. is.here k ge (omega (arith, low.within)) ∙ rw (low.lower (k - cursor.first) (omega (arith, is.later))) refl;
  }

  pub cursor_behind : (bits : ℕ) → bit_at bits place ≡ 0 → ((k : ℕ) → k ≢ place → bit_at bits k ≡ bit_at cursor.bits k)
      → IsCursorOf flags (record { from = cursor.first + place + 1; first = cursor.first; bits = bits })
  cursor_behind bits cut others = record {
    few = is.few;
    word = is.word;
    later = omega arith;
    within = omega (arith, low.within);
    here = λ k ge lt.
        let other : k - cursor.first ≢ place = omega arith in
        is.here k (omega (arith, later)) lt ∙ ap (λ b. b == 1) (sym (others (k - cursor.first) other));
    only = λ k is_set.
        let other : k ≢ place = λ e. absurd (omega (arith, is_set, cut, ap (bit_at bits) e)) in
        let was = sym (others k other) ∙ is_set in
        elim (cases_lt k place) [
          | inl lt ↦ absurd (omega (arith, was, low.lower k lt))
          | inr le ↦ (omega arith, (is.only k was).1)
        ];
  }
