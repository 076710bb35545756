-- Bits of words, as flags of agents.
use Rattle.std.proofs.Common.{◌≡◌, ◌≢◌, ◌<◌, ◌≤◌, ◌+◌, ◌-◌, ◌*◌, ◌/◌, ◌%◌, ◌^◌, ℕ, Bool, true, false, List, length, set, replicate, get_or, slice_index, refl, ap, sym, ◌∙◌, inl, inr, arith, get_or-set_same, get_or-set_other, length-set}
use Rattle.std.specs.Int.{bit_at, trailing_zeros, w64}
use Rattle.std.specs.Prelude.{◌==◌, bit_and, bit_or}
use Rattle.std.proofs.lemmas.Nat.Bits.{bit_at-trailing_zeros, bit_at-zero, bit_at_above, bit_at_set_same, bit_at_set_other, bit_at_clear_same, shr_and_one, bit_at_clear_other, bit_at_and, bit_at_cat_low, bit_at_cat_high, bit_at-pow_same, bit_at-pow_other, bit_at_ones_above, same_from_bits}
use Rattle.std.proofs.Math.Nat.{div-div-eq-div-mul, div-add-mod, mod-lt}
use Rattle.std.proofs.lemmas.Nat.{pow-add, pow_pos, and_le_l}
use Rattle.std.specs.Int.Bits.{or_zero_r}
use Rattle.std.proofs.lemmas.Bool.{cases_eq, cases_lt, true≢false}
use Rattle.std.proofs.lemmas.List.{ext_get_or, get_or_past, get_or-replicate, length-replicate}
use Rattle.std.proofs.lemmas.List.FromFn.{get_or-map-range_with_len, length-map-range_with_len}
use Rattle.fleet_model.specs.declared.limits.TheConstants.{MAX_AGENTS}
use Rattle.fleet_machine.specs.Machine.{flag_of}
use Rattle.fleet_machine.specs.AgentSet.{is_bit, flags_in, AreBits, IsLowest, IsNextFrom, AreNoneFrom, bit_if}

pub lowest_set : (n : ℕ) → n ≢ 0 → n < 2 ^ 64 → IsLowest n (trailing_zeros w64 n)
lowest_set n some fits =
    let h = bit_at-trailing_zeros w64 n (omega arith) fits in
    record { within = h.0; is_set = h.1; lower = h.2 }

-- a shift to the right
pub bit_shifted : (n k i : ℕ) → bit_at (n / 2 ^ k) i ≡ bit_at n (k + i)
bit_shifted n k i = ap (λ m. m % 2) (div-div-eq-div-mul n (2 ^ k) (2 ^ i) ∙ ap (λ d. n / d) (sym (pow-add 2 k i)))

-- ---- one bit written

module _ (word place : ℕ) (within : place < 64) where
  pub cut_here : bit_at (bit_and word (2 ^ 64 - 1 - 1 * 2 ^ place % 2 ^ 64)) place ≡ 0
  cut_here = bit_at_clear_same w64 word place within

  pub cut_others : (k : ℕ) → k < 64 → k ≢ place → bit_at (bit_and word (2 ^ 64 - 1 - 1 * 2 ^ place % 2 ^ 64)) k ≡ bit_at word k
  cut_others k lt other = bit_at_clear_other w64 word place within k lt other

  pub cut_less : bit_at word place ≡ 1 → bit_and word (2 ^ 64 - 1 - 1 * 2 ^ place % 2 ^ 64) < word
  cut_less is_set =
      let cut = bit_and word (2 ^ 64 - 1 - 1 * 2 ^ place % 2 ^ 64) in
      let changed : cut ≢ word = λ same. absurd (omega (arith, is_set, sym (ap (λ w. bit_at w place) same) ∙ cut_here)) in
      omega (arith, and_le_l word (2 ^ 64 - 1 - 1 * 2 ^ place % 2 ^ 64), changed)

  -- a bit put where there is none
  pub put_here : (b : Bool) → bit_at word place ≡ 0 → bit_at (bit_or word (bit_if b * 2 ^ place % 2 ^ 64)) place ≡ bit_if b
  put_here true clear = bit_at_set_same w64 word place within
  put_here false clear = rw (no_bit_put, or_zero_r word) clear
    where
      no_bit_put : 0 * 2 ^ place % 2 ^ 64 ≡ 0
      no_bit_put = omega arith

  pub put_others : (b : Bool) (k : ℕ) → k < 64 → k ≢ place → bit_at (bit_or word (bit_if b * 2 ^ place % 2 ^ 64)) k ≡ bit_at word k
  put_others true k lt other = bit_at_set_other w64 word place within k other
  put_others false k lt other = rw (no_bit_put, or_zero_r word) refl
    where
      no_bit_put : 0 * 2 ^ place % 2 ^ 64 ≡ 0
      no_bit_put = omega arith

-- the lowest bit taken off
module _ (word place : ℕ) (low : IsLowest word place) where
  high_part : ℕ
  high_part = word / 2 ^ (place + 1)

  low_part : ℕ
  low_part = word % 2 ^ (place + 1)

  low_lt : low_part < 2 ^ (place + 1)
  unfolding low_part
  low_lt = mod-lt word (pow_pos (place + 1))

  parts : word ≡ high_part * 2 ^ (place + 1) + low_part
  unfolding high_part low_part
  parts = omega (arith, div-add-mod word (2 ^ (place + 1)))

  low_here : bit_at low_part place ≡ 1
  low_here = sym (bit_at_cat_low high_part (place + 1) low_part place (omega arith)) ∙ (ap (λ n. bit_at n place) (sym parts) ∙ low.is_set)

  low_bits : (i : ℕ) → bit_at low_part i ≡ bit_at (2 ^ place) i
  low_bits i =
      elim (cases_lt i place) [
        | inl lt ↦
            let other : i ≢ place = omega arith in
            sym (bit_at_cat_low high_part (place + 1) low_part i (omega arith)) ∙ (ap (λ n. bit_at n i) (sym parts) ∙ (low.lower i lt ∙ sym (bit_at-pow_other place i other)))
        | inr le ↦ elim (cases_eq i place) [
          | inl e ↦ ap (bit_at low_part) e ∙ (low_here ∙ (sym (bit_at-pow_same place) ∙ ap (bit_at (2 ^ place)) (sym e)))
          | inr other ↦ bit_at_above low_part (place + 1) i low_lt (omega arith) ∙ sym (bit_at-pow_other place i other)
        ]
      ]

  low_is : low_part ≡ 2 ^ place
  low_is = same_from_bits low_part (2 ^ place) low_bits

  parts_less : word - 1 ≡ high_part * 2 ^ (place + 1) + (low_part - 1)
  parts_less = omega (arith, parts, low_is, pow_pos place)

  less_lt : low_part - 1 < 2 ^ (place + 1)
  less_lt = omega (arith, low_lt)

  less_here : bit_at (word - 1) place ≡ 0
  less_here =
      ap (λ n. bit_at n place) parts_less ∙ (bit_at_cat_low high_part (place + 1) (low_part - 1) place (omega arith)
      ∙ (ap (λ n. bit_at (n - 1) place) low_is ∙ bit_at_ones_above place place (omega arith)))

  less_high : (k : ℕ) → place < k → bit_at (word - 1) k ≡ bit_at word k
  less_high k later =
      ap (λ n. bit_at n k) parts_less ∙ (bit_at_cat_high high_part (place + 1) (low_part - 1) k less_lt (omega arith)
      ∙ (sym (bit_at_cat_high high_part (place + 1) low_part k low_lt (omega arith)) ∙ ap (λ n. bit_at n k) (sym parts)))

  pub some_bit : 1 ≤ word
  some_bit = omega (arith, parts, low_is, pow_pos place)

  pub lowest_cut : bit_at (bit_and word (word - 1)) place ≡ 0
  lowest_cut = omega (arith, bit_at_and word (word - 1) place, less_here)

  pub lowest_others : (k : ℕ) → k ≢ place → bit_at (bit_and word (word - 1)) k ≡ bit_at word k
  lowest_others k other =
      elim (cases_lt k place) [
        | inl lt ↦ omega (arith, bit_at_and word (word - 1) k, low.lower k lt)
        | inr le ↦ let later : place < k = omega arith in omega (arith, bit_at_and word (word - 1) k, less_high k later)
      ]

pub bit_is : (b : Bool) → (bit_if b == 1) ≡ b
bit_is true = refl
bit_is false = refl

module _ (words : List ℕ) (i word : ℕ) (b : Bool) (within : i / 64 < length words) (here : bit_at word (i % 64) ≡ bit_if b)
    (others : (k : ℕ) → k < 64 → k ≢ i % 64 → bit_at word k ≡ bit_at (slice_index words (i / 64)) k) where
  pub bit_written : is_bit (set words (i / 64) word) i ≡ b
  bit_written = rw (get_or-set_same words (i / 64) word 0 within, here) (bit_is b)

  pub bit_kept : (k : ℕ) → k ≢ i → is_bit (set words (i / 64) word) k ≡ is_bit words k
  bit_kept k other =
      elim (cases_eq (k / 64) (i / 64)) [
        | inl same ↦
            let apart : k % 64 ≢ i % 64 = omega arith in
            rw (same, get_or-set_same words (i / 64) word 0 within, others (k % 64) (omega arith) apart) refl
        | inr not ↦ rw (get_or-set_other words (i / 64) (k / 64) word 0 not) refl
      ]

pub flag_is : (words : List ℕ) (n k : ℕ) → AreBits words n → flag_of (flags_in words n) k ≡ is_bit words k
flag_is words n k bits =
    elim (cases_lt k n) [
      | inl lt ↦ get_or-map-range_with_len (is_bit words) 0 n k k false lt (omega arith)
      | inr le ↦ get_or_past (flags_in words n) k false (rw (length-map-range_with_len (is_bit words) 0 n) le) ∙ sym (bits.rest k le)
    ]

pub long_flags : (words : List ℕ) (n : ℕ) → length (flags_in words n) ≡ n
long_flags words n = length-map-range_with_len (is_bit words) 0 n

-- sets of as many flags are for as many agents
pub same_agents : (words others : List ℕ) (n m : ℕ) → length (flags_in words n) ≡ length (flags_in others m) → n ≡ m
same_agents words others n m e = sym (long_flags words n) ∙ (e ∙ long_flags others m)

-- ---- no bit

module _ (words : List ℕ) (m n : ℕ) (e : words ≡ replicate m 0) (long : m ≡ MAX_AGENTS / 64 + 1) (few : n ≤ MAX_AGENTS) where
  pub no_word : (i : ℕ) → slice_index words i ≡ 0
  no_word i =
      let nothing : ℕ = 0 in
      elim (cases_lt i m) [
        | inl lt ↦ ap (λ ws. get_or ws i nothing) e ∙ get_or-replicate m i nothing nothing lt
        | inr le ↦ get_or_past words i nothing (omega (arith, ap length e, length-replicate m nothing))
      ]

  no_bit : (i : ℕ) → is_bit words i ≡ false
  no_bit i = rw (no_word (i / 64), bit_at-zero (i % 64)) refl

  pub no_bits : AreBits words n
  no_bits = let nothing : ℕ = 0 in record { few = few; long = omega (arith, ap length e, length-replicate m nothing); rest = λ i le. no_bit i }

  pub no_flags : flags_in words n ≡ replicate n false
  no_flags =
      ext_get_or false (flags_in words n) (replicate n false) (long_flags words n ∙ sym (length-replicate n false))
      (λ i h.
      let lt : i < n = rw (long_flags words n) at h in
      get_or-map-range_with_len (is_bit words) 0 n i i false lt (omega arith) ∙ (no_bit i ∙ sym (get_or-replicate n i false false lt)))

-- ---- an agent's flag

module _ (words : List ℕ) (n i : ℕ) (bits : AreBits words n) (agent : i < n) where
  pub word_within : i / 64 < length words
  word_within = let long = bits.long in let few = bits.few in omega arith

  module _ (word : ℕ) (b : Bool) (here : bit_at word (i % 64) ≡ bit_if b)
      (others : (k : ℕ) → k < 64 → k ≢ i % 64 → bit_at word k ≡ bit_at (slice_index words (i / 64)) k) where
    pub bits_with : AreBits (set words (i / 64) word) n
    bits_with = record {
      few = bits.few;
      long = length-set words (i / 64) word ∙ bits.long;
      rest = λ k le. let other : k ≢ i = omega arith in bit_kept words i word b word_within here others k other ∙ bits.rest k le;
    }

    pub flags_with : flags_in (set words (i / 64) word) n ≡ set (flags_in words n) i b
    flags_with =
        ext_get_or false (flags_in (set words (i / 64) word) n) (set (flags_in words n) i b)
        (long_flags (set words (i / 64) word) n ∙ sym (length-set (flags_in words n) i b ∙ long_flags words n))
        (λ k h.
        let there : i < length (flags_in words n) = rw (long_flags words n) agent in
        flag_is (set words (i / 64) word) n k bits_with ∙ elim (cases_eq k i) [
          | inl same ↦ rw (same, bit_written words i word b word_within here others, get_or-set_same (flags_in words n) i b false there) refl
          | inr other ↦ rw (bit_kept words i word b word_within here others k other, get_or-set_other (flags_in words n) i k b false other) (sym (flag_is words n k bits))
        ])

  pub flag_read : (read : ℕ) → read ≡ slice_index words (i / 64) → (bit_and (read / 2 ^ (i % 64)) 1 == 1) ≡ flag_of (flags_in words n) i
  flag_read read e = rw (e, shr_and_one (slice_index words (i / 64)) (i % 64)) (sym (flag_is words n i bits))

-- ---- the lowest bit from one on

module _ (words : List ℕ) (n : ℕ) (bits : AreBits words n) (from : ℕ) where
  pub next_is : (i : ℕ) → from ≤ i → is_bit words i ≡ true → ((k : ℕ) → from ≤ k → k < i → is_bit words k ≡ false) → IsNextFrom (flags_in words n) from i
  next_is i later member between =
      let agent : i < n = elim (cases_lt i n) [ inl lt ↦ lt | inr le ↦ absurd (true≢false (sym member ∙ bits.rest i le)) ] in
      record {
        agent = rw (long_flags words n) agent;
        later = later;
        member = flag_is words n i bits ∙ member;
        between = λ k ge lt. flag_is words n k bits ∙ between k ge lt;
      }

  pub none_is : ((k : ℕ) → from ≤ k → is_bit words k ≡ false) → AreNoneFrom (flags_in words n) from
  none_is none k ge = flag_is words n k bits ∙ none k ge

  pub past_words : length words ≤ from / 64 → AreNoneFrom (flags_in words n) from
  past_words le = none_is (λ k ge. bits.rest k (let long = bits.long in let few = bits.few in omega arith))

  -- in the first word
  module _ (word : ℕ) (read : word ≡ slice_index words (from / 64)) where
    first_bit : (k : ℕ) → from ≤ k → k / 64 ≡ from / 64 → is_bit words k ≡ (bit_at (word / 2 ^ (from % 64)) (k - from) == 1)
    first_bit k ge same =
        let place : from % 64 + (k - from) ≡ k % 64 = omega arith in
        rw (bit_shifted word (from % 64) (k - from), place, read, same) refl

    pub first_found : (place : ℕ) → word < 2 ^ 64 → IsLowest (word / 2 ^ (from % 64)) place → IsNextFrom (flags_in words n) from (from + place)
    first_found place fits low =
        let at : bit_at word (from % 64 + place) ≡ 1 = sym (bit_shifted word (from % 64) place) ∙ low.is_set in
        let within : from % 64 + place < 64 = elim (cases_lt (from % 64 + place) 64) [ inl lt ↦ lt | inr le ↦ absurd (omega (arith, at, bit_at_above word 64 (from % 64 + place) fits le)) ] in
        let back : from + place - from ≡ place = omega arith in
        next_is (from + place) (omega arith) (rw (first_bit (from + place) (omega arith) (omega arith), back, low.is_set) refl)
        (λ k ge lt. rw (first_bit k ge (omega arith), low.lower (k - from) (omega arith)) refl)

    pub first_none : word / 2 ^ (from % 64) ≡ 0 → (k : ℕ) → from ≤ k → k < 64 * (from / 64 + 1) → is_bit words k ≡ false
    first_none none k ge lt = rw (first_bit k ge (omega arith), none, bit_at-zero (k - from)) refl

  -- in the words after it
  module _ (at : ℕ) (later : from ≤ 64 * at) (clear : (k : ℕ) → from ≤ k → k < 64 * at → is_bit words k ≡ false) where
    pub later_found : (place : ℕ) → IsLowest (slice_index words at) place → IsNextFrom (flags_in words n) from (64 * at + place)
    later_found place low =
        let within = low.within in
        let word : (64 * at + place) / 64 ≡ at = omega arith in
        let bit : (64 * at + place) % 64 ≡ place = omega arith in
        next_is (64 * at + place) (omega arith) (rw (word, bit, low.is_set) refl)
        (λ k ge lt.
        elim (cases_lt k (64 * at)) [
          | inl below ↦ clear k ge below
          | inr above ↦
              let here : k / 64 ≡ at = omega arith in
              rw (here, low.lower (k % 64) (omega arith)) refl
        ])
