-- Words that are cleared and copied by their marks.
use Rattle.std.proofs.Common.{◌≡◌, ◌≢◌, ◌<◌, ◌≤◌, ◌/◌, ◌%◌, ◌==◌, ℕ, zero, suc, max, List, length, set, replicate, slice_index, refl, ap, sym, ◌∙◌, inl, inr, arith, length-set}
use Rattle.std.specs.Int.{bit_at}
use Rattle.std.specs.Prelude.{bit_or, ◌||◌}
use Rattle.std.specs.Int.Bits.{or_zero_r}
use Rattle.std.proofs.lemmas.Nat.Bits.{bit_at-zero, bit_at-lt, bit_at_or, same_from_bits}
use Rattle.std.proofs.lemmas.Bool.{cases_eq, cases_lt}
use Rattle.std.proofs.lemmas.List.{ext_get_or, get_or_past, get_or-replicate, get_or-set_same, get_or-set_other, length-replicate}
use Rattle.fleet_machine.specs.Machine.{flag_of}
use Rattle.fleet_machine.specs.AgentSet.{is_bit, flags_in, AreMarks, AreBitsMarked, IsLowest}
use Rattle.fleet_machine.proofs.Bits.{flag_is}
use Rattle.fleet_machine.proofs.Marked.{mark_written}

-- a marked word stands among the words
pub marked_within : (words : List ℕ) (marks at : ℕ) → AreMarks words marks → IsLowest marks at → at < length words
marked_within words marks at marked low =
    let nothing : ℕ = 0 in
    elim (cases_lt at (length words)) [
      | inl lt ↦ lt
      | inr le ↦ absurd (omega (arith, low.is_set, (marked at low.within).1 (get_or_past words at nothing le)))
    ]

-- the word written over by 0 is marked no more
pub one_cleared : (words : List ℕ) (marks at new : ℕ) → AreMarks words marks → IsLowest marks at → bit_at new at ≡ 0
    → ((k : ℕ) → k < 64 → k ≢ at → bit_at new k ≡ bit_at marks k) → AreMarks (set words at 0) new
one_cleared words marks at new marked low here others =
    mark_written words marks at 0 new marked (marked_within words marks at marked low) (λ _. refl, λ _. here) others

-- where no word is marked all are 0
pub all_cleared : (words : List ℕ) (n : ℕ) → length words ≡ n → n ≤ 64 → AreMarks words 0 → words ≡ replicate n 0
all_cleared words n long few marked =
    let nothing : ℕ = 0 in
    ext_get_or nothing words (replicate n nothing) (long ∙ sym (length-replicate n nothing))
    (λ k lt. (marked k (omega (arith, long))).0 (bit_at-zero k) ∙ sym (get_or-replicate n k nothing nothing (omega (arith, long))))

-- the words that are not marked are those of the others, and the marked ones stand among these
pub record AreCopied (others words : List ℕ) (marks : ℕ) : Type 0 where
  pub long : length words ≡ length others
  pub same : (k : ℕ) → k < 64 → bit_at marks k ≡ 0 → slice_index words k ≡ slice_index others k
  pub there : (k : ℕ) → k < 64 → bit_at marks k ≡ 1 → k < length others

pub none_copied : (others words : List ℕ) (marks : ℕ) → AreMarks others marks → words ≡ replicate (length others) 0 → AreCopied others words marks
none_copied others words marks marked e =
    let nothing : ℕ = 0 in
    record {
      long = rw e (length-replicate (length others) nothing);
      same = λ k within none. elim (cases_lt k (length others)) [
        | inl lt ↦ rw e (get_or-replicate (length others) k nothing nothing lt) ∙ sym ((marked k within).0 none)
        | inr le ↦ get_or_past words k nothing (rw (e, length-replicate (length others) nothing) le) ∙ sym (get_or_past others k nothing le)
      ];
      there = λ k within set. elim (cases_lt k (length others)) [
        | inl lt ↦ lt
        | inr le ↦ absurd (omega (arith, set, (marked k within).1 (get_or_past others k nothing le)))
      ];
    }

pub one_copied : (others words : List ℕ) (marks at new : ℕ) → AreCopied others words marks → IsLowest marks at → bit_at new at ≡ 0
    → ((k : ℕ) → k < 64 → k ≢ at → bit_at new k ≡ bit_at marks k) → AreCopied others (set words at (slice_index others at)) new
one_copied others words marks at new before low here kept =
    let nothing : ℕ = 0 in
    let within : at < length words = omega (arith, before.long, before.there at low.within low.is_set) in
    record {
      long = length-set words at (slice_index others at) ∙ before.long;
      same = λ k lt none. elim (cases_eq k at) [
        | inl e ↦ rw e (get_or-set_same words at (slice_index others at) nothing within)
        | inr other ↦ get_or-set_other words at k (slice_index others at) nothing other ∙ before.same k lt (sym (kept k lt other) ∙ none)
      ];
      there = λ k lt set. elim (cases_eq k at) [
        | inl e ↦ omega (arith, e, within, before.long)
        | inr other ↦ before.there k lt (sym (kept k lt other) ∙ set)
      ];
    }

pub all_copied : (others words : List ℕ) → length others ≤ 64 → AreCopied others words 0 → words ≡ others
all_copied others words few h =
    let nothing : ℕ = 0 in
    ext_get_or nothing words others h.long (λ k lt. h.same k (omega (arith, h.long)) (bit_at-zero k))

-- the words that are marked no more have the bits of both, the marked ones are as before, and stand among the others
pub record AreAdded (old others words : List ℕ) (marks : ℕ) : Type 0 where
  pub long : length words ≡ length old
  pub few : length others ≤ 64
  pub same_length : length old ≡ length others
  pub done : (k : ℕ) → k < 64 → bit_at marks k ≡ 0 → slice_index words k ≡ bit_or (slice_index old k) (slice_index others k)
  pub rest : (k : ℕ) → k < 64 → bit_at marks k ≡ 1 → slice_index words k ≡ slice_index old k
  pub there : (k : ℕ) → k < 64 → bit_at marks k ≡ 1 → k < length others

pub none_added : (old others : List ℕ) (marks : ℕ) → length others ≤ 64 → length old ≡ length others → AreMarks others marks → AreAdded old others old marks
none_added old others marks few long marked =
    let nothing : ℕ = 0 in
    record {
      long = refl;
      few = few;
      same_length = long;
      done = λ k within none. rw ((marked k within).0 none, or_zero_r (slice_index old k)) refl;
      rest = λ k within set. refl;
      there = λ k within set. elim (cases_lt k (length others)) [
        | inl lt ↦ lt
        | inr le ↦ absurd (omega (arith, set, (marked k within).1 (get_or_past others k nothing le)))
      ];
    }

pub one_added : (old others words : List ℕ) (marks at new : ℕ) → AreAdded old others words marks → IsLowest marks at → bit_at new at ≡ 0
    → ((k : ℕ) → k < 64 → k ≢ at → bit_at new k ≡ bit_at marks k) → AreAdded old others (set words at (bit_or (slice_index words at) (slice_index others at))) new
one_added old others words marks at new before low here kept =
    let nothing : ℕ = 0 in
    let word : ℕ = bit_or (slice_index words at) (slice_index others at) in
    let within : at < length words = omega (arith, before.long, before.same_length, before.there at low.within low.is_set) in
    record {
      long = length-set words at word ∙ before.long;
      few = before.few;
      same_length = before.same_length;
      done = λ k lt none. elim (cases_eq k at) [
        | inl e ↦ rw (e, get_or-set_same words at word nothing within, before.rest at low.within low.is_set) refl
        | inr other ↦ get_or-set_other words at k word nothing other ∙ before.done k lt (sym (kept k lt other) ∙ none)
      ];
      rest = λ k lt set. elim (cases_eq k at) [
        | inl e ↦ absurd (omega (arith, set, here, ap (bit_at new) e))
        | inr other ↦ get_or-set_other words at k word nothing other ∙ before.rest k lt (sym (kept k lt other) ∙ set)
      ];
      there = λ k lt set. elim (cases_eq k at) [
        | inl e ↦ omega (arith, e, within, before.long, before.same_length)
        | inr other ↦ before.there k lt (sym (kept k lt other) ∙ set)
      ];
    }

pub all_added : (old others words : List ℕ) → AreAdded old others words 0 → (k : ℕ) → slice_index words k ≡ bit_or (slice_index old k) (slice_index others k)
all_added old others words h k =
    let nothing : ℕ = 0 in
    elim (cases_lt k 64) [
      | inl lt ↦ h.done k lt (bit_at-zero k)
      | inr le ↦
          let few = h.few in let long = h.long in let same = h.same_length in
          get_or_past words k nothing (omega arith)
          ∙ sym (rw (get_or_past old k nothing (omega arith), get_or_past others k nothing (omega arith)) refl)
    ]

-- ---- two sets as one

-- a number whose bits are those of two is 0 exactly if both are
pub none_of_both : (a b : ℕ) → bit_or a b ≡ 0 → (a ≡ 0) × (b ≡ 0)
none_of_both a b none =
    let both : (i : ℕ) → max (bit_at a i) (bit_at b i) ≡ 0 = λ i. sym (bit_at_or a b i) ∙ (ap (λ n. bit_at n i) none ∙ bit_at-zero i) in (
      same_from_bits a 0 (λ i. let h = both i in let e : bit_at a i ≡ 0 = omega (arith, h) in e ∙ sym (bit_at-zero i)),
      same_from_bits b 0 (λ i. let h = both i in let e : bit_at b i ≡ 0 = omega (arith, h) in e ∙ sym (bit_at-zero i)),
    )

module _ (old others words : List ℕ) (marks marks' n : ℕ) (was : AreBitsMarked old marks n) (is : AreBitsMarked others marks' n) (long : length words ≡ length old)
    (added : (k : ℕ) → slice_index words k ≡ bit_or (slice_index old k) (slice_index others k)) where
  bit_added : (i : ℕ) → is_bit words i ≡ (is_bit old i || is_bit others i)
  bit_added i =
      ap (λ w. bit_at w (i % 64) == 1) (added (i / 64))
      ∙ (ap (λ b. b == 1) (bit_at_or (slice_index old (i / 64)) (slice_index others (i / 64)) (i % 64))
      ∙ one_of_two (bit_at (slice_index old (i / 64)) (i % 64)) (bit_at (slice_index others (i / 64)) (i % 64))
      (bit_at-lt (slice_index old (i / 64)) (i % 64)) (bit_at-lt (slice_index others (i / 64)) (i % 64)))
    where
      one_of_two : (a b : ℕ) → a < 2 → b < 2 → (max a b == 1) ≡ ((a == 1) || (b == 1))
      one_of_two zero zero _ _ = refl
      one_of_two zero (suc zero) _ _ = refl
      one_of_two (suc zero) zero _ _ = refl
      one_of_two (suc zero) (suc zero) _ _ = refl
      one_of_two (suc (suc a)) b h _ = absurd (omega arith)
      one_of_two a (suc (suc b)) _ h = absurd (omega arith)

  pub bits_added : AreBitsMarked words (bit_or marks marks') n
  bits_added = record {
    bits = record {
      few = was.bits.few;
      long = long ∙ was.bits.long;
      rest = λ i le. rw (bit_added i, was.bits.rest i le, is.bits.rest i le) refl;
    };
    marked = λ k lt. (
      λ none.
          let both : max (bit_at marks k) (bit_at marks' k) ≡ 0 = sym (bit_at_or marks marks' k) ∙ none in
          let a : bit_at marks k ≡ 0 = omega (arith, both) in
          let b : bit_at marks' k ≡ 0 = omega (arith, both) in
          added k ∙ rw ((was.marked k lt).0 a, (is.marked k lt).0 b) refl,
      λ none.
          let both = none_of_both (slice_index old k) (slice_index others k) (sym (added k) ∙ none) in
          bit_at_or marks marks' k ∙ rw ((was.marked k lt).1 both.0, (is.marked k lt).1 both.1) refl,
    );
  }

  pub flags_added : (i : ℕ) → flag_of (flags_in words n) i ≡ (flag_of (flags_in old n) i || flag_of (flags_in others n) i)
  flags_added i = flag_is words n i bits_added.bits ∙ (bit_added i ∙ sym (rw (flag_is old n i was.bits, flag_is others n i is.bits) refl))
