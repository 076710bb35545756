-- Eight counts at once that are compared: a mask tells which of them are less.
use Rattle.fleet_needs.proofs.Words.{rules, ◌≡◌, ℕ, zero, suc, ◌+◌, ◌%◌, ◌<◌, ◌≤◌, Bool, true, false, cond, ltb, List, [], ◌∷◌, length, get_or, map, refl, sym, ap, ◌∙◌, arith, IsTrue, nat_eq, inl, inr, ltb-true, ltb-false, cases_lt, get_or_past}
use Rattle.fleet_needs.proofs.Lanes.{less, less_at, less_long, tops}
use Rattle.std.specs.Simd.Lanes.{zip2, mask_l, top, chunk}
use Rattle.std.proofs.lemmas.Simd.{mask_l-mod}

-- the lane from one place on in two rows
module _ (row other : List ℕ) (from : ℕ) (same : length other ≡ length row) (room : from + 8 ≤ length row) where
  abbrev lane : List Bool
  lane = less row other from same room

  pub masked : mask_l (map (top 31) (zip2 (λ a b. cond (ltb a b) 4294967295 0) (chunk from 8 row) (chunk from 8 other))) % 18446744073709551616 ≡ mask_l lane
  masked = ap (λ ms. mask_l ms % 18446744073709551616) (tops row other from same room) ∙ mask_l-mod lane 64 (omega (arith, less_long row other from same room))

  pub none_less : mask_l lane ≡ 0 → (k : ℕ) → k < 8 → get_or other (from + k) 0 ≤ get_or row (from + k) 0
  none_less e k l = ltb-false (get_or row (from + k) 0) (get_or other (from + k) 0) (sym (less_at row other from same room k l) ∙ no_bit lane e k)
    where
      no_bit : (ms : List Bool) → mask_l ms ≡ 0 → (i : ℕ) → get_or ms i false ≡ false
      no_bit [] e i = refl
      no_bit (true ∷ ms) e i = absurd (omega arith)
      no_bit (false ∷ ms) e zero = refl
      no_bit (false ∷ ms) e (suc i) = no_bit ms (omega arith) i

  pub all_at_least : ((k : ℕ) → k < 8 → get_or other (from + k) 0 ≤ get_or row (from + k) 0) → mask_l lane ≡ 0
  all_at_least h = no_bits lane (λ k. elim (cases_lt k 8) [
    | inl l ↦ less_at row other from same room k l ∙ not_less (get_or row (from + k) 0) (get_or other (from + k) 0) (h k l)
    | inr g ↦ get_or_past lane k false (omega (arith, less_long row other from same room))
  ])
    where
      not_less : (a b : ℕ) → b ≤ a → ltb a b ≡ false
      not_less a b h = go (ltb a b) refl
        where
          go : (r : Bool) → ltb a b ≡ r → ltb a b ≡ false
          go true e = absurd (let l : a < b = ltb-true a b e in omega arith)
          go false e = e

      no_bits : (ms : List Bool) → ((k : ℕ) → get_or ms k false ≡ false) → mask_l ms ≡ 0
      no_bits [] h = refl
      no_bits (true ∷ ms) h = absurd (let e : true ≡ false = h 0 in cc)
      no_bits (false ∷ ms) h = let e : mask_l ms ≡ 0 = no_bits ms (λ k. h (suc k)) in omega arith

pub eq_zero : (n : ℕ) → IsTrue (nat_eq n 0) → n ≡ 0
eq_zero n h = search rules

pub zero_eq : (n : ℕ) → n ≡ 0 → IsTrue (nat_eq n 0)
zero_eq n e = search rules
