-- Glyphs that are looked up by their low four bits.
use Rattle.std.proofs.Common.{◌≡◌, ℕ, ◌+◌, ◌*◌, ◌/◌, ◌<◌, Bool, true, not, eqb, List, [], ◌∷◌, ◌++◌, map, length, get_or, replicate, bit_and, Fits, w8, refl, sym, ap, ◌∙◌, inl, inr, arith}
use Rattle.std.specs.List.{list_all, range_with_len}
use Rattle.std.proofs.lemmas.Bool.{agree_below, agree_below_at, cases_Bool, eqb-true, eqb-false, ne_eqb}
use Rattle.std.proofs.lemmas.List.{ext_get_or, get_or-map, get_or_append_left, length-map, map-id}
use Rattle.std.proofs.lemmas.Nat.{and_le_r}
use Rattle.std.proofs.lemmas.Simd.{Each1-all, Each1-zip2, Each2-splat, SwzOk, SwzOk-from_below, get_or-swz_l_below, length-swz_l, length-zip2, swz_l, zip2_of_maps, zip2_splat}
use Rattle.std.specs.Simd.Lanes.{mask_l, pick_l, zip2, Each1}

abbrev pub IsBlock : List ℕ → Type 0
IsBlock v = (length v ≡ 64) × Each1 (Fits w8) v

-- the place of a byte among 16
abbrev low : ℕ → ℕ
low b = bit_and b 15

small : (b : ℕ) → low b < 16
small b = omega (arith, and_le_r b 15)

-- the places are those of the 16 bytes of which each is in a table of 64
pub places_fit : (v : List ℕ) → IsBlock v → SwzOk w8 16 64 0 (zip2 bit_and v (replicate 64 15))
places_fit v fits =
    SwzOk-from_below w8 16 4 64 0 (zip2 bit_and v (replicate 64 15)) refl (omega (arith, length-zip2 bit_and v (replicate 64 15) fits.0))
    (Each1-zip2 bit_and (λ j. j < 16) v (replicate 64 15) (Each2-splat (λ a b. bit_and a b < 16) v 64 15 (Each1-all (λ b. low b < 16) small v)))

-- a test of each number below n
abbrev all_below : (ℕ → Bool) → ℕ → Bool
all_below p n = agree_below p (λ _. true) n

-- the numbers below 16, four times over
abbrev pub copies : List ℕ
copies = range_with_len 0 16 ++ range_with_len 0 16 ++ range_with_len 0 16 ++ range_with_len 0 16

abbrev are_copies : List ℕ → Bool
are_copies ks = all_below (λ i. all_below (λ j. eqb (get_or ks (16 * ((0 + i) / 16) + j) 99) j) 16) 64

-- a table of 16 bytes, copied four times
copied : (t : List ℕ) → length t ≡ 16 → (i j : ℕ) → i < 64 → j < 16 → get_or (pick_l 0 (t ++ t) copies) (16 * ((0 + i) / 16) + j) 0 ≡ get_or t j 0
copied t long i j lt below =
    let all : are_copies copies ≡ true = refl in
    let row = agree_below_at (λ a. all_below (λ b. eqb (get_or copies (16 * ((0 + a) / 16) + b) 99) b) 16) (λ _. true) 64 i all lt in
    let one : get_or copies (16 * ((0 + i) / 16) + j) 99 ≡ j = eqb-true _ _ (agree_below_at (λ b. eqb (get_or copies (16 * ((0 + i) / 16) + b) 99) b) (λ _. true) 16 j row below) in
    let within : 16 * ((0 + i) / 16) + j < length copies = omega arith in
    get_or-map (λ k. get_or (t ++ t) k 0) copies (16 * ((0 + i) / 16) + j) 99 0 within ∙ ap (λ k. get_or (t ++ t) k 0) one ∙ get_or_append_left t t 0 j (omega (arith, long))

pub looked_up_is : (t v : List ℕ) → IsBlock v → length t ≡ 16 → swz_l w8 16 (pick_l 0 (t ++ t) copies) 0 (zip2 bit_and v (replicate 64 15)) ≡ map (λ b. get_or t (low b) 0) v
looked_up_is t v fits long =
    let tables = pick_l 0 (t ++ t) copies in
    let js = zip2 bit_and v (replicate 64 15) in
    let e : js ≡ map low v = zip2_splat bit_and v 64 15 fits.0 in
    let count : length js ≡ 64 = ap length e ∙ length-map v low ∙ fits.0 in
    ext_get_or 0 _ _ (length-swz_l w8 16 tables 0 js ∙ count ∙ sym (length-map v (λ b. get_or t (low b) 0) ∙ fits.0)) (λ i h.
    let lt : i < 64 = omega (arith, h, length-swz_l w8 16 tables 0 js, count) in
    let within : i < length v = omega (arith, fits.0) in
    let is : get_or js i 0 ≡ low (get_or v i 0) = ap (λ l. get_or l i 0) e ∙ get_or-map low v i 0 0 within in
    let below : get_or js i 0 < 16 = omega (arith, small (get_or v i 0), is) in
    get_or-swz_l_below w8 16 tables 0 js i (omega (arith, count)) below ∙ copied t long i (get_or js i 0) lt below
    ∙ ap (λ k. get_or t k 0) is ∙ sym (get_or-map (λ b. get_or t (low b) 0) v i 0 0 within))

-- which lanes are as they were looked up
pub compared : (g : ℕ → ℕ → ℕ) (f : ℕ → ℕ) (v l : List ℕ) → l ≡ map f v → zip2 g l v ≡ map (λ b. g (f b) b) v
compared g f v l is = zip2_of_maps g f (λ b. b) v is (sym (map-id v))

-- ---- no bit for another byte

twice : (m : ℕ) → eqb (0 + 2 * m) 0 ≡ eqb m 0
twice m = elim (cases_Bool (eqb m 0)) [
  | inl t ↦ rw (eqb-true m 0 t) refl
  | inr f ↦ ne_eqb (0 + 2 * m) 0 (λ e. eqb-false m 0 f (omega arith)) ∙ sym f
]

pub none_other : (p : ℕ → Bool) (xs : List ℕ) → eqb (mask_l (map (λ x. not (p x)) xs)) 0 ≡ list_all p xs
none_other p [] = refl
none_other p (x ∷ xs) = elim (cases_Bool (p x)) [
  | inl t ↦ rw t (twice (mask_l (map (λ y. not (p y)) xs)) ∙ none_other p xs)
  | inr f ↦ rw f (ne_eqb (1 + 2 * mask_l (map (λ y. not (p y)) xs)) 0 (λ e. absurd (omega arith)))
]
