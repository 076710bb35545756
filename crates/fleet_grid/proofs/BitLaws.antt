-- Cells in the bits of bytes.
use Rattle.std.proofs.Common.{◌≡◌, ℕ, zero, suc, ◌+◌, ◌*◌, ◌/◌, ◌%◌, ◌^◌, ◌≤◌, Bool, true, false, eqb, List, [], ◌∷◌, ◌++◌, length, take, drop, w64, refl, sym, ap, ◌∙◌, append_assoc, arith}
use Rattle.std.proofs.Math.Nat.{div-div-eq-div-mul}
use Rattle.std.proofs.lemmas.Nat.{field_of, mod-pow-add, mod-mul-add}
use Rattle.std.proofs.lemmas.List.{length-append, length-take-le, take_at, take-append-drop}
use Rattle.std.specs.Int.{byte_at, bytes_low_first, to_le_bytes}
use Rattle.std.specs.Simd.Lanes.{mask_l}
use Rattle.fleet_grid.specs.Stored.{bits_of, stored_cells}

-- ---- the bits of a number

pub length-bits_of : (k n : ℕ) → length (bits_of k n) ≡ k
unfolding bits_of
length-bits_of zero n = refl
length-bits_of (suc k) n = ap suc (length-bits_of k (n / 2))

-- the bits of a mask are its lanes
pub bits_of-mask_l : (ms : List Bool) → bits_of (length ms) (mask_l ms) ≡ ms
unfolding bits_of
bits_of-mask_l [] = refl
bits_of-mask_l (true ∷ ms) =
    let lowest : (1 + 2 * mask_l ms) % 2 ≡ 1 = omega arith in
    let others : (1 + 2 * mask_l ms) / 2 ≡ mask_l ms = omega arith in
    rw (lowest, others) (ap (λ bs. true ∷ bs) (bits_of-mask_l ms))
bits_of-mask_l (false ∷ ms) =
    let lowest : (0 + 2 * mask_l ms) % 2 ≡ 0 = omega arith in
    let others : (0 + 2 * mask_l ms) / 2 ≡ mask_l ms = omega arith in
    rw (lowest, others) (ap (λ bs. false ∷ bs) (bits_of-mask_l ms))

lowest_bit : (j n : ℕ) → n % 2 ^ (j + 1) % 2 ≡ n % 2
lowest_bit j n = ap (λ m. m % 2) (mod-pow-add n j 1) ∙ mod-mul-add (n / 2 % 2 ^ j) 2 (n % 2) (omega arith)

-- the low j bits, and those above them
bits_of-split : (j k n : ℕ) → bits_of (j + k) n ≡ bits_of j (n % 2 ^ j) ++ bits_of k (n / 2 ^ j)
unfolding bits_of
bits_of-split zero k n =
    let same : 0 + k ≡ k = omega arith in
    let whole : n / 1 ≡ n = omega arith in
    rw (same, whole) refl
bits_of-split (suc j) k n =
    let next : suc j + k ≡ suc (j + k) = omega arith in
    let one : suc j ≡ j + 1 = omega arith in
    let low : n % 2 ^ suc j % 2 ≡ n % 2 = ap (λ i. n % 2 ^ i % 2) one ∙ lowest_bit j n in
    let middle : n % 2 ^ suc j / 2 ≡ n / 2 % 2 ^ j = ap (λ i. n % 2 ^ i / 2) one ∙ field_of n j 1 in
    let high : n / 2 / 2 ^ j ≡ n / 2 ^ suc j = div-div-eq-div-mul n 2 (2 ^ j) ∙ ap (λ m. n / m) (omega arith) in
    rw (next, low, middle, ← high) (ap (λ bs. eqb (n % 2) 1 ∷ bs) (bits_of-split j k (n / 2)))

-- ---- the cells of bytes

pub length-cells_in : (bytes : List ℕ) → length (stored_cells bytes) ≡ 8 * length bytes
unfolding stored_cells
length-cells_in [] = refl
length-cells_in (b ∷ bytes) = omega (arith, length-append (bits_of 8 b) (stored_cells bytes), length-bits_of 8 b, length-cells_in bytes)

pub cells_in-append : (xs ys : List ℕ) → stored_cells (xs ++ ys) ≡ stored_cells xs ++ stored_cells ys
unfolding stored_cells
cells_in-append [] ys = refl
cells_in-append (b ∷ xs) ys = ap (λ cells. bits_of 8 b ++ cells) (cells_in-append xs ys) ∙ sym (append_assoc (bits_of 8 b) (stored_cells xs) (stored_cells ys))

byte_at_is : (i n : ℕ) → byte_at i n ≡ n / 256 ^ i % 256
byte_at_is zero n = ap (λ m. m % 256) (omega arith)
byte_at_is (suc i) n = refl

cells_in-low_first : (k i n : ℕ) → stored_cells (bytes_low_first i k n) ≡ bits_of (8 * k) (n / 256 ^ i)
unfolding stored_cells bits_of
cells_in-low_first zero i n = refl
cells_in-low_first (suc k) i n =
    let more : 8 * suc k ≡ 8 + 8 * k = omega arith in
    let next : n / 256 ^ i / 256 ≡ n / 256 ^ suc i = div-div-eq-div-mul n (256 ^ i) 256 ∙ ap (λ m. n / m) (omega arith) in
    rw (more, byte_at_is i n) (ap (λ cells. bits_of 8 (n / 256 ^ i % 256) ++ cells) (cells_in-low_first k (suc i) n ∙ ap (bits_of (8 * k)) (sym next)) ∙ sym (bits_of-split 8 (8 * k) (n / 256 ^ i)))

-- the bytes of a mask of 64 lanes keep the lanes
pub cells_in-mask_l : (ms : List Bool) → length ms ≡ 64 → stored_cells (to_le_bytes w64 (mask_l ms)) ≡ ms
cells_in-mask_l ms size =
    let whole : mask_l ms / 1 ≡ mask_l ms = omega arith in
    cells_in-low_first 8 0 (mask_l ms) ∙ rw whole (ap (λ k. bits_of k (mask_l ms)) (sym size) ∙ bits_of-mask_l ms)

-- the first so many bytes
pub cells_in-take : (k : ℕ) (bytes : List ℕ) → k ≤ length bytes → stored_cells (take k bytes) ≡ take (8 * k) (stored_cells bytes)
cells_in-take k bytes within =
    let front = stored_cells (take k bytes) in
    let size : length front ≡ 8 * k = omega (arith, length-cells_in (take k bytes), length-take-le k bytes within) in
    sym (take_at front (stored_cells (drop k bytes)) (8 * k) size) ∙ ap (take (8 * k)) (sym (cells_in-append (take k bytes) (drop k bytes)) ∙ ap stored_cells (take-append-drop k bytes))

-- the first k bytes of the mask m of 64 lanes, put after those that are there
pub cells_in-put : (old new bytes : List ℕ) (ms : List Bool) (m j k : ℕ) → length ms ≡ 64 → m ≡ mask_l ms → bytes ≡ to_le_bytes w64 m → j ≡ k → k ≤ 8 → new ≡ old ++ take j bytes
    → stored_cells new ≡ stored_cells old ++ take (8 * k) ms
cells_in-put old new bytes ms m j k size is spelled same few e =
    let put : new ≡ old ++ take k (to_le_bytes w64 (mask_l ms)) = e ∙ rw (same, spelled, is) refl in
    ap stored_cells put ∙ cells_in-append old (take k (to_le_bytes w64 (mask_l ms)))
    ∙ ap (λ cells. stored_cells old ++ cells) (cells_in-take k (to_le_bytes w64 (mask_l ms)) few ∙ ap (take (8 * k)) (cells_in-mask_l ms size))
