-- A row of glyphs, kept block by block.
use Rattle.std.proofs.Common.{◌≡◌, ℕ, zero, suc, ◌+◌, ◌-◌, ◌*◌, ◌<◌, Bool, true, false, ◌&&◌, cond, List, ◌∷◌, ◌++◌, length, take, replicate, refl, sym, ap, ◌∙◌, append_assoc, arith}
use Rattle.std.specs.Prelude.{count_by}
use Rattle.std.proofs.Math.Bool.{and_assoc, and-true}
use Rattle.std.proofs.Math.Seq.{take-append-add}
use Rattle.std.proofs.lemmas.List.{length-append, length-map, take_all, take-replicate, map-append}
use Rattle.std.proofs.lemmas.List.Sums.{sum_by-append, sum_by-cons}
use Rattle.std.specs.List.{list_all}
use Rattle.std.proofs.lemmas.List.Folds.{list_all-append}
use Rattle.fleet_grid.specs.MapText.{is_ground_glyph, is_glyph, cells_of}
use Rattle.fleet_grid.specs.Stored.{byte_count, with_padding}

-- a block of 64 cells fills its bytes
with_padding-append : (xs ys : List Bool) → length xs ≡ 64 → with_padding (xs ++ ys) ≡ xs ++ with_padding ys
unfolding with_padding
with_padding-append xs ys size =
    let more : 8 * byte_count (length (xs ++ ys)) - length (xs ++ ys) ≡ 8 * byte_count (length ys) - length ys = omega (arith, length-append xs ys) in
    rw more (append_assoc xs ys (replicate (8 * byte_count (length ys) - length ys) false))

-- the first cells of a block, up to the end of their last byte, if blocked cells follow them
padded_is : (cells : List Bool) (n : ℕ) → length cells + n ≡ 64 → take (8 * byte_count (length cells)) (cells ++ replicate n false) ≡ with_padding cells
unfolding with_padding
padded_is cells n size =
    let rest = 8 * byte_count (length cells) - length cells in
    let parts : 8 * byte_count (length cells) ≡ length cells + rest = omega arith in
    ap (λ k. take k (cells ++ replicate n false)) parts ∙ take-append-add cells (replicate n false) rest ∙ ap (λ bs. cells ++ bs) (take-replicate rest n false (omega arith))

cells_of-blocked : (n : ℕ) → cells_of (replicate n 64) ≡ replicate n false
cells_of-blocked zero = refl
cells_of-blocked (suc n) = ap (λ bs. false ∷ bs) (cells_of-blocked n)

count-append : (xs ys : List ℕ) → count_by is_ground_glyph (xs ++ ys) ≡ count_by is_ground_glyph xs + count_by is_ground_glyph ys
count-append xs ys = sum_by-append (λ (b : ℕ). cond (is_ground_glyph b) 1 0) xs ys

count-blocked : (n : ℕ) → count_by is_ground_glyph (replicate n 64) ≡ 0
count-blocked zero = refl
count-blocked (suc n) = sum_by-cons (λ (b : ℕ). cond (is_ground_glyph b) 1 0) 64 (replicate n 64) ∙ ap (λ k. 0 + k) (count-blocked n)

all-append : (xs ys : List ℕ) → list_all is_glyph (xs ++ ys) ≡ (list_all is_glyph xs && list_all is_glyph ys)
all-append xs ys = list_all-append is_glyph xs ys

all-blocked : (n : ℕ) → list_all is_glyph (replicate n 64) ≡ true
all-blocked zero = refl
all-blocked (suc n) = all-blocked n

-- ---- the loop over blocks, where the rest is a block and what comes after it

module _ (rest block after : List ℕ) (whole : rest ≡ block ++ after) (size : length block ≡ 64) where
  pub row_goes_on : (was now total : List Bool) → was ++ with_padding (cells_of rest) ≡ total → now ≡ was ++ take (8 * byte_count 64) (cells_of block) → now ++ with_padding (cells_of after) ≡ total
  row_goes_on was now total so_far put =
      let length_is : length (cells_of block) ≡ 64 = length-map block is_ground_glyph ∙ size in
      let all : take (8 * byte_count 64) (cells_of block) ≡ cells_of block = take_all 64 (cells_of block) (omega arith) in
      let parts : with_padding (cells_of rest) ≡ cells_of block ++ with_padding (cells_of after) = ap (λ bs. with_padding (cells_of bs)) whole ∙ ap with_padding (map-append is_ground_glyph block after) ∙ with_padding-append (cells_of block) (cells_of after) length_is in
      ap (λ cells. cells ++ with_padding (cells_of after)) (put ∙ ap (λ cells. was ++ cells) all) ∙ append_assoc was (cells_of block) (with_padding (cells_of after)) ∙ ap (λ cells. was ++ cells) (sym parts) ∙ so_far

  pub count_goes_on : (m n all : ℕ) → m + count_by is_ground_glyph rest ≡ all → n ≡ m + count_by is_ground_glyph block → n + count_by is_ground_glyph after ≡ all
  count_goes_on m n all so_far put = omega (arith, ap (count_by is_ground_glyph) whole ∙ count-append block after)

  pub glyphs_go_on : (was now all : Bool) → (was && list_all is_glyph rest) ≡ all → now ≡ (was && list_all is_glyph block) → (now && list_all is_glyph after) ≡ all
  glyphs_go_on was now all so_far judged =
      ap (λ b. b && list_all is_glyph after) judged ∙ and_assoc was (list_all is_glyph block) (list_all is_glyph after)
      ∙ ap (λ b. was && b) (sym (all-append block after) ∙ ap (list_all is_glyph) (sym whole)) ∙ so_far

-- ---- its last block, which is filled up with blocked cells

module _ (rest block : List ℕ) (few : length rest < 64) (filled : block ≡ rest ++ replicate (64 - length rest) 64) where
  pub row_ends : (was now total : List Bool) → was ++ with_padding (cells_of rest) ≡ total → now ≡ was ++ take (8 * byte_count (length rest)) (cells_of block) → now ≡ total
  row_ends was now total so_far put =
      let length_is : length (cells_of rest) ≡ length rest = length-map rest is_ground_glyph in
      let cells : cells_of block ≡ cells_of rest ++ replicate (64 - length rest) false = ap cells_of filled ∙ map-append is_ground_glyph rest (replicate (64 - length rest) 64) ∙ ap (λ bs. cells_of rest ++ bs) (cells_of-blocked (64 - length rest)) in
      let last : take (8 * byte_count (length rest)) (cells_of block) ≡ with_padding (cells_of rest) =
      ap (take (8 * byte_count (length rest))) cells ∙ ap (λ n. take (8 * byte_count n) (cells_of rest ++ replicate (64 - length rest) false)) (sym length_is) ∙ padded_is (cells_of rest) (64 - length rest) (omega (arith, length_is)) in
      put ∙ ap (λ bs. was ++ bs) last ∙ so_far

  pub count_ends : (m n all : ℕ) → m + count_by is_ground_glyph rest ≡ all → n ≡ m + count_by is_ground_glyph block → n ≡ all
  count_ends m n all so_far put = omega (arith, ap (count_by is_ground_glyph) filled ∙ count-append rest (replicate (64 - length rest) 64), count-blocked (64 - length rest))

  pub glyphs_end : (was now all : Bool) → (was && list_all is_glyph rest) ≡ all → now ≡ (was && list_all is_glyph block) → now ≡ all
  glyphs_end was now all so_far judged =
      let same : list_all is_glyph block ≡ list_all is_glyph rest = ap (list_all is_glyph) filled ∙ all-append rest (replicate (64 - length rest) 64) ∙ rw (all-blocked (64 - length rest)) (and-true (list_all is_glyph rest)) in
      judged ∙ ap (λ b. was && b) same ∙ so_far
