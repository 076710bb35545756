-- The ground that bytes keep: its rows, its cells and how many of them are passable.
use Rattle.std.proofs.Common.{◌≡◌, ℕ, zero, suc, ◌+◌, ◌-◌, ◌*◌, ◌/◌, ◌%◌, ◌^◌, ◌≤◌, ◌<◌, Bool, false, eqb, List, [], ◌∷◌, ◌++◌, length, get_or, take, drop, refl, sym, ap, ◌∙◌, arith, inl, inr, ℤ, pos, negsuc}
use Rattle.std.specs.Prelude.{◌⊎◌}
use Rattle.std.specs.List.{AllByRecursion}
use Rattle.std.proofs.Math.Nat.{div-div-eq-div-mul}
use Rattle.std.proofs.lemmas.Bool.{cases_lt}
use Rattle.std.proofs.lemmas.List.{length-append, length-take-le, length-drop, get_or-take, get_or-drop, get_or_past, get_or_append_left, get_or-append_right, drop-drop, take_at, take-append-le, drop-append-le, nil_from_length}
use Rattle.std.proofs.lemmas.List.Elements.{All-from_recursion, All-get_or}
use Rattle.fleet_model.specs.declared.geometry.Place.{Place}
use Rattle.fleet_grid.specs.Ground.{Ground, is_ground_at, passable_at, is_passable, IsNoNumber, IsNoCell, IsSide, IsGround}
use Rattle.fleet_grid.specs.Stored.{bits_of, stored_cells, byte_count, rows_of, ground_of, IsStored}
use Rattle.fleet_grid.proofs.BitLaws.{length-bits_of, length-cells_in}

abbrev Row : Type 0
Row = List Bool

-- ---- one bit

bit_is : (k j n : ℕ) → j < k → get_or (bits_of k n) j false ≡ eqb (n / 2 ^ j % 2) 1
unfolding bits_of
bit_is zero j n few = absurd (omega arith)
bit_is (suc k) zero n few = ap (λ m. eqb (m % 2) 1) (omega arith)
bit_is (suc k) (suc j) n few =
    let halved : n / 2 / 2 ^ j ≡ n / 2 ^ suc j = div-div-eq-div-mul n 2 (2 ^ j) ∙ ap (λ m. n / m) (omega arith) in
    bit_is k j (n / 2) (omega arith) ∙ ap (λ m. eqb (m % 2) 1) halved

-- the cell that bit j of byte i keeps
pub kept_cell : (bytes : List ℕ) (i j : ℕ) → i < length bytes → j < 8 → get_or (stored_cells bytes) (8 * i + j) false ≡ eqb (get_or bytes i 0 / 2 ^ j % 2) 1
unfolding stored_cells
kept_cell [] i j here few = absurd (omega arith)
kept_cell (b ∷ bytes) zero j here few =
    let place : 8 * 0 + j ≡ j = omega arith in
    rw place (get_or_append_left (bits_of 8 b) (stored_cells bytes) false j (omega (arith, length-bits_of 8 b)) ∙ bit_is 8 j b few)
kept_cell (b ∷ bytes) (suc i) j here few =
    let place : 8 * suc i + j - 8 ≡ 8 * i + j = omega arith in
    get_or-append_right (bits_of 8 b) (stored_cells bytes) 8 (8 * suc i + j) false (length-bits_of 8 b) (omega arith) ∙ ap (λ k. get_or (stored_cells bytes) k false) place ∙ kept_cell bytes i j (omega arith) few

-- ---- rows of w cells, each of which begins p cells after the one before

pub length-rows_of : (w p h : ℕ) (cells : Row) → length (rows_of w p h cells) ≡ h
unfolding rows_of
length-rows_of w p zero cells = refl
length-rows_of w p (suc h) cells = ap suc (length-rows_of w p h (drop p cells))

widths : (w p h : ℕ) (cells : Row) → w ≤ p → length cells ≡ p * h → AllByRecursion (λ row. length row ≡ w) (rows_of w p h cells)
unfolding rows_of
widths w p zero cells few size = tt
widths w p (suc h) cells few size = (length-take-le w cells (omega arith), widths w p h (drop p cells) few (omega (arith, length-drop p cells)))

row_is : (w p h y : ℕ) (cells : Row) → y < h → get_or (rows_of w p h cells) y [] ≡ take w (drop (y * p) cells)
unfolding rows_of
row_is w p zero y cells lt = absurd (omega arith)
row_is w p (suc h) zero cells lt = (let e : 0 ≡ 0 * p = omega arith in ap (λ (n : ℕ). take w (drop n cells)) e)
row_is w p (suc h) (suc y) cells lt =
    let e : p + y * p ≡ suc y * p = omega arith in
    row_is w p h y (drop p cells) (omega arith) ∙ ap (take w) (drop-drop (y * p) p cells ∙ ap (λ (n : ℕ). drop n cells) e)

cell_is : (w p h x y : ℕ) (cells : Row) → x < w → y < h → get_or (get_or (rows_of w p h cells) y []) x false ≡ get_or cells (y * p + x) false
cell_is w p h x y cells in_row in_rows = rw (row_is w p h y cells in_rows, get_or-take w (drop (y * p) cells) x false in_row) (get_or-drop (y * p) cells x false)

-- one row more at the end
pub rows_of-push : (w p k : ℕ) (cells row pad : Row) → length cells ≡ p * k → length row ≡ w → length (row ++ pad) ≡ p → rows_of w p (k + 1) (cells ++ (row ++ pad)) ≡ rows_of w p k cells ++ row ∷ []
unfolding rows_of
rows_of-push w p zero cells row pad size width whole =
    let none : cells ≡ [] = nil_from_length cells (omega arith) in
    rw none (ap (λ (r : Row). r ∷ []) (take_at row pad w width))
rows_of-push w p (suc k) cells row pad size width whole =
    let long : p ≤ length cells = omega arith in
    let more : length row + length pad ≡ p = sym (length-append row pad) ∙ whole in
    let next : suc k + 1 ≡ suc (k + 1) = omega arith in
    let rest = rows_of-push w p k (drop p cells) row pad (omega (arith, length-drop p cells)) width whole in
    let first : take w (cells ++ (row ++ pad)) ≡ take w cells = take-append-le w cells (row ++ pad) (omega arith) in
    let later : drop p (cells ++ (row ++ pad)) ≡ drop p cells ++ (row ++ pad) = drop-append-le p cells (row ++ pad) long in
    rw (next, first, later) (ap (λ (rs : List Row). take w cells ∷ rs) rest)

-- ---- the stored ground

rows_fit : (b y h : ℕ) → y < h → y * b + b ≤ b * h
rows_fit b y h below = grind arith

bit_place : (b y x : ℕ) → y * (8 * b) + x ≡ 8 * (y * b + x / 8) + x % 8
bit_place b y x = omega arith

module _ (w h n : ℕ) (bytes : List ℕ) (s : IsStored w h n bytes) where
  size : length (stored_cells bytes) ≡ 8 * byte_count w * h
  size = length-cells_in bytes ∙ ap (λ k. 8 * k) s.size ∙ omega arith

  pub is_ground_of : IsSide w → IsSide h → IsGround (ground_of w h bytes)
  is_ground_of side_w side_h = record {
    width = side_w;
    height = side_h;
    rows = length-rows_of w (8 * byte_count w) h (stored_cells bytes);
    cells = All-from_recursion (λ row. length row ≡ w) (rows_of w (8 * byte_count w) h (stored_cells bytes)) (widths w (8 * byte_count w) h (stored_cells bytes) (omega arith) size);
  }

  -- where a cell's byte is
  pub byte_within : (x y : ℕ) → x < w → y < h → y * byte_count w + x / 8 < length bytes
  byte_within x y in_row in_rows =
      let column : x / 8 < byte_count w = omega arith in
      let row : y * byte_count w + byte_count w ≤ byte_count w * h = rows_fit (byte_count w) y h in_rows in
      omega (arith, s.size)

  pub stored_cell : (x y : ℕ) → x < w → y < h → is_ground_at (ground_of w h bytes) x y ≡ eqb (get_or bytes (y * byte_count w + x / 8) 0 / 2 ^ (x % 8) % 2) 1
  stored_cell x y in_row in_rows =
      let place : y * (8 * byte_count w) + x ≡ 8 * (y * byte_count w + x / 8) + x % 8 = bit_place (byte_count w) y x in
      cell_is w (8 * byte_count w) h x y (stored_cells bytes) in_row in_rows ∙ ap (λ k. get_or (stored_cells bytes) k false) place ∙ kept_cell bytes (y * byte_count w + x / 8) (x % 8) (byte_within x y in_row in_rows) (omega arith)

-- ---- off the map

past_rows : (g : Ground) (x y : ℕ) → length g.rows ≤ y → is_ground_at g x y ≡ false
past_rows g x y le = let none : get_or g.rows y [] ≡ [] = get_or_past g.rows y [] le in rw none refl

past_row : (g : Ground) (x y : ℕ) → IsGround g → g.width ≤ x → is_ground_at g x y ≡ false
past_row g x y s le =
    elim (cases_lt y (length g.rows)) [
      | inl lt ↦ get_or_past (get_or g.rows y []) x false (omega (arith, All-get_or (λ row. length row ≡ g.width) g.rows y [] lt s.cells))
      | inr past ↦ past_rows g x y past
    ]

-- off the map nothing is passable
pub off_map : (g : Ground) (x y : ℕ) → IsGround g → (g.width ≤ x) ⊎ (g.height ≤ y) → is_ground_at g x y ≡ false
off_map g x y s (inl right) = past_row g x y s right
off_map g x y s (inr below) = past_rows g x y (omega (arith, s.rows))

no_numbers : (g : Ground) → IsGround g → (x y : ℤ) → IsNoNumber x ⊎ IsNoNumber y → passable_at g x y ≡ false
no_numbers g s (pos x) (pos y) (inl big) = past_row g x y s (omega (arith, s.width.few))
no_numbers g s (pos x) (pos y) (inr big) = past_rows g x y (omega (arith, s.rows, s.height.few))
no_numbers g s (pos x) (negsuc y) past = refl
no_numbers g s (negsuc x) y past = refl

-- what is no cell is not passable
pub no_cell : (g : Ground) (p : Place) → IsGround g → IsNoCell p → is_passable g p ≡ false
no_cell g p s past = no_numbers g s p.x p.y past
