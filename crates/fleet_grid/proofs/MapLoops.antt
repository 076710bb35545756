-- Reading a map's rows one after the other, as the loop does.
use Rattle.std.proofs.Common.{◌≡◌, ◌≢◌, ℕ, suc, ◌+◌, ◌-◌, ◌*◌, ◌≤◌, ◌<◌, Bool, List, [], ◌∷◌, ◌++◌, length, replicate, false, cond, Result, Ok, Err, refl, sym, ap, ◌∙◌, append_assoc, arith}
use Rattle.std.specs.Prelude.{sum_by, count_by}
use Rattle.std.proofs.lemmas.List.{append-nil, length-append, length-map, length-replicate}
use Rattle.std.proofs.lemmas.List.Sums.{sum_by-append, sum_by-cons}
use Rattle.fleet_grid.specs.declared.fault.MapFault.{MapFault}
use Rattle.fleet_grid.specs.declared.fault.MapFault.TheVariants.{OutOfMemory, RowCount}
use Rattle.fleet_text.specs.Text.{Bytes}
use Rattle.fleet_grid.specs.Ground.{passable_cells}
use Rattle.fleet_grid.specs.MapText.{is_ground_glyph, cells_of}
use Rattle.fleet_grid.specs.Stored.{stored_cells, byte_count, with_padding, rows_of, ground_of}
use Rattle.fleet_text.specs.Steps.{◌>>=◌}
use Rattle.fleet_grid.specs.MapReading.{row_at, rows_at}
use Rattle.fleet_grid.proofs.BitLaws.{length-cells_in}
use Rattle.fleet_grid.proofs.StoredLaws.{rows_of-push}

-- what is read, with these rows in front
abbrev pub after_rows : List (List Bool) → Result (List (List Bool) × List Bytes) MapFault → Result (List (List Bool) × List Bytes) MapFault
after_rows rows read = read >>= λ more. Ok (rows ++ more.0, more.1)

after_rows-push : (rows : List (List Bool)) (first : List Bool) (read : Result (List (List Bool) × List Bytes) MapFault) → after_rows rows (read >>= λ others. Ok (first ∷ others.0, others.1)) ≡ after_rows (rows ++ first ∷ []) read
after_rows-push rows first (Ok x) = ap (λ (rs : List (List Bool)). Ok (rs, x.1)) (sym (append_assoc rows (first ∷ []) x.0))
after_rows-push rows first (Err e) = refl

-- ---- the rows of the lines, of which k are read

module _ (w h k : ℕ) (rows : List (List Bool)) (ls : List Bytes) (total : Result (List (List Bool) × List Bytes) MapFault) (so_far : after_rows rows (rows_at (h - k) w k ls) ≡ total) where
  pub row_missing : k < h → ls ≡ [] → total ≡ Err RowCount
  unfolding rows_at
  row_missing lt e =
      let left : h - k ≡ suc (h - (k + 1)) = omega arith in
      sym so_far ∙ rw (left, e) refl

  reads_row : (line : Bytes) (after : List Bytes) → k < h → ls ≡ line ∷ after
      → rows_at (h - k) w k ls ≡ (row_at w k line >>= λ first. rows_at (h - (k + 1)) w (k + 1) after >>= λ others. Ok (first ∷ others.0, others.1))
  unfolding rows_at
  reads_row line after lt e =
      let left : h - k ≡ suc (h - (k + 1)) = omega arith in
      rw (left, e) refl

  pub row_fails : (e : MapFault) (line : Bytes) (after : List Bytes) → k < h → ls ≡ line ∷ after → (e ≢ OutOfMemory → row_at w k line ≡ Err e) → e ≢ OutOfMemory → total ≡ Err e
  row_fails e line after lt is_next fails =
      λ other. sym so_far ∙ ap (after_rows rows) (reads_row line after lt is_next ∙ ap (λ (r : Result (List Bool) MapFault). r >>= λ first. rows_at (h - (k + 1)) w (k + 1) after >>= λ others. Ok (first ∷ others.0, others.1)) (fails other))

  pub row_next : (line : Bytes) (after : List Bytes) (first : List Bool) → k < h → ls ≡ line ∷ after → row_at w k line ≡ Ok first → after_rows (rows ++ first ∷ []) (rows_at (h - (k + 1)) w (k + 1) after) ≡ total
  row_next line after first lt is_next read =
      let one : rows_at (h - k) w k ls ≡ (rows_at (h - (k + 1)) w (k + 1) after >>= λ others. Ok (first ∷ others.0, others.1)) = reads_row line after lt is_next ∙ ap (λ (r : Result (List Bool) MapFault). r >>= λ row. rows_at (h - (k + 1)) w (k + 1) after >>= λ others. Ok (row ∷ others.0, others.1)) read in
      sym (ap (after_rows rows) one ∙ after_rows-push rows first (rows_at (h - (k + 1)) w (k + 1) after)) ∙ so_far

  pub rows_done : h ≤ k → total ≡ Ok (rows, ls)
  unfolding rows_at
  rows_done le =
      let left : h - k ≡ 0 = omega arith in
      sym so_far ∙ rw left (ap (λ (rs : List (List Bool)). Ok (rs, ls)) (append-nil rows))

-- ---- before the first row

after_none : (read : Result (List (List Bool) × List Bytes) MapFault) → after_rows [] read ≡ read
after_none (Ok x) = refl
after_none (Err e) = refl

pub no_rows : (w h : ℕ) (bytes : List ℕ) (ls : List Bytes) → after_rows (ground_of w 0 bytes).rows (rows_at (h - 0) w 0 ls) ≡ rows_at h w 0 ls
unfolding rows_of
no_rows w h bytes ls =
    let all : h - 0 ≡ h = omega arith in
    rw all (after_none (rows_at h w 0 ls))

pub no_cells : (w : ℕ) (bytes : List ℕ) → passable_cells (ground_of w 0 bytes) ≡ 0
unfolding rows_of
no_cells w bytes = refl

-- ---- a row that was put after those that are kept

abbrev stored_rows : ℕ → ℕ → List ℕ → List (List Bool)
stored_rows w k bytes = (ground_of w k bytes).rows

count-cells_of : (line : Bytes) → count_by (λ cell. cell) (cells_of line) ≡ count_by is_ground_glyph line
count-cells_of [] = refl
count-cells_of (b ∷ line) =
    sum_by-cons (λ (cell : Bool). cond cell 1 0) (is_ground_glyph b) (cells_of line) ∙ ap (λ n. cond (is_ground_glyph b) 1 0 + n) (count-cells_of line) ∙ sym (sum_by-cons (λ (g : ℕ). cond (is_ground_glyph g) 1 0) b line)

module _ (w k : ℕ) (old new : List ℕ) (line : Bytes) (size : length old ≡ byte_count w * k) (width : length line ≡ w) (put : stored_cells new ≡ stored_cells old ++ with_padding (cells_of line)) where
  length-cells : length (cells_of line) ≡ w
  length-cells = length-map line is_ground_glyph ∙ width

  length-with_padding : length (with_padding (cells_of line)) ≡ 8 * byte_count w
  unfolding with_padding
  length-with_padding = omega (arith, length-append (cells_of line) (replicate (8 * byte_count (length (cells_of line)) - length (cells_of line)) false), length-replicate (8 * byte_count (length (cells_of line)) - length (cells_of line)) false, length-cells)

  pub size_put : length new ≡ byte_count w * (k + 1)
  size_put =
      let bits : 8 * length new ≡ 8 * length old + 8 * byte_count w = sym (length-cells_in new) ∙ ap length put ∙ length-append (stored_cells old) (with_padding (cells_of line)) ∙ omega (arith, length-cells_in old, length-with_padding) in
      omega (arith, bits, size)

  pub rows_put : stored_rows w (k + 1) new ≡ stored_rows w k old ++ cells_of line ∷ []
  unfolding with_padding
  rows_put =
      let pad = replicate (8 * byte_count (length (cells_of line)) - length (cells_of line)) false in
      let long : length (stored_cells old) ≡ 8 * byte_count w * k = length-cells_in old ∙ ap (λ n. 8 * n) size ∙ omega arith in
      ap (rows_of w (8 * byte_count w) (k + 1)) put ∙ rows_of-push w (8 * byte_count w) k (stored_cells old) (cells_of line) pad long length-cells length-with_padding

  pub count_put : (m n : ℕ) → m ≡ passable_cells (ground_of w k old) → n ≡ m + count_by is_ground_glyph line → n ≡ passable_cells (ground_of w (k + 1) new)
  count_put m n was added =
      let all : passable_cells (ground_of w (k + 1) new) ≡ passable_cells (ground_of w k old) + sum_by (λ (row : List Bool). count_by (λ cell. cell) row) (cells_of line ∷ []) =
      ap (sum_by (λ (row : List Bool). count_by (λ cell. cell) row)) rows_put ∙ sum_by-append (λ (row : List Bool). count_by (λ cell. cell) row) (stored_rows w k old) (cells_of line ∷ []) in
      let one : sum_by (λ (row : List Bool). count_by (λ cell. cell) row) (cells_of line ∷ []) ≡ count_by (λ cell. cell) (cells_of line) = sum_by-cons (λ (row : List Bool). count_by (λ cell. cell) row) (cells_of line) [] ∙ omega arith in
      let cells : count_by (λ cell. cell) (cells_of line) ≡ count_by is_ground_glyph line = count-cells_of line in
      added ∙ omega (arith, was, all, one, cells)
