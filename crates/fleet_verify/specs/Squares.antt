-- Squares of cells, and the visits that they keep.
use Rattle.std.specs.Prelude.{◌≡◌, ◌≢◌, ℕ, ◌+◌, ◌-◌, ◌*◌, ◌/◌, ◌%◌, ◌^◌, ◌<◌, min, bit_and, bit_xor, nat_eq, List, length, get_or, slice_get, Option, Some, None, option_map, if◌then◌else◌}
use Rattle.std.specs.Int.{div_ceil}
use Rattle.indexmap.specs.IndexMap.{IndexMap, get}
use Rattle.fleet_model.specs.declared.geometry.Cell.{Cell}
use Rattle.fleet_model.specs.declared.limits.TheConstants.{MAX_AGENTS, MAX_COORDINATE}
use Rattle.fleet_model.specs.declared.program.Visit.{Visit}
use Rattle.fleet_model.specs.Program.{IsCell}
use Rattle.fleet_verify.specs.declared.last_visits.TheConstants.{SIDE, CELLS, HINTS_ACROSS, MOST_ROOM, NO_VISIT}

-- for how many squares there is room at first: for all of a map of these sizes, unless so many visits are likely to be
-- in fewer, and for no more than the most
abbrev pub room_for : (width height visits : ℕ) → ℕ
room_for width height visits = min (min (div_ceil width SIDE * div_ceil height SIDE) (visits / SIDE)) MOST_ROOM

-- the number of the square that the cell is in, which no other square has: that of its first cell
abbrev pub square_of : Cell → ℕ
square_of c = c.y / SIDE * SIDE * (MAX_COORDINATE + 1) + c.x / SIDE * SIDE

-- the cell's place in its square, which no other cell of the square has
abbrev pub place_in_square : Cell → ℕ
place_in_square c = (c.y * SIDE + c.x) % CELLS

-- the place of the hint for the square with this number, among so many
abbrev pub place_of_hint : (number hints : ℕ) → ℕ
place_of_hint number hints =
    let row = number / (MAX_COORDINATE + 1) / SIDE in
    bit_and (bit_xor (row * HINTS_ACROSS + number / SIDE % HINTS_ACROSS) (row / 8 * 16)) (hints - 1)

-- the hint for the square with this number says where it stands among the squares, if four bytes can
abbrev pub IsNoted : (hints : List ℕ) → (number slot : ℕ) → Type 0
IsNoted hints number slot = slot < 2 ^ 32 → slice_get hints (place_of_hint number (length hints)) ≡ Some slot

-- the visit that is kept as this number, if any is
abbrev pub visit_kept : ℕ → Option Visit
visit_kept n = if nat_eq n NO_VISIT then None else Some (record { agent = n % MAX_AGENTS; position = n / MAX_AGENTS })

-- the visit that the square, if there is one, keeps at this place
abbrev pub visit_in : Option (List ℕ) → ℕ → Option Visit
visit_in None k = None
visit_in (Some square) k = visit_kept (get_or square k NO_VISIT)

-- the number is written at this place of the square
pub record IsWritten (old new : List ℕ) (place n : ℕ) : Type 0 where
  pub here : get_or new place NO_VISIT ≡ n
  pub others : (k : ℕ) → k ≢ place → get_or new k NO_VISIT ≡ get_or old k NO_VISIT

-- the visit is kept as the last one of the cell, after the one that was kept before, if any
pub record IsKeptAfter (old new : Cell → Option Visit) (c : Cell) (v : Visit) (first : Option Visit) : Type 0 where
  pub before : first ≡ old c
  pub here : new c ≡ Some v
  pub others : (d : Cell) → IsCell d → d ≢ c → new d ≡ old d

module _ {S : Type 0} where
  -- the visit that the squares keep for the cell
  abbrev pub last_in : IndexMap ℕ (List ℕ) S → Cell → Option Visit
  last_in squares c = visit_in (get nat_eq squares (square_of c)) (place_in_square c)

  -- the square with this number stands at this place among the squares
  abbrev pub IsSquareAt : IndexMap ℕ (List ℕ) S → ℕ → ℕ → Type 0
  IsSquareAt squares number slot = option_map (λ e. e.0) (slice_get squares.entries slot) ≡ Some number
