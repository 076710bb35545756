-- Which ground a map text stands for, and which fault is the first of a text that stands for none.
use Rattle.std.specs.Prelude.{◌≡◌, ◌≢◌, ℕ, zero, suc, ◌+◌, ◌<◌, ◌≤◌, Bool, ◌||◌, ◌==◌, not, List, [], ◌∷◌, map, take, drop, length, get_or, position, Some, All, codes}
use Rattle.std.specs.List.{AllPass}
use Rattle.fleet_grid.specs.declared.fault.MapFault.{MapFault}
use Rattle.fleet_grid.specs.declared.fault.MapFault.TheVariants.{OutOfMemory, Header, Size, RowCount, RowLength, Glyph, Trailing}
use Rattle.fleet_text.specs.Text.{Bytes, is_blank, lines, words_from_front, number}
use Rattle.fleet_grid.specs.Ground.{Ground, IsSide}

-- ---- the parts of a map text

-- a line by its number, counted from 0. A missing one counts as empty, which no line of a header or a row may be
abbrev pub line_at : List Bytes → ℕ → Bytes
line_at ls k = get_or ls k []

-- `.`, `G` or `S`: the glyph of a passable cell
abbrev pub is_ground_glyph : ℕ → Bool
is_ground_glyph b = (b == 46) || (b == 71) || (b == 83)

-- `@`, `O`, `T` or `W`: the glyph of a cell that is not passable
abbrev pub is_blocked_glyph : ℕ → Bool
is_blocked_glyph b = (b == 64) || (b == 79) || (b == 84) || (b == 87)

-- one of these; nothing else is a glyph
abbrev pub is_glyph : ℕ → Bool
is_glyph b = is_ground_glyph b || is_blocked_glyph b

-- none of these
abbrev pub is_no_glyph : ℕ → Bool
is_no_glyph b = not (is_glyph b)

-- which of the cells with these glyphs are passable
abbrev pub cells_of : Bytes → List Bool
cells_of glyphs = map is_ground_glyph glyphs

-- a space, a tab or a CR
abbrev pub is_row_space : ℕ → Bool
is_row_space b = is_blank b || (b == 13)

-- `type` and any word
abbrev pub IsKindLine : Bytes → Type 0
IsKindLine line = (word : Bytes) × (words_from_front line ≡ codes "type" ∷ word ∷ [])

-- a keyword and a number
abbrev pub IsNumberLine : Bytes → Bytes → ℕ → Type 0
IsNumberLine keyword line n = (digits : Bytes) × (words_from_front line ≡ keyword ∷ digits ∷ []) × (number digits ≡ Some n)

-- `map` alone
abbrev pub IsMapLine : Bytes → Type 0
IsMapLine line = words_from_front line ≡ codes "map" ∷ []

-- the first four lines say this width and this height
pub record IsHeader (ls : List Bytes) (w h : ℕ) : Type 0 where
  pub kind : IsKindLine (line_at ls 0)
  pub height : IsNumberLine (codes "height") (line_at ls 1) h
  pub width : IsNumberLine (codes "width") (line_at ls 2) w
  pub map : IsMapLine (line_at ls 3)

-- .. and these sizes are those of a map
pub record IsSizedHeader (ls : List Bytes) (w h : ℕ) : Type 0 where
  pub header : IsHeader ls w h
  pub width : IsSide w
  pub height : IsSide h

-- as many glyphs as the map is wide, and nothing else
pub record IsGlyphRow (w : ℕ) (line : Bytes) : Type 0 where
  pub width : length line ≡ w
  pub glyphs : AllPass is_glyph line

-- so many lines are there, and each is a row
pub record AreMapRows (w n : ℕ) (ls : List Bytes) : Type 0 where
  pub count : n ≤ length ls
  pub rows : All (IsGlyphRow w) (take n ls)

-- these lines are empty but for spaces, tabs and CRs
abbrev pub AreEmpty : List Bytes → Type 0
AreEmpty ls = All (AllPass is_row_space) ls

-- ---- a map text

-- a header, then a row of glyphs for each row of the ground, and then only lines that are empty but for spaces, tabs
-- and CRs
pub record AreMapLines (ls : List Bytes) (g : Ground) : Type 0 where
  pub header : IsSizedHeader ls g.width g.height
  pub rows : AreMapRows g.width g.height (drop 4 ls)
  pub cells : g.rows ≡ map cells_of (take g.height (drop 4 ls))
  pub rest : AreEmpty (drop (4 + g.height) ls)

-- the text stands for the ground
abbrev pub IsMapText : Bytes → Ground → Type 0
IsMapText text g = AreMapLines (lines text) g

-- ---- the first fault

-- the form of each of the first four lines, counted from 0
abbrev pub HasForm : List Bytes → ℕ → Type 0
HasForm ls zero = IsKindLine (line_at ls 0)
HasForm ls (suc zero) = (h : ℕ) × IsNumberLine (codes "height") (line_at ls 1) h
HasForm ls (suc (suc zero)) = (w : ℕ) × IsNumberLine (codes "width") (line_at ls 2) w
HasForm ls (suc (suc (suc k))) = IsMapLine (line_at ls 3)

-- line k of the header, counted from 0, is the first without its form
pub record IsFirstWithoutForm (ls : List Bytes) (k : ℕ) : Type 0 where
  pub within : k < 4
  pub before : (i : ℕ) → i < k → HasForm ls i
  pub wrong : HasForm ls k → ⊥

-- all that is judged before this row is right, and the map is to have the row
pub record IsMapRightUpTo (row : ℕ) (ls : List Bytes) (w h : ℕ) : Type 0 where
  pub header : IsSizedHeader ls w h
  pub rows : AreMapRows w row (drop 4 ls)
  pub within : row < h

-- the fault is there, and all that is judged before it is right. The header's lines count from 1, rows and columns from
-- 0
abbrev pub IsFirstMapLineFault : List Bytes → MapFault → Type 0
IsFirstMapLineFault ls OutOfMemory = ⊥
IsFirstMapLineFault ls (Header line) = (k : ℕ) × (line ≡ k + 1) × IsFirstWithoutForm ls k
IsFirstMapLineFault ls Size = (w h : ℕ) × IsHeader ls w h × (IsSide w × IsSide h → ⊥)
IsFirstMapLineFault ls RowCount = (w h row : ℕ) × IsMapRightUpTo row ls w h × (length ls ≡ 4 + row)
IsFirstMapLineFault ls (RowLength row) = (w h : ℕ) × IsMapRightUpTo row ls w h × (4 + row < length ls) × (length (line_at ls (4 + row)) ≢ w)
IsFirstMapLineFault ls (Glyph row column) =
    (w h : ℕ) × IsMapRightUpTo row ls w h × (4 + row < length ls) × (length (line_at ls (4 + row)) ≡ w) × (position is_no_glyph (line_at ls (4 + row)) ≡ Some column)
IsFirstMapLineFault ls Trailing = (w h : ℕ) × IsSizedHeader ls w h × AreMapRows w h (drop 4 ls) × (AreEmpty (drop (4 + h) ls) → ⊥)

-- the same of a text
abbrev pub IsFirstMapFault : Bytes → MapFault → Type 0
IsFirstMapFault text fault = IsFirstMapLineFault (lines text) fault
