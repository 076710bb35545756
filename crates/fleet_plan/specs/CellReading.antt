-- Reading a cell byte by byte: each step gives what it found in front of a text, and what follows it.
use Rattle.std.specs.Prelude.{◌==◌, Bool, false, not, [], ◌∷◌, Option, Some, None, option_map, option_and_then, if◌then◌else◌}
use Rattle.fleet_model.specs.declared.geometry.Cell.{Cell}
use Rattle.fleet_text.specs.Text.{Bytes, is_blank, small_number_front}

-- what follows a comma in front
abbrev pub after_comma : Bytes → Option Bytes
after_comma [] = None
after_comma (b ∷ text) = if b == 44 then Some text else None

-- the text from the first byte on that is no blank
unfoldable pub after_blanks : Bytes → Bytes
after_blanks [] = []
after_blanks (b ∷ text) = if is_blank b then after_blanks text else b ∷ text

-- the text from the next word on, unless a word goes on in front
abbrev pub after_word : Bytes → Option Bytes
after_word [] = Some []
after_word (b ∷ text) = if is_blank b then Some (after_blanks text) else None

-- the cell that the word in front spells, and the text from the next word on
unfoldable pub cell_front : Bytes → Option (Cell × Bytes)
cell_front text =
    option_and_then (λ column.
    option_and_then (λ after.
    option_and_then (λ row.
    option_map (λ rest. (record { x = column.0; y = row.0 }, rest))
    (after_word row.1)) (small_number_front after)) (after_comma column.1)) (small_number_front text)

-- some byte stands in front, and it is no blank
abbrev pub begins_with_word : Bytes → Bool
begins_with_word [] = false
begins_with_word (b ∷ text) = not (is_blank b)
