-- The fields of an agent's line that are read.
use Rattle.std.specs.Prelude.{ℕ, Bool, true, false, List, [], ◌∷◌, Option, Some, None, option_map, if◌then◌else◌}
use Rattle.fleet_text.specs.Text.{Bytes, is_blank, small_number}
use Rattle.fleet_scen.specs.declared.reading.Fields.{Fields}

-- the first two words, and those after them
abbrev pub two_words : List Bytes → Option (Bytes × Bytes × List Bytes)
two_words [] = None
two_words (first ∷ []) = None
two_words (first ∷ second ∷ others) = Some (first, second, others)

-- a line without one blank in front
abbrev pub past_blank : Bytes → Bytes
past_blank [] = []
past_blank (b ∷ line) = if is_blank b then line else b ∷ line

-- a word ends before these bytes
abbrev pub ends_word : Bytes → Bool
ends_word [] = true
ends_word (b ∷ rest) = is_blank b

-- the number that the first word spells, and the words after it
abbrev pub next_number : List Bytes → Option (Option ℕ × List Bytes)
next_number [] = None
next_number (first ∷ others) = Some (small_number first, others)

-- the numbers that the first two words spell, and the words after them
abbrev pub two_numbers : List Bytes → Option (Option ℕ × Option ℕ × List Bytes)
two_numbers ws = option_map (λ x. (small_number x.0, small_number x.1, x.2)) (two_words ws)

-- one word, and no other
abbrev pub is_one_word : List Bytes → Bool
is_one_word [] = false
is_one_word (word ∷ []) = true
is_one_word (word ∷ other ∷ others) = false

-- of bucket, map name, width, height, start, goal and length, which are nine words, the six from width to goal are kept
unfoldable pub fields_of : List Bytes → Option Fields
fields_of (bucket ∷ name ∷ width ∷ height ∷ start_x ∷ start_y ∷ goal_x ∷ goal_y ∷ distance ∷ []) = Some (record {
  width = small_number width;
  height = small_number height;
  start_x = small_number start_x;
  start_y = small_number start_y;
  goal_x = small_number goal_x;
  goal_y = small_number goal_y;
})
fields_of words = None
