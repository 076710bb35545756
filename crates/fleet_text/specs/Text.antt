-- Lines, words and numbers of a text, which is a list of bytes.
use Rattle.std.specs.Prelude.{ℕ, ◌+◌, ◌-◌, ◌*◌, Bool, true, false, not, ◌||◌, ◌==◌, List, [], ◌∷◌, map, filter, Option, Some, None, if◌then◌else◌, nat_lt, min, option_and_then}
use Rattle.std.specs.List.{slice_split, onto_first}
use Rattle.std.specs.Int.{is_in_range}
use Rattle.std.specs.Str.Lines.{strip_carriage_return}
use Rattle.fleet_text.specs.declared.numbers.TheConstants.{TOO_LARGE}

-- a text, or a part of one
abbrev pub Bytes : Type 0
Bytes = List ℕ

-- an LF, which ends a line
abbrev pub is_lf : ℕ → Bool
is_lf b = b == 10

-- the bytes up to each LF, and those after the last one if there are any
unfoldable pub ended_lines : Bytes → List Bytes
ended_lines [] = []
ended_lines (b ∷ bytes) = if is_lf b then [] ∷ ended_lines bytes else onto_first b (ended_lines bytes)

-- the lines of a text. One CR at a line's end is no part of it
unfoldable pub lines : Bytes → List Bytes
lines text = map strip_carriage_return (ended_lines text)

-- a space or a tab
abbrev pub is_blank : ℕ → Bool
is_blank b = (b == 32) || (b == 9)

-- not empty
abbrev pub is_word : Bytes → Bool
is_word [] = false
is_word (b ∷ bytes) = true

-- the words of a line: what is not empty between its blanks
unfoldable pub words : Bytes → List Bytes
words line = filter is_word (slice_split is_blank line)

-- a blank stands in front
abbrev pub starts_blank : Bytes → Bool
starts_blank [] = false
starts_blank (b ∷ line) = is_blank b

-- the words of a line that begins with one of them, and none if a blank stands in front
abbrev pub words_from_front : Bytes → List Bytes
words_from_front line = if starts_blank line then [] else words line

-- the byte between two words of a line that has one space between two
abbrev pub is_space : ℕ → Bool
is_space b = b == 32

-- whether it is the line `-`, which has no words
abbrev pub is_dash : Bytes → Bool
is_dash [] = false
is_dash (b ∷ []) = b == 45
is_dash (b ∷ c ∷ bs) = false

-- a digit in base ten
abbrev pub is_digit : ℕ → Bool
is_digit b = is_in_range 48 57 b

-- what the digits in front spell in base ten after n, and what follows them
unfoldable pub digits_front : ℕ → Bytes → ℕ × Bytes
digits_front n [] = (n, [])
digits_front n (d ∷ text) = if is_digit d then digits_front (10 * n + (d - 48)) text else (n, d ∷ text)

-- the number in front, all of whose digits are taken
unfoldable pub number_front : Bytes → Option (ℕ × Bytes)
number_front [] = None
number_front (d ∷ text) = if is_digit d then Some (digits_front (d - 48) text) else None

-- .. with most in place of every number above it
abbrev pub at_most : ℕ → ℕ × Bytes → ℕ × Bytes
at_most most x = (min x.0 most, x.1)

-- what the digits spell in base ten, after n
unfoldable pub number_after : ℕ → Bytes → Option ℕ
number_after n [] = Some n
number_after n (d ∷ digits) = if is_digit d then number_after (10 * n + (d - 48)) digits else None

-- the number that one or more digits spell, however many they are
unfoldable pub number : Bytes → Option ℕ
number [] = None
number (d ∷ digits) = number_after 0 (d ∷ digits)

-- no digit stands behind a leading zero
abbrev pub is_plain : Bytes → Bool
is_plain [] = true
is_plain (d ∷ []) = true
is_plain (d ∷ e ∷ ds) = not (d == 48)

-- the number that a word spells without a leading zero, if it spells one
abbrev pub plain_number : Bytes → Option ℕ
plain_number word = if is_plain word then number word else None

-- the number, if it is not too large
abbrev pub small : ℕ → Option ℕ
small n = if nat_lt n TOO_LARGE then Some n else None

-- the number that a word spells, if it is not too large
unfoldable pub small_number : Bytes → Option ℕ
small_number word = option_and_then small (number word)

-- a number and what follows it, if the number is not too large
abbrev pub small_only : ℕ × Bytes → Option (ℕ × Bytes)
small_only x = if nat_lt x.0 TOO_LARGE then Some x else None

-- the number in front and what follows it, if the number is not too large
unfoldable pub small_number_front : Bytes → Option (ℕ × Bytes)
small_number_front text = option_and_then small_only (number_front text)
