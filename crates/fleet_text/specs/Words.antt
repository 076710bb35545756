-- Words, lines of words, and texts of lines.
use Rattle.std.specs.Prelude.{ℕ, zero, suc, List, [], ◌∷◌, ◌++◌, map, codes, decimal}
use Rattle.std.specs.Fmt.{signed_decimal}
use Rattle.std.specs.List.{flat_map, join_with_byte, range_with_len}
use Rattle.fleet_model.specs.declared.geometry.Place.{Place}
use Rattle.fleet_text.specs.declared.row.Word.{Word}
use Rattle.fleet_text.specs.declared.row.Word.TheVariants.{Text, Number, Label, Pair, Of}

-- two numbers as `x,y`
abbrev pub pair_text : ℕ → ℕ → List ℕ
pair_text x y = (decimal x ++ 44 ∷ []) ++ decimal y

-- a place, after a space: ` x,y`
abbrev pub place_text : Place → List ℕ
place_text q = codes " " ++ (signed_decimal q.x ++ (codes "," ++ signed_decimal q.y))

-- a number and another that counts within it, as `a:n`
abbrev pub numbered_text : ℕ → ℕ → List ℕ
numbered_text owner number = (decimal owner ++ 58 ∷ []) ++ decimal number

-- a word `a:n` for each of so many numbers, from the first on
abbrev pub numbered_words : (owner first count : ℕ) → List (List ℕ)
numbered_words owner first count = map (numbered_text owner) (range_with_len first count)

-- the digits of a number of so many tens, but for the last one
abbrev pub tens_text : ℕ → List ℕ
tens_text zero = []
tens_text (suc tens) = decimal (suc tens)

-- a space, and the word `a:n` of such a number but for its last digit
abbrev pub next_front : (owner tens : ℕ) → List ℕ
next_front owner tens = 32 ∷ (decimal owner ++ 58 ∷ []) ++ tens_text tens

-- the same bytes, and behind them each of so many that follow one another
abbrev pub digit_words : List ℕ → (digit count : ℕ) → List ℕ
digit_words front digit count = flat_map (λ d. front ++ d ∷ []) (range_with_len digit count)

-- a text as it stands, a number in base ten, a number and a colon, two numbers, or a number with another that counts
-- within it
abbrev pub word_text : Word → List ℕ
word_text (Text text) = text.now
word_text (Number n) = decimal n
word_text (Label n) = decimal n ++ 58 ∷ []
word_text (Pair x y) = pair_text x y
word_text (Of owner number) = numbered_text owner number

-- words with one space between two
abbrev pub with_spaces : List (List ℕ) → List ℕ
with_spaces = join_with_byte 32

-- a line: words with one space between two, and its end
abbrev pub line_text : List (List ℕ) → List ℕ
line_text words = with_spaces words ++ 10 ∷ []

-- a text of these lines, each with its end
abbrev pub ended_text : List (List ℕ) → List ℕ
ended_text lines = flat_map (λ line. line ++ 10 ∷ []) lines

-- words that follow others, each after its space
abbrev pub next_words : List (List ℕ) → List ℕ
next_words [] = []
next_words (word ∷ words) = 32 ∷ word ++ next_words words

-- a word and its number, in a line
unfoldable pub count_line : List ℕ → ℕ → List ℕ
count_line word n = word ++ (codes " " ++ (decimal n ++ codes "\n"))
