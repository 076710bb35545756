-- A line that is kept from tick to tick.
use Rattle.std.specs.Prelude.{◌≡◌, ◌≢◌, ◌≤◌, ◌<◌, ◌+◌, ◌-◌, ◌*◌, ◌++◌, ◌∷◌, ◌⊎◌, ℤ, pos, ◌+ℤ◌, ◌≤ℤ◌, ◌/◌, ◌%◌, ◌^◌, ℕ, Bool, true, false, List, [], length, map, set, take, drop, get_or, codes}
use Rattle.std.specs.List.{flat_map, copy_within}
use Rattle.std.specs.Fmt.{signed_decimal}
use Rattle.fleet_model.specs.declared.geometry.Place.{Place}
use Rattle.fleet_model.specs.Machine.{Configuration, standing_at}
use Rattle.fleet_machine.specs.Machine.{MachineState, flag_of}
use Rattle.fleet_run.specs.declared.line.TheConstants.{TIME, NUMERALS, LINE}
use Rattle.fleet_text.specs.declared.numbers.TheConstants.{NUMBER}

-- a number in a line, and the byte before it
pub record Numeral : Type 0 where
  pub separator : ℕ
  pub value : ℤ

-- .. of these
abbrev pub numeral : ℕ → ℤ → Numeral
numeral separator value = record { separator = separator; value = value }

-- its bytes
abbrev pub numeral_text : Numeral → List ℕ
numeral_text n = n.separator ∷ signed_decimal n.value

-- those of a place: its column after a space, and its row after a comma
abbrev pub place_numerals : Place → List Numeral
place_numerals q = numeral 32 q.x ∷ numeral 44 q.y ∷ []

-- those of the places of these agents
abbrev pub numerals_of : Configuration → List Numeral
numerals_of c = flat_map (λ s. place_numerals s.place) c

-- numerals, and the end of the line
abbrev pub numerals_text : List Numeral → List ℕ
numerals_text ns = flat_map numeral_text ns ++ codes "\n"

-- the numeral of this number is that one
pub record IsNumeralAt (ns : List Numeral) (k : ℕ) (n : Numeral) : Type 0 where
  pub inside : k < length ns
  pub is : get_or ns k n ≡ n

-- The row ends with the numerals from this number on, which begin at `at`: each begins where `begins` says, and after
-- the last one is the line's end. Before them is room for the others and for the time.
pub record EndsWith (ns : List Numeral) (from at : ℕ) (row begins : List ℕ) : Type 0 where
  pub room : TIME + NUMBER * from ≤ at
  pub high : at ≤ LINE - 1
  pub long : length row ≡ LINE
  pub begun : length begins ≡ NUMERALS + 1
  pub here : get_or begins from 0 ≡ at
  pub rising : (k : ℕ) → from ≤ k → k ≤ length ns → at ≤ get_or begins k 0
  pub within : (k : ℕ) → from ≤ k → k ≤ length ns → get_or begins k 0 ≤ LINE - 1
  pub numerals : (k : ℕ) → from ≤ k → k ≤ length ns → drop (get_or begins k 0) row ≡ numerals_text (drop k ns)

-- there is room for a number before this end, in a row that is as long as a line
pub record HasRoomBefore (end : ℕ) (row : List ℕ) : Type 0 where
  pub room : NUMBER ≤ end
  pub within : end ≤ LINE
  pub long : length row ≡ LINE

-- the row ends with these numerals, and before them is room for the time
pub record HasNumerals (ns : List Numeral) (row begins : List ℕ) : Type 0 where
  pub few : length ns ≤ NUMERALS
  pub room : length row ≡ LINE
  pub begun : length begins ≡ NUMERALS + 1
  pub time : TIME ≤ get_or begins 0 0
  pub rising : (k : ℕ) → k ≤ length ns → get_or begins 0 0 ≤ get_or begins k 0
  pub within : (k : ℕ) → k ≤ length ns → get_or begins k 0 ≤ LINE - 1
  pub numerals : (k : ℕ) → k ≤ length ns → drop (get_or begins k 0) row ≡ numerals_text (drop k ns)

-- the row ends with the places of the configuration
abbrev pub IsLineKept : Configuration → (row begins : List ℕ) → Type 0
IsLineKept c row begins = HasNumerals (numerals_of c) row begins

-- a row that is as long as a line has this number, which ends in it
pub record HasNumber (k : ℕ) (row begins : List ℕ) : Type 0 where
  pub room : length row ≡ LINE
  pub number : k + 1 < length begins
  pub within : get_or begins (k + 1) 0 ≤ LINE

-- a text was written over the bytes from `at` to `end`, and has as many
pub record IsWrittenOver (text : List ℕ) (at end : ℕ) (row row' : List ℕ) : Type 0 where
  pub fits : at + length text ≡ end
  pub written : row' ≡ take at row ++ (text ++ drop end row)

-- the text has more bytes or fewer, and all bytes are as they were
pub record HasOtherLength (text : List ℕ) (at end : ℕ) (row row' : List ℕ) : Type 0 where
  pub other : at + length text ≢ end
  pub same : row' ≡ row

-- the text was written over those bytes, or has more or fewer
abbrev pub WritesOver : Bool → (text : List ℕ) (at end : ℕ) (row row' : List ℕ) → Type 0
WritesOver true text at end row row' = IsWrittenOver text at end row row'
WritesOver false text at end row row' = HasOtherLength text at end row row'

-- the bytes before a numeral, from the first one on, are moved so far that a text which begins at `to` ends where the
-- numeral does
abbrev pub moved_before : (k to : ℕ) (row begins : List ℕ) → List ℕ
moved_before k to row begins = copy_within row (get_or begins 0 0) (get_or begins k 0) (to + get_or begins 0 0 - get_or begins k 0)

-- a text that begins at `to` ends at `end`, and there is room for the bytes from `front` to before `begin` before it,
-- and for the time before these
pub record HasPlace (text : List ℕ) (front begin end to : ℕ) : Type 0 where
  pub fits : to + length text ≡ end
  pub room : begin + TIME ≤ front + to

-- a text is written over a numeral, and the numerals before it are moved as far as it has more bytes or fewer
pub record IsResized (k : ℕ) (text row row' begins begins' : List ℕ) : Type 0 where
  pub to : ℕ
  pub place : HasPlace text (get_or begins 0 0) (get_or begins k 0) (get_or begins (k + 1) 0) to
  pub written : row' ≡ take to (moved_before k to row begins) ++ (text ++ drop (get_or begins (k + 1) 0) (moved_before k to row begins))
  pub long : length begins' ≡ length begins
  pub moved : (j : ℕ) → j < k + 1 → get_or begins' j 0 + get_or begins k 0 ≡ get_or begins j 0 + to
  pub others : (j : ℕ) → k + 1 ≤ j → get_or begins' j 0 ≡ get_or begins j 0

-- for a text in place of a numeral there is no room, with the time before the line, and all is as it was
pub record LacksRoom (k : ℕ) (text row row' begins begins' : List ℕ) : Type 0 where
  pub full : get_or begins 0 0 + get_or begins (k + 1) 0 < get_or begins k 0 + TIME + length text
  pub same_row : row' ≡ row
  pub same_begins : begins' ≡ begins

-- .. for one of the numerals of agent i, if the agent stands on q
abbrev pub LacksPlace : (i : ℕ) → Place → (row row' begins begins' : List ℕ) → Type 0
LacksPlace i q row row' begins begins' =
    LacksRoom (2 * i) (numeral_text (numeral 32 q.x)) row row' begins begins' ⊎ LacksRoom (2 * i + 1) (numeral_text (numeral 44 q.y)) row row' begins begins'

-- the numbers differ by one at most
pub record AreClose (a b : ℤ) : Type 0 where
  pub low : a ≤ℤ (b +ℤ pos 1)
  pub high : b ≤ℤ (a +ℤ pos 1)

-- the code of a digit
pub record IsDigit (code : ℕ) : Type 0 where
  pub first : 48 ≤ code
  pub last : code ≤ 57

-- one of the numbers is negative, or they do not have as many tens
abbrev pub HaveOtherTens : ℤ → ℤ → Type 0
HaveOtherTens old new = (m n : ℕ) → old ≡ pos m → new ≡ pos n → m / 10 ≢ n / 10

-- neither number is negative, both have as many tens, and the last digit of the new one was written there
pub record IsDigitOver (old new : ℤ) (at : ℕ) (row row' : List ℕ) : Type 0 where
  pub m : ℕ
  pub n : ℕ
  pub is_old : old ≡ pos m
  pub is_new : new ≡ pos n
  pub few_old : m < 2 ^ 32
  pub few_new : n < 2 ^ 32
  pub tens : m / 10 ≡ n / 10
  pub written : row' ≡ set row at (48 + n % 10)

-- one of the two coordinates is the same, and the other differs by one at most
abbrev pub IsBeside : Place → Place → Type 0
IsBeside q r = ((q.x ≡ r.x) × AreClose q.y r.y) ⊎ ((q.y ≡ r.y) × AreClose q.x r.x)

-- where the agents stand
abbrev pub places_of : Configuration → List Place
places_of c = map (λ s. s.place) c

-- the row ends with the places of the configuration, and the list has them
pub record ArePlacesKept (c : Configuration) (row begins : List ℕ) (places : List Place) : Type 0 where
  pub kept : IsLineKept c row begins
  pub placed : places ≡ places_of c

-- the row and the places have the places from before the machine's last tick: each agent stands beside its place there,
-- and those that the tick did not move stand on it
pub record IsKeptBefore (m : MachineState) (row begins : List ℕ) (places : List Place) : Type 0 where
  pub before : Configuration
  pub kept : IsLineKept before row begins
  pub placed : places ≡ places_of before
  pub agents : length before ≡ length m.configuration
  pub same : (i : ℕ) → flag_of m.moving i ≡ false → standing_at before i ≡ standing_at m.configuration i
  pub beside : (i : ℕ) → IsBeside (standing_at before i).place (standing_at m.configuration i).place
