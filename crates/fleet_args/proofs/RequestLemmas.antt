-- From the getters of the matches to what the words ask.
use Rattle.std.proofs.Common.{◌≡◌, ◌∙◌, ℕ, true, arith, List, [], ◌∷◌, Option, Some, None, map, option_map, refl, sym, ap, ap₂}
use Rattle.std.specs.{Borrow.Bor, List.find, Option.MatchOption, Str.bytes_eq}
use Rattle.std.specs.Str.Parse.{ParsesUnsigned, ExplainsUnsignedError, HasUnsignedDigitsIfOk}
use Rattle.std.specs.declared.num.ParseIntError.{ParseIntError}
use Rattle.clap.specs.Words.{Text, fault_of, matches_of, rows_of, one_text, is_simple_and_free}
use Rattle.clap.specs.{Matches.ReadsOne, declared.parser.matches.Found.Found}
use Rattle.clap.proofs.WalkLemmas.{both, find-map, first_value-rows, one_text-rows}
use Rattle.fleet_args.specs.Values.{IsNumberIfUsed, bits_of}
use Rattle.fleet_args.specs.declared.arguments.CommandText.{CommandText}
use Rattle.fleet_args.specs.{Arguments.own, Arguments.said, Commands.AsksCommand, Commands.commands, Commands.fleet}
use Rattle.fleet_args.specs.Request.{Asks, StopsFor, command_and_rest}
use Rattle.fleet_args.specs.declared.{arguments.Form.Form, arguments.OptionNames.OptionNames, commands.Request.Request, request.WordStop.WordStop}
use Rattle.fleet_args.proofs.OwnCommand.{read_alone, same_of}

-- what `get_str` gives stands in the rows
pub ruleset first_rows = (first_value-rows)

-- `get_one` reads a number of so many bits of the text
abbrev Gets : ℕ → Text → Option ℕ → Type 0
Gets bits = ReadsOne {E = ParseIntError} (λ bs r. ParsesUnsigned bits 10 bs r × ExplainsUnsignedError 10 bs r × HasUnsignedDigitsIfOk bs r)

-- what it gives is the option's number
number_used :
    (bits : ℕ) (f : Found) (id : Text) (r : Option ℕ) → bits_of id ≡ bits → (one_text f id ≡ None → r ≡ None)
    → ((t : Text) → one_text f id ≡ Some t → Gets bits t r) → IsNumberIfUsed (rows_of f) id r
number_used bits f id r read none some = rw (← one_text-rows f id, read) (go (one_text f id) r none some)
  where
    go : (o : Option Text) (r : Option ℕ) → (o ≡ None → r ≡ None) → ((t : Text) → o ≡ Some t → Gets bits t r)
        → MatchOption o (r ≡ None) (λ t. ReadsOne {E = Unit {0}} (ParsesUnsigned bits 10) t r)
    go None r none some = none refl
    go (Some t) None none some = (tt, (some t refl).1.0)
    go (Some t) (Some v) none some = (some t refl).0

pub number_of_16 : (f : Found) (id : Text) (r : Option ℕ) → bits_of id ≡ 16 → (one_text f id ≡ None → r ≡ None)
    → ((t : Text) → one_text f id ≡ Some t → Gets 16 t r) → IsNumberIfUsed (rows_of f) id r
number_of_16 = number_used 16

pub number_of_32 : (f : Found) (id : Text) (r : Option ℕ) → bits_of id ≡ 32 → (one_text f id ≡ None → r ≡ None)
    → ((t : Text) → one_text f id ≡ Some t → Gets 32 t r) → IsNumberIfUsed (rows_of f) id r
number_of_32 = number_used 32

-- the command whose text is found in the table by the first word, with the words after it
pub named : (table : List CommandText) → map said table ≡ commands → (words rest : List Text) (word name : Text) → words ≡ word ∷ rest → name ≡ word → (r : Option (Bor CommandText))
    → option_map (λ text. text.now) r ≡ find (λ text. bytes_eq text.name.now name) table → option_map {U = (Text × List (Text × Form)) × List Text} (λ text. (said text.now, rest)) r ≡ command_and_rest words
named table same words rest word name is spelled r found =
    twice r ∙ ap (λ o. with_rest (option_map said o)) found ∙ ap with_rest (find-map (λ c. bytes_eq c.0 name) said table)
    ∙ ap₂ (λ cs n. with_rest (find (λ c. bytes_eq c.0 n) cs)) same spelled ∙ ap command_and_rest (sym is)
  where
    with_rest : Option (Text × List (Text × Form)) → Option ((Text × List (Text × Form)) × List Text)
    with_rest = option_map (λ c. (c, rest))

    twice : (r : Option (Bor CommandText)) → option_map {U = (Text × List (Text × Form)) × List Text} (λ text. (said text.now, rest)) r ≡ with_rest (option_map said (option_map (λ text. text.now) r))
    twice r = grind arith

-- ---- what is read of words that begin with the name of a command, by this command by itself
module _ (names : OptionNames) (words : List Text) (found : (Text × List (Text × Form)) × List Text) (is : Some found ≡ command_and_rest words) where
  pub free : is_simple_and_free (own names found.0) ≡ true
  free = (same_of (λ c. is_simple_and_free (own names c)) (λ _. true) refl words found (sym is)).0

  pub asks : (request : Request) → fault_of (own names found.0) found.1 ≡ [] → AsksCommand found.0.0 (matches_of (own names found.0) found.1) request
      → Asks (fleet names) words request
  asks request none h =
      let same = read_alone names words found (sym is) in
      (same.faults ∙ none, rw same.rows h)

  pub stops : (stop : WordStop) → StopsFor (fault_of (own names found.0) found.1) stop → StopsFor (fault_of (fleet names) words) stop
  stops stop h = rw (read_alone names words found (sym is)).faults h
