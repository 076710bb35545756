-- The values that the words of a command give to its arguments.
use Rattle.std.specs.Prelude.{◌≡◌, ℕ, Bool, false, List, [], ◌∷◌, IsSome, MatchOption, Option, None, Some, codes, find, map, option_and_then, option_map, unwrap_or, ◌||◌, ◌≤◌, if◌then◌else◌, ⊤}
use Rattle.std.specs.{Borrow.Bor, Option.option_map_or, Str.bytes_eq, Str.Parse.ParsesUnsigned}
use Rattle.clap.specs.Words.{Accepts, ReadsOne, Row, Text, first_of, one_of, rows_of, found_of, without_minus}
use Rattle.clap.specs.declared.parser.ArgMatches.{ArgMatches}
use Rattle.fleet_args.specs.Arguments.{parser_for}
use Rattle.fleet_args.specs.declared.{arguments.Form.Form, arguments.OptionNames.OptionNames, commands.Best.Best}
use Rattle.fleet_args.specs.declared.arguments.Form.TheVariants as form
use Rattle.fleet_args.specs.declared.commands.Best.TheVariants as best
use Rattle.fleet_model.specs.declared.deps.Deps.{Deps}
use Rattle.fleet_model.specs.declared.deps.Deps.TheVariants as deps

-- the names of the kinds of awaits
abbrev pub deps_names : List (Text × Deps)
deps_names = (codes "all", deps.All) ∷ (codes "last", deps.Last) ∷ []

-- the names of what makes a plan the best
abbrev pub best_names : List (Text × Best)
best_names = (codes "chain", best.Chain) ∷ (codes "cost", best.Cost) ∷ []

-- the names that options take are these
pub record AreNames (names : OptionNames) : Type 0 where
  pub deps : map (λ name. name.now) names.deps.now ≡ map (λ n. n.0) deps_names
  pub best : map (λ name. name.now) names.best.now ≡ map (λ n. n.0) best_names

-- what the text names
abbrev pub named_in : {A : Type 0} → List (Text × A) → Text → Option A
named_in names text = option_map (λ n. n.1) (find (λ n. bytes_eq text n.0) names)

-- ---- The value of an argument, by the rows that `clap` defines for the words. By its definition words in which an
-- option has a text that it does not take have a fault, so such an option may be as unused here

-- the rows of the matches of a command
abbrev pub rows_in : ArgMatches → List Row
rows_in matches = rows_of (found_of matches)

-- there is a text for this argument, if it is a word that the command needs
abbrev pub HasWordBy : List Row → Text → Form → Type 0
HasWordBy rows id form.Word = IsSome (first_of id rows)
HasWordBy rows id _ = ⊤

abbrev pub HasWord : List Row → Text × Form → Type 0
HasWord rows argument = HasWordBy rows argument.0 argument.1

-- a text that the command needs, and has
abbrev pub IsText : List Row → Text → Bor Text → Type 0
IsText rows id text = first_of id rows ≡ Some text.now

-- a text, if the option was used
abbrev pub IsTextIfUsed : List Row → Text → Option (Bor Text) → Type 0
IsTextIfUsed rows id text = option_map (λ t. t.now) text ≡ first_of id rows

-- with so many bits the number of an option of this name is read
abbrev pub bits_of : Text → ℕ
bits_of id = if bytes_eq id (codes "tries") || bytes_eq id (codes "dwell") then 32 else 16

-- the number that the text spells, if it spells one that an option of this name may have
abbrev pub SpellsNumber : Text → Text → Option ℕ → Type 0
SpellsNumber id = ReadsOne {E = Unit {0}} (ParsesUnsigned (bits_of id) 10)

-- the number that the option's text spells, if the option was used and its text spells one
abbrev pub IsNumberIfUsed : List Row → Text → Option ℕ → Type 0
IsNumberIfUsed rows id n = MatchOption (one_of id rows) (n ≡ None) (λ text. SpellsNumber id text n)

-- .. or else this one
abbrev pub IsNumberOr : ℕ → List Row → Text → ℕ → Type 0
IsNumberOr default rows id n = (used : Option ℕ) × IsNumberIfUsed rows id used × (n ≡ unwrap_or used default)

-- what an option names, if it was used
abbrev pub named_by : {A : Type 0} → List (Text × A) → List Row → Text → Option A
named_by names rows id = option_and_then (named_in names) (first_of id rows)

-- whether a flag was used
abbrev pub IsFlag : List Row → Text → Bool → Type 0
IsFlag rows id used = used ≡ option_map_or (λ t. bytes_eq t (codes "true")) (first_of id rows) false

-- ---- What a text that an option takes stands for

-- the text of an argument of this name and form stands for a value: what is read of a number is a number of the range,
-- and a name is one of the option's
abbrev pub StandsForValue : Text → Form → Text → Type 0
StandsForValue id (form.Numbers least most) text = (n : Option ℕ) → SpellsNumber id (without_minus text) n → (m : ℕ) × (n ≡ Some m) × (least ≤ m) × (m ≤ most)
StandsForValue id form.Deps text = IsSome (named_in deps_names text)
StandsForValue id form.Best text = IsSome (named_in best_names text)
StandsForValue id _ text = ⊤

-- each text that the argument takes stands for a value
abbrev pub TakesValues : OptionNames → Text × Form → Type 0
TakesValues names argument = (text : Text) → Accepts false (parser_for names argument.1) text → StandsForValue argument.0 argument.1 text
