-- The request that the words make, by the matches that `clap` defines for them.
use Rattle.std.specs.Prelude.{◌≡◌, ◌≢◌, ◌⊎◌, List, [], ◌∷◌, Option, None, Some, find, option_map, Result, MatchOption, MatchResult, ⊤}
use Rattle.std.specs.Str.{bytes_eq}
use Rattle.clap.specs.Words.{App, IsAmong, Kinds, Row, Text, matches_of, fault_of, subcommand_of}
use Rattle.clap.specs.declared.error.ErrorKind.{ErrorKind}
use Rattle.clap.specs.declared.error.ErrorKind.TheVariants as kind
use Rattle.fleet_args.specs.{Arguments.own, Commands.AsksCommand, Commands.commands, Commands.fleet, Values.AreNames}
use Rattle.fleet_args.specs.declared.{arguments.Form.Form, arguments.OptionNames.OptionNames, commands.Request.Request, request.WordStop.WordStop}
use Rattle.fleet_args.specs.declared.request.WordStop.TheVariants as stop

-- the stop that an error of this kind becomes: help, if the words ask for help or for the version
abbrev pub IsStopOf : ErrorKind → WordStop → Type 0
IsStopOf k stop.OutOfMemory = ⊤
IsStopOf k (stop.Usage text) = (k ≢ kind.DisplayHelp) × (k ≢ kind.DisplayVersion) × (k ≢ kind.OutOfMemory)
IsStopOf k (stop.Help text) = (k ≡ kind.DisplayHelp) ⊎ (k ≡ kind.DisplayVersion)

-- the stop at words of which the first fault may have these kinds: that of one of them, or of want of memory
abbrev pub StopsFor : Kinds → WordStop → Type 0
StopsFor kinds s = (k : ErrorKind) × ((k ≡ kind.OutOfMemory) ⊎ IsAmong k kinds) × IsStopOf k s

-- the command finds no fault in the words, and the answer is so by the values that they give; or it stops at them
abbrev pub Parses : {A : Type 0} → App → List Text → (List Row → A → Type 0) → Result A WordStop → Type 0
Parses app words IsSo result = MatchResult result (λ a. (fault_of app words ≡ []) × IsSo (matches_of app words) a) (StopsFor (fault_of app words))

-- the command with whose name the words begin, and the words after it
abbrev pub command_and_rest : List Text → Option ((Text × List (Text × Form)) × List Text)
command_and_rest [] = None
command_and_rest (word ∷ rest) = option_map (λ c. (c, rest)) (find (λ c. bytes_eq c.0 word) commands)

-- the command line reads the words as the command with whose name they begin reads by itself those after it
pub record IsReadAlone (names : OptionNames) (words : List Text) (found : (Text × List (Text × Form)) × List Text) : Type 0 where
  pub faults : fault_of (fleet names) words ≡ fault_of (own names found.0) found.1
  pub rows : subcommand_of (fleet names) words ≡ Some (found.0.0, matches_of (own names found.0) found.1)

-- the command line finds no fault in the words, and the command that they enter asks this, by the values of its rows
abbrev pub Asks : App → List Text → Request → Type 0
Asks line words request =
    (fault_of line words ≡ []) × MatchOption (subcommand_of line words) ⊥ (λ found. AsksCommand found.0 found.1 request)

-- the answer is the request that the words ask of the program's command line, whatever texts hold the names that
-- options take; or a stop for words that the command line does not take
abbrev pub ReadsFleet : List Text → Result Request WordStop → Type 0
ReadsFleet words result = (names : OptionNames) × AreNames names
    × MatchResult result (Asks (fleet names) words) (StopsFor (fault_of (fleet names) words))
