-- Words that do not begin with the name of a command: the command line finds a fault in them.
use Rattle.std.proofs.Common.{◌≡◌, ◌≢◌, ◌++◌, Bool, true, false, List, [], ◌∷◌, Option, None, codes, map, arith, refl}
use Rattle.std.specs.{List.find, Option.option_map, Str.bytes_eq}
use Rattle.std.proofs.lemmas.Slice.Eq.{bytes_eq-Decides}
use Rattle.clap.specs.{Kinds.Kinds, Kinds.or_else, Simple.built, Simple.help_shape, Simple.names_of}
use Rattle.clap.specs.Words.{Shape, Text, fault_of, with_subcommand}
use Rattle.clap.specs.Walk.{answers_to, bundle_met, idle, nothing_held, subcommand_or_other, walk_from, walked}
use Rattle.clap.specs.Faults.{defaults_fault, flags_fault, other_fault, step_fault, turn_fault, walk_fault}
use Rattle.fleet_args.specs.declared.{arguments.Form.Form, arguments.OptionNames.OptionNames}
use Rattle.fleet_args.specs.{Commands.commands, Commands.fleet, Commands.fleet_top, Request.command_and_rest}

-- the command line with its flags for help and for the version
abbrev top : Shape
top = (built (with_subcommand fleet_top help_shape)).top

-- the fault of a first word that names this subcommand, or none
abbrev first : Option Text → Text → Kinds
first name word =
    let met = subcommand_or_other top.rules name idle 1 word nothing_held in
    or_else (other_fault top name word nothing_held) (step_fault top 1 met.0 met.1)

-- it is a flag, a bundle of flags, or a word for which there is no place
unnamed_first : (word : Text) → bytes_eq word (45 ∷ 45 ∷ []) ≡ false → first None word ≢ []
unfolding flags_fault bundle_met
unnamed_first word other = λ e. grind arith

only_help : (word : Text) (rest : List Text) (cs : List (Text × List (Text × Form))) → option_map {U = (Text × List (Text × Form)) × List Text} (λ c. (c, rest)) (find (λ c. bytes_eq c.0 word) cs) ≡ None
    → find (answers_to word) (map (λ c. (c.0, [])) cs ++ (codes "help", []) ∷ []) ≡ find (answers_to word) ((codes "help", []) ∷ [])
only_help word rest [] none = refl
only_help word rest (c ∷ cs) none = grind (arith, only_help word rest cs)

no_name : (names : OptionNames) (word : Text) (rest : List Text) → command_and_rest (word ∷ rest) ≡ None → bytes_eq word (45 ∷ 45 ∷ []) ≡ false
    → turn_fault (built (fleet names)).top (names_of (built (fleet names))) (walk_from nothing_held) word ≢ []
no_name names word rest none other = rw (only_help word rest commands none) (λ e. grind (arith, unnamed_first))

first_fault : (a b c : Kinds) → a ≢ [] → or_else (or_else a b) c ≢ []
first_fault a b c some = λ e. grind arith

-- `--`, after which no word has a place, and without a word a command is wanted
dashes : (names : OptionNames) (rest : List Text) → fault_of (fleet names) ((45 ∷ 45 ∷ []) ∷ rest) ≢ []
unfolding walk_fault defaults_fault walked
dashes names [] = λ e. cc
dashes names (word ∷ rest) = λ e. cc

pub unnamed : (names : OptionNames) (words : List Text) → command_and_rest words ≡ None → fault_of (fleet names) words ≢ []
unfolding walk_fault defaults_fault
unnamed names [] none = λ e. cc
unnamed names (word ∷ rest) none = go (bytes_eq word (45 ∷ 45 ∷ [])) refl
  where
    go : (b : Bool) → bytes_eq word (45 ∷ 45 ∷ []) ≡ b → fault_of (fleet names) (word ∷ rest) ≢ []
    go true e = rw ((bytes_eq-Decides word (45 ∷ 45 ∷ [])).0 e) (dashes names rest)
    go false e = first_fault _ _ _ (no_name names word rest none e)
