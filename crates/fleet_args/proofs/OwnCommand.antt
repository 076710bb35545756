-- Words that begin with the name of a command are read by the command line as this command by itself reads the words
-- after it.
use Rattle.std.proofs.Common.{◌≡◌, ◌∙◌, Bool, cond, true, false, List, [], ◌∷◌, map, Option, Some, refl, sym, ap, ap₂, subst, unwrap_or, get_or, drop}
use Rattle.std.specs.{List.find, List.fold, Option.option_map, Option.option_map_or, Str.bytes_eq}
use Rattle.std.proofs.lemmas.Slice.Eq.{bytes_eq-Decides}
use Rattle.clap.specs.Kinds.{Kinds, or_else}
use Rattle.clap.specs.Simple.{built, entered, label_of, names_of, rows_at}
use Rattle.clap.specs.Words.{App, Row, Shape, Text, fault_of, matches_of, subcommand_of}
use Rattle.clap.specs.Walk.{Walk, answers_to, finished, idle, nothing_held, rows_after, settled, stop_after, subcommand_met, walk, walk_from, walked}
use Rattle.clap.specs.Faults.{built_fault, check_fault, defaults_fault, entered_fault, level_fault, other_fault, settle_fault, walk_fault}
use Rattle.clap.proofs.{FaultLemmas.leaf_fault, FaultLemmas.stopped_fault, WalkLemmas.walk_stopped}
use Rattle.fleet_args.specs.declared.{arguments.Form.Form, arguments.OptionNames.OptionNames}
use Rattle.fleet_args.specs.{Arguments.own, Commands.commands, Commands.fleet, Request.IsReadAlone, Request.command_and_rest}

or_none : (ks : Kinds) → or_else ks [] ≡ ks
or_none [] = refl
or_none (k ∷ ks) = refl

-- what the command line has to say of itself, once it has met a command
abbrev own_fault : Shape → Kinds
own_fault top =
    or_else (settle_fault top.rules top.args_override_self nothing_held)
    (or_else (defaults_fault (settled top.rules nothing_held).rows top.rules)
    (check_fault top (finished top.rules nothing_held) true))

-- a command line whose first word names the command c
record Meets (b : App) (word : Text) (c : Shape) : Type 0 where
  pub met : subcommand_met (names_of b) idle word ≡ Some word
  pub found : find (λ x. answers_to word (label_of x)) b.subs ≡ Some c
  pub other : other_fault b.top (Some word) word nothing_held ≡ []
  pub none : own_fault b.top ≡ []

module _ (b : App) (word : Text) (c : Shape) (meets : Meets b word c) (rest : List Text) where
  abbrev at : Walk
  at = record (walk_from nothing_held) { stopped = Some (word, []) }

  first_step : walked b.top.rules (names_of b) (walk_from nothing_held) word ≡ at
  unfolding walked
  first_step = rw meets.met refl

  walk_is : walk b.top.rules (names_of b) nothing_held (word ∷ rest) ≡ record (walk_from nothing_held) { stopped = Some (word, rest) }
  walk_is =
      ap (λ (w : Walk). fold (walked b.top.rules (names_of b)) w rest) first_step
      ∙ sym (walk_stopped b.top.rules (names_of b) (walk_from nothing_held) word [] rest)

  entered_is : entered b (stop_after b.top.rules (names_of b) (word ∷ rest)) ≡ Some (rows_at c rest)
  entered_is = ap (λ (w : Walk). entered b w.stopped) walk_is ∙ ap (option_map (λ x. rows_at x rest)) meets.found

  below_is : entered_fault b (Some (word, rest)) ≡ level_fault c [] nothing_held rest false []
  below_is = ap (λ (o : Option Shape). option_map_or (λ s. level_fault s [] nothing_held rest false []) o []) meets.found

  walk_fault_is : walk_fault b.top (names_of b) (walk_from nothing_held) (word ∷ rest) ≡ other_fault b.top (Some word) word nothing_held
  unfolding walk_fault
  walk_fault_is =
      let none = ap (λ (w : Walk). walk_fault b.top (names_of b) w rest) first_step ∙ stopped_fault b.top (names_of b) (walk_from nothing_held) (word, []) rest in
      rw (none, meets.met) (or_none (or_else (other_fault b.top (Some word) word nothing_held) []) ∙ or_none (other_fault b.top (Some word) word nothing_held))

  parts : built_fault b nothing_held (word ∷ rest)
      ≡ or_else (other_fault b.top (Some word) word nothing_held) (or_else (level_fault c [] nothing_held rest false []) (own_fault b.top))
  parts = rw (walk_fault_is, walk_is, below_is, meets.found) refl

  fault_is : built_fault b nothing_held (word ∷ rest) ≡ level_fault c [] nothing_held rest false []
  fault_is =
      parts ∙ ap (λ (ks : Kinds). or_else ks (or_else (level_fault c [] nothing_held rest false []) (own_fault b.top))) meets.other
      ∙ ap (or_else (level_fault c [] nothing_held rest false [])) meets.none ∙ or_none (level_fault c [] nothing_held rest false [])

module _ (names : OptionNames) where
  abbrev line : App
  line = built (fleet names)

  abbrev alone : Text × List (Text × Form) → App
  alone c = built (own names c)

  -- what the command line makes of the command's name as the first word, and what the command by itself is called and
  -- has below it
  abbrev found : Text × List (Text × Form) → (Option Text × Option Shape × Kinds) × Text × List Shape
  found c = ((subcommand_met (names_of line) idle c.0, find (λ x. answers_to c.0 (label_of x)) line.subs, other_fault line.top (Some c.0) c.0 nothing_held), (alone c).top.name, (alone c).subs)

  -- .. and what it should
  abbrev wanted : Text × List (Text × Form) → (Option Text × Option Shape × Kinds) × Text × List Shape
  wanted c = ((Some c.0, Some (alone c).top, []), c.0, [])

  each_found : map found commands ≡ map wanted commands
  each_found = refl

  none_of_itself : own_fault line.top ≡ []
  unfolding defaults_fault
  none_of_itself = refl

  module _ (c : Text × List (Text × Form)) (e : found c ≡ wanted c) (rest : List Text) where
    meets : Meets line c.0 (alone c).top
    meets = record { met = ap (λ f. f.0.0) e; found = ap (λ f. f.0.1) e; other = ap (λ f. f.0.2) e; none = none_of_itself }

    same_fault : fault_of (fleet names) (c.0 ∷ rest) ≡ fault_of (own names c) rest
    same_fault = fault_is line c.0 _ meets rest ∙ sym (leaf_fault (alone c) nothing_held rest (ap (λ f. f.2) e))

    same_rows : subcommand_of (fleet names) (c.0 ∷ rest) ≡ Some (c.0, matches_of (own names c) rest)
    same_rows =
        let rows : Text → List Shape → Option (Text × List Row) = λ name subs. Some (name, rows_after (alone c).top.rules (map label_of subs) rest) in
        entered_is line c.0 _ meets rest ∙ ap₂ rows (ap (λ f. f.1) e) (sym (ap (λ f. f.2) e))

-- what is one for each command is one for the command that is found by the first word, and this word is its name
found_by : {Y : Type 0} (f g : Text × List (Text × Form) → Y) (word : Text) (rest : List Text) (cs : List (Text × List (Text × Form))) (c : (Text × List (Text × Form)) × List Text)
    → map f cs ≡ map g cs → option_map (λ d. (d, rest)) (find (λ d. bytes_eq d.0 word) cs) ≡ Some c → (f c.0 ≡ g c.0) × (word ∷ rest ≡ c.0.0 ∷ c.1)
found_by f g word rest [] c same e = cc
found_by f g word rest (d ∷ cs) c same e = go (bytes_eq d.0 word) refl e (found_by f g word rest cs c (ap (drop 1) same))
  where
    go : (b : Bool) → bytes_eq d.0 word ≡ b → option_map (λ x. (x, rest)) (cond b (Some d) (find (λ x. bytes_eq x.0 word) cs)) ≡ Some c
        → (option_map (λ x. (x, rest)) (find (λ x. bytes_eq x.0 word) cs) ≡ Some c → (f c.0 ≡ g c.0) × (word ∷ rest ≡ c.0.0 ∷ c.1)) → (f c.0 ≡ g c.0) × (word ∷ rest ≡ c.0.0 ∷ c.1)
    go true named e later =
        let is : (d, rest) ≡ c = ap (λ (o : Option ((Text × List (Text × Form)) × List Text)). unwrap_or o c) e in
        subst (λ x. (f x.0 ≡ g x.0) × (word ∷ rest ≡ x.0.0 ∷ x.1)) is (ap (λ l. get_or l 0 (f d)) same, ap (λ w. w ∷ rest) (sym ((bytes_eq-Decides d.0 word).0 named)))
    go false named e later = later e

-- what is one for each command is one for the command with whose name the words begin
pub same_of : {Y : Type 0} (f g : Text × List (Text × Form) → Y) → map f commands ≡ map g commands → (words : List Text) (c : (Text × List (Text × Form)) × List Text)
    → command_and_rest words ≡ Some c → (f c.0 ≡ g c.0) × (words ≡ c.0.0 ∷ c.1)
same_of f g same [] c e = cc
same_of f g same (word ∷ rest) c e = found_by f g word rest commands c same e

pub read_alone : (names : OptionNames) (words : List Text) (c : (Text × List (Text × Form)) × List Text) → command_and_rest words ≡ Some c → IsReadAlone names words c
read_alone names words c e =
    let first = same_of (found names) (wanted names) (each_found names) words c e in
    subst (λ words. IsReadAlone names words c) (sym first.1) (record { faults = same_fault names c.0 first.0 c.1; rows = same_rows names c.0 first.0 c.1 })
