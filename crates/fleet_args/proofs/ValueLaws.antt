-- Each text that an option takes stands for a value: it spells a number of its range, or is one of its names.
use Rattle.std.proofs.Common.{◌≡◌, ◌∙◌, ◌^◌, Bool, true, false, List, [], ◌∷◌, map, is_some, refl, sym, ap, arith, ltb-true}
use Rattle.std.specs.Prelude.{nat_lt}
use Rattle.std.specs.{Borrow.Bor, List.All, List.AllByRecursion, List.list_all, List.list_any, Str.bytes_eq, Str.Parse.ParsesUnsigned}
use Rattle.std.proofs.lemmas.{List.Elements.All-from_recursion, Slice.Eq.bytes_eq-Decides}
use Rattle.clap.specs.Words.{Accepts, Text}
use Rattle.clap.specs.declared.builder.ValueParser.TheVariants as parser
use Rattle.clap.proofs.{CallerReads.signed_reads, WalkLemmas.both, WalkLemmas.list_any-map}
use Rattle.fleet_args.specs.{Arguments.parser_for, Commands.commands, declared.arguments.OptionNames.OptionNames, declared.arguments.Form.Form}
use Rattle.fleet_args.specs.declared.arguments.Form.TheVariants as form
use Rattle.fleet_args.specs.Values.{AreNames, StandsForValue, TakesValues, best_names, bits_of, deps_names, named_in}

-- the numbers that an argument takes have no more bits than those with which they are read
abbrev fits : Text × Form → Bool
fits (name, form.Numbers least most) = nat_lt most (2 ^ bits_of name)
fits _ = true

numbers_fit : list_all (λ c. list_all fits c.1) commands ≡ true
numbers_fit = refl

-- a text that is one of these names names something
among : {A : Type 0} (text : Text) (names : List (Text × A)) → list_any (λ name. bytes_eq name text) (map (λ n. n.0) names) ≡ true → is_some (named_in names text) ≡ true
among text [] h = h
among text (n ∷ names) h = grind (arith, among text names, bytes_eq-Decides)

module _ (names : OptionNames) (are : AreNames names) where
  -- a text that passes as one of the names of an option names something
  named : {A : Type 0} (known : List (Text × A)) (lent : Bor (List (Bor Text))) (text : Text) → map (λ name. name.now) lent.now ≡ map (λ n. n.0) known
      → Accepts false (parser.Names lent) text → is_some (named_in known text) ≡ true
  named known lent text same pass =
      among text known (sym (ap (list_any (λ name. bytes_eq name text)) same) ∙ (sym (list_any-map (λ name. bytes_eq name text) (λ name. name.now) lent.now) ∙ pass))

  stands : (id : Text) (f : Form) (text : Text) → fits (id, f) ≡ true → Accepts false (parser_for names f) text → StandsForValue id f text
  stands id (form.Numbers least most) text fit pass = λ n read.
      signed_reads (Unit {0}) (ParsesUnsigned (bits_of id) 10) (bits_of id) least most text n read (λ t r h. h) (ltb-true _ _ fit) pass
  stands id form.Deps text fit pass = named deps_names names.deps text are.deps pass
  stands id form.Best text fit pass = named best_names names.best text are.best pass
  stands id form.Word text fit pass = tt
  stands id form.Text text fit pass = tt
  stands id form.Flag text fit pass = tt

  each_argument : (arguments : List (Text × Form)) → list_all fits arguments ≡ true → AllByRecursion (TakesValues names) arguments
  each_argument [] fit = tt
  each_argument (a ∷ rest) fit = (λ text pass. stands a.0 a.1 text (both (fits a) _ fit).0 pass, each_argument rest (both (fits a) _ fit).1)

  each_command : (cs : List (Text × List (Text × Form))) → list_all (λ c. list_all fits c.1) cs ≡ true → AllByRecursion (λ c. All (TakesValues names) c.1) cs
  each_command [] fit = tt
  each_command (c ∷ cs) fit =
      let parts = both (list_all fits c.1) _ fit in
      (All-from_recursion (TakesValues names) c.1 (each_argument c.1 parts.0), each_command cs parts.1)

  pub all_stand : All (λ c. All (TakesValues names) c.1) commands
  all_stand = All-from_recursion (λ c. All (TakesValues names) c.1) commands (each_command commands numbers_fit)
