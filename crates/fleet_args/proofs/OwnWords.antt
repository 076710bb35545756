-- What a command has for the words that it needs, if a parse of it succeeds.
use Rattle.std.proofs.Common.{◌≡◌, ◌∙◌, inl, inr, ◌&&◌, ◌<◌, ◌≤◌, ℕ, zero, suc, Bool, true, false, not, List, [], ◌∷◌, map, length, Option, Some, None, Result, Ok, Err, IfOk, IsOkAnd, codes, is_some, refl, sym, ap, subst, arith, true≢false, get_or}
use Rattle.std.proofs.lemmas.{List.get_or-map, List.length-map, List.Elements.All-from_get_or, List.Elements.recursion_from_All, List.Folds.list_any_at, List.Sums.AllPass-from_list_all, Slice.Eq.bytes_eq-Decides}
use Rattle.std.specs.{Option.MatchOption, Str.bytes_eq}
use Rattle.std.specs.List.{AllByRecursion, find, list_all, list_any, slice_index_or}
use Rattle.clap.specs.Faults.{has_free_rules}
use Rattle.clap.specs.Facts.{args_of, least_values, unwrap_or_range}
use Rattle.clap.specs.Built.{IsAuto, IsParsedFrom, IsPlain}
use Rattle.clap.specs.Matches.{first_value, found_of}
use Rattle.clap.specs.Simple.{App, IsSimple, app_of, has_simple_rules, is_ready, is_ready_leaf, new_rule, shape_of}
use Rattle.clap.specs.Walk.{Row, Rule, Text, first_of, is_empty, rule_of}
use Rattle.clap.specs.declared.{builder.action.ArgAction.TheVariants.Set, builder.arg.Arg.Arg, builder.command.Command.Command, builder.command.Command.TheViews.out-Command, builder.range.ValueRange.ValueRange, parser.matches.ArgMatches.ArgMatches}
use Rattle.clap.proofs.{CallerLemmas.required_has_value, SimpleLemmas.ready_simple, SimpleLemmas.simple_groups, TakesLemmas.each_rule, TakesLemmas.free_arg, WalkLemmas.both, WalkLemmas.first_value-rows}
use Rattle.fleet_args.specs.declared.{arguments.Form.Form, arguments.OptionNames.OptionNames}
use Rattle.fleet_args.specs.declared.arguments.Form.TheVariants as form
use Rattle.fleet_args.specs.{Arguments.own, Arguments.parser_for, Arguments.rule_by, Arguments.rule_for, Commands.HasWords, Commands.commands, Request.command_and_rest, Values.HasWord, Values.HasWordBy, Values.rows_in}
use Rattle.fleet_args.proofs.OwnCommand.{same_of}

-- an argument's name that is none of those that `clap` adds
abbrev is_own : Text → Bool
is_own id = not (is_empty id) && (not (bytes_eq id (codes "help")) && not (bytes_eq id (codes "version")))

-- no two arguments have one name
abbrev are_apart : List Rule → Bool
are_apart [] = true
are_apart (r ∷ rs) = not (list_any (λ x. bytes_eq x.id r.id) rs) && are_apart rs

turned : (a b : Text) → bytes_eq a b ≡ true → bytes_eq b a ≡ true
turned a b h = (bytes_eq-Decides b a).1 (sym ((bytes_eq-Decides a b).0 h))

apart_from : (r : Rule) (rs : List Rule) (k : ℕ) (d : Rule) → k < length rs → not (list_any (λ x. bytes_eq x.id r.id) rs) ≡ true → bytes_eq (get_or rs k d).id r.id ≡ true → ⊥
apart_from r rs k d lt none same = true≢false (sym none ∙ ap not (list_any_at (λ x. bytes_eq x.id r.id) rs k d lt same))

same_place : (rs : List Rule) → are_apart rs ≡ true → (j k : ℕ) (d e : Rule) → j < length rs → k < length rs → bytes_eq (get_or rs j d).id (get_or rs k e).id ≡ true → j ≡ k
same_place [] apart j k d e j_in k_in same = absurd (omega arith)
same_place (r ∷ rs) apart zero zero d e j_in k_in same = refl
same_place (r ∷ rs) apart zero (suc k) d e j_in k_in same = absurd (apart_from r rs k e (omega arith) (both _ _ apart).0 (turned r.id (get_or rs k e).id same))
same_place (r ∷ rs) apart (suc j) zero d e j_in k_in same = absurd (apart_from r rs j d (omega arith) (both _ _ apart).0 same)
same_place (r ∷ rs) apart (suc j) (suc k) d e j_in k_in same = ap suc (same_place rs (both _ _ apart).1 j k d e (omega arith) (omega arith) same)

item : {X : Type 0} (xs : List X) (k : ℕ) → k < length xs → X
item [] k lt = absurd (omega arith)
item (x ∷ xs) zero lt = x
item (x ∷ xs) (suc k) lt = item xs k (omega arith)

-- a command is plain, no argument of it excludes another, and none has the name of another, or of one that `clap` adds
abbrev judged : App → Bool × Bool × Bool × Bool × Bool × Bool
judged app = (is_ready app.top, list_all is_ready_leaf app.subs, has_free_rules app.top, app.top.subcommand_negates_reqs, are_apart app.top.rules, list_all (λ r. is_own r.id) app.top.rules)

abbrev IsApart : App → Type 0
IsApart app = judged app ≡ (true, true, true, false, true, true)

-- if the argument is required and takes one text, there is one
abbrev HasNeeded : List Row → Rule → Type 0
HasNeeded rows rule = rule.required ≡ true → rule.action ≡ Some Set → rule.range ≡ None → is_some (first_of rule.id rows) ≡ true

-- such a command, and a parse of it
module _ (app : App) (passed : IsApart app) (c : Command) (is : app_of c ≡ app) (m : ArgMatches) (p : IsParsedFrom c m) where
  abbrev rules : List Rule
  rules = app.top.rules

  args_are : map rule_of (args_of c) ≡ rules
  args_are = ap (λ (a : App). a.top.rules) is

  ready : is_ready (shape_of c) ≡ true
  ready = ap (λ (a : App). is_ready a.top) is ∙ ap (λ j. j.0) passed

  free : has_free_rules (shape_of c) ≡ true
  free = ap (λ (a : App). has_free_rules a.top) is ∙ ap (λ j. j.2) passed

  negates : (out-Command c).subcommand_negates_reqs ≡ false
  negates = ap (λ (a : App). a.top.subcommand_negates_reqs) is ∙ ap (λ j. j.3) passed

  simple : IsSimple c
  simple = ready_simple c ready (ap (λ (a : App). list_all is_ready_leaf a.subs) is ∙ ap (λ j. j.1) passed)

  grouped : list_all (λ r. r.is_simple) (shape_of c).rules ≡ true
  grouped = (both (shape_of c).is_plain _ (both (has_simple_rules (shape_of c)) _ ready).0).1

  plain : IsPlain c
  plain = (
    λ k d lt.
        let alone = free_arg (slice_index_or (args_of c) k d) (simple.args k d lt) (each_rule (λ r. r.is_free) (args_of c) free k d lt) in
        (alone.exclusive, alone.conflicts, alone.overrides, simple_groups c grouped k d lt),
    simple.groups,
  )

  count : length (args_of c) ≡ length rules
  count = sym (length-map (args_of c) rule_of) ∙ ap length args_are

  no_rule : Rule
  no_rule = new_rule []

  module _ (k : ℕ) (lt : k < length rules) where
    in_args : k < length (args_of c)
    in_args = omega (arith, count, lt)

    abbrev some_arg : Arg
    some_arg = item (args_of c) k in_args

    abbrev arg : Arg
    arg = slice_index_or (args_of c) k some_arg

    abbrev rule : Rule
    rule = get_or rules k no_rule

    rule_at : (j : ℕ) (y : Arg) → j < length (args_of c) → rule_of (slice_index_or (args_of c) j y) ≡ get_or rules j no_rule
    rule_at j y j_in = sym (get_or-map rule_of (args_of c) j y no_rule j_in) ∙ ap (λ l. get_or l j no_rule) args_are

    rule_is : rule_of arg ≡ rule
    rule_is = rule_at k some_arg in_args

    id_is : arg.id.now ≡ rule.id
    id_is = ap (λ (r : Rule). r.id) rule_is

    unique : (j : ℕ) (y : Arg) → j < length (args_of c) → bytes_eq (slice_index_or (args_of c) j y).id.now arg.id.now ≡ true → j ≡ k
    unique j y j_in same =
        same_place rules (ap (λ j. j.4) passed) j k no_rule no_rule (omega (arith, count, j_in)) lt
        (ap (λ (r : Rule). bytes_eq r.id rule.id) (sym (rule_at j y j_in)) ∙ ap (λ i. bytes_eq (slice_index_or (args_of c) j y).id.now i) (sym id_is) ∙ same)

    own_id : is_own arg.id.now ≡ true
    own_id = ap is_own id_is ∙ AllPass-from_list_all (λ r. is_own r.id) rules (ap (λ j. j.5) passed) k no_rule lt

    named : arg.id.now ≡ [] → ⊥
    named empty = true≢false (sym own_id ∙ ap is_own empty)

    other : IsAuto arg → ⊥
    other auto = elim auto [ inl is_help ↦ true≢false (sym own_id ∙ ap is_own is_help) | inr is_version ↦ true≢false (sym own_id ∙ ap is_own is_version) ]

    least : rule.range ≡ None → 1 ≤ least_values arg
    least none = subst (λ (o : Option ValueRange). 1 ≤ (unwrap_or_range o).start_inclusive) (sym (ap (λ (r : Rule). r.range) rule_is ∙ none)) (omega arith)

    has : HasNeeded (rows_in m) rule
    has required set none =
        let value = required_has_value c m p plain simple.globals negates k some_arg in_args (ap (λ (r : Rule). r.required) rule_is ∙ required)
        (ap (λ (r : Rule). r.action) rule_is ∙ set) (simple.args k some_arg in_args).delimiter (least none) unique named other in
        ap is_some (sym (first_value-rows (found_of m) rule.id)) ∙ ap (λ i. is_some (first_value (found_of m) i)) (sym id_is) ∙ value

  all_have : AllByRecursion (HasNeeded (rows_in m)) rules
  all_have = recursion_from_All (HasNeeded (rows_in m)) rules (All-from_get_or (HasNeeded (rows_in m)) rules no_rule has)

-- ---- the commands

module _ (names : OptionNames) where
  word_by : (rows : List Row) (id : Text) (f : Form) → HasNeeded rows (rule_by id (parser_for names f) f) → HasWordBy rows id f
  word_by rows id form.Word needed = needed refl refl refl
  word_by rows id form.Text _ = tt
  word_by rows id (form.Numbers low high) _ = tt
  word_by rows id form.Deps _ = tt
  word_by rows id form.Best _ = tt
  word_by rows id form.Flag _ = tt

  words_by : (rows : List Row) (arguments : List (Text × Form)) → AllByRecursion (HasNeeded rows) (map (rule_for names) arguments) → AllByRecursion (HasWord rows) arguments
  words_by rows [] all = tt
  words_by rows (a ∷ rest) all = (word_by rows a.0 a.1 all.0, words_by rows rest all.1)

  -- the command is the one of its name, has these rules, and none excludes another
  abbrev looked : Text × List (Text × Form) → Option (Text × List (Text × Form)) × List Rule × (Bool × Bool × Bool × Bool × Bool × Bool)
  looked c = (find (λ d. bytes_eq c.0 d.0) commands, (own names c).top.rules, judged (own names c))

  abbrev wanted : Text × List (Text × Form) → Option (Text × List (Text × Form)) × List Rule × (Bool × Bool × Bool × Bool × Bool × Bool)
  wanted c = (Some c, map (rule_for names) c.1, (true, true, true, false, true, true))

  each_looked : map looked commands ≡ map wanted commands
  each_looked = refl

  have : (c : Text × List (Text × Form)) → looked c ≡ wanted c → (command : Command) → app_of command ≡ own names c → (m : ArgMatches) → IsParsedFrom command m → HasWords c.0 (rows_in m)
  have c e command is m p =
      let all = all_have (own names c) (ap (λ j. j.2) e) command is m p in
      subst (λ o. MatchOption o ⊥ (λ d. AllByRecursion (HasWord (rows_in m)) d.1)) (sym (ap (λ j. j.0) e))
      (words_by (rows_in m) c.1 (subst (AllByRecursion (HasNeeded (rows_in m))) (ap (λ j. j.1) e) all))

  have_by : {E : Type 0} (c : Text × List (Text × Form)) → looked c ≡ wanted c → (made : Result Command E) → IfOk made (λ command. app_of command ≡ own names c)
      → (m : ArgMatches) → IsOkAnd made (λ command. IsParsedFrom command m) → HasWords c.0 (rows_in m)
  have_by c e (Ok command) is m p = have c e command is m p
  have_by c e (Err other) is m p = absurd p

-- the command with whose name the words begin has all words that it needs, if a parse of it succeeds
pub have_words : {E : Type 0} (names : OptionNames) (words : List Text) (found : (Text × List (Text × Form)) × List Text) → Some found ≡ command_and_rest words
    → (made : Result Command E) → IfOk made (λ command. app_of command ≡ own names found.0) → (m : ArgMatches) → IsOkAnd made (λ command. IsParsedFrom command m)
    → HasWords found.0.0 (rows_in m)
have_words names words found known = have_by names found.0 (same_of (looked names) (wanted names) (each_looked names) words found (sym known)).0
