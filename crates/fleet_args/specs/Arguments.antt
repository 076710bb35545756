-- The words and options of the commands, as what a parse reads of them.
use Rattle.std.specs.Prelude.{◌≡◌, true, false, List, Some, fold, map, pos}
use Rattle.clap.specs.{Simple.on_top, Words.App, Words.Rule, Words.Text, Words.app_of, Words.new_app, Words.new_rule, Words.with_rule}
use Rattle.clap.specs.declared.{builder.Command.TheViews.out-Command as fields_of, builder.Command.Command, builder.action.ArgAction.TheVariants.Set, builder.action.ArgAction.TheVariants.SetTrue, builder.ValueParser.ValueParser}
use Rattle.clap.specs.declared.builder.ValueParser.TheVariants as parser
use Rattle.fleet_args.specs.declared.{arguments.Argument.Argument, arguments.CommandText.CommandText, arguments.OptionNames.OptionNames, arguments.Form.Form}
use Rattle.fleet_args.specs.declared.arguments.Form.TheVariants as form

-- what is said of an argument: its name and its form
abbrev pub told : Argument → Text × Form
told argument = (argument.name.now, argument.form)

-- what is said of a command: its name and its arguments
abbrev pub said : CommandText → Text × List (Text × Form)
said c = (c.name.now, map told c.arguments.now)

-- how the values of an argument of this form are read
abbrev pub parser_for : OptionNames → Form → ValueParser
parser_for names (form.Numbers least most) = parser.Signed (pos least) (pos most)
parser_for names form.Deps = parser.Names names.deps
parser_for names form.Best = parser.Names names.best
parser_for names form.Flag = parser.Bool
parser_for names _ = parser.String

-- the rule of an argument of this name and form, whose values are read so: a word, a flag `--NAME`, or an option
-- `--NAME` with a value
abbrev pub rule_by : Text → ValueParser → Form → Rule
rule_by name reads form.Word = record (new_rule name) { parser = Some reads; required = true; action = Some Set; value_names = 1 }
rule_by name reads form.Flag = record (new_rule name) { parser = Some reads; long = Some name; action = Some SetTrue }
rule_by name reads _ = record (new_rule name) { parser = Some reads; long = Some name; action = Some Set; value_names = 1 }

-- the rule of an argument
abbrev pub rule_for : OptionNames → Text × Form → Rule
rule_for names argument = rule_by argument.0 (parser_for names argument.1) argument.1

-- a command with its arguments, one after another
abbrev pub app_for : OptionNames → Text × List (Text × Form) → App
app_for names c = fold with_rule (new_app c.0) (map (rule_for names) c.1)

-- a command by itself: its words begin after its name
abbrev pub own : OptionNames → Text × List (Text × Form) → App
own names c = on_top (λ shape. record shape { no_binary_name = true }) (app_for names c)

-- the command is this one, and no argument of it reaches into others
abbrev pub IsApp : App → Command → Type 0
IsApp app command = (app_of command ≡ app) × ((fields_of command).has_globals ≡ false)
