-- The commands, each with its arguments and with what it is asked for, and the command line that has them.
use Rattle.std.specs.Prelude.{◌≡◌, ℕ, true, List, [], ◌∷◌, IsSome, MatchOption, codes, find, fold, unwrap_or}
use Rattle.std.specs.{List.AllByRecursion, Str.bytes_eq}
use Rattle.clap.specs.Words.{App, Row, Text, new_app, with_subcommand}
use Rattle.fleet_args.specs.Arguments.{app_for}
use Rattle.fleet_args.specs.Values.{HasWord, IsText, IsTextIfUsed, IsNumberIfUsed, IsNumberOr, IsFlag, best_names, deps_names, named_by}
use Rattle.fleet_args.specs.declared.{arguments.Form.Form, arguments.OptionNames.OptionNames, commands.ProgramFor.ProgramFor, commands.Tasks.Tasks, commands.Tries.Tries, commands.Request.Request}
use Rattle.fleet_args.specs.declared.arguments.Form.TheVariants as form
use Rattle.fleet_model.specs.declared.limits.TheConstants.{MAX_MOVES, MAX_TRIES}
use Rattle.fleet_model.specs.declared.deps.Deps.TheVariants.{Last}
use Rattle.fleet_args.specs.declared.commands.Request.TheVariants as r

-- the command line before it has commands: its words do not begin with the program's name, it has a version, and one of
-- the commands is wanted
abbrev pub fleet_top : App
fleet_top = record (new_app (codes "fleet")) {
  top = record (new_app (codes "fleet")).top { no_binary_name = true; has_version = true; subcommand_required = true };
}

-- the command line with these commands after those that it has
abbrev pub with_commands : OptionNames → App → List (Text × List (Text × Form)) → App
with_commands names = fold (λ app c. with_subcommand app (app_for names c).top)

-- ---- the arguments, each by its name and its form: a word, an option with a text or a number, or a flag

abbrev pub word : Text → Text × Form
word name = (name, form.Word)

abbrev pub texts : Text → Text × Form
texts name = (name, form.Text)

abbrev pub numbers : Text → ℕ → ℕ → Text × Form
numbers name least most = (name, form.Numbers least most)

abbrev pub flag : Text → Text × Form
flag name = (name, form.Flag)

-- a map, a scenario, and what is asked for them
abbrev pub for_tasks : List (Text × Form) → List (Text × Form)
for_tasks asked = word (codes "map") ∷ word (codes "scen") ∷ asked

-- how many agents are taken
abbrev pub agents : Text × Form
agents = numbers (codes "agents") 0 65535

-- .. with a program
abbrev pub for_program : List (Text × Form) → List (Text × Form)
for_program asked = for_tasks (word (codes "program") ∷ asked)

-- how a plan is made
abbrev pub planned : List (Text × Form) → List (Text × Form)
planned asked =
    agents ∷ numbers (codes "horizon") 1 65535 ∷ numbers (codes "tries") 1 MAX_TRIES ∷ (codes "best", form.Best) ∷ asked

-- the commands in the order of help, each by its name and its arguments
abbrev pub commands : List (Text × List (Text × Form))
commands =
    (codes "instance", for_tasks (agents ∷ [])) ∷
    (codes "check", for_tasks (word (codes "plan") ∷ agents ∷ flag (codes "numbers") ∷ [])) ∷
    (codes "plan", for_tasks (planned [])) ∷
    (codes "compile", for_tasks (word (codes "plan") ∷ word (codes "out") ∷ agents ∷ (codes "deps", form.Deps) ∷ numbers (codes "dwell") 0 MAX_MOVES ∷ [])) ∷
    (codes "verify", for_program (agents ∷ [])) ∷
    (codes "run", for_program (agents ∷ texts (codes "holds") ∷ [])) ∷
    (codes "rehearse", word (codes "program") ∷ texts (codes "holds") ∷ []) ∷
    (codes "auto", for_tasks (planned ((codes "deps", form.Deps) ∷ texts (codes "holds") ∷ flag (codes "numbers") ∷ []))) ∷
    (codes "thin", for_program (word (codes "out") ∷ agents ∷ [])) ∷
    (codes "migrate", word (codes "program") ∷ word (codes "out") ∷ []) ∷
    (codes "list", word (codes "program") ∷ []) ∷
    (codes "dispatch", for_program (agents ∷ numbers (codes "ahead") 1 255 ∷ flag (codes "unnumbered") ∷ texts (codes "resume") ∷ texts (codes "log") ∷ [])) ∷
    (codes "times", for_program (agents ∷ texts (codes "costs") ∷ texts (codes "broken") ∷ [])) ∷
    (codes "rest", for_program (word (codes "reports") ∷ word (codes "scen_out") ∷ word (codes "program_out") ∷ agents ∷ texts (codes "without") ∷ texts (codes "map-out") ∷ texts (codes "others-out") ∷ [])) ∷
    []

-- the whole command line
abbrev pub fleet : OptionNames → App
fleet names = with_commands names fleet_top commands

-- the rows have a text for each word that the command of this name needs
abbrev pub HasWords : Text → List Row → Type 0
HasWords name rows = MatchOption (find (λ c. bytes_eq name c.0) commands) ⊥ (λ c. AllByRecursion (HasWord rows) c.1)

-- this is the name of a command about a program for tasks
abbrev pub IsProgramCommand : Text → Type 0
IsProgramCommand name =
    IsSome (find (bytes_eq name) (codes "verify" ∷ codes "run" ∷ codes "thin" ∷ codes "dispatch" ∷ codes "times" ∷ codes "rest" ∷ []))

-- a map, a scenario and how many of its agents are asked for
abbrev pub AsksTasks : List Row → Tasks → Type 0
AsksTasks rows t = IsText rows (codes "map") t.map × IsText rows (codes "scen") t.scen × IsNumberIfUsed rows (codes "agents") t.agents

-- the same with a program
abbrev pub AsksProgram : List Row → ProgramFor → Type 0
AsksProgram rows p = AsksTasks rows p.tasks × IsText rows (codes "program") p.program

-- how many orders are tried, and what makes a plan the best
abbrev pub AsksTries : List Row → Tries → Type 0
AsksTries rows tries = IsNumberOr 1 rows (codes "tries") tries.count × (tries.best ≡ named_by best_names rows (codes "best"))

-- the command of this name, with these rows of its arguments, asks this
abbrev pub AsksCommand : Text → List Row → Request → Type 0
AsksCommand name rows (r.Instance q) = (name ≡ codes "instance") × AsksTasks rows q
AsksCommand name rows (r.Check q) =
    (name ≡ codes "check") × AsksTasks rows q.tasks × IsText rows (codes "plan") q.plan × IsFlag rows (codes "numbers") q.numbers
AsksCommand name rows (r.Plan q) =
    (name ≡ codes "plan") × AsksTasks rows q.tasks × IsNumberOr 1024 rows (codes "horizon") q.horizon × AsksTries rows q.tries
AsksCommand name rows (r.Compile q) =
    (name ≡ codes "compile") × AsksTasks rows q.tasks × IsText rows (codes "plan") q.plan × IsText rows (codes "out") q.out
    × (q.deps ≡ unwrap_or (named_by deps_names rows (codes "deps")) Last) × IsNumberOr 0 rows (codes "dwell") q.dwell
AsksCommand name rows (r.Verify q) = (name ≡ codes "verify") × AsksProgram rows q
AsksCommand name rows (r.Run q) = (name ≡ codes "run") × AsksProgram rows q.subject × IsTextIfUsed rows (codes "holds") q.holds
AsksCommand name rows (r.Rehearse q) = (name ≡ codes "rehearse") × IsText rows (codes "program") q.program × IsTextIfUsed rows (codes "holds") q.holds
AsksCommand name rows (r.Auto q) =
    (name ≡ codes "auto") × AsksTasks rows q.tasks × IsNumberOr 1024 rows (codes "horizon") q.horizon × AsksTries rows q.tries
    × (q.deps ≡ unwrap_or (named_by deps_names rows (codes "deps")) Last) × IsTextIfUsed rows (codes "holds") q.holds × IsFlag rows (codes "numbers") q.numbers
AsksCommand name rows (r.Thin q) = (name ≡ codes "thin") × AsksProgram rows q.subject × IsText rows (codes "out") q.out
AsksCommand name rows (r.Migrate q) = (name ≡ codes "migrate") × IsText rows (codes "program") q.program × IsText rows (codes "out") q.out
AsksCommand name rows (r.List q) = (name ≡ codes "list") × IsText rows (codes "program") q.program
AsksCommand name rows (r.Dispatch q) =
    (name ≡ codes "dispatch") × AsksProgram rows q.subject × IsNumberOr 1 rows (codes "ahead") q.ahead
    × IsFlag rows (codes "unnumbered") q.unnumbered × IsTextIfUsed rows (codes "resume") q.resume
    × IsTextIfUsed rows (codes "log") q.log
AsksCommand name rows (r.Times q) =
    (name ≡ codes "times") × AsksProgram rows q.subject × IsTextIfUsed rows (codes "costs") q.costs
    × IsTextIfUsed rows (codes "broken") q.broken
AsksCommand name rows (r.Rest q) =
    (name ≡ codes "rest") × AsksProgram rows q.subject × IsText rows (codes "reports") q.reports × IsText rows (codes "scen_out") q.scen_out
    × IsText rows (codes "program_out") q.program_out × IsTextIfUsed rows (codes "without") q.without
    × IsTextIfUsed rows (codes "map-out") q.map_out × IsTextIfUsed rows (codes "others-out") q.others_out
