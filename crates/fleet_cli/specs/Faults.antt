-- Refusals of the program, with the line and the status of each.
use Rattle.fleet_cli.specs.declared.fault.Fault.{Fault}
use Rattle.std.specs.Prelude.{ℕ, Bool, true, List, [], ◌∷◌, if◌then◌else◌, codes}
use Rattle.fleet_text.specs.{Words.line_text, Refusals.memory_words}
use Rattle.fleet_grid.specs.RefusalWords.{map_words, is_map_failure}
use Rattle.fleet_scen.specs.RefusalWords.{scen_words, is_scen_failure}
use Rattle.fleet_plan.specs.RefusalWords.{text_words, is_text_failure, check_words, is_check_failure}
use Rattle.fleet_search.specs.RefusalWords.{search_words, is_search_failure}
use Rattle.fleet_code.specs.RefusalWords.{hex_words, is_hex_failure, load_words, is_load_failure}
use Rattle.fleet_adg.specs.RefusalWords.{compile_words, is_compile_failure}
use Rattle.fleet_verify.specs.RefusalWords.{verify_words, is_verify_failure}
use Rattle.fleet_run.specs.RefusalWords.{run_words, is_run_failure}
use Rattle.fleet_dispatch.specs.RefusalWords.{dispatch_words, is_dispatch_failure, times_words, is_times_failure}
use Rattle.fleet_cli.specs.declared.fault.Fault.TheVariants as f

-- the words of the line of a refusal
abbrev pub words_of : Fault → List (List ℕ)
words_of (f.Map fault) = map_words fault
words_of (f.Scen fault) = scen_words fault
words_of (f.Text fault) = text_words fault
words_of (f.Check fault) = check_words fault
words_of (f.Search stop) = search_words stop
words_of (f.Hex fault) = hex_words fault
words_of (f.Load fault) = load_words fault
words_of (f.Compile fault) = compile_words fault
words_of (f.Verify fault) = verify_words fault
words_of (f.Run fault) = run_words fault
words_of (f.Dispatch fault) = dispatch_words fault
words_of (f.Times fault) = times_words fault
words_of f.Memory = memory_words
words_of (f.File name) = codes "file" ∷ name.now ∷ []

-- the line of a refusal
abbrev pub refusal_line : Fault → List ℕ
refusal_line fault = line_text (words_of fault)

-- whether memory, a file, the source or the sink failed
abbrev pub is_failure_of : Fault → Bool
is_failure_of (f.Map fault) = is_map_failure fault
is_failure_of (f.Scen fault) = is_scen_failure fault
is_failure_of (f.Text fault) = is_text_failure fault
is_failure_of (f.Check fault) = is_check_failure fault
is_failure_of (f.Search stop) = is_search_failure stop
is_failure_of (f.Hex fault) = is_hex_failure fault
is_failure_of (f.Load fault) = is_load_failure fault
is_failure_of (f.Compile fault) = is_compile_failure fault
is_failure_of (f.Verify fault) = is_verify_failure fault
is_failure_of (f.Run fault) = is_run_failure fault
is_failure_of (f.Dispatch fault) = is_dispatch_failure fault
is_failure_of (f.Times fault) = is_times_failure fault
is_failure_of f.Memory = true
is_failure_of (f.File _) = true

-- 3 if memory, a file, the source or the sink failed, and 1 for every other refusal
abbrev pub status_of : Fault → ℕ
status_of fault = if is_failure_of fault then 3 else 1
