-- What the commands `run`, `auto` and `rehearse` do, and the program without words: a run, and the flush of its sink.
use Rattle.std.specs.Prelude.{◌≡◌, true, false, Result, Ok, Err, ◌⊎◌, ℕ, List, Option, None, Bool, [], ◌∷◌, codes, length, ◌≢◌, ◌≤◌, IfSome}
use Rattle.std.specs.{Io.KnownBytes.Keeps, Result.result_map_both}
use Rattle.fleet_model.specs.{Program.Program, declared.task.Task.Task, declared.deps.Deps.Deps}
use Rattle.fleet_text.specs.Sink.{SinkState, IsWorking, HasFailed, IsUnwritten}
use Rattle.fleet_run.specs.{Source.SourceState, Rehearsal.Rehearses, Trace.WritesTrace, Trace.Traces, Trace.StopsTrace, Trace.hold_source}
use Rattle.fleet_run.specs.declared.{run.RunFault.RunFault, run.RunFault.TheVariants.Write, run.Report.Report}
use Rattle.fleet_args.specs.declared.{commands.Tries.Tries, commands.AutoRequest.AutoRequest}
use Rattle.fleet_cli.specs.declared.{fault.Fault.Fault, steps.PlanNumbers.PlanNumbers, steps.Problem.Problem, fault.AutoFault.AutoFault, files.TheConstants.MAX_BYTES}
use Rattle.fleet_cli.specs.Steps.{AcceptsProgram, AreTextsOf, IsAcceptRefusal, IsMadeFor, IsMakingRefusal, IsLoadRefusal}
use Rattle.fleet_cli.specs.declared.fault.Fault.TheVariants as f
use Rattle.fleet_grid.specs.{Ground.Ground, MapText.IsMapText, MapText.IsFirstMapFault}
use Rattle.fleet_verify.specs.Parts.{IsAcceptedFor}
use Rattle.fleet_cli.specs.declared.fault.AutoFault.TheVariants as a
use Rattle.fleet_cli.specs.Output.{count_lines, Refuses, Follow, Prints, end_status, Finishes}
use Rattle.fleet_scen.specs.ScenText.{IsFirstScenFault}
use Rattle.fleet_code.specs.{Hex.bytes_of, Spelling.Spells}
use Rattle.fleet_code.specs.declared.fault.HexFault.TheVariants as h

-- The answer of a run after the flush. It is the run's own, and the sink has handed on all, unless it had failed; or
-- the sink could not hand on what it took, and that is a failed write.
abbrev pub FlushesRun : {T : Type 0} → (out out' : SinkState) → (ran answer : Result T RunFault) → Type 0
FlushesRun out out' ran answer =
    Keeps out.taken out'.taken
    × (((answer ≡ ran) × (out'.has_failed ≡ out.has_failed) × (IsWorking out' → out'.is_flushed ≡ true))
    ⊎ ((answer ≡ Err Write) × IsWorking out × HasFailed out'))

-- a run wrote to the sink and ended so, the sink was flushed, and the status of the answer after that, or its fault, is
-- answered
abbrev pub Ends : {T : Type 0} → ((out' : SinkState) → Result T RunFault → Type 0) → (T → ℕ) → (out' : SinkState) → Result ℕ Fault → Type 0
Ends {T} Ran status out' result =
    (mid : SinkState) × (ran answer : Result T RunFault) × Ran mid ran × FlushesRun mid out' ran answer × (result ≡ result_map_both status f.Run answer)

-- the program was run under the holds, and its trace written; of a run that is done 0 is answered
abbrev pub Runs : Program → ℕ → (held : List ℕ) → (out out' : SinkState) → Result ℕ Fault → Type 0
Runs p chain held out = Ends (Traces p chain held out) (λ report. 0)

-- what `run` answers
abbrev pub AnswersRun : Problem → (out out' : SinkState) → Result ℕ Fault → Type 0
AnswersRun problem out out' result =
    AcceptsProgram problem (λ p chain. Runs p chain problem.texts.holds.items out out' result) ⊎ Refuses (IsAcceptRefusal problem) out out' result

-- The program of the plan that is made for the ground and the tasks, which has these numbers, is accepted for them,
-- with a longest chain of so many actions; and this holds of it
abbrev pub MakesProgram : Ground → List Task → ℕ → Tries → Deps → (PlanNumbers → Program → ℕ → Type 0) → Type 0
MakesProgram g tasks horizon tries deps Holds =
    (numbers : PlanNumbers) × (program : Program) × (chain : ℕ) × IsMadeFor g tasks horizon tries deps numbers program × IsAcceptedFor g tasks program chain
    × Holds numbers program chain

-- the texts stand for a map and for tasks, of which this holds
abbrev pub ReadsTexts : (map scen : List ℕ) → Option ℕ → (Ground → List Task → Type 0) → Type 0
ReadsTexts map scen asked Holds = (g : Ground) × (tasks : List Task) × AreTextsOf map scen asked g tasks × Holds g tasks

-- one order is tried, that of the agents' numbers
abbrev pub one_try : Tries
one_try = record { count = 1; best = None }

-- The trace of the program that is made of the texts was written under the holds, with the plan of that order, and the
-- report has its numbers. Or the refusal is that of the first step that refuses: the first fault of the map's text, or
-- of the scenario's on that map; or an agent is left without a path by those before it; or the agents of the plan make
-- too many moves; or the run of the program stops. Memory may run out in each step before the run, and until the run
-- nothing is written
abbrev pub AutoRuns : (map scen : List ℕ) → Option ℕ → ℕ → Deps → List ℕ → (out out' : SinkState) → Result Report AutoFault → Type 0
AutoRuns map scen asked horizon deps held out out' (Ok r) =
    ReadsTexts map scen asked (λ g tasks. MakesProgram g tasks horizon one_try deps (λ numbers p chain. WritesTrace p chain held out out' r))
AutoRuns map scen asked horizon deps held out out' (Err a.OutOfMemory) = IsUnwritten out out'
AutoRuns map scen asked horizon deps held out out' (Err (a.Map fault)) = IsFirstMapFault map fault × IsUnwritten out out'
AutoRuns map scen asked horizon deps held out out' (Err (a.Scen fault)) = (g : Ground) × IsMapText map g × IsFirstScenFault scen g asked fault × IsUnwritten out out'
AutoRuns map scen asked horizon deps held out out' (Err (a.Run fault)) =
    ReadsTexts map scen asked (λ g tasks. MakesProgram g tasks horizon one_try deps (λ numbers p chain. StopsTrace p chain held out out' fault))
AutoRuns map scen asked horizon deps held out out' (Err (a.Plan stop)) =
    ReadsTexts map scen asked (λ g tasks. IsMakingRefusal g tasks horizon one_try deps (f.Search stop) × IsUnwritten out out')
AutoRuns map scen asked horizon deps held out out' (Err (a.Compile fault)) =
    ReadsTexts map scen asked (λ g tasks. IsMakingRefusal g tasks horizon one_try deps (f.Compile fault) × IsUnwritten out out')

-- how many orders were tried for the plan, its steps and its sum of costs, each with its number, are printed, if they
-- are asked for
abbrev pub TellsNumbers : Bool → PlanNumbers → (out out' : SinkState) → Result ℕ Fault → Type 0
TellsNumbers false n out out' result = (out' ≡ out) × (result ≡ Ok 0)
TellsNumbers true n out out' result = Prints (count_lines ((codes "tries", n.tried) ∷ (codes "steps", n.steps) ∷ (codes "cost", n.cost) ∷ [])) out out' result

-- what `auto` answers
abbrev pub AnswersAuto : AutoRequest → Problem → (out out' : SinkState) → Result ℕ Fault → Type 0
AnswersAuto r problem out out' result =
    MakesProgram problem.grid problem.instance r.horizon r.tries r.deps
    (λ numbers p chain. Follow (Runs p chain problem.texts.holds.items) (TellsNumbers r.numbers numbers) out out' result)
    ⊎ Refuses (IsMakingRefusal problem.grid problem.instance r.horizon r.tries r.deps) out out' result

-- What `rehearse` answers. The bytes spell a program, which was rehearsed under the holds for which the other bytes
-- stand, and the status says how it ended; or they spell none
abbrev pub RehearsesBytes : (bytes held : List ℕ) → (out out' : SinkState) → Result ℕ Fault → Type 0
RehearsesBytes bytes held out out' result =
    ((p : Program) × (source : SourceState) × Spells bytes p × Ends (Rehearses p (hold_source p held) source out) (λ r. end_status r.end) out' result)
    ⊎ Refuses (IsLoadRefusal bytes) out out' result

-- the text is all that the input had, if the input says it, and is no longer than a text that is read
pub record IsTextOf (input : Option (List ℕ)) (text : List ℕ) : Type 0 where
  pub whole : IfSome input (λ rest. text ≡ rest)
  pub within : length text ≤ MAX_BYTES

-- the input cannot be read, or this is the first fault of its text
abbrev pub IsInputRefusal : Option (List ℕ) → Fault → Type 0
IsInputRefusal input (f.Hex fault) = (text : List ℕ) × IsTextOf input text × (fault ≢ h.OutOfMemory → bytes_of text ≡ Err fault)
IsInputRefusal input (f.File name) = name.now ≡ codes "-"
IsInputRefusal input f.Memory = Unit {0}
IsInputRefusal input _ = ⊥

-- what the run without words answers: the program of the bytes for which the text of the input stands in hexadecimal is
-- rehearsed, with nobody held
abbrev pub AnswersHex : Option (List ℕ) → (out out' : SinkState) → Result ℕ Fault → Type 0
AnswersHex input out out' result =
    ((text bytes : List ℕ) × IsTextOf input text × (bytes_of text ≡ Ok bytes) × RehearsesBytes bytes [] out out' result) ⊎ Refuses (IsInputRefusal input) out out' result

-- 0 if the rehearsal was written and ends finished, 1 if it was written and ends stuck, and else the status of a
-- refusal that was reported: the other output took that one line, or failed within it
abbrev pub RunsHex : Option (List ℕ) → (out out' err err' : SinkState) → ℕ → Type 0
RunsHex input out out' err err' status = (done : Result ℕ Fault) × AnswersHex input out out' done × Finishes done err err' status
