-- What the program does for its words.
use Rattle.std.specs.Prelude.{◌≡◌, ◌≢◌, ℕ, List, [], ◌∷◌, ◌⊎◌, Option, Some, None, Result, Ok, Err, codes, string_bytes}
use Rattle.std.specs.Borrow.{Bor}
use Rattle.clap.specs.Words.{Text}
use Rattle.fleet_args.specs.Request.{ReadsFleet}
use Rattle.fleet_args.specs.declared.{commands.ProgramFor.ProgramFor, commands.Request.Request, commands.Tasks.Tasks, request.WordStop.WordStop}
use Rattle.fleet_args.specs.declared.commands.Request.TheVariants as r
use Rattle.fleet_args.specs.declared.request.WordStop.TheVariants as w
use Rattle.fleet_cli.specs.{Files.Store, Files.AreUnchanged, Files.given_names, Files.IsUnread, Files.AreTexts, Output.Finishes, Output.Prints, Output.Declines}
use Rattle.fleet_text.specs.{Sink.Receives, Sink.FailsAfter, Sink.SinkState, Sink.IsUnwritten, Sink.IsDelivered, Words.line_text}
pub use Rattle.fleet_cli.specs.Output.{Around, around}
use Rattle.fleet_cli.specs.{Faults.refusal_line, Steps.IsProblemOf, Steps.IsProblemRefusal}
use Rattle.fleet_cli.specs.declared.{files.FileNames.FileNames, files.FileTexts.FileTexts, steps.Problem.Problem, fault.Fault.Fault}
use Rattle.fleet_cli.specs.RunCommands.{RunsHex, RehearsesBytes, AnswersRun, AnswersAuto}
use Rattle.fleet_cli.specs.PrintCommands.{instance_text, AnswersCheck, AnswersPlan, AnswersVerify, AnswersList, AnswersTimes}
use Rattle.fleet_cli.specs.WriteCommands.{AnswersCompile, AnswersThin, AnswersMigrate, AnswersRest}
use Rattle.fleet_cli.specs.DispatchCommand.{AnswersDispatch}
use Rattle.fleet_cli.specs.declared.fault.Fault.TheVariants as f

-- the files that a request's command reads: those of its tasks, if it has some, what it is about, the holds (of `times`
-- the costs) and the log
abbrev pub names_for : Option Tasks → (subject holds log : Option (Bor (List ℕ))) → FileNames
names_for tasks subject holds log = record { tasks = tasks; subject = subject; holds = holds; log = log }

-- the files of a request about a program for tasks
abbrev pub names_of_program : ProgramFor → (holds log : Option (Bor (List ℕ))) → FileNames
names_of_program p holds log = names_for (Some p.tasks) (Some p.program) holds log

-- the files that each command reads, those of the holds and of the log last
abbrev pub names_of : Request → FileNames
names_of (r.Instance q) = names_for (Some q) None None None
names_of (r.Check q) = names_for (Some q.tasks) (Some q.plan) None None
names_of (r.Plan q) = names_for (Some q.tasks) None None None
names_of (r.Compile q) = names_for (Some q.tasks) (Some q.plan) None None
names_of (r.Verify q) = names_of_program q None None
names_of (r.Run q) = names_of_program q.subject q.holds None
names_of (r.Rehearse q) = names_for None (Some q.program) q.holds None
names_of (r.Auto q) = names_for (Some q.tasks) None q.holds None
names_of (r.Thin q) = names_of_program q.subject None None
names_of (r.Migrate q) = names_for None (Some q.program) None None
names_of (r.List q) = names_for None (Some q.program) None None
names_of (r.Dispatch q) = names_of_program q.subject None q.resume
names_of (r.Times q) = names_of_program q.subject q.costs None
names_of (r.Rest q) = names_of_program q.subject None (Some q.reports)

-- a command answers so, and leaves every file as before and the input unread
abbrev pub Looks : Around → ((out out' : SinkState) → Result ℕ Fault → Type 0) → (out out' : SinkState) → Result ℕ Fault → Type 0
Looks w Answers out out' result = Answers out out' result × AreUnchanged w.files w.after × w.unread

-- a command that writes files answers so, and leaves the input unread
abbrev pub Writes : Around → ((files after : Option Store) → (out out' : SinkState) → Result ℕ Fault → Type 0) → (out out' : SinkState) → Result ℕ Fault → Type 0
Writes w Answers out out' result = Answers w.files w.after out out' result × w.unread

-- what each command about tasks answers for the problem for which their texts stand; `dispatch` tells robots over the
-- output, hears them by the input, and logs what they report
abbrev pub AnswersProblem : Around → Request → Problem → (out out' : SinkState) → Result ℕ Fault → Type 0
AnswersProblem w (r.Instance q) problem out out' result = Looks w (Prints (instance_text problem.grid problem.instance)) out out' result
AnswersProblem w (r.Check q) problem out out' result = Looks w (AnswersCheck q problem) out out' result
AnswersProblem w (r.Plan q) problem out out' result = Looks w (AnswersPlan q problem) out out' result
AnswersProblem w (r.Compile q) problem out out' result = Writes w (λ files after. AnswersCompile files after q problem) out out' result
AnswersProblem w (r.Verify q) problem out out' result = Looks w (AnswersVerify problem) out out' result
AnswersProblem w (r.Run q) problem out out' result = Looks w (AnswersRun problem) out out' result
AnswersProblem w (r.Auto q) problem out out' result = Looks w (AnswersAuto q problem) out out' result
AnswersProblem w (r.Thin q) problem out out' result = Writes w (λ files after. AnswersThin files after q problem) out out' result
AnswersProblem w (r.Dispatch q) problem out out' result = AnswersDispatch w q problem out out' result
AnswersProblem w (r.Times q) problem out out' result = Looks w (AnswersTimes q problem) out out' result
AnswersProblem w (r.Rest q) problem out out' result = Writes w (λ files after. AnswersRest files after q problem) out out' result
AnswersProblem w _ problem out out' result = ⊥

-- what each command about no tasks answers for the texts of its files
abbrev pub AnswersTexts : (files after : Option Store) → Request → FileTexts → (out out' : SinkState) → Result ℕ Fault → Type 0
AnswersTexts files after (r.Rehearse q) texts out out' result = RehearsesBytes texts.subject.items texts.holds.items out out' result × AreUnchanged files after
AnswersTexts files after (r.Migrate q) texts out out' result = AnswersMigrate files after q texts out out' result
AnswersTexts files after (r.List q) texts out out' result = AnswersList texts out out' result × AreUnchanged files after
AnswersTexts files after _ texts out out' result = ⊥

-- What a command answers for the texts of its files. Those of its tasks stand for a problem, and this is the answer for
-- it, or they are refused; or it is about no tasks, and leaves the input unread
abbrev pub AnswersRequest : Around → Request → FileTexts → Option Tasks → (out out' : SinkState) → Result ℕ Fault → Type 0
AnswersRequest w request texts None out out' result = AnswersTexts w.files w.after request texts out out' result × w.unread
AnswersRequest w request texts (Some tasks) out out' result =
    ((problem : Problem) × IsProblemOf texts tasks.agents problem × AnswersProblem w request problem out out' result)
    ⊎ Declines w (IsProblemRefusal texts tasks.agents) out out' result

-- What a request is answered. Its files were read, which leaves every file as before, and this is the answer for their
-- texts; or one of them was not read, which is the refusal
abbrev pub DoesRequest : Around → Request → (out out' : SinkState) → Result ℕ Fault → Type 0
DoesRequest w request out out' result =
    ((texts : FileTexts) × (read : Option Store) × AreTexts w.files (names_of request) texts × AreUnchanged w.files read
    × AnswersRequest (record w { files = read }) request texts (names_of request).tasks out out' result)
    ⊎ Declines w (IsUnread w.files (given_names (names_of request))) out out' result

-- the request was done, and its status is answered; or a refusal was reported, and the refusal's status is answered:
-- the other output took that one line, or failed within it
abbrev pub RunsRequest : Around → Request → (out out' err err' : SinkState) → ℕ → Type 0
RunsRequest w request out out' err err' status = (done : Result ℕ Fault) × DoesRequest w request out out' done × Finishes done err err' status

-- it was reported why the words are no request: by help on the output, by usage on the other
abbrev pub StopsAtWords : WordStop → (out out' err err' : SinkState) → ℕ → Type 0
StopsAtWords w.OutOfMemory out out' err err' status = (status ≡ 3) × Receives err err' (refusal_line f.Memory) × IsUnwritten out out'
StopsAtWords (w.Usage text) out out' err err' status = (status ≡ 2) × Receives err err' (string_bytes text) × IsUnwritten out out'
StopsAtWords (w.Help text) out out' err err' status =
    ((status ≡ 0) × IsDelivered out out' (string_bytes text) × IsUnwritten err err')
    ⊎ ((status ≡ 3) × FailsAfter out out' (string_bytes text)
    × Receives err err' (line_text (codes "file" ∷ codes "-" ∷ [])))

-- without words the run of the input; else the command that the words ask for, or a stop at words that the command line
-- does not take. Every file is as before, but for the files OUT of `compile`, `thin`, `migrate` and `rest`, and the log
-- of `dispatch`. The input is read whole without words, and else by `dispatch` alone, whose robots report by it
abbrev pub RunsCommand : List Text → Option (List ℕ) → Around → (out out' err err' : SinkState) → ℕ → Type 0
RunsCommand words input w out out' err err' status =
    ((words ≡ []) × RunsHex input out out' err err' status × AreUnchanged w.files w.after)
    ⊎ ((words ≢ []) × (request : Request) × ReadsFleet words (Ok request) × RunsRequest w request out out' err err' status)
    ⊎ ((words ≢ []) × (stop : WordStop) × ReadsFleet words (Err stop) × StopsAtWords stop out out' err err' status × AreUnchanged w.files w.after × w.unread)
