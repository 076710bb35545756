-- What the command `dispatch` does: it verifies the program of a file, and dispatches its agents over an input and an
-- output; and its log, in a file of a store.
use Rattle.std.specs.Prelude.{◌≡◌, ℕ, ◌⊎◌, Bool, true, false, List, [], Option, Some, None, option_map, IfSome, min, Err, Result, if◌then◌else◌}
use Rattle.std.proofs.Common.{refl, ◌∙◌}
use Rattle.std.specs.{Borrow.Bor, Result.result_map_both}
use Rattle.fleet_text.specs.Sink.{SinkState}
use Rattle.fleet_model.specs.Program.{Program}
use Rattle.fleet_dispatch.specs.{Talk.Talk, Session.first_course, Replay.GoesOn, Replay.DispatchesAfter}
use Rattle.fleet_dispatch.specs.declared.{form.ReportForm.ReportForm, form.ReportForm.TheVariants.Numbered, form.ReportForm.TheVariants.Unnumbered, pace.Pace.Pace, run.DispatchReport.DispatchReport, fault.DispatchFault.DispatchFault, fault.DispatchFault.TheVariants.OtherLog}
use Rattle.fleet_args.specs.declared.commands.DispatchRequest.{DispatchRequest}
use Rattle.fleet_cli.specs.declared.{steps.Problem.Problem, fault.Fault.Fault}
use Rattle.fleet_cli.specs.Files.{Store, AreUnchanged, ChangesOnly, BeginsLog, IsOwnLog, IsWriteFault, bytes_of, whole_lines}
use Rattle.fleet_cli.specs.{Steps.AcceptsProgram, Steps.IsAcceptRefusal, Output.Around, Output.Declines}
use Rattle.fleet_cli.specs.declared.fault.Fault.TheVariants as f

-- what a log holds, if one is named and the store says it
abbrev pub log_in : Option Store → Option (Bor (List ℕ)) → Option (List ℕ)
log_in files None = None
log_in files (Some name) = bytes_of files name.now

-- .. of it the whole lines
abbrev pub lines_in : Option Store → Option (Bor (List ℕ)) → Option (List ℕ)
lines_in files name = option_map whole_lines (log_in files name)

-- every file but the log is as before
abbrev pub ChangesOnlyLog : Option Store → Option Store → Option (Bor (List ℕ)) → Type 0
ChangesOnlyLog files after None = AreUnchanged files after
ChangesOnlyLog files after (Some name) = ChangesOnly files after name.now

-- a log that holds this; all of it is handed on
abbrev pub log_state : Option (List ℕ) → Bool → SinkState
log_state bytes failed = record { taken = bytes; has_failed = failed; is_flushed = true }

-- from a log that held this to all that it holds now this was told, heard and logged
abbrev pub IsKeptAfter : Option (List ℕ) → (after : Option Store) → Option (Bor (List ℕ)) → ((log log' : SinkState) → ReportForm → Talk → Type 0) → ReportForm → Talk → Type 0
IsKeptAfter held after name talks form talk = (failed : Bool) × talks (log_state held false) (log_state (log_in after name) failed) form talk

-- the log could not be begun; or it is none behind which a dispatch may go on after these bytes, and every file is as
-- before
abbrev pub IsLogFault : (files after : Option Store) → Option (Bor (List ℕ)) → (past : List ℕ) → Fault → Type 0
IsLogFault files after None past fault = ⊥
IsLogFault files after (Some name) past fault = IsWriteFault name.now fault ⊎ ((fault ≡ f.Dispatch OtherLog) × BeginsLog files after name.now past false)

-- a store is as it is
pub log_self : (files : Option Store) (name : List ℕ) → ChangesOnly files files name
log_self None name = tt
log_self (Some files) name = λ n other. refl

-- what only changed the log in two stretches, one after the other, only changed it in both
pub log_longer : (a b c : Option Store) (name same : List ℕ) → same ≡ name → ChangesOnly a b name → ChangesOnly b c same → ChangesOnly a c name
log_longer None b c name same is h k = tt
log_longer (Some a) None c name same is h k = absurd h
log_longer (Some a) (Some b) None name same is h k = absurd k
log_longer (Some a) (Some b) (Some c) name same is h k = λ n other. k n (λ e. other (e ∙ is)) ∙ h n other

-- how the orders of a request are given
abbrev pub pace_of : DispatchRequest → Pace
pace_of r = record { form = if r.unnumbered then Unnumbered else Numbered; ahead = min r.ahead 255 }

-- 0 if all agents have arrived, or why the dispatch stopped
abbrev pub answer_of : Result DispatchReport DispatchFault → Result ℕ Fault
answer_of = result_map_both (λ report. 0) f.Dispatch

-- why nothing was told or heard: the reports of the past stopped the dispatch, or there was no memory for it, and every
-- file is as before; or the log could not be begun, or held something else
abbrev pub IsUntold : (files after : Option Store) → DispatchRequest → Program → (past : List ℕ) → Fault → Type 0
IsUntold files after r p past fault =
    ((stop : DispatchFault) × (fault ≡ f.Dispatch stop) × DispatchesAfter (first_course p (pace_of r)) past (λ talk. talk ≡ []) (Err stop) × AreUnchanged files after) ⊎ IsLogFault files after r.log past fault

-- The log held nothing, or the bytes after which the dispatch goes on, and the agents of the program were told and
-- heard, turn after turn, and what they reported was put behind its whole lines, until all had arrived or the dispatch
-- stopped; or nothing was told or heard
abbrev pub Leads : (files after : Option Store) → DispatchRequest → Program → (past : List ℕ) → (untold : Type 0) → ((log log' : SinkState) → ReportForm → Talk → Type 0) → Result ℕ Fault → Type 0
Leads files after r p past untold talks result =
    (IfSome (log_in files r.log) (IsOwnLog past) × (told : Result DispatchReport DispatchFault) × GoesOn (first_course p (pace_of r)) past (IsKeptAfter (lines_in files r.log) after r.log talks (pace_of r).form) told × (result ≡ answer_of told))
    ⊎ ((fault : Fault) × (result ≡ Err fault) × IsUntold files after r p past fault × untold)

-- What `dispatch` answers. The program is accepted, and its agents are led, and every file but the log is as before; or
-- it is refused, and nothing was told or heard
abbrev pub AnswersDispatch : Around → DispatchRequest → Problem → (out out' : SinkState) → Result ℕ Fault → Type 0
AnswersDispatch w r problem out out' result =
    AcceptsProgram problem (λ p chain. Leads w.files w.after r p problem.texts.log.items (w.unread × w.unwritten) w.talks result × ChangesOnlyLog w.files w.after r.log)
    ⊎ Declines w (IsAcceptRefusal problem) out out' result
