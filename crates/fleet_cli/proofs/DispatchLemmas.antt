-- A dispatch that keeps its reports in a file of a store.
use Rattle.std.proofs.Common.{◌≡◌, ◌∙◌, ℕ, Bool, false, List, Option, None, Some, Result, refl}
use Rattle.std.specs.Borrow.{Bor}
use Rattle.fleet_text.specs.Sink.{SinkState}
use Rattle.fleet_dispatch.specs.{Talk.Talk, Dispatch.Course, Dispatch.Left, Dispatch.Dispatches, declared.form.ReportForm.ReportForm}
use Rattle.fleet_dispatch.specs.declared.{run.DispatchReport.DispatchReport, fault.DispatchFault.DispatchFault}
use Rattle.fleet_dispatch.proofs.Said.{dispatches_more}
use Rattle.fleet_cli.specs.{Files.Store, Files.bytes_of}
use Rattle.fleet_cli.specs.DispatchCommand.{ChangesOnlyLog, IsKeptAfter, log_state, log_self, log_longer}

-- every file but the log is as before, in two stretches, one after the other
pub others_on : (a b c : Option Store) (name : Option (Bor (List ℕ))) → ChangesOnlyLog a b name → ChangesOnlyLog b c name → ChangesOnlyLog a c name
others_on a b c None h k = k ∙ h
others_on a b c (Some name) h k = log_longer a b c name.now name.now refl h k

-- .. and while nothing happens
pub others_self : (files : Option Store) (name : Option (Bor (List ℕ))) → ChangesOnlyLog files files name
others_self files None = refl
others_self files (Some name) = log_self files name.now

-- what a log said in the named file
pub kept : (d : Course) (left : Left) (talks : (log log' : SinkState) → ReportForm → Talk → Type 0) (form : ReportForm) (told : Result DispatchReport DispatchFault)
    (held : Option (List ℕ)) (after : Option Store) (name : Bor (List ℕ)) (last : SinkState) (failed : Bool) → last ≡ log_state (bytes_of after name.now) failed
    → Dispatches d (talks (log_state held false) last form) left told → Dispatches d (IsKeptAfter held after (Some name) talks form) left told
kept d left talks form told held after name last failed ended h = dispatches_more _ (IsKeptAfter held after (Some name) talks form) (λ talk said. (failed, said)) d left told (rw ended at h)
