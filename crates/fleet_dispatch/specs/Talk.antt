-- What is said to a floor of robots and heard from it, in turn.
use Rattle.std.specs.Prelude.{ℕ, ◌≤◌, List, [], ◌∷◌, length, take, Option, Some, None, Result, Ok, Err}
use Rattle.fleet_text.specs.Sink.{SinkState}
use Rattle.fleet_dispatch.specs.declared.floor.HearFault.{HearFault}
use Rattle.fleet_dispatch.specs.declared.floor.HearFault.TheVariants.{Form, Broken}
use Rattle.fleet_dispatch.specs.declared.form.ReportForm.{ReportForm}
use Rattle.fleet_dispatch.specs.declared.report_text.LineKind.{LineKind}
use Rattle.fleet_dispatch.specs.declared.report_text.LineKind.TheVariants.{Report, Question}
use Rattle.fleet_dispatch.specs.Report.{Words}

-- one thing that was said or heard
pub data Turn : Type 0 where
  Told : List ℕ → Turn  -- bytes that were handed on
  Cut : List ℕ → Turn  -- a front of bytes, after which nothing more can be said
  Heard : Words → Turn  -- a report, by what its words say
  Asked : Turn  -- the question where the agents are
  Logged : List ℕ → Turn  -- bytes that the log took, and handed on
  Unlogged : List ℕ → Turn  -- a front of bytes, after which the log takes no more
  Misheard : Turn  -- a line that is no report
  NoMore : Turn  -- there is no further line
  Unheard : Turn  -- a line cannot be heard

-- what was said and heard, in turn
abbrev pub Talk : Type 0
Talk = List Turn

-- All of the bytes were handed on, or a front of them was taken and nothing more can be said
abbrev pub Tells : {T E : Type 0} → (talks : Talk → Type 0) (works : Type 0) → Result T E → List ℕ → Type 0
Tells talks works (Ok _) bytes = talks (Told bytes ∷ []) × works
Tells talks works (Err _) bytes = (k : ℕ) × (k ≤ length bytes) × talks (Cut (take k bytes) ∷ [])

-- All of the bytes were logged, or a front of them was and the log takes no more
abbrev pub Logs : {T E : Type 0} → (talks : Talk → Type 0) (works : Type 0) → Result T E → List ℕ → Type 0
Logs talks works (Ok _) bytes = talks (Logged bytes ∷ []) × works
Logs talks works (Err _) bytes = (k : ℕ) × (k ≤ length bytes) × talks (Unlogged (take k bytes) ∷ [])

-- A report was heard, with these words, or the question; or there was none, or no report, or nothing could be heard
abbrev pub Hears : (talks : Talk → Type 0) (works : Type 0) → Result (Option LineKind) HearFault → Words → Type 0
Hears talks works (Ok (Some Report)) words = talks (Heard words ∷ []) × works
Hears talks works (Ok (Some Question)) words = talks (Asked ∷ []) × works
Hears talks works (Ok None) words = talks (NoMore ∷ [])
Hears talks works (Err Form) words = talks (Misheard ∷ [])
Hears talks works (Err Broken) words = talks (Unheard ∷ [])

-- from the first input, output and log to the second ones this was told, heard and logged: nothing was read ahead of
-- the input at first, and some bytes at last
abbrev pub IsLogged : {R O : Type 0} → (talks : ReportForm → R → List ℕ → O → SinkState → R → List ℕ → O → SinkState → Talk → Type 0) → (input : R) (out : O) (input' : R) (out' : O)
    → (log log' : SinkState) → ReportForm → Talk → Type 0
IsLogged talks input out input' out' log log' form talk = (ahead : List ℕ) × talks form input [] out log input' ahead out' log' talk

-- .. whatever the log
abbrev pub IsSaid : {R O : Type 0} → (talks : ReportForm → R → List ℕ → O → SinkState → R → List ℕ → O → SinkState → Talk → Type 0) → (input : R) (out : O) (input' : R) (out' : O)
    → ReportForm → Talk → Type 0
IsSaid talks input out input' out' form talk = (log : SinkState) × (log' : SinkState) × IsLogged talks input out input' out' log log' form talk
