-- A dispatch that goes on where the reports of a log have led it.
use Rattle.std.specs.Prelude.{◌≡◌, ℕ, ◌⊎◌, List, [], ◌∷◌, ◌++◌, All, None, Some, Result, Ok, Err, ⊤}
use Rattle.fleet_model.specs.Program.{Program, IsWellFormed}
use Rattle.fleet_dispatch.specs.declared.fault.DispatchFault.{DispatchFault}
use Rattle.fleet_dispatch.specs.declared.fault.DispatchFault.TheVariants.{OutOfMemory, Form, NotOrdered, Ended, ReportLimit, Log}
use Rattle.fleet_dispatch.specs.declared.form.ReportForm.{ReportForm}
use Rattle.fleet_dispatch.specs.declared.pace.Pace.{Pace}
use Rattle.fleet_dispatch.specs.declared.run.DispatchReport.{DispatchReport}
use Rattle.fleet_dispatch.specs.Report.{Line, Reports, Asks}
use Rattle.fleet_dispatch.specs.ReportText.{line_of}
use Rattle.fleet_dispatch.specs.Stream.{HasLine, HasNoLine}
use Rattle.fleet_dispatch.specs.Talk.{Turn, Talk, Told, Cut, Heard, Asked, Logged, Unlogged, Misheard, NoMore, Unheard}
use Rattle.fleet_dispatch.specs.Dispatch.{Course, Left, Dispatches}
use Rattle.fleet_dispatch.specs.Session.{IsReady, left_in, first_course}
use Rattle.fleet_dispatch.specs.declared.run.Session.{Session}

-- One turn over a log: what is told is told to nobody, nothing more is logged, and what is heard is the next line,
-- which an LF ends
abbrev pub ReplaysTurn : ReportForm → (log log' : List ℕ) → Turn → Type 0
ReplaysTurn form log log' (Told bytes) = log' ≡ log
ReplaysTurn form log log' (Cut bytes) = ⊥
ReplaysTurn form log log' (Heard words) = (line : List ℕ) × HasLine log line log' × (line_of form line ≡ Some (Reports words))
ReplaysTurn form log log' Asked = (line : List ℕ) × HasLine log line log' × (line_of form line ≡ Some Asks)
ReplaysTurn form log log' (Logged bytes) = log' ≡ log
ReplaysTurn form log log' (Unlogged bytes) = ⊥
ReplaysTurn form log log' Misheard = (line : List ℕ) × (rest : List ℕ) × HasLine log line rest × (line_of form line ≡ None)
ReplaysTurn form log log' NoMore = HasNoLine log
ReplaysTurn form log log' Unheard = ⊥

-- .. turn after turn
abbrev pub ReplaysTurns : ReportForm → (log log' : List ℕ) → Talk → Type 0
ReplaysTurns form log log' [] = log' ≡ log
ReplaysTurns form log log' (turn ∷ talk) = (next : List ℕ) × ReplaysTurn form log next turn × ReplaysTurns form next log' talk

-- the talk of a dispatch that hears the lines of this log and nothing else
abbrev pub IsReplay : ReportForm → List ℕ → Talk → Type 0
IsReplay form log talk = (rest : List ℕ) × ReplaysTurns form log rest talk

-- such a dispatch came to the end of its log, or of its actions
abbrev pub IsReplayed : Course → List ℕ → Left → Type 0
IsReplayed d log left =
    ((r : DispatchReport) × Dispatches d (IsReplay d.form log) left (Ok r)) ⊎ ((line : ℕ) × Dispatches d (IsReplay d.form log) left (Err (Ended line)))

-- .. or to a line that is none of its reports, or to the limit of reports
abbrev pub Replays : {T : Type 0} → Course → List ℕ → Left → Result T DispatchFault → Type 0
Replays d log left (Ok _) = IsReplayed d log left
Replays d log left (Err (Log line)) =
    Dispatches d (IsReplay d.form log) left (Err (Form line)) ⊎ ((agent : ℕ) × Dispatches d (IsReplay d.form log) left (Err (NotOrdered line agent)))
Replays d log left (Err ReportLimit) = Dispatches d (IsReplay d.form log) left (Err ReportLimit)
Replays d log left (Err _) = ⊥

-- the dispatch that begins with what is carried out
abbrev pub course_from : Course → Left → Course
course_from d left = record d { start = left.done; before = left.number }

-- the reports of the log led there, and the dispatch went on from there
pub record GoesOn (d : Course) (log : List ℕ) (talks : Talk → Type 0) (result : Result DispatchReport DispatchFault) : Type 0 where
  pub past : Left
  pub replayed : IsReplayed d log past
  pub left : Left
  pub dispatches : Dispatches (course_from d past) talks left result

-- the log stopped it before anything was said
abbrev pub StopsInLog : Course → List ℕ → (Talk → Type 0) → DispatchFault → Type 0
StopsInLog d log talks fault = ((past : Left) × Replays {T = Unit {0}} d log past (Err fault)) × talks []

-- What a dispatch from a log says, hears and answers; there may be no memory for it, and then nothing is said
abbrev pub DispatchesAfter : Course → (log : List ℕ) → (Talk → Type 0) → Result DispatchReport DispatchFault → Type 0
DispatchesAfter d log talks (Err OutOfMemory) = talks []
DispatchesAfter d log talks (Err (Log line)) = StopsInLog d log talks (Log line)
DispatchesAfter d log talks (Err ReportLimit) = GoesOn d log talks (Err ReportLimit) ⊎ StopsInLog d log talks ReportLimit
DispatchesAfter d log talks result = GoesOn d log talks result

-- how a dispatch ends whose log ends so
abbrev pub replay_end : Result DispatchReport DispatchFault → Result (Unit {0}) DispatchFault
replay_end (Ok _) = Ok tt
replay_end (Err (Ended _)) = Ok tt
replay_end (Err (Form line)) = Err (Log line)
replay_end (Err (NotOrdered line _)) = Err (Log line)
replay_end (Err e) = Err e

-- the reports of the log led to what the session has carried out, and it is to say first which orders are open
pub record IsLedOn (p : Program) (pace : Pace) (log : List ℕ) (s : Session) : Type 0 where
  pub well_formed : IsWellFormed p
  pub ready : IsReady p pace s
  pub fresh : s.progress.told ≡ s.progress.done
  pub replayed : IsReplayed (first_course p pace) log (left_in s)

-- the session in which a dispatch goes on that the log has led; or the log stopped it, or there was no memory
abbrev pub LeadsOn : Program → Pace → List ℕ → Result Session DispatchFault → Type 0
LeadsOn p pace log (Ok s) = IsLedOn p pace log s
LeadsOn p pace log (Err OutOfMemory) = ⊤
LeadsOn p pace log (Err fault) = (past : Left) × Replays {T = Unit {0}} (first_course p pace) log past (Err fault)

-- ---- what a dispatch leaves in its log

-- what the talk logged, one after another
abbrev pub logged_in : Talk → List ℕ
logged_in [] = []
logged_in (Logged bytes ∷ talk) = bytes ++ logged_in talk
logged_in (Told bytes ∷ talk) = logged_in talk
logged_in (Cut bytes ∷ talk) = logged_in talk
logged_in (Heard words ∷ talk) = logged_in talk
logged_in (Asked ∷ talk) = logged_in talk
logged_in (Unlogged bytes ∷ talk) = logged_in talk
logged_in (Misheard ∷ talk) = logged_in talk
logged_in (NoMore ∷ talk) = logged_in talk
logged_in (Unheard ∷ talk) = logged_in talk

-- each of these is what some text says
abbrev pub AreRead : ReportForm → List Line → Type 0
AreRead form lines = All (λ line. (text : List ℕ) × (line_of form text ≡ Some line)) lines
