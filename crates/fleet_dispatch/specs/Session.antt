-- A dispatch under way, line by line.
use Rattle.std.specs.Prelude.{◌≡◌, ℕ, ◌+◌, ◌*◌, ◌≤◌, Bool, true, false, [], ◌∷◌, ◌++◌, length, take, replicate, Result, Ok, Err, if◌then◌else◌}
use Rattle.fleet_model.specs.Program.{Program}
use Rattle.fleet_dispatch.specs.declared.orders.TheConstants.{ORDER}
use Rattle.fleet_dispatch.specs.declared.log_text.TheConstants.{LOG_LINE}
use Rattle.fleet_dispatch.specs.declared.standings.TheConstants.{STANDING}
use Rattle.fleet_dispatch.specs.declared.pace.Pace.{Pace}
use Rattle.fleet_dispatch.specs.declared.run.Session.{Session}
use Rattle.fleet_dispatch.specs.declared.fault.DispatchFault.{DispatchFault}
use Rattle.fleet_dispatch.specs.declared.fault.DispatchFault.TheVariants.{Form, NotOrdered, Ended, Write, LogWrite, Input}
use Rattle.fleet_dispatch.specs.declared.run.DispatchReport.{DispatchReport}
use Rattle.fleet_dispatch.specs.Report.{Words, IsRising, Counts, counts_after, is_repeat, Line, words_in, is_taken}
use Rattle.fleet_dispatch.specs.ReportText.{log_line}
use Rattle.fleet_dispatch.specs.Standings.{standings_text}
use Rattle.fleet_dispatch.specs.Ahead.{told_at, AreOrdered, IsFirstUnordered}
use Rattle.fleet_dispatch.specs.Progress.{Leads}
use Rattle.fleet_dispatch.specs.Dispatch.{Course, Left, Dispatches, IsCut, log_turns, turns_of}
use Rattle.fleet_dispatch.specs.Orders.{new_orders, closing}
use Rattle.fleet_dispatch.specs.Talk.{Talk, Tells, Logs, Told, Cut, Heard, Asked, Unlogged, Misheard, NoMore, Unheard}

-- what is told may be told at this pace, and there is room for all orders of one time, for a line of the log, and for
-- where all agents are
pub record IsReady (p : Program) (pace : Pace) (s : Session) : Type 0 where
  pub leads : Leads p pace.ahead s.progress
  pub row : length s.row.items ≡ ORDER * pace.ahead * length p
  pub line : length s.line.items ≡ LOG_LINE
  pub answer : length s.answer.items ≡ STANDING * length p

-- .. and so much is carried out, by so many reports, and no more is told
pub record IsOpened (p : Program) (pace : Pace) (counts : Counts) (number : ℕ) (s : Session) : Type 0 where
  pub ready : IsReady p pace s
  pub done : s.progress.done ≡ counts
  pub told : s.progress.told ≡ counts
  pub taken : s.taken ≡ number

-- what is carried out, by so many reports
abbrev pub left_in : Session → Left
left_in s = record { done = s.progress.done; number = s.taken }

-- nothing was carried out, and no report was counted
pub record Stays (s s' : Session) : Type 0 where
  pub done : s'.progress.done ≡ s.progress.done
  pub taken : s'.taken ≡ s.taken

-- the orders that are due were told, or a front of them was, and nothing is carried out by that
pub record TellsOrders {T E : Type 0} (p : Program) (pace : Pace) (talks : Talk → Type 0) (works : Type 0) (s s' : Session) (result : Result T E) : Type 0 where
  pub ready : IsReady p pace s'
  pub done : s'.progress.done ≡ s.progress.done
  pub told : s'.progress.told ≡ told_at p pace.ahead s.progress.done
  pub taken : s'.taken ≡ s.taken
  pub said : Tells talks works result (new_orders p pace.form s.progress.told s'.progress.told)

-- where the agents are that have not arrived was told, or a front of that, and all is carried out and told as before
pub record TellsStandings {T E : Type 0} (p : Program) (pace : Pace) (talks : Talk → Type 0) (works : Type 0) (s s' : Session) (result : Result T E) : Type 0 where
  pub ready : IsReady p pace s'
  pub done : s'.progress ≡ s.progress
  pub taken : s'.taken ≡ s.taken
  pub said : Tells talks works result (standings_text p s.progress.done)

-- the line says only what is ordered, and it and what follows from it were said and heard; by a report its actions are
-- carried out
pub record IsLineTaken (p : Program) (pace : Pace) (talks : Talk → Type 0) (works : Type 0) (s s' : Session) (line : Line) : Type 0 where
  pub said : talks (turns_of p s.progress.done line)
  pub still : works
  pub rising : IsRising (words_in line)
  pub ordered : AreOrdered p pace.ahead s.progress.done (words_in line)
  pub ready : IsReady p pace s'
  pub done : s'.progress.done ≡ counts_after s.progress.done (words_in line)
  pub told : s'.progress.told ≡ s.progress.told
  pub taken : s'.taken ≡ s.taken + (if is_taken s.progress.done line then 1 else 0)

-- the next report was heard, and says what is not ordered
pub record IsLineRefused (p : Program) (pace : Pace) (talks : Talk → Type 0) (s : Session) (agent : ℕ) (report : Words) : Type 0 where
  pub heard : talks (Heard report ∷ [])
  pub unordered : IsFirstUnordered p pace.ahead s.progress.done report agent

-- the report says only what is ordered and is no repeat, and after this talk a front of its line was logged
pub record IsLineUnlogged (p : Program) (pace : Pace) (talks : Talk → Type 0) (s : Session) (before : Talk) (report : Words) : Type 0 where
  pub rising : IsRising report
  pub ordered : AreOrdered p pace.ahead s.progress.done report
  pub new : is_repeat s.progress.done report ≡ false
  pub cut : (k : ℕ) × (k ≤ length (log_line report)) × talks (before ++ Unlogged (take k (log_line report)) ∷ [])

-- line n was heard, and was taken or refused with nothing changed
abbrev pub TakesLine : {T : Type 0} → Program → Pace → (Talk → Type 0) → (works : Type 0) (s s' : Session) → ℕ → Result T DispatchFault → Type 0
TakesLine p pace talks works s s' n (Ok _) = (line : Line) × IsLineTaken p pace talks works s s' line
TakesLine p pace talks works s s' n (Err (Form line)) = (line ≡ n) × talks (Misheard ∷ []) × Stays s s'
TakesLine p pace talks works s s' n (Err (NotOrdered line agent)) = (line ≡ n) × ((report : Words) × IsLineRefused p pace talks s agent report) × Stays s s'
TakesLine p pace talks works s s' n (Err (Ended line)) = (line ≡ n) × talks (NoMore ∷ []) × Stays s s'
TakesLine p pace talks works s s' n (Err Write) = IsCut talks (Asked ∷ []) (standings_text p s.progress.done) × Stays s s'
TakesLine p pace talks works s s' n (Err (LogWrite line)) = (line ≡ n) × ((report : Words) × IsLineUnlogged p pace talks s (Heard report ∷ []) report) × Stays s s'
TakesLine p pace talks works s s' n (Err Input) = talks (Unheard ∷ []) × Stays s s'
TakesLine p pace talks works s s' n (Err _) = ⊥

-- A report that was heard was taken: first it was logged, unless it is a repeat, and then its actions are carried out
-- and it is counted
pub record IsReportTaken (p : Program) (pace : Pace) (talks : Talk → Type 0) (works : Type 0) (s s' : Session) (report : Words) : Type 0 where
  pub logged : talks (log_turns s.progress.done report)
  pub still : works
  pub rising : IsRising report
  pub ordered : AreOrdered p pace.ahead s.progress.done report
  pub ready : IsReady p pace s'
  pub done : s'.progress.done ≡ counts_after s.progress.done report
  pub told : s'.progress.told ≡ s.progress.told
  pub taken : s'.taken ≡ s.taken + (if is_repeat s.progress.done report then 0 else 1)

-- .. or refused with nothing changed
abbrev pub TakesReport : {T : Type 0} → Program → Pace → (Talk → Type 0) → (works : Type 0) (s s' : Session) → ℕ → Words → Result T DispatchFault → Type 0
TakesReport p pace talks works s s' n report (Ok _) = IsReportTaken p pace talks works s s' report
TakesReport p pace talks works s s' n report (Err (NotOrdered line agent)) = (line ≡ n) × talks [] × IsFirstUnordered p pace.ahead s.progress.done report agent × Stays s s'
TakesReport p pace talks works s s' n report (Err (LogWrite line)) = (line ≡ n) × IsLineUnlogged p pace talks s [] report × Stays s s'
TakesReport p pace talks works s s' n report (Err _) = ⊥

-- a report that is no repeat was logged, and nothing of a repeat was; or a front of its line was
abbrev pub LogsReport : {T E : Type 0} → (talks : Talk → Type 0) (works : Type 0) → (is_repeat : Bool) → Result T E → Words → Type 0
LogsReport talks works true (Ok _) report = talks [] × works
LogsReport talks works true (Err _) report = ⊥
LogsReport talks works false result report = Logs talks works result (log_line report)

-- the closing lines were told, or a front of them was
abbrev pub Concludes : (Talk → Type 0) → (agents moves reports : ℕ) → Result DispatchReport DispatchFault → Type 0
Concludes talks agents moves reports (Ok r) =
    (r.agents ≡ agents) × (r.moves ≡ moves) × (r.reports ≡ reports) × talks (Told (closing agents moves reports) ∷ [])
Concludes talks agents moves reports (Err Write) = (k : ℕ) × (k ≤ length (closing agents moves reports)) × talks (Cut (take k (closing agents moves reports)) ∷ [])
Concludes talks agents moves reports (Err _) = ⊥

-- a dispatch that begins with a session
abbrev pub course_in : Program → Pace → Session → Course
course_in p pace s = record { program = p; form = pace.form; ahead = pace.ahead; start = s.progress.done; before = s.taken }

-- a dispatch from its start, when nothing is carried out
abbrev pub first_course : Program → Pace → Course
first_course p pace = record { program = p; form = pace.form; ahead = pace.ahead; start = replicate (length p) 0; before = 0 }

-- a dispatch had this outcome, and its log is the same one still
pub record DispatchesOver (d : Course) (talks : Talk → Type 0) (same : Type 0) (left : Left) (result : Result DispatchReport DispatchFault) : Type 0 where
  pub outcome : Dispatches d talks left result
  pub stays : same
