-- What dispatching a fleet says, hears and answers.
use Rattle.std.specs.Prelude.{◌≡◌, ℕ, ◌+◌, ◌≤◌, ◌⊎◌, true, false, List, [], ◌∷◌, ◌++◌, length, take, map, Result, Ok, Err, if◌then◌else◌}
use Rattle.fleet_model.specs.Program.{Program, total_moves, path}
use Rattle.fleet_model.specs.Machine.{Configuration, indices}
use Rattle.fleet_dispatch.specs.declared.form.ReportForm.{ReportForm}
use Rattle.fleet_dispatch.specs.declared.run.TheConstants.{MAX_REPORTS}
use Rattle.fleet_dispatch.specs.declared.fault.DispatchFault.{DispatchFault}
use Rattle.fleet_dispatch.specs.declared.fault.DispatchFault.TheVariants.{OutOfMemory, Form, NotOrdered, Ended, Write, ReportLimit, Log, LogWrite, OtherLog, Input}
use Rattle.fleet_dispatch.specs.declared.run.DispatchReport.{DispatchReport}
use Rattle.fleet_dispatch.specs.Report.{Words, IsRising, Counts, count_of, counts_after, is_repeat, Line, Reports, Asks, words_in, is_taken}
use Rattle.fleet_dispatch.specs.ReportText.{log_line}
use Rattle.fleet_dispatch.specs.Standings.{standings_text}
use Rattle.fleet_dispatch.specs.Ahead.{told_at, AreOrdered, IsFirstUnordered, is_all_done}
use Rattle.fleet_dispatch.specs.Talk.{Turn, Talk, Told, Cut, Heard, Asked, Logged, Unlogged, Misheard, NoMore, Unheard}
use Rattle.fleet_dispatch.specs.Orders.{new_orders, closing}

-- What a dispatch is of: a program; how its actions are named; how many actions an agent is told at most that it has
-- not reported; what is carried out when it begins, and how many reports were taken by then
pub record Course : Type 0 where
  pub program : Program
  pub form : ReportForm
  pub ahead : ℕ
  pub start : Counts
  pub before : ℕ

-- where each agent stands that has carried out so many of its actions
abbrev pub configuration_at : Program → Counts → Configuration
configuration_at p counts =
    map (λ i. record { place = path p i (count_of counts i); count = count_of counts i }) (indices (length p))

-- ---- after some reports

-- what is carried out
abbrev pub counts_by : Counts → List Words → Counts
counts_by counts [] = counts
counts_by counts (r ∷ reports) = counts_by (counts_after counts r) reports

-- what the agents were told before the last of them, at first as much as is carried out
abbrev pub told_by : Program → ℕ → (told counts : Counts) → List Words → Counts
told_by p k told counts [] = told
told_by p k told counts (r ∷ reports) = told_by p k (told_at p k counts) (counts_after counts r) reports

-- how many of these lines were reports that are taken
abbrev pub taken_by : Counts → List Line → ℕ
taken_by counts [] = 0
taken_by counts (line ∷ lines) = (if is_taken counts line then 1 else 0) + taken_by (counts_after counts (words_in line)) lines

-- a report that is taken is logged, and a repeat is not
abbrev pub log_turns : Counts → Words → Talk
log_turns counts words = if is_repeat counts words then [] else Logged (log_line words) ∷ []

-- A line, and what follows from it before orders are told: a report that is no repeat is logged, and the question where
-- the agents are is answered
abbrev pub turns_of : Program → Counts → Line → Talk
turns_of p counts (Reports words) = Heard words ∷ log_turns counts words
turns_of p counts Asks = Asked ∷ Told (standings_text p counts) ∷ []

-- What is said and heard up to the last of these lines: the orders that are due, the first line, the orders that are
-- due then, and so on
unfoldable pub talk_before : Program → ReportForm → ℕ → (told counts : Counts) → List Line → Talk
talk_before p form k told counts [] = []
talk_before p form k told counts (line ∷ lines) =
    (Told (new_orders p form told (told_at p k counts)) ∷ turns_of p counts line)
    ++ talk_before p form k (told_at p k counts) (counts_after counts (words_in line)) lines

-- what the lines say
abbrev pub reports_in : List Line → List Words
reports_in lines = map words_in lines

-- the words of the report rise, and say only what is ordered; actions are left
pub record MayBeTaken (p : Program) (k : ℕ) (counts : Counts) (r : Words) : Type 0 where
  pub rising : IsRising r
  pub ordered : AreOrdered p k counts r
  pub left : is_all_done p counts ≡ false

-- each report could be taken when it came
abbrev pub AreTaken : Program → ℕ → Counts → List Words → Type 0
AreTaken p k counts [] = Unit {0}
AreTaken p k counts (r ∷ reports) = MayBeTaken p k counts r × AreTaken p k (counts_after counts r) reports

-- ---- after these lines

-- what is carried out after them
abbrev pub counts_now : Course → List Line → Counts
counts_now d lines = counts_by d.start (reports_in lines)

-- each of these lines could be taken when it came
abbrev pub AreHeard : Course → List Line → Type 0
AreHeard d lines = AreTaken d.program d.ahead d.start (reports_in lines)

-- the orders that are due
abbrev pub due_orders : Course → List Line → List ℕ
due_orders d lines =
    new_orders d.program d.form (told_by d.program d.ahead d.start d.start (reports_in lines)) (told_at d.program d.ahead (counts_now d lines))

-- what was said and heard up to the last of these lines
abbrev pub said_before : Course → List Line → Talk
said_before d lines = talk_before d.program d.form d.ahead d.start d.start lines

-- .. and the orders that were told then
abbrev pub said_by : Course → List Line → Talk
said_by d lines = said_before d lines ++ Told (due_orders d lines) ∷ []

-- how many reports were taken, which are no repeats
abbrev pub taken_now : Course → List Line → ℕ
taken_now d lines = d.before + taken_by d.start lines

-- all is carried out by these lines, and was not before the last of them; all was said
pub record IsDispatched (d : Course) (talks : Talk → Type 0) (r : DispatchReport) (lines : List Line) : Type 0 where
  pub taken : AreHeard d lines
  pub finish : is_all_done d.program (counts_now d lines) ≡ true
  pub talk : talks (said_by d lines ++ Told (closing (length d.program) (total_moves d.program) (taken_now d lines)) ∷ [])
  pub agents : r.agents ≡ length d.program
  pub moves : r.moves ≡ total_moves d.program
  pub count : r.reports ≡ taken_now d lines

-- after these lines, with actions left, the next line was heard so, and the dispatch stopped there
pub record StopsAtLine (d : Course) (talks : Talk → Type 0) (turn : Turn) (line : ℕ) (lines : List Line) : Type 0 where
  pub taken : AreHeard d lines
  pub left : is_all_done d.program (counts_now d lines) ≡ false
  pub talk : talks (said_by d lines ++ turn ∷ [])
  pub number : line ≡ length lines + 1

-- the next report says what was not ordered, first of this agent, and changed nothing
pub record StopsAtReport (d : Course) (talks : Talk → Type 0) (line agent : ℕ) (lines : List Line) : Type 0 where
  pub report : Words
  pub stops : StopsAtLine d talks (Heard report) line lines
  pub unordered : IsFirstUnordered d.program d.ahead (counts_now d lines) report agent

-- after this talk the text was to be told, and a front of it was
abbrev pub IsCut : (Talk → Type 0) → Talk → List ℕ → Type 0
IsCut talks before text = (k : ℕ) × (k ≤ length text) × talks (before ++ Cut (take k text) ∷ [])

-- after these lines, with actions left, the question was heard, and its answer could not be told
pub record StopsAtAnswer (d : Course) (talks : Talk → Type 0) (lines : List Line) : Type 0 where
  pub left : is_all_done d.program (counts_now d lines) ≡ false
  pub cut : IsCut talks (said_by d lines ++ Asked ∷ []) (standings_text d.program (counts_now d lines))

-- after these lines all is carried out, and the closing lines could not be told
pub record StopsAtClosing (d : Course) (talks : Talk → Type 0) (lines : List Line) : Type 0 where
  pub finish : is_all_done d.program (counts_now d lines) ≡ true
  pub cut : IsCut talks (said_by d lines) (closing (length d.program) (total_moves d.program) (taken_now d lines))

-- after these lines the orders that were due, or an answer, or the closing lines, could not be told
pub record StopsAtTelling (d : Course) (talks : Talk → Type 0) (lines : List Line) : Type 0 where
  pub taken : AreHeard d lines
  pub told : IsCut talks (said_before d lines) (due_orders d lines) ⊎ StopsAtAnswer d talks lines ⊎ StopsAtClosing d talks lines

-- after these lines, with actions left, this report was heard, which could be taken and is no repeat, and a front of
-- its line was logged; it was not taken
pub record StopsAtLogging (d : Course) (talks : Talk → Type 0) (line : ℕ) (lines : List Line) : Type 0 where
  pub taken : AreHeard d lines
  pub report : Words
  pub next : MayBeTaken d.program d.ahead (counts_now d lines) report
  pub new : is_repeat (counts_now d lines) report ≡ false
  pub talk : (k : ℕ) × (k ≤ length (log_line report)) × talks (said_by d lines ++ Heard report ∷ Unlogged (take k (log_line report)) ∷ [])
  pub number : line ≡ length lines + 1

-- as many lines as are heard came, or as many reports as are taken, with actions left
pub record StopsAtLimit (d : Course) (talks : Talk → Type 0) (lines : List Line) : Type 0 where
  pub taken : AreHeard d lines
  pub left : is_all_done d.program (counts_now d lines) ≡ false
  pub talk : talks (said_by d lines)
  pub limit : (length lines ≡ MAX_REPORTS) ⊎ (taken_now d lines ≡ MAX_REPORTS)

-- what is carried out at last, and how many reports were taken by then
pub record Left : Type 0 where
  pub done : Counts
  pub number : ℕ

-- .. after these lines
abbrev pub left_by : Course → List Line → Left
left_by d lines = record { done = counts_now d lines; number = taken_now d lines }

-- what was said and heard, what is carried out at last, and the answer
abbrev pub Dispatches : Course → (Talk → Type 0) → Left → Result DispatchReport DispatchFault → Type 0
Dispatches d talks left (Ok r) = (lines : List Line) × IsDispatched d talks r lines × (left ≡ left_by d lines)
Dispatches d talks left (Err OutOfMemory) = ⊥
Dispatches d talks left (Err (Form line)) = (lines : List Line) × StopsAtLine d talks Misheard line lines × (left ≡ left_by d lines)
Dispatches d talks left (Err (NotOrdered line agent)) = (lines : List Line) × StopsAtReport d talks line agent lines × (left ≡ left_by d lines)
Dispatches d talks left (Err (Ended line)) = (lines : List Line) × StopsAtLine d talks NoMore line lines × (left ≡ left_by d lines)
Dispatches d talks left (Err Write) = (lines : List Line) × StopsAtTelling d talks lines × (left ≡ left_by d lines)
Dispatches d talks left (Err ReportLimit) = (lines : List Line) × StopsAtLimit d talks lines × (left ≡ left_by d lines)
Dispatches d talks left (Err (Log line)) = ⊥
Dispatches d talks left (Err (LogWrite line)) = (lines : List Line) × StopsAtLogging d talks line lines × (left ≡ left_by d lines)
Dispatches d talks left (Err OtherLog) = ⊥
Dispatches d talks left (Err Input) = (lines : List Line) × StopsAtLine d talks Unheard (length lines + 1) lines × (left ≡ left_by d lines)
