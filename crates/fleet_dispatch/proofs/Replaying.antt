-- A dispatch over a log: its talk, how it ends, and what it has carried out.
use Rattle.fleet_dispatch.proofs.Cited.{◌≡◌, ℕ, ◌++◌, List, [], ◌∷◌, length, Result, Ok, Err, ap, sym, ◌∙◌, subst, inl, inr, arith, take_all, append_assoc, IsErrAnd, Program, IsWellFormed, DispatchFault, ReportForm, Pace, DispatchReport, Words, Counts, Line, AreCounts, Turn, Talk, Heard, Cut, Unlogged, Unheard, Course, Left, left_by, counts_by, reports_in, Dispatches, AreTaken, AreHeard, none_done, counts_at, ReplaysTurn, ReplaysTurns, IsReplay, IsReplayed, Replays, LeadsOn, replay_end, IsOpened, course_in, left_in, first_course, Session}
use Rattle.fleet_dispatch.specs.declared.fault.DispatchFault.TheVariants as f
use Rattle.fleet_dispatch.proofs.Leading.{within, long}

-- ---- turns that never come

-- the last turn of a talk was a turn of it
last_turn : (form : ReportForm) (a b : List ℕ) (before : Talk) (turn : Turn) → ReplaysTurns form a b (before ++ turn ∷ []) → (x : List ℕ) × (y : List ℕ) × ReplaysTurn form x y turn
last_turn form a b [] turn h = (a, h.0, h.1)
last_turn form a b (first ∷ before) turn h = last_turn form h.0 b before turn h.2

uncut : (form : ReportForm) (log : List ℕ) (before : Talk) (bytes : List ℕ) → IsReplay form log (before ++ Cut bytes ∷ []) → ⊥
uncut form log before bytes h = (last_turn form log h.0 before (Cut bytes) h.1).2

unbroken : (form : ReportForm) (log : List ℕ) (before : Talk) → IsReplay form log (before ++ Unheard ∷ []) → ⊥
unbroken form log before h = (last_turn form log h.0 before Unheard h.1).2

unlogged : (form : ReportForm) (log : List ℕ) (before : Talk) (turn : Turn) (bytes : List ℕ) → IsReplay form log (before ++ turn ∷ Unlogged bytes ∷ []) → ⊥
unlogged form log before turn bytes h =
    (last_turn form log h.0 (before ++ turn ∷ []) (Unlogged bytes) (subst (ReplaysTurns form log h.0) (sym (append_assoc before (turn ∷ []) (Unlogged bytes ∷ []))) h.1)).2

-- ---- how it ends

pub replays : (d : Course) (log : List ℕ) (left : Left) (r : Result DispatchReport DispatchFault) → Dispatches d (IsReplay d.form log) left r → Replays d log left (replay_end r)
replays d log left (Ok r) h = inl (r, h)
replays d log left (Err f.OutOfMemory) h = absurd h
replays d log left (Err (f.Form line)) h = inl h
replays d log left (Err (f.NotOrdered line agent)) h = inr (agent, h)
replays d log left (Err (f.Ended line)) h = inr (line, h)
replays d log left (Err f.Write) h = absurd (elim h.1.told [
  | inl orders ↦ uncut d.form log _ _ orders.2
  | inr others ↦ elim others [ inl answer ↦ uncut d.form log _ _ answer.cut.2 | inr lines ↦ uncut d.form log _ _ lines.cut.2 ]
])
replays d log left (Err f.ReportLimit) h = h
replays d log left (Err (f.Log line)) h = absurd h
replays d log left (Err (f.LogWrite line)) (lines, h, e) = absurd (unlogged d.form log _ (Heard h.report) _ h.talk.2)
replays d log left (Err f.OtherLog) h = absurd h
replays d log left (Err f.Input) h = absurd (unbroken d.form log _ h.1.talk)

-- ---- what it has carried out

pub all_counts : (p : Program) (k : ℕ) (reports : List Words) → AreTaken p k (none_done p) reports → AreCounts p (counts_by (none_done p) reports)
all_counts p k reports taken =
    let now : counts_at p reports (length reports) ≡ counts_by (none_done p) reports = ap (counts_by (none_done p)) (take_all (length reports) reports (omega arith)) in
    subst (AreCounts p) now (record { agents = long p k reports taken (length reports) (omega arith); within = λ i a. within p k reports taken (length reports) i (omega arith) a })

pub replayed_counts : (p : Program) (pace : Pace) (log : List ℕ) (left : Left) → IsReplayed (first_course p pace) log left → AreCounts p left.done
replayed_counts p pace log left h = elim h [ inl x ↦ ended x.1.0 x.1.1.taken x.1.2 | inr x ↦ ended x.1.0 x.1.1.taken x.1.2 ]
  where
    ended : (lines : List Line) → AreHeard (first_course p pace) lines → left ≡ left_by (first_course p pace) lines → AreCounts p left.done
    ended lines taken e = subst (AreCounts p) (sym (ap (λ (x : Left). x.done) e)) (all_counts p pace.ahead (reports_in lines) taken)

-- a session that is opened with nothing carried out begins the first course
pub begins_so : (p : Program) (pace : Pace) (s : Session) (counts : Counts) → counts ≡ none_done p → IsOpened p pace counts 0 s → course_in p pace s ≡ first_course p pace
begins_so p pace s counts e o =
    let done : s.progress.done ≡ none_done p = o.done ∙ e in
    let taken : s.taken ≡ 0 = o.taken in
    ap (λ (x : Counts). record { program = p; form = pace.form; ahead = pace.ahead; start = x; before = s.taken }) done
    ∙ ap (λ (x : ℕ). record { program = p; form = pace.form; ahead = pace.ahead; start = none_done p; before = x }) taken

-- the log stopped it
pub led_or_stopped : (p : Program) (pace : Pace) (log : List ℕ) (past : Left) (e : DispatchFault) → Replays {T = Unit {0}} (first_course p pace) log past (Err e) → LeadsOn p pace log (Err e)
led_or_stopped p pace log past f.OutOfMemory h = absurd h
led_or_stopped p pace log past (f.Form line) h = (past, h)
led_or_stopped p pace log past (f.NotOrdered line agent) h = (past, h)
led_or_stopped p pace log past (f.Ended line) h = (past, h)
led_or_stopped p pace log past f.Write h = (past, h)
led_or_stopped p pace log past f.ReportLimit h = (past, h)
led_or_stopped p pace log past (f.Log line) h = (past, h)
led_or_stopped p pace log past (f.LogWrite line) h = (past, h)
led_or_stopped p pace log past f.OtherLog h = (past, h)
led_or_stopped p pace log past f.Input h = (past, h)

-- .. an error that is handed on
pub led_err : (p : Program) (pace : Pace) (log : List ℕ) (r : Result Session DispatchFault) (e : DispatchFault) → IsErrAnd r (λ x. x ≡ e) → LeadsOn p pace log (Err e) → LeadsOn p pace log r
led_err p pace log (Ok x) e h s = absurd h
led_err p pace log (Err x) e h s = subst (λ y. LeadsOn p pace log (Err y)) (sym h) s

-- a session that is opened with what another has carried out
pub went_on : (p : Program) (pace : Pace) (log : List ℕ) (past : Session) (done : Counts) (number : ℕ) (s : Session) → IsWellFormed p → done ≡ past.progress.done → number ≡ past.taken → IsOpened p pace done number s
    → IsReplayed (first_course p pace) log (left_in past) → LeadsOn p pace log (Ok s)
went_on p pace log past done number s well_formed e f o h =
    let same : left_in past ≡ left_in s = left_same (sym (o.done ∙ e)) (sym (o.taken ∙ f)) in
    record { well_formed = well_formed; ready = o.ready; fresh = o.told ∙ sym o.done; replayed = subst (IsReplayed (first_course p pace) log) same h }
  where
    left_same : past.progress.done ≡ s.progress.done → past.taken ≡ s.taken → left_in past ≡ left_in s
    left_same a b = cc
