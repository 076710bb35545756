-- A dispatch, by what its talk gives.
use Rattle.fleet_dispatch.proofs.Cited.{◌≡◌, ℕ, List, [], Result, Ok, Err, inl, inr, sym, subst, IsErrAnd, Program, Pace, first_course, DispatchFault, DispatchReport, Line, Turn, Talk, Course, Left, StopsAtLine, Dispatches, IsCut, IsReplayed, course_from, GoesOn, DispatchesAfter, LeadsOn}
use Rattle.fleet_dispatch.specs.declared.fault.DispatchFault.TheVariants as f

-- ---- of every talk there is more to say
module _ (talks talks' : Talk → Type 0) (more : (talk : Talk) → talks talk → talks' talk) (d : Course) where
  line_more : (turn : Turn) (line : ℕ) (reports : List Line) → StopsAtLine d talks turn line reports → StopsAtLine d talks' turn line reports
  line_more turn line reports s = record { taken = s.taken; left = s.left; talk = more _ s.talk; number = s.number }

  cut_more : (before : Talk) (text : List ℕ) → IsCut talks before text → IsCut talks' before text
  cut_more before text cut = (cut.0, cut.1, more _ cut.2)

  pub dispatches_more : (left : Left) (r : Result DispatchReport DispatchFault) → Dispatches d talks left r → Dispatches d talks' left r
  dispatches_more left (Ok r) (reports, s, e) = (reports, record { taken = s.taken; finish = s.finish; talk = more _ s.talk; agents = s.agents; moves = s.moves; count = s.count }, e)
  dispatches_more left (Err f.OutOfMemory) s = s
  dispatches_more left (Err (f.Form line)) (reports, s, e) = (reports, line_more _ _ reports s, e)
  dispatches_more left (Err (f.NotOrdered line agent)) (reports, s, e) = (reports, record { report = s.report; stops = line_more _ _ reports s.stops; unordered = s.unordered }, e)
  dispatches_more left (Err (f.Ended line)) (reports, s, e) = (reports, line_more _ _ reports s, e)
  dispatches_more left (Err f.Write) (reports, s, e) = (
    reports,
    record {
      taken = s.taken;
      told = elim s.told [
        | inl orders ↦ inl (cut_more _ _ orders)
        | inr others ↦ elim others [
          | inl answer ↦ inr (inl (record { left = answer.left; cut = cut_more _ _ answer.cut }))
          | inr lines ↦ inr (inr (record { finish = lines.finish; cut = cut_more _ _ lines.cut }))
        ]
      ];
    },
    e,
  )
  dispatches_more left (Err f.ReportLimit) (reports, s, e) = (reports, record { taken = s.taken; left = s.left; talk = more _ s.talk; limit = s.limit }, e)
  dispatches_more left (Err (f.Log line)) s = s
  dispatches_more left (Err (f.LogWrite line)) (reports, s, e) = (reports, record { taken = s.taken; report = s.report; next = s.next; new = s.new; talk = (s.talk.0, s.talk.1, more _ s.talk.2); number = s.number }, e)
  dispatches_more left (Err f.OtherLog) s = s
  dispatches_more left (Err f.Input) (reports, s, e) = (reports, line_more _ _ reports s, e)

-- .. and of a dispatch that begins with a log
module _ (talks talks' : Talk → Type 0) (more : (talk : Talk) → talks talk → talks' talk) (d : Course) (log : List ℕ) where
  on : (r : Result DispatchReport DispatchFault) → GoesOn d log talks r → GoesOn d log talks' r
  on r h = record { past = h.past; replayed = h.replayed; left = h.left; dispatches = dispatches_more talks talks' more (course_from d h.past) h.left r h.dispatches }

  pub after_more : (r : Result DispatchReport DispatchFault) → DispatchesAfter d log talks r → DispatchesAfter d log talks' r
  after_more (Ok x) s = on (Ok x) s
  after_more (Err f.OutOfMemory) s = more _ s
  after_more (Err (f.Form line)) s = on (Err (f.Form line)) s
  after_more (Err (f.NotOrdered line agent)) s = on (Err (f.NotOrdered line agent)) s
  after_more (Err (f.Ended line)) s = on (Err (f.Ended line)) s
  after_more (Err f.Write) s = on (Err f.Write) s
  after_more (Err f.ReportLimit) s = elim s [ inl h ↦ inl (on (Err f.ReportLimit) h) | inr h ↦ inr (h.0, more _ h.1) ]
  after_more (Err (f.Log line)) s = (s.0, more _ s.1)
  after_more (Err (f.LogWrite line)) s = on (Err (f.LogWrite line)) s
  after_more (Err f.OtherLog) s = on (Err f.OtherLog) s
  after_more (Err f.Input) s = on (Err f.Input) s

-- ---- what holds of every talk holds of a dispatch
module _ (talks : Talk → Type 0) (K : Type 0) (gives : (talk : Talk) → talks talk → K) (d : Course) where
  cut_gives : (before : Talk) (text : List ℕ) → IsCut talks before text → K
  cut_gives before text cut = gives _ cut.2

  pub dispatch_gives : (left : Left) (r : Result DispatchReport DispatchFault) → Dispatches d talks left r → K
  dispatch_gives left (Ok r) (reports, s, e) = gives _ s.talk
  dispatch_gives left (Err f.OutOfMemory) s = absurd s
  dispatch_gives left (Err (f.Form line)) (reports, s, e) = gives _ s.talk
  dispatch_gives left (Err (f.NotOrdered line agent)) (reports, s, e) = gives _ s.stops.talk
  dispatch_gives left (Err (f.Ended line)) (reports, s, e) = gives _ s.talk
  dispatch_gives left (Err f.Write) (reports, s, e) = elim s.told [
    | inl orders ↦ cut_gives _ _ orders
    | inr others ↦ elim others [ inl answer ↦ cut_gives _ _ answer.cut | inr lines ↦ cut_gives _ _ lines.cut ]
  ]
  dispatch_gives left (Err f.ReportLimit) (reports, s, e) = gives _ s.talk
  dispatch_gives left (Err (f.Log line)) s = absurd s
  dispatch_gives left (Err (f.LogWrite line)) (reports, s, e) = gives _ s.talk.2
  dispatch_gives left (Err f.OtherLog) s = absurd s
  dispatch_gives left (Err f.Input) (reports, s, e) = gives _ s.talk

-- a dispatch that took its memory, and went on from its log
pub from_there : (d : Course) (log : List ℕ) (talks : Talk → Type 0) (past left : Left) (r : Result DispatchReport DispatchFault) → IsReplayed d log past
    → Dispatches (course_from d past) talks left r → DispatchesAfter d log talks r
from_there d log talks past left r replayed s = go r s
  where
    there : (r : Result DispatchReport DispatchFault) → Dispatches (course_from d past) talks left r → GoesOn d log talks r
    there r s = record { past = past; replayed = replayed; left = left; dispatches = s }

    go : (r : Result DispatchReport DispatchFault) → Dispatches (course_from d past) talks left r → DispatchesAfter d log talks r
    go (Ok x) s = there (Ok x) s
    go (Err f.OutOfMemory) s = absurd s
    go (Err (f.Form line)) s = there (Err (f.Form line)) s
    go (Err (f.NotOrdered line agent)) s = there (Err (f.NotOrdered line agent)) s
    go (Err (f.Ended line)) s = there (Err (f.Ended line)) s
    go (Err f.Write) s = there (Err f.Write) s
    go (Err f.ReportLimit) s = inl (there (Err f.ReportLimit) s)
    go (Err (f.Log line)) s = absurd s
    go (Err (f.LogWrite line)) s = there (Err (f.LogWrite line)) s
    go (Err f.OtherLog) s = absurd s
    go (Err f.Input) s = there (Err f.Input) s

-- a dispatch that its log stopped, or for which there was no memory
pub led_stops : (p : Program) (pace : Pace) (log : List ℕ) (talks : Talk → Type 0) (e : DispatchFault) → LeadsOn p pace log (Err e) → talks [] → DispatchesAfter (first_course p pace) log talks (Err e)
led_stops p pace log talks f.OutOfMemory h silent = silent
led_stops p pace log talks (f.Form line) h silent = absurd h.1
led_stops p pace log talks (f.NotOrdered line agent) h silent = absurd h.1
led_stops p pace log talks (f.Ended line) h silent = absurd h.1
led_stops p pace log talks f.Write h silent = absurd h.1
led_stops p pace log talks f.ReportLimit h silent = inr (h, silent)
led_stops p pace log talks (f.Log line) h silent = (h, silent)
led_stops p pace log talks (f.LogWrite line) h silent = absurd h.1
led_stops p pace log talks f.OtherLog h silent = absurd h.1
led_stops p pace log talks f.Input h silent = absurd h.1

-- an error that is handed on
pub after_err : (d : Course) (log : List ℕ) (talks : Talk → Type 0) (r : Result DispatchReport DispatchFault) (e : DispatchFault) → IsErrAnd r (λ x. x ≡ e)
    → DispatchesAfter d log talks (Err e) → DispatchesAfter d log talks r
after_err d log talks (Ok x) e h s = absurd h
after_err d log talks (Err x) e h s = subst (λ y. DispatchesAfter d log talks (Err y)) (sym h) s
