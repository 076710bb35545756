-- A line that was heard, and what followed from it.
use Rattle.fleet_dispatch.proofs.Cited.{◌≡◌, ℕ, ◌+◌, ◌++◌, ◌∷◌, [], Bool, true, false, not, cond, Option, Some, None, Result, Ok, Err, refl, ap, sym, ◌∙◌, subst, arith, is_err, All-nil, Program, DispatchFault, LineKind, Pace, Session, Words, Counts, is_repeat, Reports, Asks, IsOrdered, Talk, Heard, Asked, Hears, log_turns, TellsStandings, TakesLine, TakesReport, LogsReport}
use Rattle.fleet_dispatch.specs.declared.fault.DispatchFault.TheVariants as f
use Rattle.fleet_dispatch.specs.declared.report_text.LineKind.TheVariants as k
use Rattle.fleet_dispatch.proofs.Outcomes.{Joins}

-- what was heard, of a report and of the question
pub heard_report : (talks : Talk → Type 0) (works : Type 0) (words : Words) (o : Option LineKind) → o ≡ Some k.Report → Hears talks works (Ok o) words → talks (Heard words ∷ []) × works
heard_report talks works words None e h = absurd cc
heard_report talks works words (Some k.Report) e h = h
heard_report talks works words (Some k.Question) e h = absurd cc

pub heard_question : (talks : Talk → Type 0) (works : Type 0) (words : Words) (o : Option LineKind) → o ≡ Some k.Question → Hears talks works (Ok o) words → talks (Asked ∷ []) × works
heard_question talks works words None e h = absurd cc
heard_question talks works words (Some k.Report) e h = absurd cc
heard_question talks works words (Some k.Question) e h = h

-- a report that was logged, unless it is a repeat
pub logged_turns : {T E : Type 0} (talks : Talk → Type 0) (works : Type 0) (b : Bool) (r : Result T E) (counts : Counts) (words : Words) → b ≡ is_repeat counts words → is_err r ≡ false
    → LogsReport talks works b r words → talks (log_turns counts words) × works
logged_turns talks works b (Err e) counts words same ok h = absurd cc
logged_turns talks works true (Ok x) counts words same ok h = rw (sym same) h
logged_turns talks works false (Ok x) counts words same ok h = rw (sym same) h

module _ (first then both : Talk → Type 0) (j : Joins first then both) (p : Program) (pace : Pace) (works : Type 0) (s s' : Session) (n : ℕ) where
  counted_so : (b : Bool) → ◌≡◌ {A = ℕ} (cond b 0 1) (cond (not b) 1 0)
  counted_so true = refl
  counted_so false = refl

  -- a report that was heard, and then taken
  pub report_taken : (T U : Type 0) (words : Words) (x : T) (y : U) → first (Heard words ∷ []) → TakesReport {T = T} p pace then works (record s { report = words }) s' n words (Ok x) → TakesLine {T = U} p pace both works s s' n (Ok y)
  report_taken T U words x y h t = (
    Reports words,
    record {
      said = j.join _ _ h t.logged;
      still = t.still;
      rising = t.rising;
      ordered = t.ordered;
      ready = t.ready;
      done = t.done;
      told = t.told;
      taken = t.taken ∙ ap (λ (m : ℕ). s.taken + m) (counted_so (is_repeat s.progress.done words));
    },
  )

  append_none : (talk : Talk) → talk ++ [] ≡ talk
  append_none [] = refl
  append_none (turn ∷ talk) = ap (λ (x : Talk). turn ∷ x) (append_none talk)

  -- .. or refused
  pub report_refused : (T U : Type 0) (words : Words) (e : DispatchFault) → first (Heard words ∷ []) → TakesReport {T = T} p pace then works (record s { report = words }) s' n words (Err e) → TakesLine {T = U} p pace both works s s' n (Err e)
  report_refused T U words (f.NotOrdered line agent) h t = (t.0, (words, record { heard = subst both (append_none (Heard words ∷ [])) (j.join _ _ h t.1); unordered = t.2 }), record { done = t.3.done; taken = t.3.taken })
  report_refused T U words (f.LogWrite line) h t = (t.0, (words, record { rising = t.1.rising; ordered = t.1.ordered; new = t.1.new; cut = (t.1.cut.0, t.1.cut.1, j.join _ _ h t.1.cut.2) }), record { done = t.2.done; taken = t.2.taken })
  report_refused T U words f.OutOfMemory h t = absurd t
  report_refused T U words (f.Form line) h t = absurd t
  report_refused T U words (f.Ended line) h t = absurd t
  report_refused T U words f.Write h t = absurd t
  report_refused T U words f.ReportLimit h t = absurd t
  report_refused T U words (f.Log line) h t = absurd t
  report_refused T U words f.OtherLog h t = absurd t
  report_refused T U words f.Input h t = absurd t

  -- .. or either
  pub report_ends : (T : Type 0) (words : Words) (r : Result T DispatchFault) → first (Heard words ∷ []) → TakesReport {T = T} p pace then works (record s { report = words }) s' n words r → TakesLine {T = T} p pace both works s s' n r
  report_ends T words (Ok x) h t = report_taken T T words x x h t
  report_ends T words (Err e) h t = report_refused T T words e h t

  -- the question, and its answer
  module _ (words : Words) (h : first (Asked ∷ [])) where
    pub answered : (U : Type 0) {T E : Type 0} (r : Result T E) (x : U) → is_err r ≡ false → TellsStandings p pace then works (record s { report = words }) s' r → TakesLine {T = U} p pace both works s s' n (Ok x)
    answered U (Err e) x ok t = absurd cc
    answered U (Ok y) x ok t = (
      Asks,
      record {
        said = j.join _ _ h t.said.0;
        still = t.said.1;
        rising = λ k l. absurd (omega arith);
        ordered = All-nil (IsOrdered p pace.ahead s.progress.done);
        ready = t.ready;
        done = rw t.done refl;
        told = rw t.done refl;
        taken = omega (arith, t.taken);
      },
    )

    pub unanswered : (U : Type 0) {T E : Type 0} (r : Result T E) → is_err r ≡ true → TellsStandings p pace then works (record s { report = words }) s' r → TakesLine {T = U} p pace both works s s' n (Err f.Write)
    unanswered U (Ok x) failed t = absurd cc
    unanswered U (Err e) failed t = ((t.said.0, t.said.1, j.join _ _ h t.said.2), record { done = rw t.done refl; taken = t.taken })
