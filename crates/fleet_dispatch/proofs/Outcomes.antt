-- How a dispatch goes on, and how it ends.
use Rattle.fleet_dispatch.proofs.Cited.{◌≡◌, ℕ, ◌+◌, ◌≤◌, ◌++◌, ◌∷◌, [], true, false, cond, List, length, take, Result, Ok, Err, refl, ap, sym, ◌∙◌, arith, subst, ◌⊎◌, inl, inr, append_assoc, is_err, Program, total_moves, DispatchFault, DispatchReport, Session, Pace, MAX_REPORTS, Words, IsRising, Counts, counts_after, is_repeat, Line, words_in, is_taken, standings_text, told_at, AreOrdered, IsFirstUnordered, is_all_done, Talk, Told, Cut, Asked, new_orders, closing, Course, left_by, Dispatches, MayBeTaken, AreHeard, told_by, reports_in, turns_of, counts_now, said_before, said_by, taken_now, Concludes, TellsOrders, TakesLine, IsLineTaken, left_in}
use Rattle.fleet_dispatch.specs.declared.fault.DispatchFault.TheVariants as f
use Rattle.fleet_dispatch.specs.Dispatch.{due_orders}
use Rattle.fleet_dispatch.specs.Session.{course_in as course_of}
use Rattle.fleet_dispatch.proofs.Reports.{more, length_more, counts_now_more, taken_now_more, said_more, told_now_more, are_heard_more, talk_none}

-- what was said in two stretches was said in both
pub record Joins (first then both : Talk → Type 0) : Type 0 where
  pub join : (before after : Talk) → first before → then after → both (before ++ after)

-- Before the orders are told that are due after these reports
pub record IsUnderWay (d : Course) (talks : Talk → Type 0) (s : Session) (lines : ℕ) (reports : List Line) : Type 0 where
  pub taken : AreHeard d reports
  pub count : lines ≡ length reports
  pub done : s.progress.done ≡ counts_now d reports
  pub told : s.progress.told ≡ told_by d.program d.ahead d.start d.start (reports_in reports)
  pub number : s.taken ≡ taken_now d reports
  pub talk : talks (said_before d reports)

-- .. and after they are told
pub record AreOrdersTold (d : Course) (talks : Talk → Type 0) (s : Session) (lines : ℕ) (reports : List Line) : Type 0 where
  pub taken : AreHeard d reports
  pub count : lines ≡ length reports
  pub done : s.progress.done ≡ counts_now d reports
  pub told : s.progress.told ≡ told_at d.program d.ahead (counts_now d reports)
  pub number : s.taken ≡ taken_now d reports
  pub talk : talks (said_by d reports)

-- what a session has carried out is what these reports have
left_is : (d : Course) (s : Session) (reports : List Line) → s.progress.done ≡ counts_now d reports → s.taken ≡ taken_now d reports → left_in s ≡ left_by d reports
left_is d s reports e f = cc

-- as many lines as are heard came, or as many reports as are taken
pub limit_stops : (d : Course) (talks : Talk → Type 0) (s : Session) (lines : ℕ) (reports : List Line) → AreOrdersTold d talks s lines reports → is_all_done d.program s.progress.done ≡ false
    → (lines ≡ MAX_REPORTS) ⊎ ((lines ≡ MAX_REPORTS → ⊥) × (s.taken ≡ MAX_REPORTS)) → Dispatches d talks (left_in s) (Err f.ReportLimit)
limit_stops d talks s lines reports told left either = (
  reports,
  record {
    taken = told.taken;
    left = ap (is_all_done d.program) (sym told.done) ∙ left;
    talk = told.talk;
    limit = elim either [
      | inl e ↦ inl (sym told.count ∙ e)
      | inr h ↦ inr (sym told.number ∙ h.1)
    ];
  },
  left_is d s reports told.done told.number,
)

pub at_start : (p : Program) (pace : Pace) (talks : Talk → Type 0) (s : Session) → talks [] → s.progress.told ≡ s.progress.done → IsUnderWay (course_of p pace s) talks s 0 []
at_start p pace talks s silent fresh = record {
  taken = tt;
  count = refl;
  done = refl;
  told = fresh;
  number = omega arith;
  talk = subst talks (talk_none p pace.form pace.ahead s.progress.done s.progress.done) silent;
}

module _ (d : Course) (first then both : Talk → Type 0) (j : Joins first then both) (s s' : Session) (lines : ℕ) (reports : List Line) where
  module _ (way : IsUnderWay d first s lines reports) {T E : Type 0} (works : Type 0) where
    abbrev Tell : Result T E → Type 0
    Tell = TellsOrders d.program (record { form = d.form; ahead = d.ahead }) then works s s'

    due : (r : Result T E) → Tell r → new_orders d.program d.form s.progress.told s'.progress.told ≡ due_orders d reports
    due r h = ap (λ (x : Counts). new_orders d.program d.form x s'.progress.told) way.told
        ∙ ap (new_orders d.program d.form (told_by d.program d.ahead d.start d.start (reports_in reports))) (h.told ∙ ap (told_at d.program d.ahead) way.done)

    pub write_stops : (r : Result T E) → Tell r → is_err r ≡ true → Dispatches d both (left_in s') (Err f.Write)
    write_stops (Ok x) h e = absurd cc
    write_stops (Err x) h e =
        let P : List ℕ → Type 0 = λ bytes. (m : ℕ) × (m ≤ length bytes) × then (Cut (take m bytes) ∷ []) in
        let cut : P (due_orders d reports) = subst P (due (Err x) h) h.said in
        (reports, record { taken = way.taken; told = inl (cut.0, cut.1, j.join _ _ way.talk cut.2) }, left_is d s' reports (h.done ∙ way.done) (h.taken ∙ way.number))

    pub now_told : (r : Result T E) → Tell r → is_err r ≡ false → AreOrdersTold d both s' lines reports × works
    now_told (Err x) h e = absurd cc
    now_told (Ok x) h e =
        let P : List ℕ → Type 0 = λ bytes. then (Told bytes ∷ []) × works in
        let all : P (due_orders d reports) = subst P (due (Ok x) h) h.said in (
          record {
            taken = way.taken;
            count = way.count;
            done = h.done ∙ way.done;
            told = h.told ∙ ap (told_at d.program d.ahead) way.done;
            number = h.taken ∙ way.number;
            talk = j.join _ _ way.talk all.0;
          },
          all.1,
        )

  module _ (told : AreOrdersTold d first s lines reports) where
    pub concludes : (agents moves number : ℕ) (r : Result DispatchReport DispatchFault) → is_all_done d.program s.progress.done ≡ true → agents ≡ length d.program → moves ≡ total_moves d.program
        → number ≡ s.taken → Concludes then agents moves number r → Dispatches d both (left_in s) r
    concludes agents moves number (Ok r) over e m n h =
        let all : number ≡ taken_now d reports = n ∙ told.number in
        let text : closing agents moves number ≡ closing (length d.program) (total_moves d.program) (taken_now d reports) = cc in (
          reports,
          record {
            taken = told.taken;
            finish = ap (is_all_done d.program) (sym told.done) ∙ over;
            talk = j.join _ _ told.talk (subst (λ bytes. then (Told bytes ∷ [])) text h.3);
            agents = h.0 ∙ e;
            moves = h.1 ∙ m;
            count = h.2 ∙ all;
          },
          left_is d s reports told.done told.number,
        )
    concludes agents moves number (Err f.Write) over e m n h =
        let all : number ≡ taken_now d reports = n ∙ told.number in
        let text : closing agents moves number ≡ closing (length d.program) (total_moves d.program) (taken_now d reports) = cc in
        let P : List ℕ → Type 0 = λ bytes. (m : ℕ) × (m ≤ length bytes) × then (Cut (take m bytes) ∷ []) in
        let cut : P (closing (length d.program) (total_moves d.program) (taken_now d reports)) = subst P text h in
        (reports, record { taken = told.taken; told = inr (inr (record { finish = ap (is_all_done d.program) (sym told.done) ∙ over; cut = (cut.0, cut.1, j.join _ _ told.talk cut.2) })) }, left_is d s reports told.done told.number)
    concludes agents moves number (Err f.OutOfMemory) over e m n h = absurd h
    concludes agents moves number (Err (f.Form _)) over e m n h = absurd h
    concludes agents moves number (Err (f.NotOrdered _ _)) over e m n h = absurd h
    concludes agents moves number (Err (f.Ended _)) over e m n h = absurd h
    concludes agents moves number (Err f.ReportLimit) over e m n h = absurd h
    concludes agents moves number (Err (f.Log _)) over e m n h = absurd h
    concludes agents moves number (Err (f.LogWrite _)) over e m n h = absurd h
    concludes agents moves number (Err f.OtherLog) over e m n h = absurd h
    concludes agents moves number (Err f.Input) over e m n h = absurd h

    module _ (left : is_all_done d.program s.progress.done ≡ false) where
      unfinished : is_all_done d.program (counts_now d reports) ≡ false
      unfinished = ap (is_all_done d.program) (sym told.done) ∙ left

      next_report : (r : Words) (pace : Pace) → pace.ahead ≡ d.ahead → IsRising r → AreOrdered d.program pace.ahead s.progress.done r → MayBeTaken d.program d.ahead (counts_now d reports) r
      next_report r pace same rising ordered = record {
        rising = rising;
        ordered = subst (λ (c : Counts). AreOrdered d.program d.ahead c r) told.done (subst (λ k. AreOrdered d.program k s.progress.done r) same ordered);
        left = unfinished;
      }

      pub line_stops : (T : Type 0) (pace : Pace) (works : Type 0) (n : ℕ) (e : DispatchFault) → pace.ahead ≡ d.ahead → n ≡ lines + 1
          → TakesLine {T = T} d.program pace then works s s' n (Err e) → Dispatches d both (left_in s') (Err e)
      line_stops T pace works n (f.Form line) same next h =
          let count = told.count in
          (reports, record { taken = told.taken; left = unfinished; talk = j.join _ _ told.talk h.1; number = let e = h.0 in omega arith }, left_is d s' reports (h.2.done ∙ told.done) (h.2.taken ∙ told.number))
      line_stops T pace works n (f.Ended line) same next h =
          let count = told.count in
          (reports, record { taken = told.taken; left = unfinished; talk = j.join _ _ told.talk h.1; number = let e = h.0 in omega arith }, left_is d s' reports (h.2.done ∙ told.done) (h.2.taken ∙ told.number))
      line_stops T pace works n f.Input same next h =
          (reports, record { taken = told.taken; left = unfinished; talk = j.join _ _ told.talk h.0; number = refl }, left_is d s' reports (h.1.done ∙ told.done) (h.1.taken ∙ told.number))
      line_stops T pace works n (f.NotOrdered line agent) same next h =
          let count = told.count in
          let r = h.1 in (
            reports,
            record {
              report = r.0;
              stops = record { taken = told.taken; left = unfinished; talk = j.join _ _ told.talk r.1.heard; number = let e = h.0 in omega arith };
              unordered = subst (λ (c : Counts). IsFirstUnordered d.program d.ahead c r.0 agent) told.done
                  (subst (λ k. IsFirstUnordered d.program k s.progress.done r.0 agent) same r.1.unordered);
            },
            left_is d s' reports (h.2.done ∙ told.done) (h.2.taken ∙ told.number),
          )
      line_stops T pace works n f.OutOfMemory same next h = absurd h
      line_stops T pace works n f.Write same next h =
          let P : Counts → Type 0 = λ c. (m : ℕ) × (m ≤ length (standings_text d.program c)) × then (Asked ∷ Cut (take m (standings_text d.program c)) ∷ []) in
          let cut : P (counts_now d reports) = subst P told.done h.0 in (
            reports,
            record {
              taken = told.taken;
              told = inr (inl (record { left = unfinished; cut = (cut.0, cut.1, subst both (sym (append_assoc (said_by d reports) (Asked ∷ []) _)) (j.join _ _ told.talk cut.2)) }));
            },
            left_is d s' reports (h.1.done ∙ told.done) (h.1.taken ∙ told.number),
          )
      line_stops T pace works n (f.LogWrite line) same next h =
          let count = told.count in
          let r = h.1 in (
            reports,
            record {
              taken = told.taken;
              report = r.0;
              next = next_report r.0 pace same r.1.rising r.1.ordered;
              new = ap (λ (c : Counts). is_repeat c r.0) (sym told.done) ∙ r.1.new;
              talk = (r.1.cut.0, r.1.cut.1, j.join _ _ told.talk r.1.cut.2);
              number = let e = h.0 in omega arith;
            },
            left_is d s' reports (h.2.done ∙ told.done) (h.2.taken ∙ told.number),
          )
      line_stops T pace works n f.ReportLimit same next h = absurd h
      line_stops T pace works n (f.Log line) same next h = absurd h
      line_stops T pace works n f.OtherLog same next h = absurd h

      pub one_line_on : (pace : Pace) (works : Type 0) (line : Line) → pace.ahead ≡ d.ahead → IsLineTaken d.program pace then works s s' line
          → IsUnderWay d both s' (lines + 1) (more d reports line)
      one_line_on pace works line same h = record {
        taken = are_heard_more d reports line told.taken (next_report (words_in line) pace same h.rising h.ordered);
        count = let count = told.count in omega (arith, length_more d reports line);
        done = h.done ∙ ap (λ (c : Counts). counts_after c (words_in line)) told.done ∙ sym (counts_now_more d reports line);
        told = h.told ∙ told.told ∙ sym (told_now_more d reports line);
        number = h.taken ∙ ap (λ (c : Counts). s.taken + cond (is_taken c line) 1 0) told.done ∙ ap (λ x. x + cond (is_taken (counts_now d reports) line) 1 0) told.number ∙ sym (taken_now_more d reports line);
        talk = subst both (sym (said_more d reports line))
            (j.join _ _ told.talk (subst (λ (c : Counts). then (turns_of d.program c line)) told.done h.said));
      }
