-- Lines that are heard one after another.
use Rattle.fleet_dispatch.proofs.Cited.{◌≡◌, ℕ, ◌+◌, ◌++◌, ◌∷◌, [], cond, List, length, refl, ap, sym, ◌∙◌, arith, append_assoc, append-nil, length-append, Program, ReportForm, Words, Counts, counts_after, Line, words_in, is_taken, told_at, Talk, Told, new_orders, Course, counts_by, told_by, taken_by, turns_of, talk_before, MayBeTaken, AreTaken, AreHeard, reports_in, counts_now, said_before, said_by, taken_now}
use Rattle.fleet_dispatch.specs.Dispatch.{due_orders}

-- ---- one line more

pub counts_more : (counts : Counts) (reports : List Words) (r : Words) → counts_by counts (reports ++ r ∷ []) ≡ counts_after (counts_by counts reports) r
counts_more counts [] r = refl
counts_more counts (q ∷ reports) r = counts_more (counts_after counts q) reports r

heard_more : (counts : Counts) (lines : List Line) (line : Line) → counts_by counts (reports_in (lines ++ line ∷ [])) ≡ counts_after (counts_by counts (reports_in lines)) (words_in line)
heard_more counts [] line = refl
heard_more counts (q ∷ lines) line = heard_more (counts_after counts (words_in q)) lines line

told_more : (p : Program) (k : ℕ) (told counts : Counts) (lines : List Line) (line : Line)
    → told_by p k told counts (reports_in (lines ++ line ∷ [])) ≡ told_at p k (counts_by counts (reports_in lines))
told_more p k told counts [] line = refl
told_more p k told counts (q ∷ lines) line = told_more p k (told_at p k counts) (counts_after counts (words_in q)) lines line

taken_more : (counts : Counts) (lines : List Line) (line : Line)
    → taken_by counts (lines ++ line ∷ []) ≡ taken_by counts lines + cond (is_taken (counts_by counts (reports_in lines)) line) 1 0
taken_more counts [] line = omega arith
taken_more counts (q ∷ lines) line = omega (arith, taken_more (counts_after counts (words_in q)) lines line)

talk_more : (p : Program) (form : ReportForm) (k : ℕ) (told counts : Counts) (lines : List Line) (line : Line)
    → talk_before p form k told counts (lines ++ line ∷ [])
    ≡ talk_before p form k told counts lines
    ++ (Told (new_orders p form (told_by p k told counts (reports_in lines)) (told_at p k (counts_by counts (reports_in lines)))) ∷ turns_of p (counts_by counts (reports_in lines)) line)
unfolding talk_before
talk_more p form k told counts [] line = append-nil _
talk_more p form k told counts (q ∷ lines) line =
    let first : Talk = Told (new_orders p form told (told_at p k counts)) ∷ turns_of p counts q in
    ap (λ (t : Talk). first ++ t) (talk_more p form k (told_at p k counts) (counts_after counts (words_in q)) lines line)
    ∙ sym (append_assoc first (talk_before p form k (told_at p k counts) (counts_after counts (words_in q)) lines) _)

taken_on : (p : Program) (k : ℕ) (counts : Counts) (lines : List Line) (line : Line) → AreTaken p k counts (reports_in lines)
    → MayBeTaken p k (counts_by counts (reports_in lines)) (words_in line) → AreTaken p k counts (reports_in (lines ++ line ∷ []))
taken_on p k counts [] line before next = (next, tt)
taken_on p k counts (q ∷ lines) line before next = (before.0, taken_on p k (counts_after counts (words_in q)) lines line before.1 next)

-- ---- the same of a dispatch

module _ (d : Course) (lines : List Line) (line : Line) where
  abbrev pub more : List Line
  more = lines ++ line ∷ []

  pub length_more : length more ≡ length lines + 1
  length_more = omega (arith, length-append lines (line ∷ []))

  pub counts_now_more : counts_now d more ≡ counts_after (counts_now d lines) (words_in line)
  counts_now_more = heard_more d.start lines line

  pub taken_now_more : taken_now d more ≡ taken_now d lines + cond (is_taken (counts_now d lines) line) 1 0
  taken_now_more = omega (arith, taken_more d.start lines line)

  pub said_more : said_before d more ≡ said_by d lines ++ turns_of d.program (counts_now d lines) line
  said_more =
      talk_more d.program d.form d.ahead d.start d.start lines line
      ∙ sym (append_assoc (said_before d lines) (Told (due_orders d lines) ∷ []) (turns_of d.program (counts_now d lines) line))

  pub told_now_more : told_by d.program d.ahead d.start d.start (reports_in more) ≡ told_at d.program d.ahead (counts_now d lines)
  told_now_more = told_more d.program d.ahead d.start d.start lines line

  pub are_heard_more : AreHeard d lines → MayBeTaken d.program d.ahead (counts_now d lines) (words_in line) → AreHeard d more
  are_heard_more before next = taken_on d.program d.ahead d.start lines line before next

pub talk_none : (p : Program) (form : ReportForm) (k : ℕ) (told counts : Counts) → ◌≡◌ {A = Talk} [] (talk_before p form k told counts [])
unfolding talk_before
talk_none p form k told counts = refl
