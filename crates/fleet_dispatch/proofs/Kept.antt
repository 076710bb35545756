-- A log, replayed, leads where the talk has led that left it.
use Rattle.fleet_dispatch.proofs.Cited.{◌≡◌, ℕ, ◌+◌, ◌++◌, ◌∷◌, [], Bool, true, false, not, cond, List, length, Some, refl, ap, sym, ◌∙◌, subst, arith, inl, inr, append_assoc, append-nil, AllByRecursion, cases_Bool, recursion_from_All, Program, total_moves, ReportForm, Words, Counts, counts_after, is_repeat, Line, Reports, Asks, words_in, is_taken, log_line, line_of, told_at, is_all_done, new_orders, closing, Talk, Told, Heard, Asked, Logged, Cut, Unlogged, Misheard, NoMore, Unheard, Course, Left, left_by, counts_by, taken_by, turns_of, talk_before, reports_in, AreTaken, AreHeard, counts_now, taken_now, said_before, said_by, ReplaysTurns, IsReplayed, logged_in, AreRead, replays_more}
use Rattle.fleet_dispatch.specs.Dispatch.{due_orders}
use Rattle.fleet_dispatch.proofs.Words.{repeat_changes_nothing}
use Rattle.fleet_dispatch.proofs.Spelling.{line_is, reads_again, first_of_log}

-- ---- what is logged

logged_more : (a b : Talk) → logged_in (a ++ b) ≡ logged_in a ++ logged_in b
logged_more [] b = refl
logged_more (Logged bytes ∷ a) b = ap (λ (x : List ℕ). bytes ++ x) (logged_more a b) ∙ sym (append_assoc bytes (logged_in a) (logged_in b))
logged_more (Told bytes ∷ a) b = logged_more a b
logged_more (Cut bytes ∷ a) b = logged_more a b
logged_more (Heard words ∷ a) b = logged_more a b
logged_more (Asked ∷ a) b = logged_more a b
logged_more (Unlogged bytes ∷ a) b = logged_more a b
logged_more (Misheard ∷ a) b = logged_more a b
logged_more (NoMore ∷ a) b = logged_more a b
logged_more (Unheard ∷ a) b = logged_more a b

-- the lines of the reports that are taken, one after another
abbrev log_text : Counts → List Line → List ℕ
log_text counts [] = []
log_text counts (line ∷ lines) = cond (is_taken counts line) (log_line (words_in line)) [] ++ log_text (counts_after counts (words_in line)) lines

logged_of : (p : Program) (counts : Counts) (line : Line) → logged_in (turns_of p counts line) ≡ cond (is_taken counts line) (log_line (words_in line)) []
logged_of p counts Asks = refl
logged_of p counts (Reports words) = go (is_repeat counts words)
  where
    go : (b : Bool) → logged_in (cond b [] (Logged (log_line words) ∷ [])) ≡ cond (not b) (log_line words) []
    go true = refl
    go false = append-nil (log_line words)

logged_is : (p : Program) (form : ReportForm) (k : ℕ) (told counts : Counts) (lines : List Line) → logged_in (talk_before p form k told counts lines) ≡ log_text counts lines
unfolding talk_before
logged_is p form k told counts [] = refl
logged_is p form k told counts (line ∷ lines) =
    logged_more (turns_of p counts line) (talk_before p form k (told_at p k counts) (counts_after counts (words_in line)) lines)
    ∙ ap (λ (x : List ℕ). x ++ logged_in (talk_before p form k (told_at p k counts) (counts_after counts (words_in line)) lines)) (logged_of p counts line)
    ∙ ap (λ (x : List ℕ). cond (is_taken counts line) (log_line (words_in line)) [] ++ x) (logged_is p form k (told_at p k counts) (counts_after counts (words_in line)) lines)

-- ---- the reports that are taken, alone

abbrev news : Counts → List Line → List Line
news counts [] = []
news counts (line ∷ lines) = cond (is_taken counts line) (line ∷ news (counts_after counts (words_in line)) lines) (news (counts_after counts (words_in line)) lines)

-- a line that is not taken changes nothing
same_after : (counts : Counts) (line : Line) → is_taken counts line ≡ false → counts_after counts (words_in line) ≡ counts
same_after counts Asks e = refl
same_after counts (Reports words) e = repeat_changes_nothing counts words (unnot (is_repeat counts words) e)
  where
    unnot : (b : Bool) → not b ≡ false → b ≡ true
    unnot true h = refl
    unnot false h = absurd cc

counts_news : (counts : Counts) (lines : List Line) → counts_by counts (reports_in (news counts lines)) ≡ counts_by counts (reports_in lines)
counts_news counts [] = refl
counts_news counts (line ∷ lines) = elim (cases_Bool (is_taken counts line)) [
  | inl t ↦ rw t (counts_news (counts_after counts (words_in line)) lines)
  | inr u ↦ rw u (subst (λ (x : Counts). counts_by x (reports_in (news (counts_after counts (words_in line)) lines)) ≡ counts_by (counts_after counts (words_in line)) (reports_in lines)) (same_after counts line u)
      (counts_news (counts_after counts (words_in line)) lines))
]

taken_news : (counts : Counts) (lines : List Line) → taken_by counts (news counts lines) ≡ taken_by counts lines
taken_news counts [] = refl
taken_news counts (line ∷ lines) = elim (cases_Bool (is_taken counts line)) [
  | inl t ↦ rw t (rw t (ap (λ (n : ℕ). 1 + n) (taken_news (counts_after counts (words_in line)) lines)))
  | inr u ↦ (
      let same : taken_by counts (news (counts_after counts (words_in line)) lines) ≡ taken_by (counts_after counts (words_in line)) lines =
      subst (λ (x : Counts). taken_by x (news (counts_after counts (words_in line)) lines) ≡ taken_by (counts_after counts (words_in line)) lines) (same_after counts line u) (taken_news (counts_after counts (words_in line)) lines) in
      rw u (omega (arith, same)))
]

heard_news : (p : Program) (k : ℕ) (counts : Counts) (lines : List Line) → AreTaken p k counts (reports_in lines) → AreTaken p k counts (reports_in (news counts lines))
heard_news p k counts [] taken = tt
heard_news p k counts (line ∷ lines) taken = elim (cases_Bool (is_taken counts line)) [
  | inl t ↦ rw t (taken.0, heard_news p k (counts_after counts (words_in line)) lines taken.1)
  | inr u ↦ rw u (subst (λ (x : Counts). AreTaken p k x (reports_in (news (counts_after counts (words_in line)) lines))) (same_after counts line u) (heard_news p k (counts_after counts (words_in line)) lines taken.1))
]

-- ---- their replay

abbrev IsReadLine : ReportForm → Line → Type 0
IsReadLine form line = (text : List ℕ) × (line_of form text ≡ Some line)

module _ (p : Program) (form : ReportForm) (k : ℕ) (rest : List ℕ) where
  -- a report that is taken
  one_replayed : (told counts : Counts) (words : Words) (after : List ℕ) (talk : Talk) → IsReadLine form (Reports words) → is_repeat counts words ≡ false → ReplaysTurns form after rest talk
      → ReplaysTurns form (log_line words ++ after) rest ((Told (new_orders p form told (told_at p k counts)) ∷ turns_of p counts (Reports words)) ++ talk)
  one_replayed told counts words after talk read new then =
      let is = line_is form read.0 words read.1 in
      let again = reads_again form read.0 words read.1 in
      rw new (log_line words ++ after, refl, (after, (_, first_of_log words after is.from, again), (after, refl, then)))

  taken_replayed : (told counts : Counts) (line : Line) (lines : List Line) → is_taken counts line ≡ true → IsReadLine form line
      → ReplaysTurns form (log_text (counts_after counts (words_in line)) lines ++ rest) rest (talk_before p form k (told_at p k counts) (counts_after counts (words_in line)) (news (counts_after counts (words_in line)) lines))
      → ReplaysTurns form ((log_line (words_in line) ++ log_text (counts_after counts (words_in line)) lines) ++ rest) rest
      (talk_before p form k told counts (line ∷ news (counts_after counts (words_in line)) lines))
  unfolding talk_before
  taken_replayed told counts Asks lines t h later = absurd cc
  taken_replayed told counts (Reports words) lines t h later =
      let after : List ℕ = log_text (counts_after counts words) lines ++ rest in
      subst (λ (x : List ℕ). ReplaysTurns form x rest ((Told (new_orders p form told (told_at p k counts)) ∷ turns_of p counts (Reports words)) ++ talk_before p form k (told_at p k counts) (counts_after counts words) (news (counts_after counts words) lines)))
      (sym (append_assoc (log_line words) (log_text (counts_after counts words) lines) rest))
      (one_replayed told counts words after _ h (not_false _ t) later)
    where
      not_false : (b : Bool) → not b ≡ true → b ≡ false
      not_false true h = absurd cc
      not_false false h = refl

  replays_none : (told counts : Counts) → ReplaysTurns form rest rest (talk_before p form k told counts [])
  unfolding talk_before
  replays_none told counts = refl

  replays_news : (told counts : Counts) (lines : List Line) → AllByRecursion (IsReadLine form) lines → ReplaysTurns form (log_text counts lines ++ rest) rest (talk_before p form k told counts (news counts lines))
  replays_news told counts [] read = replays_none told counts
  replays_news told counts (line ∷ lines) read = elim (cases_Bool (is_taken counts line)) [
    | inl t ↦ rw t (taken_replayed told counts line lines t read.0 (replays_news (told_at p k counts) (counts_after counts (words_in line)) lines read.1))
    | inr u ↦ rw u (subst (λ (x : Counts). ReplaysTurns form (log_text (counts_after counts (words_in line)) lines ++ rest) rest (talk_before p form k told x (news (counts_after counts (words_in line)) lines))) (same_after counts line u)
        (replays_news told (counts_after counts (words_in line)) lines read.1))
  ]

-- ---- the whole

module _ (d : Course) (lines : List Line) (heard : AreHeard d lines) (read : AreRead d.form lines) where
  abbrev others : List Line
  others = news d.start lines

  abbrev log : List ℕ
  log = logged_in (said_by d lines)

  log_is : log ≡ log_text d.start lines ++ []
  log_is = logged_more (said_before d lines) (Told (due_orders d lines) ∷ []) ∙ ap (λ (x : List ℕ). x ++ []) (logged_is d.program d.form d.ahead d.start d.start lines)

  said : ReplaysTurns d.form log [] (said_by d others)
  said = replays_more d.form log [] [] (said_before d others) (Told (due_orders d others) ∷ [])
      (subst (λ (x : List ℕ). ReplaysTurns d.form x [] (said_before d others)) (sym log_is) (replays_news d.program d.form d.ahead [] d.start d.start lines (recursion_from_All (IsReadLine d.form) lines read)))
      ([], refl, refl)

  done : counts_now d others ≡ counts_now d lines
  done = counts_news d.start lines

  left_same : left_by d lines ≡ left_by d others
  left_same = left_is _ _ _ _ (sym done) (ap (λ (n : ℕ). d.before + n) (sym (taken_news d.start lines)))
    where
      left_is : (a b : Counts) (m n : ℕ) → a ≡ b → m ≡ n → ◌≡◌ {A = Left} (record { done = a; number = m }) (record { done = b; number = n })
      left_is a b m n e f = cc

  pub leads_there : IsReplayed d log (left_by d lines)
  leads_there = elim (cases_Bool (is_all_done d.program (counts_now d others))) [
    | inl over ↦ inl (
      record { agents = length d.program; moves = total_moves d.program; reports = taken_now d others },
      (
        others,
        record {
          taken = heard_news d.program d.ahead d.start lines heard;
          finish = over;
          talk = ([], replays_more d.form log [] [] (said_by d others) (Told (closing (length d.program) (total_moves d.program) (taken_now d others)) ∷ []) said ([], refl, refl));
          agents = refl;
          moves = refl;
          count = refl;
        },
        left_same,
      ),
    )
    | inr unfinished ↦ inr (
      length others + 1,
      (
        others,
        record {
          taken = heard_news d.program d.ahead d.start lines heard;
          left = unfinished;
          talk = ([], replays_more d.form log [] [] (said_by d others) (NoMore ∷ []) said ([], refl, refl));
          number = refl;
        },
        left_same,
      ),
    )
  ]
