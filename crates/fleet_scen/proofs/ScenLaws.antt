-- What is read of a scenario's lines is what they stand for, and what they stand for is read.
use Rattle.std.proofs.Common.{◌≡◌, ◌≢◌, ℕ, suc, ◌+◌, ◌≤◌, ◌<◌, true, false, not, ltb, leb, List, [], ◌∷◌, ◌++◌, length, map, filter, take, drop, get_or, Option, Some, None, Result, Ok, refl, sym, ap, subst, ◌∙◌, append_assoc, arith, inl, inr}
use Rattle.std.specs.Prelude.{MatchOption, AllPairs}
use Rattle.std.specs.List.{list_any, AllZip, enumerate_from}
use Rattle.std.proofs.lemmas.Bool.{cases_Bool, ltb-true, ltb-false, lt-ltb, le-ltb, le-leb, not-true}
use Rattle.std.proofs.lemmas.List.{append-nil, length-append, get_or_append_left, get_or_at}
use Rattle.std.proofs.lemmas.List.Quantifiers.{all_pairs_push}
use Rattle.std.proofs.lemmas.List.Folds.{list_any_at, list_any_none}
use Rattle.fleet_model.specs.declared.geometry.Cell.{Cell}
use Rattle.fleet_model.specs.declared.task.Task.{Task}
use Rattle.fleet_model.specs.Geometry.{is_same_cell}
use Rattle.fleet_model.proofs.Cells.{is_same_cell-true, is_same_cell-eq}
use Rattle.fleet_text.specs.Text.{Bytes, words}
use Rattle.fleet_grid.specs.Ground.{Ground}
use Rattle.fleet_text.specs.Steps.{◌>>=◌, ◌>>◌, right_or}
use Rattle.fleet_text.proofs.StepLaws.{bind_ok, right_ok, then_ok, ok_is}
use Rattle.fleet_scen.specs.declared.fault.ScenFault.{ScenFault}
use Rattle.fleet_scen.specs.declared.fault.ScenFault.TheVariants.{Version, NoAgents, TooMany, Fewer}
use Rattle.fleet_scen.specs.Instance.{AreTasksApart, IsInstance}
use Rattle.fleet_scen.specs.ScenText.{is_filled, Line, agent_lines, is_version, StandsForTask, AreScenLines, MayBeAsked}
use Rattle.fleet_scen.specs.ScenReading.{task_at, apart_at, lacks, enough_tasks, tasks_at, after_version, judge_asked, scen_at}
use Rattle.fleet_scen.proofs.LineLaws.{task_is, task_again, IsNew, apart_is, apart_again}
use Rattle.fleet_model.specs.declared.limits.TheConstants.{MAX_AGENTS}

-- ---- the lines that have some word

-- .. of those from number k on
abbrev pub filled_from : ℕ → List Bytes → List Line
filled_from k ls = filter (λ line. is_filled line.1) (enumerate_from k (map words ls))

pub filled_skip : (k : ℕ) (line : Bytes) (ls : List Bytes) → is_filled (words line) ≡ false → filled_from k (line ∷ ls) ≡ filled_from (k + 1) ls
filled_skip k line ls e = rw e refl

pub filled_next : (k : ℕ) (line : Bytes) (ls : List Bytes) → is_filled (words line) ≡ true → filled_from k (line ∷ ls) ≡ (k, words line) ∷ filled_from (k + 1) ls
filled_next k line ls e = rw e refl

-- ---- distinct tasks

abbrev Distinct : (Task → Cell) → List Task → Type 0
Distinct cell tasks = AllPairs (λ s t. cell s ≢ cell t) tasks

distinct_more : (cell : Task → Cell) (earlier : List Task) (t : Task) → Distinct cell earlier → list_any (λ s. is_same_cell (cell s) (cell t)) earlier ≡ false → Distinct cell (earlier ++ t ∷ [])
distinct_more cell earlier t h none =
    all_pairs_push (λ s u. cell s ≢ cell u) earlier t h
    (λ k d lt same.
    let found : list_any (λ s. is_same_cell (cell s) (cell t)) earlier ≡ true = list_any_at (λ (s : Task). is_same_cell (cell s) (cell t)) earlier k d lt (is_same_cell-eq (cell (get_or earlier k d)) (cell t) same) in
    let wrong : true ≡ false = sym found ∙ none in cc)

distinct_at : (cell : Task → Cell) (earlier : List Task) (t : Task) (more : List Task) → Distinct cell (earlier ++ t ∷ more) → list_any (λ s. is_same_cell (cell s) (cell t)) earlier ≡ false
distinct_at cell earlier t more h =
    list_any_none (λ (s : Task). is_same_cell (cell s) (cell t)) earlier (λ k d lt.
    let before : get_or (earlier ++ t ∷ more) k d ≡ get_or earlier k d = get_or_append_left earlier (t ∷ more) d k lt in
    let here : get_or (earlier ++ t ∷ more) (length earlier) d ≡ t = get_or_at earlier t more d (length earlier) refl in
    let longer : length earlier < length (earlier ++ t ∷ more) = omega (arith, length-append earlier (t ∷ more)) in
    let differ = h k (length earlier) d lt longer in
    elim (cases_Bool (is_same_cell (cell (get_or earlier k d)) (cell t))) [
      | inl same ↦ absurd (differ (ap cell before ∙ is_same_cell-true (cell (get_or earlier k d)) (cell t) same ∙ ap cell (sym here)))
      | inr other ↦ other
    ])

pub apart_more : (earlier : List Task) (t : Task) → AreTasksApart earlier → IsNew earlier t → AreTasksApart (earlier ++ t ∷ [])
apart_more earlier t h new = record { starts = distinct_more (λ s. s.start) earlier t h.starts new.start; goals = distinct_more (λ s. s.goal) earlier t h.goals new.goal }

pub new_at : (earlier : List Task) (t : Task) (more : List Task) → AreTasksApart (earlier ++ t ∷ more) → IsNew earlier t
new_at earlier t more h = record { start = distinct_at (λ s. s.start) earlier t more h.starts; goal = distinct_at (λ s. s.goal) earlier t more h.goals }

pub apart_none : AreTasksApart []
apart_none = record { starts = λ i j d lt past. absurd (omega arith); goals = λ i j d lt past. absurd (omega arith) }

-- ---- the tasks of lines

-- earlier agents are apart, and not more than were asked for
pub record AreEarlier (asked : Option ℕ) (earlier : List Task) : Type 0 where
  pub few : length earlier ≤ MAX_AGENTS
  pub apart : AreTasksApart earlier
  pub range : MatchOption asked (Unit {0}) (λ count. (1 ≤ count) × (length earlier ≤ count))

-- all lines were read, or as many as were asked for
abbrev pub ReadsAll : Option ℕ → List Line → (new tasks : List Task) → Type 0
ReadsAll asked lines new tasks = MatchOption asked (length lines ≡ length new) (λ count. length tasks ≡ count)

-- the new tasks are those of lines
record AreNew (g : Ground) (asked : Option ℕ) (lines : List Line) (earlier new : List Task) : Type 0 where
  stand : AllZip (StandsForTask g) (take (length new) lines) new
  all : ReadsAll asked lines new (earlier ++ new)
  instance : IsInstance (earlier ++ new)

none_left : (asked : Option ℕ) (earlier tasks : List Task) → AreEarlier asked earlier → enough_tasks asked earlier ≡ Ok tasks → (tasks ≡ earlier) × (1 ≤ length earlier) × MatchOption asked (Unit {0}) (λ count. length earlier ≡ count)
none_left None [] tasks h e = absurd cc
none_left None (t ∷ earlier) tasks h e = (sym (ok_is (t ∷ earlier) tasks e), omega arith, tt)
none_left (Some count) earlier tasks h e =
    let r = right_ok (not (ltb (length earlier) count)) Fewer (Ok earlier) tasks e in
    let enough : count ≤ length earlier = ltb-false (length earlier) count (not-true (ltb (length earlier) count) r.0) in
    let range = h.range in
    (sym (ok_is earlier tasks r.1), omega (arith, range), omega (arith, range))

-- if no number was asked for, no line is left
abbrev Rest : Option ℕ → List Line → Type 0
Rest asked lines = MatchOption asked (length lines ≡ 0) (λ _. Unit {0})

no_rest : (asked : Option ℕ) → Rest asked []
no_rest None = refl
no_rest (Some count) = tt

stopped_early : (asked : Option ℕ) (count : ℕ) (lines : List Line) → lacks asked count ≡ false → Rest asked lines
stopped_early None count lines e = absurd cc
stopped_early (Some asked) count lines e = tt

reads_none : (asked : Option ℕ) (lines : List Line) (earlier : List Task) → Rest asked lines → MatchOption asked (Unit {0}) (λ count. length earlier ≡ count) → ReadsAll asked lines [] (earlier ++ [])
reads_none None lines earlier a b = a
reads_none (Some count) lines earlier a b = ap length (append-nil earlier) ∙ b

reads_more : (asked : Option ℕ) (w : Line) (lines : List Line) (t : Task) (new tasks others : List Task) → tasks ≡ others → ReadsAll asked lines new tasks → ReadsAll asked (w ∷ lines) (t ∷ new) others
reads_more None w lines t new tasks others e h = ap suc h
reads_more (Some count) w lines t new tasks others e h = ap length (sym e) ∙ h

reads_less : (asked : Option ℕ) (w : Line) (lines : List Line) (t : Task) (new tasks others : List Task) → tasks ≡ others → ReadsAll asked (w ∷ lines) (t ∷ new) tasks → ReadsAll asked lines new others
reads_less None w lines t new tasks others e h = omega (arith, h)
reads_less (Some count) w lines t new tasks others e h = ap length (sym e) ∙ h

nothing_new : (g : Ground) (asked : Option ℕ) (lines : List Line) (earlier tasks : List Task) → AreEarlier asked earlier → enough_tasks asked earlier ≡ Ok tasks → Rest asked lines
    → (new : List Task) × (tasks ≡ earlier ++ new) × AreNew g asked lines earlier new
nothing_new g asked lines earlier tasks h e rest =
    let p = none_left asked earlier tasks h e in
    let instance : IsInstance earlier = record { some = p.1; few = h.few; apart = h.apart } in
    ([], p.0 ∙ sym (append-nil earlier), record { stand = tt; all = reads_none asked lines earlier rest p.2; instance = subst IsInstance (sym (append-nil earlier)) instance })

range_more : (asked : Option ℕ) (earlier : List Task) (t : Task) → MatchOption asked (Unit {0}) (λ count. (1 ≤ count) × (length earlier ≤ count)) → lacks asked (length earlier) ≡ true
    → MatchOption asked (Unit {0}) (λ count. (1 ≤ count) × (length (earlier ++ t ∷ []) ≤ count))
range_more None earlier t h more = tt
range_more (Some count) earlier t h more = (h.0, let lt = ltb-true (length earlier) count more in omega (arith, lt, length-append earlier (t ∷ [])))

pub earlier_more : (asked : Option ℕ) (earlier : List Task) (t : Task) → AreEarlier asked earlier → length earlier < MAX_AGENTS → lacks asked (length earlier) ≡ true → IsNew earlier t → AreEarlier asked (earlier ++ t ∷ [])
earlier_more asked earlier t h few more new = record {
  few = omega (arith, length-append earlier (t ∷ []));
  apart = apart_more earlier t h.apart new;
  range = range_more asked earlier t h.range more;
}

-- the steps after a line's task
abbrev pub task_next : Ground → Option ℕ → ℕ → List Task → List Bytes → Task → Result (List Task) ScenFault
task_next g asked n earlier ls task = apart_at n earlier task >> tasks_at g asked n (earlier ++ task ∷ []) ls

abbrev pub line_next : Ground → Option ℕ → ℕ → List Task → List Bytes → List Bytes → Result (List Task) ScenFault
line_next g asked n earlier ws ls = task_at g n ws >>= λ task. task_next g asked n earlier ls task

-- the task of one line more in front
new_more : (g : Ground) (asked : Option ℕ) (earlier : List Task) (line : Line) (lines : List Line) (t : Task) (new : List Task) → StandsForTask g line t → AreNew g asked lines (earlier ++ t ∷ []) new → AreNew g asked (line ∷ lines) earlier (t ∷ new)
new_more g asked earlier line lines t new stands h =
    let regrouped : earlier ++ t ∷ [] ++ new ≡ earlier ++ (t ∷ new) = append_assoc earlier (t ∷ []) new in
    record { stand = (stands, h.stand); all = reads_more asked line lines t new (earlier ++ t ∷ [] ++ new) (earlier ++ (t ∷ new)) regrouped h.all; instance = subst IsInstance regrouped h.instance }

found_more : (g : Ground) (asked : Option ℕ) (earlier : List Task) (line : Line) (lines : List Line) (t : Task) (tasks : List Task) → StandsForTask g line t → (new : List Task) × (tasks ≡ earlier ++ t ∷ [] ++ new) × AreNew g asked lines (earlier ++ t ∷ []) new
    → (new : List Task) × (tasks ≡ earlier ++ new) × AreNew g asked (line ∷ lines) earlier new
found_more g asked earlier line lines t tasks stands r = (t ∷ r.0, r.1 ∙ append_assoc earlier (t ∷ []) r.0, new_more g asked earlier line lines t r.0 stands r.2)

new_less : (g : Ground) (asked : Option ℕ) (earlier : List Task) (line : Line) (lines : List Line) (t : Task) (new : List Task) → AreNew g asked (line ∷ lines) earlier (t ∷ new) → AreNew g asked lines (earlier ++ t ∷ []) new
new_less g asked earlier line lines t new h =
    let regrouped : earlier ++ (t ∷ new) ≡ earlier ++ t ∷ [] ++ new = sym (append_assoc earlier (t ∷ []) new) in
    record { stand = h.stand.1; all = reads_less asked line lines t new (earlier ++ (t ∷ new)) (earlier ++ t ∷ [] ++ new) regrouped h.all; instance = subst IsInstance regrouped h.instance }

tasks_are : (g : Ground) (asked : Option ℕ) (n : ℕ) (earlier : List Task) (ls : List Bytes) (tasks : List Task) → AreEarlier asked earlier → tasks_at g asked n earlier ls ≡ Ok tasks
    → (new : List Task) × (tasks ≡ earlier ++ new) × AreNew g asked (filled_from (n + 1) ls) earlier new
unfolding tasks_at
tasks_are g asked n earlier [] tasks h e = nothing_new g asked [] earlier tasks h e (no_rest asked)
tasks_are g asked n earlier (line ∷ ls) tasks h e =
    elim (cases_Bool (lacks asked (length earlier))) [
      | inr stop ↦ (let f : enough_tasks asked earlier ≡ Ok tasks = rw stop at e in nothing_new g asked (filled_from (n + 1) (line ∷ ls)) earlier tasks h f (stopped_early asked (length earlier) (filled_from (n + 1) (line ∷ ls)) stop))
      | inl more ↦ elim (cases_Bool (is_filled (words line))) [
        | inr empty ↦ (
            let f : tasks_at g asked (n + 1) earlier ls ≡ Ok tasks = rw (more, empty) at e in
            let r = tasks_are g asked (n + 1) earlier ls tasks h f in
            (r.0, r.1, subst (λ (lines : List Line). AreNew g asked lines earlier r.0) (sym (filled_skip (n + 1) line ls empty)) r.2))
        | inl filled ↦ (
            let f : (right_or (ltb (length earlier) MAX_AGENTS) TooMany >> line_next g asked (n + 1) earlier (words line) ls) ≡ Ok tasks = rw (more, filled) at e in
            let room = right_ok (ltb (length earlier) MAX_AGENTS) TooMany (line_next g asked (n + 1) earlier (words line) ls) tasks f in
            let b = bind_ok (task_at g (n + 1) (words line)) (λ task. task_next g asked (n + 1) earlier ls task) tasks room.1 in
            let t = b.0 in
            let a = then_ok (apart_at (n + 1) earlier t) (tasks_at g asked (n + 1) (earlier ++ t ∷ []) ls) tasks b.2 in
            let stands = task_is g (n + 1) (words line) t b.1 in
            let new = apart_is (n + 1) earlier t a.0 in
            let later = tasks_are g asked (n + 1) (earlier ++ t ∷ []) ls tasks (earlier_more asked earlier t h (ltb-true _ _ room.0) more new) a.1 in
            let r = found_more g asked earlier (n + 1, words line) (filled_from (n + 1 + 1) ls) t tasks stands later in
            (r.0, r.1, subst (λ (lines : List Line). AreNew g asked lines earlier r.0) (sym (filled_next (n + 1) line ls filled)) r.2))
      ]
    ]

end_again : (asked : Option ℕ) (lines : List Line) (earlier : List Task) → 1 ≤ length (earlier ++ []) → ReadsAll asked lines [] (earlier ++ []) → enough_tasks asked earlier ≡ Ok (earlier ++ [])
end_again None lines [] some h = absurd (omega arith)
end_again None lines (t ∷ earlier) some h = ap (λ (ts : List Task). Ok ts) (sym (append-nil (t ∷ earlier)))
end_again (Some count) lines earlier some h =
    let enough : ltb (length earlier) count ≡ false = le-ltb _ _ (omega (arith, h, length-append earlier [])) in
    rw enough (ap (λ (ts : List Task). Ok ts) (sym (append-nil earlier)))

still_lacks : (asked : Option ℕ) (lines : List Line) (earlier : List Task) (t : Task) (new : List Task) → ReadsAll asked lines (t ∷ new) (earlier ++ t ∷ new) → lacks asked (length earlier) ≡ true
still_lacks None lines earlier t new h = refl
still_lacks (Some count) lines earlier t new h = lt-ltb _ _ (omega (arith, h, length-append earlier (t ∷ new)))

tasks_again : (g : Ground) (asked : Option ℕ) (n : ℕ) (earlier : List Task) (ls : List Bytes) (new : List Task) → AreNew g asked (filled_from (n + 1) ls) earlier new → tasks_at g asked n earlier ls ≡ Ok (earlier ++ new)
unfolding tasks_at
tasks_again g asked n earlier [] [] h = end_again asked [] earlier h.instance.some h.all
tasks_again g asked n earlier [] (t ∷ new) h = absurd h.stand
tasks_again g None n earlier (line ∷ ls) [] h =
    elim (cases_Bool (is_filled (words line))) [
      | inr empty ↦ (
          let rest : AreNew g None (filled_from (n + 1 + 1) ls) earlier [] = subst (λ (lines : List Line). AreNew g None lines earlier []) (filled_skip (n + 1) line ls empty) h in
          rw empty (tasks_again g None (n + 1) earlier ls [] rest))
      | inl filled ↦ absurd (let all = h.all in let e = ap length (filled_next (n + 1) line ls filled) in omega (arith, all, e))
    ]
tasks_again g (Some count) n earlier (line ∷ ls) [] h =
    let enough : ltb (length earlier) count ≡ false = let all = h.all in le-ltb _ _ (omega (arith, all, length-append earlier [])) in
    rw enough (ap (λ (ts : List Task). Ok ts) (sym (append-nil earlier)))
tasks_again g asked n earlier (line ∷ ls) (t ∷ new) h =
    let more = still_lacks asked (filled_from (n + 1) (line ∷ ls)) earlier t new h.all in
    elim (cases_Bool (is_filled (words line))) [
      | inr empty ↦ (
          let rest : AreNew g asked (filled_from (n + 1 + 1) ls) earlier (t ∷ new) = subst (λ (lines : List Line). AreNew g asked lines earlier (t ∷ new)) (filled_skip (n + 1) line ls empty) h in
          rw (more, empty) (tasks_again g asked (n + 1) earlier ls (t ∷ new) rest))
      | inl filled ↦ (
          let here : AreNew g asked ((n + 1, words line) ∷ filled_from (n + 1 + 1) ls) earlier (t ∷ new) = subst (λ (lines : List Line). AreNew g asked lines earlier (t ∷ new)) (filled_next (n + 1) line ls filled) h in
          let room : ltb (length earlier) MAX_AGENTS ≡ true = let few = h.instance.few in lt-ltb _ _ (omega (arith, few, length-append earlier (t ∷ new))) in
          let is_new = new_at earlier t new h.instance.apart in
          let regrouped : earlier ++ t ∷ [] ++ new ≡ earlier ++ (t ∷ new) = append_assoc earlier (t ∷ []) new in
          let rest = new_less g asked earlier (n + 1, words line) (filled_from (n + 1 + 1) ls) t new here in
          rw (more, filled, room, task_again g (n + 1) (words line) t here.stand.0, apart_again (n + 1) earlier t is_new) (tasks_again g asked (n + 1) (earlier ++ t ∷ []) ls new rest ∙ ap (λ (ts : List Task). Ok ts) regrouped))
    ]

-- ---- the version line

-- the words of the first of the lines
abbrev pub first_words : List Line → List Bytes
first_words lines = (get_or lines 0 (0, [])).1

pub version_is : (n : ℕ) (ls : List Bytes) (x : ℕ × List Bytes) → after_version n ls ≡ Ok x → (is_version (first_words (filled_from (n + 1) ls)) ≡ true) × (drop 1 (filled_from (n + 1) ls) ≡ filled_from (x.0 + 1) x.1)
unfolding after_version
version_is n [] x e = absurd cc
version_is n (line ∷ ls) x e =
    elim (cases_Bool (is_filled (words line))) [
      | inl t ↦ (
          let f : (right_or (is_version (words line)) Version >> Ok (n + 1, ls)) ≡ Ok x = rw t at e in
          let r = right_ok (is_version (words line)) Version (Ok (n + 1, ls)) x f in
          rw t (r.0, ap (λ (y : ℕ × List Bytes). filled_from (y.0 + 1) y.1) (ok_is (n + 1, ls) x r.1)))
      | inr t ↦ (
          let f : after_version (n + 1) ls ≡ Ok x = rw t at e in
          rw t (version_is (n + 1) ls x f))
    ]

pub version_again : (n : ℕ) (ls : List Bytes) → is_version (first_words (filled_from (n + 1) ls)) ≡ true → (x : ℕ × List Bytes) × (after_version n ls ≡ Ok x) × (drop 1 (filled_from (n + 1) ls) ≡ filled_from (x.0 + 1) x.1)
unfolding after_version
version_again n [] e = absurd cc
version_again n (line ∷ ls) e =
    elim (cases_Bool (is_filled (words line))) [
      | inl t ↦ (
          let f : is_version (words line) ≡ true = rw t at e in
          let here : (after_version n (line ∷ ls) ≡ Ok (n + 1, ls)) × (drop 1 (filled_from (n + 1) (line ∷ ls)) ≡ filled_from (n + 1 + 1) ls) = rw (t, f) (refl, refl) in
          ((n + 1, ls), here.0, here.1))
      | inr t ↦ (
          let f : is_version (first_words (filled_from (n + 1 + 1) ls)) ≡ true = rw t at e in
          let r = version_again (n + 1) ls f in
          let here : (after_version n (line ∷ ls) ≡ Ok r.0) × (drop 1 (filled_from (n + 1) (line ∷ ls)) ≡ filled_from (r.0.0 + 1) r.0.1) = rw t (r.1, r.2) in
          (r.0, here.0, here.1))
    ]

-- ---- the whole scenario

asked_range : (asked : Option ℕ) → judge_asked asked ≡ Ok tt → MatchOption asked (Unit {0}) (λ count. (1 ≤ count) × (0 ≤ count))
asked_range None e = tt
asked_range (Some count) e = let r = right_ok (ltb 0 count) NoAgents (right_or (leb count MAX_AGENTS) TooMany) tt e in (ltb-true 0 count r.0, omega arith)

pub asked_again : (asked : Option ℕ) → MayBeAsked asked → judge_asked asked ≡ Ok tt
asked_again None h = refl
asked_again (Some count) h =
    let some : ltb 0 count ≡ true = lt-ltb 0 count (omega (arith, h)) in
    let few : leb count MAX_AGENTS ≡ true = le-leb count MAX_AGENTS (omega (arith, h)) in
    rw (some, few) refl

may_be_asked : (asked : Option ℕ) (lines : List Line) (tasks : List Task) → IsInstance tasks → ReadsAll asked lines tasks tasks → MayBeAsked asked
may_be_asked None lines tasks h all = tt
may_be_asked (Some count) lines tasks h all = (omega (arith, h.some, all), omega (arith, h.few, all))

pub none_earlier : (asked : Option ℕ) → judge_asked asked ≡ Ok tt → AreEarlier asked []
none_earlier asked e = record { few = omega arith; apart = apart_none; range = asked_range asked e }

-- the steps after the version line
abbrev pub tasks_after : Ground → Option ℕ → ℕ × List Bytes → Result (List Task) ScenFault
tasks_after g asked rest = tasks_at g asked rest.0 [] rest.1

abbrev pub after_asked : Ground → Option ℕ → List Bytes → Result (List Task) ScenFault
after_asked g asked ls = after_version 0 ls >>= λ rest. tasks_after g asked rest

pub is_found : (g : Ground) (asked : Option ℕ) (ls : List Bytes) (tasks : List Task) → scen_at g asked ls ≡ Ok tasks → AreScenLines ls g asked tasks
unfolding scen_at
is_found g asked ls tasks e =
    let a = then_ok (judge_asked asked) (after_asked g asked ls) tasks e in
    let b = bind_ok (after_version 0 ls) (λ rest. tasks_after g asked rest) tasks a.1 in
    let v = version_is 0 ls b.0 b.1 in
    let r = tasks_are g asked b.0.0 [] b.0.1 tasks (none_earlier asked a.0) b.2 in
    let new : AreNew g asked (agent_lines ls) [] r.0 = subst (λ (lines : List Line). AreNew g asked lines [] r.0) (sym v.1) r.2 in
    let all : AreNew g asked (agent_lines ls) [] tasks = subst (λ (ts : List Task). AreNew g asked (agent_lines ls) [] ts) (sym r.1) new in
    record { version = v.0; agents = all.stand; all = all.all; instance = all.instance }

pub is_read : (g : Ground) (asked : Option ℕ) (ls : List Bytes) (tasks : List Task) → AreScenLines ls g asked tasks → scen_at g asked ls ≡ Ok tasks
unfolding scen_at
is_read g asked ls tasks h =
    let v = version_again 0 ls h.version in
    let new : AreNew g asked (agent_lines ls) [] tasks = record { stand = h.agents; all = h.all; instance = h.instance } in
    let rest : AreNew g asked (filled_from (v.0.0 + 1) v.0.1) [] tasks = subst (λ (lines : List Line). AreNew g asked lines [] tasks) v.2 new in
    rw (asked_again asked (may_be_asked asked (agent_lines ls) tasks h.instance h.all), v.1) (tasks_again g asked v.0.0 [] v.0.1 tasks rest)
