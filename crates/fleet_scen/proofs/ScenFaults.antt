-- Reading a scenario's lines fails with a fault exactly if the fault is the first.
use Rattle.std.proofs.Common.{◌≡◌, ◌≢◌, ℕ, suc, ◌+◌, ◌≤◌, ◌<◌, true, false, not, ltb, leb, List, [], ◌∷◌, ◌++◌, length, take, drop, Option, Some, None, Ok, Err, refl, sym, ap, subst, ◌∙◌, append_assoc, arith, inl, inr}
use Rattle.std.specs.Prelude.{MatchOption, All, ◌⊎◌}
use Rattle.std.specs.List.{AllZip, AllByRecursion}
use Rattle.std.proofs.lemmas.Bool.{cases_Bool, ltb-true, ltb-false, lt-ltb, le-ltb, leb-true, leb-false, lt-leb, false_from_ne_true, both_ways, not-false}
use Rattle.std.proofs.lemmas.List.{append-nil, length-append, length-take, length-drop}
use Rattle.std.proofs.lemmas.List.Elements.{All-from_recursion}
use Rattle.fleet_model.specs.declared.task.Task.{Task}
use Rattle.fleet_model.specs.Answer.{IsDueUnless}
use Rattle.fleet_text.specs.Text.{Bytes, words}
use Rattle.fleet_grid.specs.Ground.{Ground}
use Rattle.fleet_text.specs.Steps.{◌>>◌, right_or}
use Rattle.fleet_text.proofs.StepLaws.{bind_err, right_err, then_err, err_is, ok_err, Tells, heads_are, next_is, next_again}
use Rattle.fleet_scen.specs.declared.fault.ScenFault.{ScenFault}
use Rattle.fleet_scen.specs.declared.fault.ScenFault.TheVariants.{OutOfMemory, Version, Fields, Number, OtherMap, Blocked, SharedStart, SharedGoal, NoAgents, TooMany, Fewer}
use Rattle.fleet_scen.specs.Instance.{AreTasksApart}
use Rattle.fleet_scen.specs.ScenText.{is_filled, Line, agent_lines, version_line, is_version, HasPassableEnds, StandsForTask, AreScenLines, MayBeAsked, IsScenRightUpTo, ReachesScenLine, IsFirstScenLineFault}
use Rattle.fleet_scen.specs.ScenReading.{task_at, apart_at, lacks, enough_tasks, tasks_at, after_version, judge_asked, scen_at}
use Rattle.fleet_scen.proofs.LineLaws.{IsLineFault, task_is, task_again, task_fails, task_fault, apart_is, apart_again, IsShared, apart_fails, apart_fault}
use Rattle.fleet_scen.proofs.ScenLaws.{filled_from, filled_skip, filled_next, AreEarlier, new_at, apart_none, earlier_more, task_next, line_next, first_words, version_is, version_again, asked_again, none_earlier, tasks_after, after_asked, is_found, is_read}
use Rattle.fleet_model.specs.declared.limits.TheConstants.{MAX_AGENTS}

-- ---- the end

-- why reading ends with too few agents
abbrev LacksAgents : Option ℕ → List Task → ScenFault → Type 0
LacksAgents asked all f = ((f ≡ NoAgents) × (asked ≡ None) × (all ≡ [])) ⊎ ((count : ℕ) × (f ≡ Fewer) × (asked ≡ Some count) × (length all < count))

ended_fails : (asked : Option ℕ) (all : List Task) (f : ScenFault) → enough_tasks asked all ≡ Err f → LacksAgents asked all f
ended_fails None [] f e = inl (sym (err_is {A = List Task} NoAgents f e), refl, refl)
ended_fails None (t ∷ all) f e = absurd cc
ended_fails (Some count) all f e =
    elim (right_err (not (ltb (length all) count)) Fewer (Ok all) f e) [
      | inl p ↦ (let less = not-false (ltb (length all) count) p.0 in inr (count, sym p.1, refl, ltb-true (length all) count less))
      | inr p ↦ absurd (let g : Ok all ≡ Err f = p.1 in cc)
    ]

ended_fault : (asked : Option ℕ) (all : List Task) (f : ScenFault) → LacksAgents asked all f → enough_tasks asked all ≡ Err f
ended_fault asked all f (inl p) = rw (p.1, p.2) (ap (λ (x : ScenFault). Err x) (sym p.0))
ended_fault asked all f (inr p) = rw (p.2, lt-ltb (length all) p.0 p.3) (ap (λ (x : ScenFault). Err x) (sym p.1))

short_lacks : (asked : Option ℕ) (all : List Task) (f : ScenFault) → LacksAgents asked all f → lacks asked (length all) ≡ true
short_lacks asked all f (inl p) = rw p.1 refl
short_lacks asked all f (inr p) = rw p.2 (lt-ltb (length all) p.0 p.3)

enough_is_read : (asked : Option ℕ) (all : List Task) → lacks asked (length all) ≡ false → enough_tasks asked all ≡ Ok all
enough_is_read None all e = absurd cc
enough_is_read (Some count) all e = rw e refl

-- ---- where reading stops, after all these agents, at the rest of the lines

abbrev IsFaultyLine : Ground → List Task → Line → ScenFault → Type 0
IsFaultyLine g all line f = IsLineFault g line f ⊎ ((t : Task) × StandsForTask g line t × IsShared all t line.0 f)

abbrev FailsAtLine : Ground → List Task → Line → ScenFault → Type 0
FailsAtLine g all line f = ((f ≡ TooMany) × (length all ≡ MAX_AGENTS)) ⊎ ((length all < MAX_AGENTS) × IsFaultyLine g all line f)

abbrev Stops : Ground → Option ℕ → List Task → List Line → ScenFault → Type 0
Stops g asked all rest f = ((rest ≡ []) × LacksAgents asked all f) ⊎ ((line : Line) × (more : List Line) × (rest ≡ line ∷ more) × (lacks asked (length all) ≡ true) × FailsAtLine g all line f)

-- it stops after the new agents of these lines
record StopsAfter (g : Ground) (asked : Option ℕ) (lines : List Line) (earlier new : List Task) (f : ScenFault) : Type 0 where
  stand : AllZip (StandsForTask g) (take (length new) lines) new
  earlier_all : AreEarlier asked (earlier ++ new)
  stops : Stops g asked (earlier ++ new) (drop (length new) lines) f

stops_here : (g : Ground) (asked : Option ℕ) (lines : List Line) (earlier : List Task) (f : ScenFault) → AreEarlier asked earlier → Stops g asked earlier lines f → StopsAfter g asked lines earlier [] f
stops_here g asked lines earlier f h s =
    let all = sym (append-nil earlier) in
    record { stand = tt; earlier_all = subst (AreEarlier asked) all h; stops = subst (λ (ts : List Task). Stops g asked ts lines f) all s }

-- .. before the first of them, or after one more
at_line : (g : Ground) (asked : Option ℕ) (earlier : List Task) (line : Line) (rest : List Line) (f : ScenFault) → AreEarlier asked earlier → lacks asked (length earlier) ≡ true → FailsAtLine g earlier line f
    → (new : List Task) × StopsAfter g asked (line ∷ rest) earlier new f
at_line g asked earlier line rest f h more s = ([], stops_here g asked (line ∷ rest) earlier f h (inr (line, rest, refl, more, s)))

after_line : (g : Ground) (asked : Option ℕ) (earlier : List Task) (line : Line) (rest : List Line) (t : Task) (new : List Task) (f : ScenFault) → StandsForTask g line t → StopsAfter g asked rest (earlier ++ t ∷ []) new f
    → StopsAfter g asked (line ∷ rest) earlier (t ∷ new) f
after_line g asked earlier line rest t new f stands s =
    let regrouped : earlier ++ t ∷ [] ++ new ≡ earlier ++ (t ∷ new) = append_assoc earlier (t ∷ []) new in
    record {
      stand = (stands, s.stand);
      earlier_all = subst (AreEarlier asked) regrouped s.earlier_all;
      stops = subst (λ (ts : List Task). Stops g asked ts (drop (length new) rest) f) regrouped s.stops;
    }

tasks_fail : (g : Ground) (asked : Option ℕ) (n : ℕ) (earlier : List Task) (ls : List Bytes) (f : ScenFault) → AreEarlier asked earlier → tasks_at g asked n earlier ls ≡ Err f
    → (new : List Task) × StopsAfter g asked (filled_from (n + 1) ls) earlier new f
unfolding tasks_at
tasks_fail g asked n earlier [] f h e = ([], stops_here g asked [] earlier f h (inl (refl, ended_fails asked earlier f e)))
tasks_fail g asked n earlier (line ∷ ls) f h e =
    let rest = filled_from (n + 1 + 1) ls in
    let here : Line = (n + 1, words line) in
    elim (cases_Bool (lacks asked (length earlier))) [
      | inr stop ↦ absurd (let k : enough_tasks asked earlier ≡ Err f = rw stop at e in let m : Ok earlier ≡ Err f = sym (enough_is_read asked earlier stop) ∙ k in cc)
      | inl more ↦ elim (cases_Bool (is_filled (words line))) [
        | inr empty ↦ (
            let k : tasks_at g asked (n + 1) earlier ls ≡ Err f = rw (more, empty) at e in
            let r = tasks_fail g asked (n + 1) earlier ls f h k in
            (r.0, subst (λ (lines : List Line). StopsAfter g asked lines earlier r.0 f) (sym (filled_skip (n + 1) line ls empty)) r.1))
        | inl filled ↦ (
            let k : (right_or (ltb (length earlier) MAX_AGENTS) TooMany >> line_next g asked (n + 1) earlier (words line) ls) ≡ Err f = rw (more, filled) at e in
            let r : (new : List Task) × StopsAfter g asked (here ∷ rest) earlier new f =
            elim (right_err (ltb (length earlier) MAX_AGENTS) TooMany (line_next g asked (n + 1) earlier (words line) ls) f k) [
              | inl p ↦ (
                  let many : MAX_AGENTS ≤ length earlier = ltb-false (length earlier) MAX_AGENTS p.0 in
                  at_line g asked earlier here rest f h more (inl (sym p.1, omega (arith, h.few))))
              | inr p ↦ (
                  let few : length earlier < MAX_AGENTS = ltb-true (length earlier) MAX_AGENTS p.0 in
                  elim (bind_err (task_at g (n + 1) (words line)) (λ task. task_next g asked (n + 1) earlier ls task) f p.1) [
                    | inl q ↦ at_line g asked earlier here rest f h more (inr (few, inl (task_fails g (n + 1) (words line) f q)))
                    | inr q ↦ (
                        let t = q.0 in
                        let stands = task_is g (n + 1) (words line) t q.1 in
                        elim (then_err (apart_at (n + 1) earlier t) (tasks_at g asked (n + 1) (earlier ++ t ∷ []) ls) f q.2) [
                          | inl s ↦ at_line g asked earlier here rest f h more (inr (few, inr (t, stands, apart_fails (n + 1) earlier t f s)))
                          | inr s ↦ (
                              let new = apart_is (n + 1) earlier t s.0 in
                              let later = tasks_fail g asked (n + 1) (earlier ++ t ∷ []) ls f (earlier_more asked earlier t h few more new) s.1 in
                              (t ∷ later.0, after_line g asked earlier here rest t later.0 f stands later.1))
                        ])
                  ])
            ] in
            (r.0, subst (λ (lines : List Line). StopsAfter g asked lines earlier r.0 f) (sym (filled_next (n + 1) line ls filled)) r.1))
      ]
    ]

-- ---- .. and back

stops_lacks : (g : Ground) (asked : Option ℕ) (all : List Task) (rest : List Line) (f : ScenFault) → Stops g asked all rest f → lacks asked (length all) ≡ true
stops_lacks g asked all rest f (inl p) = short_lacks asked all f p.1
stops_lacks g asked all rest f (inr p) = p.3

-- if more agents come after some, these are not all that were asked for
earlier_lacks : (asked : Option ℕ) (earlier : List Task) (t : Task) (new : List Task) → AreEarlier asked (earlier ++ t ∷ new) → lacks asked (length earlier) ≡ true
earlier_lacks None earlier t new h = refl
earlier_lacks (Some count) earlier t new h = let range = h.range in lt-ltb (length earlier) count (omega (arith, range, length-append earlier (t ∷ new)))

line_fault : (g : Ground) (asked : Option ℕ) (n : ℕ) (earlier : List Task) (ws : List Bytes) (ls : List Bytes) (f : ScenFault) → FailsAtLine g earlier (n, ws) f
    → (right_or (ltb (length earlier) MAX_AGENTS) TooMany >> line_next g asked n earlier ws ls) ≡ Err f
line_fault g asked n earlier ws ls f (inl p) = rw (le-ltb (length earlier) MAX_AGENTS (omega (arith, p.1))) (ap (λ (x : ScenFault). Err x) (sym p.0))
line_fault g asked n earlier ws ls f (inr p) =
    elim p.1 [
      | inl wrong ↦ rw (lt-ltb (length earlier) MAX_AGENTS p.0, task_fault g (n, ws) f wrong) refl
      | inr shared ↦ rw (lt-ltb (length earlier) MAX_AGENTS p.0, task_again g n ws shared.0 shared.1, apart_fault n earlier shared.0 f shared.2) refl
    ]

tasks_fault : (g : Ground) (asked : Option ℕ) (n : ℕ) (earlier : List Task) (ls : List Bytes) (new : List Task) (f : ScenFault) → StopsAfter g asked (filled_from (n + 1) ls) earlier new f → tasks_at g asked n earlier ls ≡ Err f
unfolding tasks_at
tasks_fault g asked n earlier [] [] f h =
    elim h.stops [
      | inl p ↦ ended_fault asked earlier f (subst (λ (ts : List Task). LacksAgents asked ts f) (append-nil earlier) p.1)
      | inr p ↦ absurd (let none : [] ≡ p.0 ∷ p.1 = p.2 in cc)
    ]
tasks_fault g asked n earlier [] (t ∷ new) f h = absurd h.stand
tasks_fault g asked n earlier (line ∷ ls) [] f h =
    let stops : Stops g asked earlier (filled_from (n + 1) (line ∷ ls)) f = subst (λ (ts : List Task). Stops g asked ts (filled_from (n + 1) (line ∷ ls)) f) (append-nil earlier) h.stops in
    let more = stops_lacks g asked earlier (filled_from (n + 1) (line ∷ ls)) f stops in
    elim (cases_Bool (is_filled (words line))) [
      | inr empty ↦ rw (more, empty) (tasks_fault g asked (n + 1) earlier ls [] f (subst (λ (lines : List Line). StopsAfter g asked lines earlier [] f) (filled_skip (n + 1) line ls empty) h))
      | inl filled ↦ (
          let next = filled_next (n + 1) line ls filled in
          elim stops [
            | inl p ↦ absurd (let none : (n + 1, words line) ∷ filled_from (n + 1 + 1) ls ≡ [] = sym next ∙ p.0 in cc)
            | inr p ↦ (
                let same : p.0 ≡ (n + 1, words line) = heads_are p.0 (n + 1, words line) p.1 (filled_from (n + 1 + 1) ls) (sym p.2 ∙ next) in
                rw (more, filled) (line_fault g asked (n + 1) earlier (words line) ls f (subst (λ (l : Line). FailsAtLine g earlier l f) same p.4)))
          ])
    ]
tasks_fault g asked n earlier (line ∷ ls) (t ∷ new) f h =
    let more = earlier_lacks asked earlier t new h.earlier_all in
    elim (cases_Bool (is_filled (words line))) [
      | inr empty ↦ rw (more, empty) (tasks_fault g asked (n + 1) earlier ls (t ∷ new) f (subst (λ (lines : List Line). StopsAfter g asked lines earlier (t ∷ new) f) (filled_skip (n + 1) line ls empty) h))
      | inl filled ↦ (
          let here : StopsAfter g asked ((n + 1, words line) ∷ filled_from (n + 1 + 1) ls) earlier (t ∷ new) f = subst (λ (lines : List Line). StopsAfter g asked lines earlier (t ∷ new) f) (filled_next (n + 1) line ls filled) h in
          let room : ltb (length earlier) MAX_AGENTS ≡ true = let few = h.earlier_all.few in lt-ltb _ _ (omega (arith, few, length-append earlier (t ∷ new))) in
          let regrouped : earlier ++ (t ∷ new) ≡ earlier ++ t ∷ [] ++ new = sym (append_assoc earlier (t ∷ []) new) in
          let rest : StopsAfter g asked (filled_from (n + 1 + 1) ls) (earlier ++ t ∷ []) new f = record {
            stand = here.stand.1;
            earlier_all = subst (AreEarlier asked) regrouped here.earlier_all;
            stops = subst (λ (ts : List Task). Stops g asked ts (drop (length new) (filled_from (n + 1 + 1) ls)) f) regrouped here.stops;
          } in
          rw (more, filled, room, task_again g (n + 1) (words line) t here.stand.0, apart_again (n + 1) earlier t (new_at earlier t new h.earlier_all.apart)) (tasks_fault g asked (n + 1) (earlier ++ t ∷ []) ls new f rest))
    ]

-- ---- places in the lines

zip_length : (g : Ground) (lines : List Line) (tasks : List Task) → AllZip (StandsForTask g) lines tasks → length lines ≡ length tasks
zip_length g [] [] h = refl
zip_length g [] (t ∷ tasks) h = absurd h
zip_length g (l ∷ lines) [] h = absurd h
zip_length g (l ∷ lines) (t ∷ tasks) h = ap suc (zip_length g lines tasks h.1)

nil_length : (lines : List Line) → lines ≡ [] → length lines ≡ 0
nil_length lines e = ap length e

length_nil : (lines : List Line) → length lines ≡ 0 → lines ≡ []
length_nil [] e = refl
length_nil (l ∷ lines) e = absurd (omega (arith, e))

-- ---- what was asked for

judged_asked : (asked : Option ℕ) → judge_asked asked ≡ Ok tt → MayBeAsked asked
judged_asked None e = tt
judged_asked (Some count) e =
    elim (cases_Bool (ltb 0 count)) [
      | inr zero_count ↦ absurd (let k : Err NoAgents ≡ Ok tt = rw zero_count at e in cc)
      | inl some ↦ elim (cases_Bool (leb count MAX_AGENTS)) [
        | inr many ↦ absurd (let k : Err TooMany ≡ Ok tt = rw (some, many) at e in cc)
        | inl few ↦ (ltb-true 0 count some, leb-true count MAX_AGENTS few)
      ]
    ]

asked_fails : (ls : List Bytes) (g : Ground) (asked : Option ℕ) (f : ScenFault) → judge_asked asked ≡ Err f → IsFirstScenLineFault ls g asked f
asked_fails ls g None f e = absurd cc
asked_fails ls g (Some count) f e =
    elim (right_err (ltb 0 count) NoAgents (right_or (leb count MAX_AGENTS) TooMany) f e) [
      | inl p ↦ subst (IsFirstScenLineFault ls g (Some count)) p.1 (inl (let none = ltb-false 0 count p.0 in ap (λ (n : ℕ). Some n) (omega arith)))
      | inr p ↦ elim (cases_Bool (leb count MAX_AGENTS)) [
        | inl few ↦ absurd (let k : Ok tt ≡ Err f = rw few at p.1 in cc)
        | inr many ↦ (
            let k : Err TooMany ≡ Err f = rw many at p.1 in
            subst (IsFirstScenLineFault ls g (Some count)) (err_is {A = Unit {0}} TooMany f k) (inl (count, refl, leb-false count MAX_AGENTS many)))
      ]
    ]

none_asked : (asked : Option ℕ) → asked ≡ Some 0 → judge_asked asked ≡ Err NoAgents
none_asked asked e = rw e refl

many_asked : (asked : Option ℕ) (count : ℕ) → asked ≡ Some count → MAX_AGENTS < count → judge_asked asked ≡ Err TooMany
many_asked asked count e many =
    let some : ltb 0 count ≡ true = lt-ltb 0 count (omega arith) in
    let few : leb count MAX_AGENTS ≡ false = lt-leb count MAX_AGENTS many in
    rw (e, some, few) refl

-- ---- the version line

version_fails : (n : ℕ) (ls : List Bytes) (f : ScenFault) → after_version n ls ≡ Err f → (f ≡ Version) × (is_version (first_words (filled_from (n + 1) ls)) ≡ false)
unfolding after_version
version_fails n [] f e = (sym (err_is {A = ℕ × List Bytes} Version f e), refl)
version_fails n (line ∷ ls) f e =
    elim (cases_Bool (is_filled (words line))) [
      | inl t ↦ (
          let k : (right_or (is_version (words line)) Version >> Ok (n + 1, ls)) ≡ Err f = rw t at e in
          elim (right_err (is_version (words line)) Version (Ok (n + 1, ls)) f k) [
            | inl p ↦ rw t (sym p.1, p.0)
            | inr p ↦ absurd (ok_err (n + 1, ls) f p.1)
          ])
      | inr t ↦ (
          let k : after_version (n + 1) ls ≡ Err f = rw t at e in
          rw t (version_fails (n + 1) ls f k))
    ]

version_fault : (n : ℕ) (ls : List Bytes) → is_version (first_words (filled_from (n + 1) ls)) ≡ false → after_version n ls ≡ Err Version
unfolding after_version
version_fault n [] e = refl
version_fault n (line ∷ ls) e =
    elim (cases_Bool (is_filled (words line))) [
      | inl t ↦ (
          let k : is_version (words line) ≡ false = rw t at e in
          rw (t, k) refl)
      | inr t ↦ (
          let k : is_version (first_words (filled_from (n + 1 + 1) ls)) ≡ false = rw t at e in
          rw t (version_fault (n + 1) ls k))
    ]

-- ---- where it stops, in the lines' own words

lacks_wanted : (asked : Option ℕ) (n : ℕ) → lacks asked n ≡ true → MatchOption asked (Unit {0}) (λ count. n < count)
lacks_wanted None n e = tt
lacks_wanted (Some count) n e = ltb-true n count e

wanted_lacks : (asked : Option ℕ) (n : ℕ) → MatchOption asked (Unit {0}) (λ count. n < count) → lacks asked n ≡ true
wanted_lacks None n h = refl
wanted_lacks (Some count) n h = lt-ltb n count h

-- no more than 1,024 may be asked for, so those who still lack some are not 1,024 that were asked for
not_asked : (asked : Option ℕ) → MayBeAsked asked → lacks asked MAX_AGENTS ≡ true → asked ≡ None
not_asked None h e = refl
not_asked (Some count) h e = absurd (let lt = ltb-true MAX_AGENTS count e in omega (arith, h, lt))

judged_fault : (ls : List Bytes) (g : Ground) (asked : Option ℕ) (all : List Task) (line : Line) (f : ScenFault) → ReachesScenLine all line ls g asked → IsFaultyLine g all line f → IsFirstScenLineFault ls g asked f
judged_fault ls g asked all line f r (inl (inl (inl p))) = subst (IsFirstScenLineFault ls g asked) (sym p.0) (all, line.1, r, p.1)
judged_fault ls g asked all line f r (inl (inl (inr p))) = subst (IsFirstScenLineFault ls g asked) (sym p.1) (all, line.1, r, p.2, p.0, refl, p.3)
judged_fault ls g asked all line f r (inl (inr (inl p))) = subst (IsFirstScenLineFault ls g asked) (sym p.3) (all, line.1, r, p.0, p.1, p.2, p.4, p.5)
judged_fault ls g asked all line f r (inl (inr (inr p))) = subst (IsFirstScenLineFault ls g asked) (sym p.1) (all, line.1, r, p.0, p.2, p.3)
judged_fault ls g asked all line f r (inr p) =
    elim p.2 [
      | inl s ↦ subst (IsFirstScenLineFault ls g asked) (sym s.0) (all, line.1, r, p.0, p.1, s.1)
      | inr s ↦ subst (IsFirstScenLineFault ls g asked) (sym s.0) (all, line.1, r, p.0, p.1, s.1, s.2)
    ]

stops_fault : (ls : List Bytes) (g : Ground) (asked : Option ℕ) (all : List Task) (f : ScenFault) → IsScenRightUpTo all ls g asked → Stops g asked all (drop (length all) (agent_lines ls)) f → IsFirstScenLineFault ls g asked f
stops_fault ls g asked all f right (inl p) =
    let lines = agent_lines ls in
    let taken : length (take (length all) lines) ≡ length all = zip_length g (take (length all) lines) all right.agents in
    let left = nil_length (drop (length all) lines) p.0 in
    let size : length lines ≡ length all = omega (arith, taken, left, length-take (length all) lines, length-drop (length all) lines) in
    elim p.1 [
      | inl s ↦ subst (IsFirstScenLineFault ls g asked) (sym s.0) (inr (s.1, right.version, length_nil lines (size ∙ ap length s.2)))
      | inr s ↦ subst (IsFirstScenLineFault ls g asked) (sym s.1) (s.0, s.2, all, right, size, s.3)
    ]
stops_fault ls g asked all f right (inr p) =
    let lines = agent_lines ls in
    let line = p.0 in
    let is_next = next_is (length all) lines line p.1 p.2 in
    elim p.4 [
      | inl s ↦ (
          let none = not_asked asked right.may_be_asked (subst (λ (n : ℕ). lacks asked n ≡ true) s.1 p.3) in
          let longer : MAX_AGENTS < length lines = let more = ap length p.2 in omega (arith, more, length-drop (length all) lines, s.1) in
          subst (IsFirstScenLineFault ls g asked) (sym s.0) (inr (none, all, right, s.1, longer)))
      | inr s ↦ judged_fault ls g asked all line f (record { right = right; wanted = lacks_wanted asked (length all) p.3; few = s.0; is_next = is_next }) s.1
    ]

-- ---- the whole scenario

tasks_after_fail : (ls : List Bytes) (g : Ground) (asked : Option ℕ) (rest : ℕ × List Bytes) (f : ScenFault) → judge_asked asked ≡ Ok tt → is_version (version_line ls) ≡ true → agent_lines ls ≡ filled_from (rest.0 + 1) rest.1
    → tasks_after g asked rest ≡ Err f → IsFirstScenLineFault ls g asked f
tasks_after_fail ls g asked rest f may version same e =
    let r = tasks_fail g asked rest.0 [] rest.1 f (none_earlier asked may) e in
    let s : StopsAfter g asked (agent_lines ls) [] r.0 f = subst (λ (lines : List Line). StopsAfter g asked lines [] r.0 f) (sym same) r.1 in
    let right : IsScenRightUpTo r.0 ls g asked = record { may_be_asked = judged_asked asked may; version = version; agents = s.stand; apart = s.earlier_all.apart } in
    stops_fault ls g asked r.0 f right s.stops

-- what reading fails with is the first fault
pub is_fault : (g : Ground) (asked : Option ℕ) (ls : List Bytes) (f : ScenFault) → scen_at g asked ls ≡ Err f → IsFirstScenLineFault ls g asked f
unfolding scen_at
is_fault g asked ls f e =
    elim (then_err (judge_asked asked) (after_asked g asked ls) f e) [
      | inl p ↦ asked_fails ls g asked f p
      | inr p ↦ elim (bind_err (after_version 0 ls) (λ rest. tasks_after g asked rest) f p.1) [
        | inl q ↦ (
            let v = version_fails 0 ls f q in
            subst (IsFirstScenLineFault ls g asked) (sym v.0) (judged_asked asked p.0, both_ways (is_version (version_line ls)) v.1))
        | inr q ↦ (let v = version_is 0 ls q.0 q.1 in tasks_after_fail ls g asked q.0 f p.0 v.0 v.1 q.2)
      ]
    ]

-- ---- .. and back

earlier_are : (asked : Option ℕ) (all : List Task) → MayBeAsked asked → AreTasksApart all → length all ≤ MAX_AGENTS → MatchOption asked (Unit {0}) (λ count. length all ≤ count) → AreEarlier asked all
earlier_are None all may apart few h = record { few = few; apart = apart; range = tt }
earlier_are (Some count) all may apart few h = record { few = few; apart = apart; range = (omega (arith, may), h) }

wanted_less : (asked : Option ℕ) (n : ℕ) → MatchOption asked (Unit {0}) (λ count. n < count) → MatchOption asked (Unit {0}) (λ count. n ≤ count)
wanted_less None n h = tt
wanted_less (Some count) n h = omega (arith, h)

told_at : (ls : List Bytes) (g : Ground) (asked : Option ℕ) (all : List Task) (f : ScenFault) → IsScenRightUpTo all ls g asked → length all ≤ MAX_AGENTS → MatchOption asked (Unit {0}) (λ count. length all ≤ count)
    → Stops g asked all (drop (length all) (agent_lines ls)) f → scen_at g asked ls ≡ Err f
unfolding scen_at
told_at ls g asked all f right few range stops =
    let v = version_again 0 ls right.version in
    let here : StopsAfter g asked (agent_lines ls) [] all f = record { stand = right.agents; earlier_all = earlier_are asked all right.may_be_asked right.apart few range; stops = stops } in
    let there : StopsAfter g asked (filled_from (v.0.0 + 1) v.0.1) [] all f = subst (λ (lines : List Line). StopsAfter g asked lines [] all f) v.2 here in
    rw (asked_again asked right.may_be_asked, v.1) (tasks_fault g asked v.0.0 [] v.0.1 all f there)

told_line : (ls : List Bytes) (g : Ground) (asked : Option ℕ) (all : List Task) (line : Line) (f : ScenFault) → ReachesScenLine all line ls g asked → IsFaultyLine g all line f → scen_at g asked ls ≡ Err f
told_line ls g asked all line f r judged =
    let next = next_again (length all) (agent_lines ls) line r.is_next in
    let few = r.few in
    told_at ls g asked all f r.right (omega (arith, few)) (wanted_less asked (length all) r.wanted) (inr (line, next.0, next.1, wanted_lacks asked (length all) r.wanted, inr (few, judged)))

-- the first fault is what reading fails with
pub is_told : (g : Ground) (asked : Option ℕ) (ls : List Bytes) (f : ScenFault) → IsFirstScenLineFault ls g asked f → scen_at g asked ls ≡ Err f
unfolding scen_at
is_told g asked ls OutOfMemory h = absurd h
is_told g asked ls Version h =
    let wrong : is_version (version_line ls) ≡ false = false_from_ne_true (is_version (version_line ls)) h.1 in
    rw (asked_again asked h.0, version_fault 0 ls wrong) refl
is_told g asked ls (Fields line) h = told_line ls g asked h.0 (line, h.1) (Fields line) h.2 (inl (inl (inl (refl, h.3))))
is_told g asked ls (Number line field) h = told_line ls g asked h.0 (line, h.1) (Number line field) h.2 (inl (inl (inr (h.4, ap (λ (n : ℕ). Number line n) h.5, h.3, h.6))))
is_told g asked ls (OtherMap line) h = told_line ls g asked h.0 (line, h.1) (OtherMap line) h.2 (inl (inr (inl (h.3, h.4, h.5, refl, h.6, h.7))))
is_told g asked ls (Blocked line) h = told_line ls g asked h.0 (line, h.1) (Blocked line) h.2 (inl (inr (inr (h.3, refl, h.4, h.5))))
is_told g asked ls (SharedStart line) h = told_line ls g asked h.0 (line, h.1) (SharedStart line) h.2 (inr (h.3, h.4, inl (refl, h.5)))
is_told g asked ls (SharedGoal line) h = told_line ls g asked h.0 (line, h.1) (SharedGoal line) h.2 (inr (h.3, h.4, inr (refl, h.5, h.6)))
is_told g asked ls NoAgents (inl p) = rw (none_asked asked p) refl
is_told g asked ls NoAgents (inr p) =
    let right : IsScenRightUpTo [] ls g asked = record { may_be_asked = rw p.0 tt; version = p.1; agents = tt; apart = apart_none } in
    told_at ls g asked [] NoAgents right (omega arith) (rw p.0 tt) (inl (p.2, inl (refl, p.0, refl)))
is_told g asked ls TooMany (inl p) = rw (many_asked asked p.0 p.1 p.2) refl
is_told g asked ls TooMany (inr p) =
    let all = p.1 in
    let size = p.3 in
    let longer = p.4 in
    let some : 0 < length (drop (length all) (agent_lines ls)) = omega (arith, length-drop (length all) (agent_lines ls), size, longer) in
    let next = not_nil (drop (length all) (agent_lines ls)) some in
    told_at ls g asked all TooMany p.2 (omega (arith, size)) (rw p.0 tt) (inr (next.0, next.1, next.2, rw p.0 refl, inl (refl, size)))
  where
    not_nil : (lines : List Line) → 0 < length lines → (line : Line) × (more : List Line) × (lines ≡ line ∷ more)
    not_nil [] some = absurd (omega arith)
    not_nil (l ∷ lines) some = (l, lines, refl)
is_told g asked ls Fewer h =
    let count = h.0 in
    let all = h.2 in
    let right = h.3 in
    let size = h.4 in
    let less = h.5 in
    let may : MayBeAsked (Some count) = subst MayBeAsked h.1 right.may_be_asked in
    let none_left : drop (length all) (agent_lines ls) ≡ [] = length_nil (drop (length all) (agent_lines ls)) (omega (arith, length-drop (length all) (agent_lines ls), size)) in
    told_at ls g asked all Fewer right (omega (arith, may, less)) (rw h.1 (omega (arith, less))) (inl (none_left, inr (count, refl, h.1, less)))

-- ---- the reader's laws

pub tells : (g : Ground) (asked : Option ℕ) (ls : List Bytes) → Tells (AreScenLines ls g asked) (IsFirstScenLineFault ls g asked) (scen_at g asked ls)
tells g asked ls = record { found = is_found g asked ls; read = is_read g asked ls; fault = is_fault g asked ls; told = is_told g asked ls }

-- ---- the cells of an instance

cells_open : (g : Ground) (lines : List Line) (tasks : List Task) → AllZip (StandsForTask g) lines tasks → AllByRecursion (HasPassableEnds g) tasks
cells_open g [] [] h = tt
cells_open g [] (t ∷ tasks) h = absurd h
cells_open g (l ∷ lines) [] h = absurd h
cells_open g (l ∷ lines) (t ∷ tasks) h = (h.0.cells, cells_open g lines tasks h.1)

pub all_open : (g : Ground) (asked : Option ℕ) (ls : List Bytes) (tasks : List Task) → AreScenLines ls g asked tasks → All (HasPassableEnds g) tasks
all_open g asked ls tasks h = All-from_recursion (HasPassableEnds g) tasks (cells_open g (take (length tasks) (agent_lines ls)) tasks h.agents)

-- ---- what the reader refuses

pub read : (g : Ground) (asked : Option ℕ) (ls : List Bytes) (f : ScenFault) → IsDueUnless {X = List Task} (λ t. t) (Err f) (scen_at g asked ls) OutOfMemory → (tasks : List Task) → AreScenLines ls g asked tasks → f ≡ OutOfMemory
read g asked ls OutOfMemory e tasks a = refl
read g asked ls f e tasks a = absurd (ok_err tasks f (sym (is_read g asked ls tasks a) ∙ e (λ memory. cc)))

pub reported_is_first : (g : Ground) (asked : Option ℕ) (ls : List Bytes) (f : ScenFault) → IsDueUnless {X = List Task} (λ t. t) (Err f) (scen_at g asked ls) OutOfMemory → f ≢ OutOfMemory → IsFirstScenLineFault ls g asked f
reported_is_first g asked ls f e other = is_fault g asked ls f (e other)
