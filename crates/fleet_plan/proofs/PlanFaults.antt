-- Reading a plan's lines fails with a fault exactly where the fault is the first.
use Rattle.fleet_plan.proofs.Words.{◌≡◌, ◌≢◌, ℕ, zero, suc, ◌+◌, ◌≤◌, ◌<◌, false, ltb, leb, List, [], ◌∷◌, ◌++◌, length, take, drop, Option, Some, None, Result, Ok, Err, refl, sym, ap, subst, ◌∙◌, arith, inl, inr, All, ◌⊎◌, AllByRecursion, ltb-true, ltb-false, leb-false, lt-ltb, le-ltb, lt-leb, length-append, length-drop, All-from_recursion, recursion_from_All, IsDueUnless, Bytes, ◌>>=◌, ◌>>◌, right_or, some_or, some_ok, bind_err, right_err, some_err, err_is, ok_err, none_some, Tells, heads_are, next_is, next_again, Path, Plan, TextFault, OutOfMemory, Form, Length, AgentCount, SpellsPath, ArePlanLines, IsRightLine, ReachesPlanLine, IsFirstPlanLineFault, path_at, enough_paths, paths_at, MAX_CELLS, MAX_AGENTS}
use Rattle.fleet_plan.proofs.PlanLaws.{path_in, spells_again, spells_is, judged, path_is, path_again, paths_next, is_found, is_read}

-- ---- a line

-- why the line, of this number, stands for no path
abbrev IsLineFault : ℕ → Bytes → TextFault → Type 0
IsLineFault number line f = ((f ≡ Form number) × ((path : Path) → SpellsPath line path → ⊥)) ⊎ ((f ≡ Length number) × (path : Path) × SpellsPath line path × (MAX_CELLS < length path))

path_fails : (number : ℕ) (line : Bytes) (f : TextFault) → path_at number line ≡ Err f → IsLineFault number line f
unfolding path_at
path_fails number line f e =
    elim (bind_err (some_or (path_in line) (Form number)) (judged number) f e) [
      | inl p ↦ (
          let q = some_err (path_in line) (Form number) f p in
          inl (sym q.1, λ path s. none_some (path_in line) path q.0 (spells_again line path s)))
      | inr p ↦ (
          let path = p.0 in
          let some = some_ok (path_in line) (Form number) path p.1 in
          elim (right_err (leb (length path) MAX_CELLS) (Length number) (Ok path) f p.2) [
            | inl q ↦ inr (sym q.1, path, spells_is line path some, leb-false (length path) MAX_CELLS q.0)
            | inr q ↦ absurd (ok_err path f q.1)
          ])
    ]

path_fault : (number : ℕ) (line : Bytes) (f : TextFault) → IsLineFault number line f → path_at number line ≡ Err f
unfolding path_at
path_fault number line f (inl h) = none (path_in line) refl
  where
    none : (o : Option Path) → path_in line ≡ o → path_at number line ≡ Err f
    none None e = rw e (ap (λ (x : TextFault). Err x) (sym h.0))
    none (Some path) e = absurd (h.1 path (spells_is line path e))
path_fault number line f (inr h) = rw (spells_again line h.1 h.2, lt-leb (length h.1) MAX_CELLS h.3) (ap (λ (x : TextFault). Err x) (sym h.0))

-- ---- where reading stops, after n lines

abbrev Stops : ℕ → List Bytes → TextFault → Type 0
Stops n rest f =
    ((f ≡ AgentCount) × (n ≡ 0) × (rest ≡ []))
    ⊎ (((f ≡ AgentCount) × (n ≡ MAX_AGENTS) × (1 ≤ length rest))
    ⊎ ((n < MAX_AGENTS) × (line : Bytes) × (more : List Bytes) × (rest ≡ line ∷ more) × IsLineFault (n + 1) line f))

-- .. after k more lines, which are right
record StopsAfter (n : ℕ) (ls : List Bytes) (k : ℕ) (f : TextFault) : Type 0 where
  right : AllByRecursion IsRightLine (take k ls)
  stops : Stops (n + k) (drop k ls) f

stops_here : (n : ℕ) (ls : List Bytes) (f : TextFault) → Stops n ls f → StopsAfter n ls 0 f
stops_here n ls f s = let same : n ≡ n + 0 = omega arith in record { right = tt; stops = subst (λ (m : ℕ). Stops m ls f) same s }

stops_later : (n : ℕ) (line : Bytes) (ls : List Bytes) (k : ℕ) (f : TextFault) → IsRightLine line → StopsAfter (n + 1) ls k f → StopsAfter n (line ∷ ls) (suc k) f
stops_later n line ls k f right s =
    let same : n + 1 + k ≡ n + suc k = omega arith in
    record { right = (right, s.right); stops = subst (λ (m : ℕ). Stops m (drop k ls) f) same s.stops }

paths_fail : (earlier : Plan) (ls : List Bytes) (f : TextFault) → length earlier ≤ MAX_AGENTS → paths_at earlier ls ≡ Err f → (k : ℕ) × StopsAfter (length earlier) ls k f
unfolding paths_at
paths_fail [] [] f few e = (0, stops_here 0 [] f (inl (sym (err_is {A = Plan} AgentCount f e), refl, refl)))
paths_fail (p ∷ earlier) [] f few e = absurd (ok_err (p ∷ earlier) f e)
paths_fail earlier (line ∷ ls) f few e =
    let n = length earlier in
    elim (right_err (ltb n MAX_AGENTS) AgentCount (path_at (n + 1) line >>= paths_next earlier ls) f e) [
      | inl p ↦ (
          let many : MAX_AGENTS ≤ n = ltb-false n MAX_AGENTS p.0 in
          let all : n ≡ MAX_AGENTS = omega arith in
          (0, stops_here n (line ∷ ls) f (inr (inl (sym p.1, all, omega arith)))))
      | inr p ↦ (
          let fewer : n < MAX_AGENTS = ltb-true n MAX_AGENTS p.0 in
          elim (bind_err (path_at (n + 1) line) (paths_next earlier ls) f p.1) [
            | inl q ↦ (0, stops_here n (line ∷ ls) f (inr (inr (fewer, line, ls, refl, path_fails (n + 1) line f q))))
            | inr q ↦ (
                let path = q.0 in
                let longer : length (earlier ++ path ∷ []) ≡ n + 1 = length-append earlier (path ∷ []) in
                let more = paths_fail (earlier ++ path ∷ []) ls f (omega (arith, longer)) q.2 in
                let there : StopsAfter (n + 1) ls more.0 f = subst (λ (m : ℕ). StopsAfter m ls more.0 f) longer more.1 in
                (suc more.0, stops_later n line ls more.0 f (path, path_is (n + 1) line path q.1) there))
          ])
    ]

-- ---- .. and back

no_line : (line : Bytes) (more : List Bytes) → [] ≡ line ∷ more → ⊥
no_line line more e = cc

some_line : (line : Bytes) (more : List Bytes) → line ∷ more ≡ [] → ⊥
some_line line more e = cc

ends_fault : (earlier : Plan) (k : ℕ) (f : TextFault) → Stops (length earlier + k) [] f → enough_paths earlier ≡ Err f
ends_fault [] k f (inl s) = ap (λ (x : TextFault). Err x) (sym s.0)
ends_fault (p ∷ earlier) k f (inl s) = absurd (let none = s.1 in omega (arith, none))
ends_fault earlier k f (inr (inl s)) = absurd (let some = s.2 in omega (arith, some))
ends_fault earlier k f (inr (inr s)) = absurd (no_line s.1 s.2 s.3)

line_fault : (n : ℕ) (next : Path → Result Plan TextFault) (line : Bytes) (ls : List Bytes) (f : TextFault) → Stops n (line ∷ ls) f → (right_or (ltb n MAX_AGENTS) AgentCount >> (path_at (n + 1) line >>= next)) ≡ Err f
line_fault n next line ls f (inl s) = absurd (some_line line ls s.2)
line_fault n next line ls f (inr (inl s)) =
    let full : ltb n MAX_AGENTS ≡ false = le-ltb n MAX_AGENTS (let all = s.1 in omega (arith, all)) in
    rw full (ap (λ (x : TextFault). Err x) (sym s.0))
line_fault n next line ls f (inr (inr s)) =
    let here : IsLineFault (n + 1) line f = subst (λ (l : Bytes). IsLineFault (n + 1) l f) (heads_are s.1 line s.2 ls (sym s.3)) s.4 in
    rw (lt-ltb n MAX_AGENTS s.0, path_fault (n + 1) line f here) refl

stops_few : (n k : ℕ) (rest : List Bytes) (f : TextFault) → Stops (n + suc k) rest f → n < MAX_AGENTS
stops_few n k rest f (inl s) = absurd (let none = s.1 in omega (arith, none))
stops_few n k rest f (inr (inl s)) = (let all = s.1 in omega (arith, all))
stops_few n k rest f (inr (inr s)) = (let few = s.0 in omega (arith, few))

paths_fault : (earlier : Plan) (ls : List Bytes) (k : ℕ) (f : TextFault) → StopsAfter (length earlier) ls k f → paths_at earlier ls ≡ Err f
unfolding paths_at
paths_fault earlier [] zero f h = ends_fault earlier 0 f h.stops
paths_fault earlier [] (suc k) f h = ends_fault earlier (suc k) f h.stops
paths_fault earlier (line ∷ ls) zero f h =
    let same : length earlier + 0 ≡ length earlier = omega arith in
    line_fault (length earlier) (paths_next earlier ls) line ls f (subst (λ (m : ℕ). Stops m (line ∷ ls) f) same h.stops)
paths_fault earlier (line ∷ ls) (suc k) f h =
    let n = length earlier in
    let path = h.right.0.0 in
    let few = stops_few n k (drop k ls) f h.stops in
    let longer : n + 1 ≡ length (earlier ++ path ∷ []) = sym (length-append earlier (path ∷ [])) in
    let same : n + suc k ≡ n + 1 + k = omega arith in
    let there : StopsAfter (n + 1) ls k f = record { right = h.right.1; stops = subst (λ (m : ℕ). Stops m (drop k ls) f) same h.stops } in
    rw (lt-ltb n MAX_AGENTS few, path_again (n + 1) line path h.right.0.1) (paths_fault (earlier ++ path ∷ []) ls k f (subst (λ (m : ℕ). StopsAfter m ls k f) longer there))

-- ---- the first fault

line_is_first : (ls : List Bytes) (k : ℕ) (line : Bytes) (f : TextFault) → ReachesPlanLine ls k line → IsLineFault (k + 1) line f → IsFirstPlanLineFault ls f
line_is_first ls k line f r (inl h) = subst (IsFirstPlanLineFault ls) (sym h.0) (k, line, refl, r, h.1)
line_is_first ls k line f r (inr h) = subst (IsFirstPlanLineFault ls) (sym h.0) (k, line, refl, r, h.1, h.2, h.3)

stops_first : (ls : List Bytes) (k : ℕ) (f : TextFault) → AllByRecursion IsRightLine (take k ls) → Stops k (drop k ls) f → IsFirstPlanLineFault ls f
stops_first ls k f right (inl s) =
    let none : ls ≡ [] = subst (λ (m : ℕ). drop m ls ≡ []) s.1 s.2 in
    subst (IsFirstPlanLineFault ls) (sym s.0) (inl none)
stops_first ls k f right (inr (inl s)) =
    let some = s.2 in
    let all = s.1 in
    let longer : MAX_AGENTS < length ls = omega (arith, some, all, length-drop k ls) in
    let before : All IsRightLine (take MAX_AGENTS ls) = subst (λ (m : ℕ). All IsRightLine (take m ls)) all (All-from_recursion IsRightLine (take k ls) right) in
    subst (IsFirstPlanLineFault ls) (sym s.0) (inr (longer, before))
stops_first ls k f right (inr (inr s)) =
    line_is_first ls k s.1 f (record { few = s.0; before = All-from_recursion IsRightLine (take k ls) right; here = next_is k ls s.1 s.2 s.3 }) s.4

-- what reading fails with is the first fault
pub is_fault : (ls : List Bytes) (f : TextFault) → paths_at [] ls ≡ Err f → IsFirstPlanLineFault ls f
is_fault ls f e =
    let r = paths_fail [] ls f (omega arith) e in
    let same : 0 + r.0 ≡ r.0 = omega arith in
    stops_first ls r.0 f r.1.right (subst (λ (m : ℕ). Stops m (drop r.0 ls) f) same r.1.stops)

told_at : (ls : List Bytes) (k : ℕ) (f : TextFault) → All IsRightLine (take k ls) → Stops k (drop k ls) f → paths_at [] ls ≡ Err f
told_at ls k f right stops =
    let same : k ≡ 0 + k = omega arith in
    paths_fault [] ls k f (record { right = recursion_from_All IsRightLine (take k ls) right; stops = subst (λ (m : ℕ). Stops m (drop k ls) f) same stops })

told_line : (ls : List Bytes) (k : ℕ) (line : Bytes) (f : TextFault) → ReachesPlanLine ls k line → IsLineFault (k + 1) line f → paths_at [] ls ≡ Err f
told_line ls k line f r wrong = let next = next_again k ls line r.here in told_at ls k f r.before (inr (inr (r.few, line, next.0, next.1, wrong)))

-- the first fault is what reading fails with
pub is_told : (ls : List Bytes) (f : TextFault) → IsFirstPlanLineFault ls f → paths_at [] ls ≡ Err f
is_told ls OutOfMemory h = absurd h
is_told ls (Form number) h = told_line ls h.0 h.1 (Form number) h.3 (inl (ap (λ (n : ℕ). Form n) h.2, h.4))
is_told ls (Length number) h = told_line ls h.0 h.1 (Length number) h.3 (inr (ap (λ (n : ℕ). Length n) h.2, h.4, h.5, h.6))
is_told ls AgentCount (inl none) = told_at ls 0 AgentCount (All-from_recursion IsRightLine [] tt) (inl (refl, refl, none))
is_told ls AgentCount (inr h) = (let longer = h.0 in told_at ls MAX_AGENTS AgentCount h.1 (inr (inl (refl, refl, omega (arith, longer, length-drop MAX_AGENTS ls)))))

-- ---- the reader's laws

pub tells : (ls : List Bytes) → Tells (ArePlanLines ls) (IsFirstPlanLineFault ls) (paths_at [] ls)
tells ls = record { found = is_found ls; read = is_read ls; fault = is_fault ls; told = is_told ls }

-- ---- what the reader refuses

pub read : (ls : List Bytes) (f : TextFault) → IsDueUnless {X = Plan} (λ plan. plan) (Err f) (paths_at [] ls) OutOfMemory → (plan : Plan) → ArePlanLines ls plan → f ≡ OutOfMemory
read ls OutOfMemory e plan a = refl
read ls (Form number) e plan a = absurd (ok_err plan (Form number) (sym (is_read ls plan a) ∙ e (λ memory. cc)))
read ls (Length number) e plan a = absurd (ok_err plan (Length number) (sym (is_read ls plan a) ∙ e (λ memory. cc)))
read ls AgentCount e plan a = absurd (ok_err plan AgentCount (sym (is_read ls plan a) ∙ e (λ memory. cc)))

pub reported_is_first : (ls : List Bytes) (f : TextFault) → IsDueUnless {X = Plan} (λ plan. plan) (Err f) (paths_at [] ls) OutOfMemory → f ≢ OutOfMemory → IsFirstPlanLineFault ls f
reported_is_first ls f e other = is_fault ls f (e other)
