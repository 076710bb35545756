-- Reading a plan's lines gives a plan exactly where they stand for it.
use Rattle.fleet_plan.proofs.Words.{◌≡◌, ℕ, ◌+◌, ◌≤◌, ◌<◌, true, ltb, leb, List, [], ◌∷◌, ◌++◌, length, map, Option, Some, None, Result, Ok, Err, refl, sym, ap, subst, ◌∙◌, append_assoc, arith, inl, inr, option_and_then, ◌==◌, AllZip, AllByRecursion, slice_split, cases_Bool, ltb-true, leb-true, lt-ltb, le-leb, append-nil, length-append, All-from_recursion, same_Some, none-some, Cell, IsCell, Bytes, words_from_front, number, small, small_number, ◌>>=◌, ◌>>◌, right_or, some_or, bind_ok, right_ok, some_ok, ok_is, Path, Plan, IsPath, IsFleet, IsWithinLimits, TextFault, Form, Length, AgentCount, cell_of_parts, spelled_cell, SpellsPath, StandsForPath, ArePlanLines, spelled_cells, some_cells, path_at, enough_paths, paths_at, MAX_CELLS, MAX_AGENTS}
use Rattle.fleet_plan.proofs.LineLoop.{some_path}

-- ---- the cells of words

first_is : (x y : Option Cell) (xs ys : List (Option Cell)) → x ∷ xs ≡ y ∷ ys → x ≡ y
first_is x y xs ys e = cc

others_are : (x y : Option Cell) (xs ys : List (Option Cell)) → x ∷ xs ≡ y ∷ ys → xs ≡ ys
others_are x y xs ys e = cc

pub cells_again : (ws : List Bytes) (cells : Path) → map spelled_cell ws ≡ map (λ cell. Some cell) cells → spelled_cells ws ≡ Some cells
unfolding spelled_cells
cells_again [] [] e = refl
cells_again [] (c ∷ cells) e = absurd cc
cells_again (w ∷ ws) [] e = absurd cc
cells_again (w ∷ ws) (c ∷ cells) e =
    let here : spelled_cell w ≡ Some c = first_is (spelled_cell w) (Some c) (map spelled_cell ws) (map (λ cell. Some cell) cells) e in
    let more = cells_again ws cells (others_are (spelled_cell w) (Some c) (map spelled_cell ws) (map (λ cell. Some cell) cells) e) in
    rw (here, more) refl

pub cells_are : (ws : List Bytes) (cells : Path) → spelled_cells ws ≡ Some cells → map spelled_cell ws ≡ map (λ cell. Some cell) cells
unfolding spelled_cells
cells_are [] cells e = ap (map (λ (cell : Cell). Some cell)) (same_Some [] cells e)
cells_are (w ∷ ws) cells e = both (λ more. cells_are ws more) (spelled_cell w) refl (spelled_cells ws) refl
  where
    both : ((more : Path) → spelled_cells ws ≡ Some more → map spelled_cell ws ≡ map (λ cell. Some cell) more) → (o : Option Cell) → spelled_cell w ≡ o → (p : Option Path) → spelled_cells ws ≡ p → map spelled_cell (w ∷ ws) ≡ map (λ cell. Some cell) cells
    both others None h p k = absurd (let f : None ≡ Some cells = rw h at e in none-some cells f)
    both others (Some c) h None k = absurd (let f : None ≡ Some cells = rw (h, k) at e in none-some cells f)
    both others (Some c) h (Some more) k =
        let f : Some (c ∷ more) ≡ Some cells = rw (h, k) at e in
        ap (λ (o : Option Cell). o ∷ map spelled_cell ws) h ∙ ap (λ (os : List (Option Cell)). Some c ∷ os) (others more k) ∙ ap (map (λ (cell : Cell). Some cell)) (same_Some (c ∷ more) cells f)

-- ---- the path of a line

abbrev pub path_in : Bytes → Option Path
path_in line = option_and_then some_cells (spelled_cells (words_from_front line))

pub spells_again : (line : Bytes) (path : Path) → SpellsPath line path → path_in line ≡ Some path
spells_again line path s = ap (λ (o : Option Path). option_and_then some_cells o) (cells_again (words_from_front line) path s.cells) ∙ some_path path s.some

pub spells_is : (line : Bytes) (path : Path) → path_in line ≡ Some path → SpellsPath line path
spells_is line path e = found (spelled_cells (words_from_front line)) refl
  where
    found : (o : Option Path) → spelled_cells (words_from_front line) ≡ o → SpellsPath line path
    found None h = absurd (let f : None ≡ Some path = rw h at e in none-some path f)
    found (Some []) h = absurd (let f : None ≡ Some path = rw h at e in none-some path f)
    found (Some (c ∷ cells)) h =
        let f : Some (c ∷ cells) ≡ Some path = rw h at e in
        let same = same_Some (c ∷ cells) path f in
        subst (SpellsPath line) same (record { some = omega arith; cells = cells_are (words_from_front line) (c ∷ cells) h })

abbrev pub judged : ℕ → Path → Result Path TextFault
judged number path = right_or (leb (length path) MAX_CELLS) (Length number) >> Ok path

pub path_is : (number : ℕ) (line : Bytes) (path : Path) → path_at number line ≡ Ok path → StandsForPath line path
unfolding path_at
path_is number line path e =
    let a = bind_ok (some_or (path_in line) (Form number)) (judged number) path e in
    let spells = spells_is line a.0 (some_ok (path_in line) (Form number) a.0 a.1) in
    let b = right_ok (leb (length a.0) MAX_CELLS) (Length number) (Ok a.0) path a.2 in
    subst (StandsForPath line) (ok_is a.0 path b.1) (record { spells = spells; few = leb-true (length a.0) MAX_CELLS b.0 })

pub path_again : (number : ℕ) (line : Bytes) (path : Path) → StandsForPath line path → path_at number line ≡ Ok path
unfolding path_at
path_again number line path s = rw (spells_again line path s.spells, le-leb (length path) MAX_CELLS s.few) refl

-- ---- the paths of lines

-- the lines stand for these paths, which follow earlier ones
record Follows (earlier : Plan) (ls : List Bytes) (plan new : Plan) : Type 0 where
  all : plan ≡ earlier ++ new
  paths : AllZip StandsForPath ls new
  agents : IsFleet plan

follows_next : (earlier : Plan) (line : Bytes) (ls : List Bytes) (plan : Plan) (path : Path) (new : Plan) → StandsForPath line path → Follows (earlier ++ path ∷ []) ls plan new → Follows earlier (line ∷ ls) plan (path ∷ new)
follows_next earlier line ls plan path new s f = record { all = f.all ∙ append_assoc earlier (path ∷ []) new; paths = (s, f.paths); agents = f.agents }

follows_end : (earlier plan : Plan) → length earlier ≤ MAX_AGENTS → enough_paths earlier ≡ Ok plan → Follows earlier [] plan []
follows_end [] plan few e = absurd (let f : Err AgentCount ≡ Ok plan = e in cc)
follows_end (p ∷ earlier) plan few e =
    let same : p ∷ earlier ≡ plan = ok_is {E = TextFault} (p ∷ earlier) plan e in
    let fleet : IsFleet (p ∷ earlier) = record { some_agents = omega arith; few_agents = few } in
    record { all = sym same ∙ sym (append-nil (p ∷ earlier)); paths = tt; agents = subst IsFleet same fleet }

abbrev pub paths_next : Plan → List Bytes → Path → Result Plan TextFault
paths_next earlier ls path = paths_at (earlier ++ path ∷ []) ls

paths_are : (earlier : Plan) (ls : List Bytes) (plan : Plan) → length earlier ≤ MAX_AGENTS → paths_at earlier ls ≡ Ok plan → (new : Plan) × Follows earlier ls plan new
unfolding paths_at
paths_are earlier [] plan few e = ([], follows_end earlier plan few e)
paths_are earlier (line ∷ ls) plan few e =
    let number = length earlier + 1 in
    let a = right_ok (ltb (length earlier) MAX_AGENTS) AgentCount (path_at number line >>= paths_next earlier ls) plan e in
    let fewer = ltb-true (length earlier) MAX_AGENTS a.0 in
    let b = bind_ok (path_at number line) (paths_next earlier ls) plan a.1 in
    let path = b.0 in
    let more = paths_are (earlier ++ path ∷ []) ls plan (omega (arith, fewer, length-append earlier (path ∷ []))) b.2 in
    (path ∷ more.0, follows_next earlier line ls plan path more.0 (path_is number line path b.1) more.1)

ended_again : (earlier : Plan) → 1 ≤ length earlier → enough_paths earlier ≡ Ok earlier
ended_again [] some = absurd (omega arith)
ended_again (p ∷ earlier) some = refl

paths_again : (earlier : Plan) (ls : List Bytes) (new : Plan) → AllZip StandsForPath ls new → IsFleet (earlier ++ new) → paths_at earlier ls ≡ Ok (earlier ++ new)
unfolding paths_at
paths_again earlier [] [] h fleet =
    let same = append-nil earlier in
    let some = fleet.some_agents in
    ended_again earlier (omega (arith, some, ap length same)) ∙ ap (λ (plan : Plan). Ok plan) (sym same)
paths_again earlier [] (path ∷ new) h fleet = absurd h
paths_again earlier (line ∷ ls) [] h fleet = absurd h
paths_again earlier (line ∷ ls) (path ∷ new) h fleet =
    let few = fleet.few_agents in
    let room : ltb (length earlier) MAX_AGENTS ≡ true = lt-ltb (length earlier) MAX_AGENTS (omega (arith, few, length-append earlier (path ∷ new))) in
    let here = path_again (length earlier + 1) line path h.0 in
    let regrouped = append_assoc earlier (path ∷ []) new in
    rw (room, here) (paths_again (earlier ++ path ∷ []) ls new h.1 (subst IsFleet (sym regrouped) fleet) ∙ ap (λ (plan : Plan). Ok plan) regrouped)

-- ---- a plan

pub is_found : (ls : List Bytes) (plan : Plan) → paths_at [] ls ≡ Ok plan → ArePlanLines ls plan
is_found ls plan e =
    let r = paths_are [] ls plan (omega arith) e in
    record { agents = r.1.agents; paths = subst (AllZip StandsForPath ls) (sym r.1.all) r.1.paths }

pub is_read : (ls : List Bytes) (plan : Plan) → ArePlanLines ls plan → paths_at [] ls ≡ Ok plan
is_read ls plan h = paths_again [] ls plan h.paths h.agents

-- ---- the limits of a plan

small_is_few : (word : Bytes) (n : ℕ) → small_number word ≡ Some n → n < MAX_CELLS
unfolding small_number
small_is_few word n e = few (number word) e
  where
    few : (o : Option ℕ) → option_and_then small o ≡ Some n → n < MAX_CELLS
    few None e = absurd (none-some n e)
    few (Some m) e =
        elim (cases_Bool (ltb m MAX_CELLS)) [
          | inl t ↦ (let f : Some m ≡ Some n = rw t at e in subst (λ (k : ℕ). k < MAX_CELLS) (same_Some m n f) (ltb-true m MAX_CELLS t))
          | inr t ↦ absurd (let f : None ≡ Some n = rw t at e in none-some n f)
        ]

parts_are_few : (parts : List Bytes) (c : Cell) → cell_of_parts parts ≡ Some c → IsCell c
parts_are_few [] c e = absurd (none-some c e)
parts_are_few (x ∷ []) c e = absurd (none-some c e)
parts_are_few (x ∷ y ∷ []) c e = few (small_number x) refl (small_number y) refl
  where
    few : (o : Option ℕ) → small_number x ≡ o → (p : Option ℕ) → small_number y ≡ p → IsCell c
    few None h p k = absurd (let f : None ≡ Some c = rw h at e in none-some c f)
    few (Some m) h None k = absurd (let f : None ≡ Some c = rw (h, k) at e in none-some c f)
    few (Some m) h (Some n) k =
        let f : Some (record { x = m; y = n }) ≡ Some c = rw (h, k) at e in
        subst IsCell (same_Some (record { x = m; y = n }) c f) (let a = small_is_few x m h in let b = small_is_few y n k in record { x = omega (arith, a); y = omega (arith, b) })
parts_are_few (x ∷ y ∷ z ∷ more) c e = absurd (none-some c e)

cells_are_few : (ws : List Bytes) (cells : Path) → map spelled_cell ws ≡ map (λ cell. Some cell) cells → AllByRecursion IsCell cells
unfolding spelled_cell
cells_are_few [] [] e = tt
cells_are_few [] (c ∷ cells) e = absurd cc
cells_are_few (w ∷ ws) [] e = absurd cc
cells_are_few (w ∷ ws) (c ∷ cells) e =
    let here : spelled_cell w ≡ Some c = first_is (spelled_cell w) (Some c) (map spelled_cell ws) (map (λ cell. Some cell) cells) e in
    (parts_are_few (slice_split (λ b. b == 44) w) c here, cells_are_few ws cells (others_are (spelled_cell w) (Some c) (map spelled_cell ws) (map (λ cell. Some cell) cells) e))

paths_are_few : (ls : List Bytes) (plan : Plan) → AllZip StandsForPath ls plan → AllByRecursion IsPath plan
paths_are_few [] [] h = tt
paths_are_few [] (p ∷ plan) h = absurd h
paths_are_few (l ∷ ls) [] h = absurd h
paths_are_few (l ∷ ls) (p ∷ plan) h =
    let s = h.0 in
    (record { some_cells = s.spells.some; few_cells = s.few; cells = All-from_recursion IsCell p (cells_are_few (words_from_front l) p s.spells.cells) }, paths_are_few ls plan h.1)

pub limits : (ls : List Bytes) (plan : Plan) → ArePlanLines ls plan → IsWithinLimits plan
limits ls plan h = record { fleet = h.agents; paths = All-from_recursion IsPath plan (paths_are_few ls plan h.paths) }
