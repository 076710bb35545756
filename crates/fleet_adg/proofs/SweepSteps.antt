-- The steps of the sweep, as its loops take them.
use Rattle.fleet_adg.proofs.Words.{◌≡◌, ◌≢◌, ℕ, zero, suc, ◌+◌, ◌-◌, ◌<◌, ◌≤◌, Bool, true, false, cond, List, [], ◌∷◌, ◌++◌, map, set, take, replicate, filter, filter_map, not, ◌==◌, length, get_or, slice_get, All, Some, inl, inr, refl, sym, ap, ◌∙◌, arith, add-one, range_with_len, fold, cases_Bool, cases_lt, cases_eq, lt-ltb, le-ltb, both_ways, false_from_ne_true, length-set, get_or_past, length-map, get_or-map, fold_more, length-map-range_with_len, get_or-map-range_with_len, get_or_from_slice_get, Cell, Dir, Go, Task, place_of, Await, Action, indices, Deps, Ground, IsGround, is_passable, cell_index, Plan, cell_of, steps, IsConflictFree, direction, last_below, entry_awaits, changes_in, changes, moves_by, leaves, await_of, last_leaving_by, last_leaving, leavings, action_in, row_of, kind_of, leavings_after, AreLeavingsAt, Version, written, under_way, movers, actions_by, all_actions_by, all_bytes_by, IsOnMap, is_under_way}
use Rattle.fleet_adg.specs.declared.sweep.Leavings.{Leavings}
use Rattle.fleet_code.specs.Written.{Written}
use Rattle.fleet_adg.proofs.Moves.{moves_by-yes, moves_by-no, moves_by-le, steps-ge}
use Rattle.fleet_adg.proofs.Entry.{leaves-parts, leaves-from}
use Rattle.fleet_adg.proofs.Folds.{still, note_by, note_by-leaves, note_by-stays, leavings-next, add_by, add_by-changes, add_by-stays}

-- ---- moves counted

pub moves_more : (plan : Plan) (i t m : ℕ) → changes_in plan i t ≡ true → m ≡ moves_by plan i t → m + 1 ≡ moves_by plan i (t + 1)
moves_more plan i t m c e = add-one m ∙ ap suc e ∙ sym (moves_by-yes plan i t c) ∙ ap (moves_by plan i) (sym (add-one t))

pub moves_stay : (plan : Plan) (i t m : ℕ) → changes_in plan i t ≡ false → m ≡ moves_by plan i t → m ≡ moves_by plan i (t + 1)
moves_stay plan i t m c e = e ∙ sym (moves_by-no plan i t c) ∙ ap (moves_by plan i) (sym (add-one t))

moves_after : (plan : Plan) (i s n : ℕ) → length (get_or plan i []) - 1 ≤ s → moves_by plan i s ≡ moves_by plan i (s + n)
moves_after plan i s zero h = ap (moves_by plan i) (let z : s ≡ s + 0 = omega arith in z)
moves_after plan i s (suc n) h =
    let z : suc (s + n) ≡ s + suc n = omega arith in
    moves_after plan i s n h ∙ sym (moves_by-no plan i (s + n) (still plan (s + n) i (le-ltb (s + n) (length (get_or plan i []) - 1) (omega arith)))) ∙ ap (moves_by plan i) z

-- at the end of its path an agent has made all its moves
pub moves_at_end : (plan : Plan) (i t m : ℕ) (path : List Cell) → slice_get plan i ≡ Some path → t + 1 ≡ length path → m ≡ moves_by plan i t → m ≡ moves_by plan i (steps plan)
moves_at_end plan i t m path g long e =
    let same = ap length (get_or_from_slice_get plan i path [] g) in
    let n = steps plan - t in
    let z : t + n ≡ steps plan = omega (arith, steps-ge plan i) in
    e ∙ moves_after plan i t n (omega arith) ∙ ap (moves_by plan i) z

-- ---- who is under way

filter-filter : (p q : ℕ → Bool) → ((x : ℕ) → q x ≡ true → p x ≡ true) → (xs : List ℕ) → filter q (filter p xs) ≡ filter q xs
filter-filter p q h [] = refl
filter-filter p q h (x ∷ xs) = elim (cases_Bool (p x)) [
  | inl y ↦ ap (λ b. filter q (cond b (x ∷ filter p xs) (filter p xs))) y ∙ ap (λ zs. cond (q x) (x ∷ zs) zs) (filter-filter p q h xs)
  | inr n ↦
      let no : q x ≡ false = false_from_ne_true (q x) (λ y. both_ways (p x) n (h x y)) in
      ap (λ b. filter q (cond b (x ∷ filter p xs) (filter p xs))) n ∙ filter-filter p q h xs ∙ sym (ap (λ b. cond b (x ∷ filter q xs) (filter q xs)) no)
]

-- who goes on after time t + 1 went on after time t
earlier : (plan : Plan) (t i : ℕ) → is_under_way plan (t + 1) i ≡ true → is_under_way plan t i ≡ true
earlier plan t i h = elim (cases_lt t (length (get_or plan i []) - 1)) [
  | inl l ↦ lt-ltb t (length (get_or plan i []) - 1) l
  | inr l ↦ absurd (both_ways (is_under_way plan (t + 1) i) (le-ltb (t + 1) (length (get_or plan i []) - 1) (omega arith)) h)
]

all_range : (a n : ℕ) → All (λ i. i < a + n) (range_with_len a n)
all_range a zero k d l = absurd (omega arith)
all_range a (suc n) zero d l = omega arith
all_range a (suc n) (suc k) d l = let h = all_range (a + 1) n k d (omega arith) in omega arith

all_filter : (P : ℕ → Type 0) (p : ℕ → Bool) (xs : List ℕ) → All P xs → All P (filter p xs)
all_filter P p xs h = package.Rattle.std.proofs.lemmas.List.Elements.All-filter p P xs h

pub agents_below : (plan : Plan) → All (λ i. i < length plan) (indices (length plan))
agents_below plan = λ k d l. let h = all_range 0 (length plan) k d l in omega arith

pub under_way_below : (plan : Plan) (t : ℕ) → All (λ i. i < length plan) (under_way plan t)
under_way_below plan t = all_filter (λ i. i < length plan) (is_under_way plan t) (indices (length plan)) (agents_below plan)

-- a row that has those whose paths go on, in order, has those who move
pub movers_among : (plan : Plan) (t : ℕ) (agents : List ℕ) → filter (is_under_way plan t) agents ≡ under_way plan t → filter (λ i. changes_in plan i t) agents ≡ movers plan t
movers_among plan t agents e = sym (filter-filter (is_under_way plan t) (λ i. changes_in plan i t) (λ i moves. go i (is_under_way plan t i) refl moves) agents) ∙ ap (filter (λ i. changes_in plan i t)) e
  where
    go : (i : ℕ) (b : Bool) → is_under_way plan t i ≡ b → changes_in plan i t ≡ true → is_under_way plan t i ≡ true
    go i true e moves = e
    go i false e moves = absurd (let stays = still plan t i e in cc)

-- those whose paths go on are the same in the part of a row that has them
pub under_way_again : (plan : Plan) (t : ℕ) (agents : List ℕ) → filter (is_under_way plan t) (filter (is_under_way plan t) agents) ≡ filter (is_under_way plan t) agents
under_way_again plan t agents = filter-filter (is_under_way plan t) (is_under_way plan t) (λ i h. h) agents

pub under_way_later : (plan : Plan) (t : ℕ) (agents : List ℕ) → filter (is_under_way plan t) agents ≡ under_way plan t → filter (is_under_way plan (t + 1)) agents ≡ under_way plan (t + 1)
under_way_later plan t agents e =
    sym (filter-filter (is_under_way plan t) (is_under_way plan (t + 1)) (earlier plan t) agents)
    ∙ ap (filter (is_under_way plan (t + 1))) e
    ∙ filter-filter (is_under_way plan t) (is_under_way plan (t + 1)) (earlier plan t) (indices (length plan))

pub below_kept : (plan : Plan) (t : ℕ) (agents : List ℕ) → All (λ i. i < length plan) agents → All (λ i. i < length plan) (filter (is_under_way plan t) agents)
below_kept plan t agents all = all_filter (λ i. i < length plan) (is_under_way plan t) agents all

-- ---- leavings noted

-- the table after these agents have made step x
pub record IsNotedBelow (g : Ground) (plan : Plan) (deps : Deps) (x : ℕ) (done : List ℕ) (l : Leavings) : Type 0 where
  pub kind : kind_of l ≡ deps
  pub rows : (q : Cell) → q.x < g.width → q.y < g.height → row_of l (cell_index g q) ≡ fold (note_by plan deps q x) (leavings plan deps q x) done

pub noting_begins : (g : Ground) (plan : Plan) (deps : Deps) (x : ℕ) (l : Leavings) → AreLeavingsAt g plan deps x l → IsNotedBelow g plan deps x [] l
noting_begins g plan deps x l h = record { kind = h.kind; rows = h.rows }

pub noting_ends : (g : Ground) (plan : Plan) (deps : Deps) (x : ℕ) (l : Leavings) → IsNotedBelow g plan deps x (under_way plan x) l → AreLeavingsAt g plan deps (x + 1) l
noting_ends g plan deps x l h = record { kind = h.kind; rows = λ q a b. h.rows q a b ∙ leavings-next plan deps q x }

pub one_leaves : (g : Ground) (plan : Plan) (deps : Deps) (x : ℕ) (agents : List ℕ) (k i : ℕ) (l m : Leavings) (p : Cell) (w : Await)
    → ((c d : Cell) → c.x < g.width → d.x < g.width → cell_index g c ≡ cell_index g d → c ≡ d)
    → p.x < g.width → p ≡ cell_of plan i x → w ≡ await_of plan x i
    → k < length agents → i ≡ get_or agents k i → changes_in plan i x ≡ true
    → kind_of m ≡ kind_of l → row_of m (cell_index g p) ≡ leavings_after (kind_of l) (row_of l (cell_index g p)) w → ((k : ℕ) → k ≢ cell_index g p → row_of m k ≡ row_of l k)
    → IsNotedBelow g plan deps x (take k agents) l → IsNotedBelow g plan deps x (take (k + 1) agents) m
one_leaves g plan deps x agents k i l m p w own column at is b e c kind there others h =
    record {
      kind = kind ∙ h.kind;
      rows = λ q a r.
          let f = note_by plan deps q x in
          let before = fold f (leavings plan deps q x) (take k agents) in
          let after : f before i ≡ fold f (leavings plan deps q x) (take (k + 1) agents) = ap (f before) e ∙ sym (fold_more f (leavings plan deps q x) agents k i b) in
          elim (cases_eq (cell_index g q) (cell_index g p)) [
            | inl same ↦
                let here : q ≡ p = own q p a column same in
                let leaving : leaves plan q x i ≡ true = leaves-from plan q x i (sym at ∙ sym here) c in
                ap (row_of m) same
                ∙ there
                ∙ (λ t. leavings_after (h.kind t) (row_of l (cell_index g (sym here t))) (is t))
                ∙ ap (λ ws. leavings_after deps ws (await_of plan x i)) (h.rows q a r)
                ∙ sym (note_by-leaves plan deps q x before i leaving)
                ∙ after
            | inr apart ↦
                let stays : leaves plan q x i ≡ false = false_from_ne_true (leaves plan q x i) (λ y. apart (ap (cell_index g) (sym (leaves-parts plan q x i y).0 ∙ sym at))) in
                others (cell_index g q) apart
                ∙ h.rows q a r
                ∙ sym (note_by-stays plan deps q x before i stays)
                ∙ after
          ];
    }

-- how many moves an agent has made, by its actions so far
pub moved_so_far : (plan : Plan) (deps : Deps) (x i : ℕ) → length (actions_by plan deps x i) ≡ moves_by plan i x
unfolding moves_by
moved_so_far plan deps x i = package.Rattle.std.proofs.lemmas.List.length-map (changes plan i x) (action_in plan deps i)

pub length-all_bytes_by : (plan : Plan) (deps : Deps) (v : Version) (t : ℕ) → length (all_bytes_by plan deps v t) ≡ length plan
length-all_bytes_by plan deps v t = length-map (all_actions_by plan deps t) (written v) ∙ length-map-range_with_len (actions_by plan deps t) 0 (length plan)

-- the row of an agent
pub bytes_at : (plan : Plan) (deps : Deps) (v : Version) (x i : ℕ) (actions : List Written) (row : Written) → actions ≡ all_bytes_by plan deps v x → i < length plan → row ≡ get_or actions i row → row ≡ written v (actions_by plan deps x i)
bytes_at plan deps v x i actions row e b is =
    is ∙ ap (λ zs. get_or zs i row) e
    ∙ get_or-map (written v) (all_actions_by plan deps x) i [] row (omega (arith, length-map-range_with_len (actions_by plan deps x) 0 (length plan)))
    ∙ ap (written v) (get_or-map-range_with_len (actions_by plan deps x) 0 (length plan) i i [] b (omega arith))

pub count_is : (plan : Plan) (deps : Deps) (v : Version) (x i n : ℕ) (actions : List Written) (row : Written) → actions ≡ all_bytes_by plan deps v x → i < length plan → row ≡ get_or actions i row → n ≡ row.count → changes_in plan i x ≡ true → record { agent = i; count = n + 1 } ≡ await_of plan x i
unfolding await_of
count_is plan deps v x i n actions row e b is long c =
    let at = bytes_at plan deps v x i actions row e b is in
    let so_far : n ≡ moves_by plan i x = long ∙ ap (λ (w : Written). w.count) at ∙ moved_so_far plan deps x i in
    ap (λ (k : ℕ). made i k) (moves_more plan i x n c so_far)
  where
    made : ℕ → ℕ → Await
    made j k = record { agent = j; count = k }

pub length-all_actions_by : (plan : Plan) (deps : Deps) (t : ℕ) → length (all_actions_by plan deps t) ≡ length plan
length-all_actions_by plan deps t = length-map-range_with_len (actions_by plan deps t) 0 (length plan)

-- an agent has made no more moves than there were steps
pub row_short : (plan : Plan) (deps : Deps) (v : Version) (x i : ℕ) (actions : List Written) (row : Written) → actions ≡ all_bytes_by plan deps v x → i < length plan → row ≡ get_or actions i row → row.count ≤ x
row_short plan deps v x i actions row e b is =
    let at = bytes_at plan deps v x i actions row e b is in
    omega (arith, ap (λ (w : Written). w.count) at, moved_so_far plan deps x i, moves_by-le plan i x)

-- ---- actions added

pub row_grows : (plan : Plan) (deps : Deps) (x : ℕ) (agents : List ℕ) (k i : ℕ) (start rows : List (List Action)) (row : List Action) (a : Action) → k < length agents → i ≡ get_or agents k i → changes_in plan i x ≡ true → i < length rows → row ≡ get_or rows i row → a ≡ action_in plan deps i x → rows ≡ fold (add_by plan deps x) start (take k agents) → set rows i (row ++ a ∷ []) ≡ fold (add_by plan deps x) start (take (k + 1) agents)
row_grows plan deps x agents k i start rows row a b e c within is this h =
    let f = add_by plan deps x in
    let before = fold f start (take k agents) in
    let at : row ≡ get_or rows i [] = is ∙ package.Rattle.std.proofs.lemmas.List.get_or_default rows i row [] within in
    (λ t. set rows i (at t ++ this t ∷ []))
    ∙ sym (add_by-changes plan deps x rows i c)
    ∙ ap (λ zs. f zs i) h
    ∙ ap (f before) e
    ∙ sym (fold_more f start agents k i b)

-- adding changes no agent's place
pub length-added : (plan : Plan) (deps : Deps) (x : ℕ) (start : List (List Action)) (agents : List ℕ) → length (fold (add_by plan deps x) start agents) ≡ length start
length-added plan deps x start [] = refl
length-added plan deps x start (i ∷ agents) = length-added plan deps x (add_by plan deps x start i) agents ∙ elim (cases_Bool (changes_in plan i x)) [
  | inl c ↦ ap length (add_by-changes plan deps x start i c) ∙ length-set start i (get_or start i [] ++ action_in plan deps i x ∷ [])
  | inr c ↦ ap length (add_by-stays plan deps x start i c)
]

set_written : (v : Version) (rows : List (List Action)) (i : ℕ) (row : List Action) → set (map (written v) rows) i (written v row) ≡ map (written v) (set rows i row)
set_written v [] i row = refl
set_written v (r ∷ rows) zero row = refl
set_written v (r ∷ rows) (suc i) row = ap (λ (zs : List Written). written v r ∷ zs) (set_written v rows i row)

-- .. in bytes
pub bytes_grow : (plan : Plan) (deps : Deps) (v : Version) (x : ℕ) (agents : List ℕ) (k i : ℕ) (start : List (List Action)) (rows : List Written) (row more : Written) (a : Action) → k < length agents → i ≡ get_or agents k i → changes_in plan i x ≡ true → i < length start → row ≡ get_or rows i row → a ≡ action_in plan deps i x → ((before : List Action) → row ≡ written v before → more ≡ written v (before ++ a ∷ [])) → rows ≡ map (written v) (fold (add_by plan deps x) start (take k agents)) → set rows i more ≡ map (written v) (fold (add_by plan deps x) start (take (k + 1) agents))
bytes_grow plan deps v x agents k i start rows row more a b e c within is this grows h =
    let inner = fold (add_by plan deps x) start (take k agents) in
    let inside : i < length inner = omega (arith, length-added plan deps x start (take k agents)) in
    let own = get_or inner i [] in
    let at : row ≡ written v own = is ∙ ap (λ zs. get_or zs i row) h ∙ get_or-map (written v) inner i [] row inside in
    let new : more ≡ written v (own ++ a ∷ []) = grows own at in
    (λ t. set (h t) i (new t))
    ∙ set_written v inner i (own ++ a ∷ [])
    ∙ ap (map (written v)) (row_grows plan deps x agents k i start inner own a b e c inside (package.Rattle.std.proofs.lemmas.List.get_or_default inner i [] own inside) this refl)

-- the action that is made is that of the plan
pub action_is : (g : Ground) (plan : Plan) (deps : Deps) (x i : ℕ) (l : Leavings) (from to : Cell) (dir : Dir) (awaits : List Await) → AreLeavingsAt g plan deps (x + 1) l → from ≡ cell_of plan i x → to ≡ cell_of plan i (x + 1) → to.x < g.width → to.y < g.height → dir ≡ direction from to → awaits ≡ filter (λ w. not (w.agent == i)) (row_of l (cell_index g to)) → record { step = Go dir; awaits = awaits } ≡ action_in plan deps i x
unfolding action_in entry_awaits
action_is g plan deps x i l from to dir awaits h f t column row d e =
    let there = e ∙ ap (filter (λ (w : Await). not (w.agent == i))) (h.rows to column row ∙ ap (λ q. leavings plan deps q (x + 1)) t) in
    let this = d ∙ (λ k. direction (f k) (t k)) in
    (λ k. record { step = Go (this k); awaits = there k })

-- ---- the sweep begins

leavings-zero : (plan : Plan) (deps : Deps) (q : Cell) → leavings plan deps q 0 ≡ []
unfolding leavings last_leaving last_leaving_by last_below
leavings-zero plan Deps.All q = none_of 0 (length plan)
  where
    none_of : (a n : ℕ) → filter_map (last_leaving_by plan q 0) (range_with_len a n) ≡ []
    none_of a zero = refl
    none_of a (suc n) = none_of (a + 1) n
leavings-zero plan Deps.Last q = refl

pub sweep_begins : (g : Ground) (plan : Plan) (deps : Deps) (l : Leavings) → kind_of l ≡ deps → ((place : ℕ) → row_of l place ≡ []) → AreLeavingsAt g plan deps 0 l
sweep_begins g plan deps l kind rows = record {
  kind = kind;
  rows = λ q a b. rows (cell_index g q) ∙ sym (leavings-zero plan deps q);
}

pub actions_begin : (plan : Plan) (deps : Deps) → replicate (length plan) [] ≡ all_actions_by plan deps 0
unfolding changes
actions_begin plan deps = none_of 0 (length plan)
  where
    none_of : (a n : ℕ) → replicate n [] ≡ map (actions_by plan deps 0) (range_with_len a n)
    none_of a zero = refl
    none_of a (suc n) = ap (λ zs. [] ∷ zs) (none_of (a + 1) n)

written_none : (v : Version) (n : ℕ) → replicate n (written v []) ≡ map (written v) (replicate n [])
written_none v zero = refl
written_none v (suc n) = ap (λ (zs : List Written). written v [] ∷ zs) (written_none v n)

pub bytes_begin : (plan : Plan) (deps : Deps) (v : Version) → replicate (length plan) (written v []) ≡ all_bytes_by plan deps v 0
bytes_begin plan deps v = written_none v (length plan) ∙ ap (map (written v)) (actions_begin plan deps)

-- ---- the map

-- what is passable lies on the map
on_map : (g : Ground) (c : Cell) → IsGround g → is_passable g (place_of c) ≡ true → (c.x < g.width) × (c.y < g.height)
on_map g c ground h =
    let row = get_or g.rows c.y [] in
    let column : c.x < length row = elim (cases_lt c.x (length row)) [
      | inl l ↦ l
      | inr l ↦ absurd (both_ways (get_or row c.x false) (get_or_past row c.x false l) h)
    ] in
    let below : c.y < length g.rows = elim (cases_lt c.y (length g.rows)) [
      | inl l ↦ l
      | inr l ↦ absurd (omega (arith, ap length (get_or_past g.rows c.y [] l)))
    ] in
    (omega (arith, ground.cells c.y [] below), omega (arith, ground.rows))

pub plan_on_map : (g : Ground) (tasks : List Task) (plan : Plan) → IsGround g → IsConflictFree (is_passable g) tasks plan → IsOnMap g plan
plan_on_map g tasks plan ground free = record {
  columns = λ i t b. (on_map g (cell_of plan i t) ground (free.on_ground i t b)).0;
  rows = λ i t b. (on_map g (cell_of plan i t) ground (free.on_ground i t b)).1;
}

-- ---- the program
