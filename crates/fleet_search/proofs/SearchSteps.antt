-- The search, step by step.
use Rattle.fleet_search.proofs.Words.{◌≡◌, ◌≢◌, ℕ, ◌+◌, ◌-◌, ◌<◌, ◌≤◌, ◌==◌, cond, IsTrue, List, [], ◌∷◌, ◌++◌, length, get_or, Contains, Option, Some, None, ◌⊎◌, inl, inr, refl, sym, ap, ◌∙◌, subst, arith, cases_eq, cases_lt, eqb-true, eq-eqb, false_from_ne_true, none-some, same_Some, length_push, get_or_push, get_or_append_left, Contains-append_left, Contains-push, Contains-push_cases, place_of-injective, Cell, Dir, North, East, South, West, place_of, moved, MAX_HORIZON, is_passable, cell_index, State, Link, Query, Node, Expansion, Exploration, AreNodePlaces, IsNodeTaken, IsBucketDone, IsUnoccupied, IsFreeOn, IsInInterval, IsEarliestWithin, place_in, bucket_of, AreBeside, Times, earliest_in, IsLabelSet, IsSeen, heuristic_of, occupancies_on, IsMeasured, IsStep, least_arrival, IsBucket, IsGoalState, no_node, state_in, parent_in, IsKnown, IsMove, IsReachedFrom, IsSoundNode, IsCovered, IsExpanded, IsSuperseded, IsStateSettled, earliest_of, IsFrontier, IsPosed, IsFrontierOf, WasOpen, IsExpansion, Grows, ExpandsOn, IsFreeUntil, IsFoundAt, IsFoundIn, IsFoundFrom, IsFoundInDir, Finds}
use Rattle.fleet_search.specs.Rows.{IsPut}
use Rattle.fleet_search.proofs.Spread.{AreNeighbours-sym, one_place}
use Rattle.fleet_search.proofs.Chase.{step_ok-alone}
use Rattle.fleet_search.proofs.IntervalLaws.{occupancies-apart, one_gap, interval-free_on, interval-since}

abbrev state : ℕ → Cell → State
state t c = record { time = t; cell = c }

abbrev node_of : State → Link → Node
node_of m link = record { state = m; parent = link }

-- ---- distances

-- a step changes the distance by one at most
pub near-beside : (q : Query) → IsMeasured q → (c d : Cell) → IsTrue (is_passable q.grid.now (place_of c)) → IsTrue (is_passable q.grid.now (place_of d)) → AreBeside c d → (heuristic_of q d ≤ heuristic_of q c + 1) × (heuristic_of q c ≤ heuristic_of q d + 1)
near-beside q m c d hc hd (inl e) = subst (λ z. (heuristic_of q z ≤ heuristic_of q c + 1) × (heuristic_of q c ≤ heuristic_of q z + 1)) e (let n = heuristic_of q c in omega arith, let n = heuristic_of q c in omega arith)
near-beside q m c d hc hd (inr w) = (m.heuristic.near c d hc hd w, m.heuristic.near d c hd hc (AreNeighbours-sym c d w))

-- a move leads to no bucket below the one before
pub bucket-next : (q : Query) (m n : State) (f k : ℕ) → IsBucket q m f → IsBucket q n k → m.time + 1 ≤ n.time → heuristic_of q m.cell ≤ heuristic_of q n.cell + 1 → f - 1 ≤ k
bucket-next q m n f k (inl a) (inl b) t h = let x = a.1 in let y = b.1 in omega arith
bucket-next q m n f k (inl a) (inr b) t h = let x = a.1 in let y = b.1 in let z = a.0 in let w = b.0 in omega arith
bucket-next q m n f k (inr a) (inl b) t h = let x = a.1 in let y = b.1 in let z = a.0 in let w = b.0 in omega arith
bucket-next q m n f k (inr a) (inr b) t h = let x = a.1 in let y = b.1 in omega arith

-- if a way over the state arrives late enough, the state's bucket is a low one
pub bucket-below : (q : Query) (m : State) (k f : ℕ) → IsBucket q m k → least_arrival q m < f → q.goal_free_from < f → k < f
bucket-below q m k f (inl a) h r = let x = a.1 in let y = a.0 in omega arith
bucket-below q m k f (inr a) h r = let x = a.1 in omega arith

-- ---- the list of what was reached grows

module _ (q : Query) (old new : List Node) (more : length old ≤ length new) (kept : (i : ℕ) → i < length old → get_or new i no_node ≡ get_or old i no_node) where
  pub same_at : (i : ℕ) → i < length old → state_in new i ≡ state_in old i
  same_at i h = ap (λ (z : Node). z.state) (kept i h)

  pub known-stays : (x : State) → IsKnown old x → IsKnown new x
  known-stays x k = let l = k.1 in (k.0, omega arith, same_at k.0 k.1 ∙ k.2)

  pub covered-stays : (c : Cell) (t : ℕ) → IsCovered q old c t → IsCovered q new c t
  covered-stays c t h = record { since = h.since; early = h.early; known = known-stays (record { time = h.since; cell = c }) h.known; free = h.free }

  pub expanded-stays : (x : State) → IsExpanded q old x → IsExpanded q new x
  expanded-stays x e = record { moves = λ v c n m h. covered-stays c (v + 1) (e.moves v c n m h); not_end = e.not_end }

  pub settled-stays : (x : State) → IsStateSettled q old x → IsStateSettled q new x
  settled-stays x (inl e) = inl (expanded-stays x e)
  settled-stays x (inr s) = inr (record { since = s.since; sooner = s.sooner; known = known-stays (record { time = s.since; cell = x.cell }) s.known; free = s.free })

  pub sound-stays : (x : State) (from : ℕ) → IsSoundNode q old x from → IsSoundNode q new x from
  sound-stays x from s = record { reached_from = nodes s.reached_from; in_time = s.in_time; on_ground = s.on_ground; free = s.free }
    where
      nodes : IsReachedFrom q old x from → IsReachedFrom q new x from
      nodes (inl h) = inl h
      nodes (inr (u, e, l, m)) = inr (u, e, omega arith, subst (λ z. IsMove q z u x.cell) (sym (same_at from l)) m)

  pub found_in-stays : (l : State) (c : Cell) (interval : ℕ) → IsFoundIn q l c interval old → IsFoundIn q l c interval new
  found_in-stays l c interval h u m g t = covered-stays c (u + 1) (h u m g t)

  pub found-stays : (l : State) (c : Cell) → IsFoundFrom q l c old → IsFoundFrom q l c new
  found-stays l c h u m t = covered-stays c (u + 1) (h u m t)

pub Grows-then : (a b c : Exploration) → Grows a b → Grows b c → Grows a c
Grows-then a b c g h =
    let x = g.more in
    let y = h.more in
    record {
      more = omega arith;
      kept = λ i l. h.kept i (omega arith) ∙ g.kept i l;
      same = λ e k. h.same (omega arith) k ∙ g.same (omega arith) k;
    }

pub left-stays : (q : Query) (f : ℕ) (old new : Exploration) (place : ℕ) (m : State) → Grows old new → WasOpen q f old place m → WasOpen q f new place m
left-stays q f old new place m g l =
    let w = l.within in
    let x = g.more in
    record { within = omega arith; here = same_at q old.nodes new.nodes g.more g.kept place w ∙ l.here; bucket = l.bucket }

-- if the frontier grew, and is one again, the state is still being expanded
pub expands_on : (q : Query) (f : ℕ) (l : Expansion) (old new : Exploration) → IsExpansion q f l old → IsFrontierOf q (f - 1) (Some l.place) new → Grows old new → ExpandsOn q f l old new
expands_on q f l old new h frontier grows = record {
  leaving = record { horizon = h.horizon; frontier = frontier; left = left-stays q f old new l.place l.state grows h.left; until = h.until };
  grows = grows;
}

-- what is found already
pub found_already : (q : Query) (f : ℕ) (l : Expansion) (Found : List Node → Type 0) (now : Exploration) → IsExpansion q f l now → Found now.nodes → Finds q f l Found now now
found_already q f l Found now leaving found = record {
  expands_on = record { leaving = leaving; grows = record { more = omega arith; kept = λ i h. refl; same = λ e k. refl } };
  found = found;
}

pub ExpandsOn-then : (q : Query) (f : ℕ) (l : Expansion) (a b c : Exploration) → ExpandsOn q f l a b → ExpandsOn q f l b c → ExpandsOn q f l a c
ExpandsOn-then q f l a b c g h = record { leaving = h.leaving; grows = Grows-then a b c g.grows h.grows }

-- ---- what was seen before

-- the cell was reached before, and is free since
pub covered-seen : (q : Query) (f : ℕ) (left : Option ℕ) (nodes : List Node) (labels : Times) (open_list : List (List ℕ)) → IsFrontier q f left nodes labels open_list → (c : Cell) (interval t : ℕ) → IsTrue (is_passable q.grid.now (place_of c)) → IsSeen (earliest_of q labels c interval) t → IsInInterval (occupancies_on q c) interval t → IsCovered q nodes c t
covered-seen q f left nodes labels open_list fr c interval t ground s g =
    let before = fr.met c interval s.time ground g.bound s.is in
    record {
      since = s.time;
      early = s.early;
      known = before.1;
      free = interval-free_on q.reserved.now c (occupancies_on q c) (fr.measured.occupancies c) interval s.time t before.0 g;
    }

-- the cell was reached sooner in the safe interval of the state
pub superseded-seen : (q : Query) (f : ℕ) (left : Option ℕ) (nodes : List Node) (labels : Times) (open_list : List (List ℕ)) → IsFrontier q f left nodes labels open_list → (m : State) (interval : ℕ) → IsTrue (is_passable q.grid.now (place_of m.cell)) → IsSeen (earliest_of q labels m.cell interval) (m.time - 1) → 1 ≤ m.time → IsInInterval (occupancies_on q m.cell) interval m.time → IsSuperseded q nodes m
superseded-seen q f left nodes labels open_list fr m interval ground s late g =
    let before = fr.met m.cell interval s.time ground g.bound s.is in
    record {
      since = s.time;
      sooner = (let early = s.early in omega arith);
      known = before.1;
      free = interval-free_on q.reserved.now m.cell (occupancies_on q m.cell) (fr.measured.occupancies m.cell) interval s.time m.time before.0 g;
    }

-- what was reached sooner is labelled so
pub seen-superseded : (q : Query) (f : ℕ) (left : Option ℕ) (nodes : List Node) (labels : Times) (open_list : List (List ℕ)) → IsFrontier q f left nodes labels open_list → (m : State) (interval : ℕ) → IsInInterval (occupancies_on q m.cell) interval m.time → IsSuperseded q nodes m → IsSeen (earliest_of q labels m.cell interval) (m.time - 1)
seen-superseded q f left nodes labels open_list fr m interval g s =
    let known = s.known in
    let sooner = s.sooner in
    let since = interval-since q.reserved.now m.cell (occupancies_on q m.cell) (fr.measured.occupancies m.cell) interval s.since m.time (omega arith) s.free g in
    let seen : IsSeen (earliest_of q labels m.cell interval) s.since = subst (λ (z : State). IsInInterval (occupancies_on q z.cell) interval z.time → IsSeen (earliest_of q labels z.cell interval) z.time) known.2 (fr.labelled known.0 known.1 interval) since in
    record { time = seen.time; is = seen.is; early = (let early = seen.early in omega arith) }

pub covered-on : (q : Query) (nodes : List Node) (c : Cell) (v t : ℕ) → v ≤ t → IsFreeOn q.reserved.now c v t → IsCovered q nodes c v → IsCovered q nodes c t
covered-on q nodes c v t h free cv = record {
  since = cv.since;
  early = (let e = cv.early in omega arith);
  known = cv.known;
  free = λ x a b. elim (cases_lt x v) [ inl l ↦ cv.free x a (omega arith) | inr l ↦ free x l b ];
}

-- ---- one more state is noted

-- what the label of a safe interval says of the state
abbrev IsLabelled : Query → Times → State → Type 0
IsLabelled q labels m = (interval : ℕ) → IsInInterval (occupancies_on q m.cell) interval m.time → IsSeen (earliest_of q labels m.cell interval) m.time

module _ (r r' : List Node) (a : Node) (e : r' ≡ r ++ a ∷ []) where
  pub push-long : length r' ≡ length r + 1
  push-long = ap length e ∙ length_push r a

  pub push-more : length r ≤ length r'
  push-more = let l = push-long in omega arith

  pub push-kept : (i : ℕ) → i < length r → get_or r' i no_node ≡ get_or r i no_node
  push-kept i h = ap (λ z. get_or z i no_node) e ∙ get_or_append_left r (a ∷ []) no_node i h

  pub push-end : get_or r' (length r) no_node ≡ a
  push-end = ap (λ z. get_or z (length r) no_node) e ∙ get_or_push r a no_node (length r) refl

  pub push-cases : (i : ℕ) → i < length r' → (i < length r) ⊎ (i ≡ length r)
  push-cases i h = let l = push-long in elim (cases_lt i (length r)) [ inl k ↦ inl k | inr k ↦ inr (omega arith) ]

pub pushed-grows : (old new : Exploration) (a : Node) → new.nodes ≡ old.nodes ++ a ∷ [] → Grows old new
pushed-grows old new a e = record {
  more = push-more old.nodes new.nodes a e;
  kept = push-kept old.nodes new.nodes a e;
  same = λ s k. absurd (let l = push-long old.nodes new.nodes a e in omega arith);
}

pub covered-new : (q : Query) (r r' : List Node) (link : Link) (u : ℕ) (cell : Cell) → r' ≡ r ++ node_of (state (u + 1) cell) link ∷ [] → IsUnoccupied q.reserved.now (u + 1) cell → IsCovered q r' cell (u + 1)
covered-new q r r' link u cell e free = record {
  since = u + 1;
  early = omega arith;
  known = (length r, (let l = push-long r r' (node_of (state (u + 1) cell) link) e in omega arith), ap (λ (z : Node). z.state) (push-end r r' (node_of (state (u + 1) cell) link) e));
  free = λ x a b. subst (λ z. IsUnoccupied q.reserved.now z cell) (let s : u + 1 ≡ x = omega arith in s) free;
}

module _ (q : Query) (f place : ℕ) (r : List Node) (labels : Times) (open_list : List (List ℕ)) (fr : IsFrontier q f (Some place) r labels open_list) (places : AreNodePlaces r open_list) (left : State) (within : place < length r) (here : state_in r place ≡ left) (u : ℕ) (cell : Cell) (interval : ℕ) (inside : IsInInterval (occupancies_on q cell) interval (u + 1)) (unseen : IsSeen (earliest_of q labels cell interval) (u + 1) → ⊥) (move : IsMove q left u cell) (in_time : u + 1 + heuristic_of q cell ≤ q.horizon) (r' : List Node) (labels' : Times) (open_list' : List (List ℕ)) (key : ℕ) (link : Link) (to : place_in link ≡ place) (e : r' ≡ r ++ node_of (state (u + 1) cell) link ∷ []) (set : IsLabelSet labels labels' (cell_index q.grid.now cell) interval (u + 1)) (bucket : IsBucket q (state (u + 1) cell) key) (put : IsPut open_list open_list' key (length r)) (late : f ≤ key) where
  long : length r' ≡ length r + 1
  long = push-long r r' (node_of (state (u + 1) cell) link) e

  more : length r ≤ length r'
  more = push-more r r' (node_of (state (u + 1) cell) link) e

  kept : (i : ℕ) → i < length r → get_or r' i no_node ≡ get_or r i no_node
  kept = push-kept r r' (node_of (state (u + 1) cell) link) e

  at_end : get_or r' (length r) no_node ≡ node_of (state (u + 1) cell) link
  at_end = push-end r r' (node_of (state (u + 1) cell) link) e

  new_at : state_in r' (length r) ≡ state (u + 1) cell
  new_at = ap (λ (z : Node). z.state) at_end

  cases : (i : ℕ) → i < length r' → (i < length r) ⊎ (i ≡ length r)
  cases = push-cases r r' (node_of (state (u + 1) cell) link) e

  sound : (i : ℕ) → i < length r' → IsSoundNode q r' (state_in r' i) (parent_in r' i)
  sound i h = elim (cases i h) [
    | inl l ↦ subst (λ (z : Node). IsSoundNode q r' z.state (place_in z.parent)) (sym (kept i l)) (sound-stays q r r' more kept (state_in r i) (parent_in r i) (fr.sound i l))
    | inr s ↦ subst (λ i. IsSoundNode q r' (state_in r' i) (parent_in r' i)) (sym s) (subst (λ (z : Node). IsSoundNode q r' z.state (place_in z.parent)) (sym at_end) (subst (IsSoundNode q r' (state (u + 1) cell)) (sym to) (record {
      reached_from = inr (u, refl, (let m = more in omega arith), subst (λ z. IsMove q z u cell) (sym (same_at q r r' more kept place within ∙ here)) move);
      in_time = in_time;
      on_ground = move.step.on_ground;
      free = move.step.fits.vertex;
    })))
  ]

  fresh : (i : ℕ) → i < length r → state_in r i ≡ state (u + 1) cell → ⊥
  fresh i h s = unseen (subst (IsLabelled q labels) s (fr.labelled i h) interval inside)

  apart : (i k : ℕ) → i < length r' → k < length r' → state_in r' i ≡ state_in r' k → i ≡ k
  apart i k a b s = elim (cases i a) [
    | inl x ↦ elim (cases k b) [
      | inl y ↦ fr.apart i k x y (sym (same_at q r r' more kept i x) ∙ s ∙ same_at q r r' more kept k y)
      | inr y ↦ absurd (fresh i x (sym (same_at q r r' more kept i x) ∙ s ∙ ap (state_in r') y ∙ new_at))
    ]
    | inr x ↦ elim (cases k b) [
      | inl y ↦ absurd (fresh k y (sym (same_at q r r' more kept k y) ∙ sym s ∙ ap (state_in r') x ∙ new_at))
      | inr y ↦ x ∙ sym y
    ]
  ]

  -- the new arrival is the earliest in its safe interval
  seen-new : (t : ℕ) → u + 1 ≤ t → IsSeen (earliest_of q labels' cell interval) t
  seen-new t h = record { time = u + 1; is = set.set; early = h }

  seen-here : (t : ℕ) → IsSeen (earliest_of q labels cell interval) t → IsSeen (earliest_of q labels' cell interval) t
  seen-here t s = seen-new t (elim (cases_lt (u + 1) t) [
    | inl l ↦ (omega arith)
    | inr l ↦ absurd (unseen (record { time = s.time; is = s.is; early = (let x = s.early in omega arith) }))
  ])

  -- a safe interval of a cell is the one in which the new arrival is, or its label stays
  one_or_other : (c : Cell) (k : ℕ) → IsTrue (is_passable q.grid.now (place_of c)) → ((c ≡ cell) × (k ≡ interval)) ⊎ (earliest_of q labels' c k ≡ earliest_of q labels c k)
  one_or_other c k ground = elim (cases_eq (cell_index q.grid.now c) (cell_index q.grid.now cell)) [
    | inr ne ↦ inr (set.others (cell_index q.grid.now c) k (inl ne))
    | inl s ↦ elim (cases_eq k interval) [
      | inr ne ↦ inr (set.others (cell_index q.grid.now c) k (inr ne))
      | inl n ↦ inl (one_place q.grid.now c cell fr.measured.heuristic.ready.map ground move.step.on_ground s, n)
    ]
  ]

  labelled-stays : (m : State) → IsTrue (is_passable q.grid.now (place_of m.cell)) → IsLabelled q labels m → IsLabelled q labels' m
  labelled-stays m ground lab k g = elim (one_or_other m.cell k ground) [
    | inr same ↦ subst (λ z. IsSeen z m.time) (sym same) (lab k g)
    | inl w ↦
        let old : IsSeen (earliest_of q labels cell interval) m.time = subst (λ z. IsSeen (earliest_of q labels cell z) m.time) w.1 (subst (λ c. IsSeen (earliest_of q labels c k) m.time) w.0 (lab k g)) in
        subst (λ c. IsSeen (earliest_of q labels' c k) m.time) (sym w.0) (subst (λ z. IsSeen (earliest_of q labels' cell z) m.time) (sym w.1) (seen-here m.time old))
  ]

  labelled : (i : ℕ) → i < length r' → IsLabelled q labels' (state_in r' i)
  labelled i h = elim (cases i h) [
    | inl l ↦ subst (IsLabelled q labels') (sym (same_at q r r' more kept i l)) (labelled-stays (state_in r i) (fr.sound i l).on_ground (fr.labelled i l))
    | inr s ↦ subst (IsLabelled q labels') (sym (ap (state_in r') s ∙ new_at)) (λ k g. subst (λ z. IsSeen (earliest_of q labels' cell z) (u + 1)) (one_gap (occupancies_on q cell) (occupancies-apart q.reserved.now cell (occupancies_on q cell) (fr.measured.occupancies cell)) (u + 1) interval k inside g) (seen-new (u + 1) (omega arith)))
  ]

  known-new : IsKnown r' (state (u + 1) cell)
  known-new = (length r, (let l = long in omega arith), new_at)

  met : (c : Cell) (k time : ℕ) → IsTrue (is_passable q.grid.now (place_of c)) → k ≤ length (occupancies_on q c) → earliest_of q labels' c k ≡ Some time → IsInInterval (occupancies_on q c) k time × IsKnown r' (record { time = time; cell = c })
  met c k time ground bound e = elim (one_or_other c k ground) [
    | inr same ↦ let w = fr.met c k time ground bound (sym same ∙ e) in (w.0, known-stays q r r' more kept (state time c) w.1)
    | inl w ↦
        let there : earliest_of q labels' cell interval ≡ Some time = sym (λ t. earliest_of q labels' (w.0 t) (w.1 t)) ∙ e in
        let now : u + 1 ≡ time = same_Some (u + 1) time (sym set.set ∙ there) in (
          subst (λ z. IsInInterval (occupancies_on q z) k time) (sym w.0) (subst (λ z. IsInInterval (occupancies_on q cell) z time) (sym w.1) (subst (IsInInterval (occupancies_on q cell) interval) now inside)),
          subst (λ z. IsKnown r' (state time z)) (sym w.0) (subst (λ z. IsKnown r' (state z cell)) now known-new),
        )
  ]

  others : (k : ℕ) → k ≢ key → bucket_of open_list' k ≡ bucket_of open_list k
  others k ne = put k ∙ ap (λ b. cond b (bucket_of open_list k ++ length r ∷ []) (bucket_of open_list k)) (false_from_ne_true (k == key) (λ s. ne (eqb-true k key s)))

  there : (k : ℕ) → k ≡ key → bucket_of open_list' k ≡ bucket_of open_list k ++ length r ∷ []
  there k s = put k ∙ ap (λ b. cond b (bucket_of open_list k ++ length r ∷ []) (bucket_of open_list k)) (eq-eqb k key s)

  stacked : (k i : ℕ) → Contains (bucket_of open_list' k) i → IsBucket q (state_in r' i) k
  stacked k i h = elim (cases_eq k key) [
    | inr ne ↦ old (subst (λ z. Contains z i) (others k ne) h)
    | inl s ↦ elim (Contains-push_cases (bucket_of open_list k) (length r) i (subst (λ z. Contains z i) (there k s) h)) [
      | inl o ↦ old o
      | inr n ↦ subst (λ i. IsBucket q (state_in r' i) k) n (subst (λ z. IsBucket q z k) (sym new_at) (subst (IsBucket q (state (u + 1) cell)) (sym s) bucket))
    ]
  ]
    where
      old : Contains (bucket_of open_list k) i → IsBucket q (state_in r' i) k
      old c = subst (λ z. IsBucket q z k) (sym (same_at q r r' more kept i (places k i c))) (fr.stacked k i c)

  keep : (k i : ℕ) → Contains (bucket_of open_list k) i → Contains (bucket_of open_list' k) i
  keep k i h = elim (cases_eq k key) [
    | inl s ↦ subst (λ z. Contains z i) (sym (there k s)) (Contains-append_left (bucket_of open_list k) (length r ∷ []) i h)
    | inr ne ↦ subst (λ z. Contains z i) (sym (others k ne)) h
  ]

  done : (i : ℕ) → i < length r' → ((k : ℕ) × Contains (bucket_of open_list' k) i) ⊎ ((let o : Option ℕ = Some place in o ≡ Some i) ⊎ IsStateSettled q r' (state_in r' i))
  done i h = elim (cases i h) [
    | inr s ↦ inl (key, subst (Contains (bucket_of open_list' key)) (sym s) (subst (λ z. Contains z (length r)) (sym (there key refl)) (Contains-push (bucket_of open_list key) (length r))))
    | inl l ↦ elim (fr.done i l) [
      | inl w ↦ inl (w.0, keep w.0 i w.1)
      | inr w ↦ elim w [
        | inl s ↦ inr (inl s)
        | inr x ↦ inr (inr (subst (IsStateSettled q r') (sym (same_at q r r' more kept i l)) (settled-stays q r r' more kept (state_in r i) x)))
      ]
    ]
  ]

  pub pushed : IsFrontier q f (Some place) r' labels' open_list'
  pushed = record {
    measured = fr.measured;
    origin = known-stays q r r' more kept (state 0 q.start) fr.origin;
    sound = sound;
    apart = apart;
    labelled = labelled;
    met = met;
    stacked = stacked;
    past = λ k h. others k (λ s. omega arith) ∙ fr.past k h;
    done = done;
  }

-- ---- a state is left

-- the step that the move makes can be made as soon as the cell is free
step-early : (q : Query) (l : State) (c : Cell) (u v : ℕ) → IsMove q l u c → l.time ≤ v → v ≤ u → IsUnoccupied q.reserved.now (v + 1) c → IsStep q v l.cell c
step-early q l c u v move a b free = elim (cases_eq v u) [
  | inl e ↦ subst (λ z. IsStep q z l.cell c) (sym e) move.step
  | inr ne ↦ record {
    beside = move.step.beside;
    on_ground = move.step.on_ground;
    fits = step_ok-alone q.reserved.now v l.cell c free (move.free (v + 1) (omega arith) (omega arith));
  }
]

-- if the earliest step into the safe interval was looked at, all were
pub found_in-first : (q : Query) → IsMeasured q → (nodes : List Node) (l : State) (c : Cell) (interval t v : ℕ) → IsEarliestWithin (occupancies_on q c) interval (l.time + 1) t → t ≡ v + 1 → IsFoundAt q l c v nodes → IsFoundIn q l c interval nodes
found_in-first q m nodes l c interval t v first e found u move g in_time =
    let early = first.first (u + 1) (let w = move.waits in omega arith) g in
    let later = first.later in
    let at : IsInInterval (occupancies_on q c) interval (v + 1) = subst (IsInInterval (occupancies_on q c) interval) e first.inside in
    let free = interval-free_on q.reserved.now c (occupancies_on q c) (m.occupancies c) interval (v + 1) (u + 1) at g in
    covered-on q nodes c (v + 1) (u + 1) (omega arith) free (found (step-early q l c u v move (omega arith) (omega arith) (free (v + 1) (omega arith) (omega arith))) (omega arith))

-- a safe interval that begins too late
pub found_in-late : (q : Query) (nodes : List Node) (l : State) (c : Cell) (interval t until : ℕ) → q.horizon ≤ MAX_HORIZON → IsFreeUntil q l until → IsEarliestWithin (occupancies_on q c) interval (l.time + 1) t → until < t → IsFoundIn q l c interval nodes
found_in-late q nodes l c interval t until few wait first late u move g in_time =
    let early = first.first (u + 1) (let w = move.waits in omega arith) g in
    let before = wait.1 u (omega arith) move.free in
    absurd (omega arith)

pub found_in-none : (q : Query) (nodes : List Node) (l : State) (c : Cell) (interval : ℕ) → ((s : ℕ) → l.time + 1 ≤ s → IsInInterval (occupancies_on q c) interval s → ⊥) → IsFoundIn q l c interval nodes
found_in-none q nodes l c interval none u move g in_time = absurd (none (u + 1) (let w = move.waits in omega arith) g)

pub each_dir : (P : Dir → Type 0) → P North → P East → P South → P West → (d : Dir) → P d
each_dir P n e s w North = n
each_dir P n e s w East = e
each_dir P n e s w South = s
each_dir P n e s w West = w

pub found_dir : (q : Query) (nodes : List Node) (l : State) (beside : Cell) (dir : Dir) → place_of beside ≡ moved (place_of l.cell) dir → IsFoundFrom q l beside nodes → IsFoundInDir q l dir nodes
found_dir q nodes l beside dir e found c g = subst (λ z. IsFoundFrom q l z nodes) (place_of-injective beside c (e ∙ sym g)) found

pub expanded : (q : Query) (nodes : List Node) (l : State) → ((dir : Dir) → IsFoundInDir q l dir nodes) → (IsGoalState q l → ⊥) → IsExpanded q nodes l
expanded q nodes l there not_end = record { moves = λ u c w m h. there w.0 c w.1 u m h; not_end = not_end }

-- a frontier with other parts
pub left_done : (q : Query) (f place : ℕ) (r : List Node) (labels : Times) (open_list : List (List ℕ)) → IsFrontier q f (Some place) r labels open_list → IsStateSettled q r (state_in r place) → IsFrontier q f None r labels open_list
left_done q f place r labels open_list fr e = record {
  measured = fr.measured;
  origin = fr.origin;
  sound = fr.sound;
  apart = fr.apart;
  labelled = fr.labelled;
  met = fr.met;
  stacked = fr.stacked;
  past = fr.past;
  done = λ i h. elim (fr.done i h) [
    | inl a ↦ inl a
    | inr w ↦ elim w [ inl s ↦ inr (inr (subst (λ z. IsStateSettled q r (state_in r z)) (same_Some place i s) e)) | inr x ↦ inr (inr x) ]
  ];
}

-- fewer buckets need be empty
pub frontier_of_lower_bucket : (q : Query) (f g : ℕ) (left : Option ℕ) (r : List Node) (labels : Times) (open_list : List (List ℕ)) → g ≤ f → IsFrontier q f left r labels open_list → IsFrontier q g left r labels open_list
frontier_of_lower_bucket q f g left r labels open_list h fr = record {
  measured = fr.measured;
  origin = fr.origin;
  sound = fr.sound;
  apart = fr.apart;
  labelled = fr.labelled;
  met = fr.met;
  stacked = fr.stacked;
  past = λ k l. fr.past k (omega arith);
  done = fr.done;
}

-- if nothing new was put on the buckets, those that were empty still are
pub frontier_of_higher_bucket : (q : Query) (f g : ℕ) (left : Option ℕ) (r : List Node) (labels : Times) (open_list before : List (List ℕ)) → IsFrontier q g left r labels open_list → ((k : ℕ) → bucket_of open_list k ≡ bucket_of before k) → ((k : ℕ) → k < f → bucket_of before k ≡ []) → IsFrontier q f left r labels open_list
frontier_of_higher_bucket q f g left r labels open_list before fr same past = record {
  measured = fr.measured;
  origin = fr.origin;
  sound = fr.sound;
  apart = fr.apart;
  labelled = fr.labelled;
  met = fr.met;
  stacked = fr.stacked;
  past = λ k l. same k ∙ past k l;
  done = fr.done;
}

-- ---- the last state of a bucket is taken

module _ (q : Query) (f : ℕ) (r : List Node) (labels : Times) (open_list open_list' : List (List ℕ)) (place : ℕ) (fr : IsFrontier q f None r labels open_list) (e : bucket_of open_list f ≡ bucket_of open_list' f ++ place ∷ []) (others : (k : ℕ) → k ≢ f → bucket_of open_list' k ≡ bucket_of open_list k) where
  back-to : (k i : ℕ) → Contains (bucket_of open_list' k) i → Contains (bucket_of open_list k) i
  back-to k i h = elim (cases_eq k f) [
    | inl s ↦ subst (λ z. Contains (bucket_of open_list z) i) (sym s) (subst (λ z. Contains z i) (sym e) (Contains-append_left (bucket_of open_list' f) (place ∷ []) i (subst (λ z. Contains (bucket_of open_list' z) i) s h)))
    | inr ne ↦ subst (λ z. Contains z i) (others k ne) h
  ]

  still : (i k : ℕ) → Contains (bucket_of open_list k) i → ((n : ℕ) × Contains (bucket_of open_list' n) i) ⊎ (let o : Option ℕ = Some place in o ≡ Some i)
  still i k h = elim (cases_eq k f) [
    | inr ne ↦ inl (k, subst (λ z. Contains z i) (sym (others k ne)) h)
    | inl s ↦ elim (Contains-push_cases (bucket_of open_list' f) place i (subst (λ z. Contains z i) e (subst (λ z. Contains (bucket_of open_list z) i) s h))) [
      | inl a ↦ inl (f, a)
      | inr t ↦ inr (ap (λ z. Some z) t)
    ]
  ]

  pub taken-known : IsBucket q (state_in r place) f
  taken-known = fr.stacked f place (subst (λ z. Contains z place) (sym e) (Contains-push (bucket_of open_list' f) place))

  pub taken : IsFrontier q f (Some place) r labels open_list'
  taken = record {
    measured = fr.measured;
    origin = fr.origin;
    sound = fr.sound;
    apart = fr.apart;
    labelled = fr.labelled;
    met = fr.met;
    stacked = λ k i h. fr.stacked k i (back-to k i h);
    past = λ k h. others k (λ s. omega arith) ∙ fr.past k h;
    done = λ i h. elim (fr.done i h) [
      | inl w ↦ elim (still i w.0 w.1) [ inl a ↦ inl a | inr s ↦ inr (inl s) ]
      | inr w ↦ elim w [ inl s ↦ absurd (none-some i s) | inr x ↦ inr (inr x) ]
    ];
  }

-- the bucket is empty
pub swept : (q : Query) (f : ℕ) (r : List Node) (labels : Times) (open_list open_list' : List (List ℕ)) → IsFrontier q f None r labels open_list → bucket_of open_list f ≡ [] → ((k : ℕ) → bucket_of open_list' k ≡ bucket_of open_list k) → IsFrontier q (f + 1) None r labels open_list'
swept q f r labels open_list open_list' fr e same = record {
  measured = fr.measured;
  origin = fr.origin;
  sound = fr.sound;
  apart = fr.apart;
  labelled = fr.labelled;
  met = fr.met;
  stacked = λ k i h. fr.stacked k i (subst (λ z. Contains z i) (same k) h);
  past = λ k h. same k ∙ elim (cases_eq k f) [ inl s ↦ ap (bucket_of open_list) s ∙ e | inr ne ↦ fr.past k (omega arith) ];
  done = λ i h. elim (fr.done i h) [
    | inl w ↦ inl (w.0, subst (λ z. Contains z i) (sym (same w.0)) w.1)
    | inr w ↦ inr w
  ];
}

-- the same of all that a search has come to
pub taken-off : (q : Query) (f place : ℕ) (s t : Exploration) → IsFrontierOf q f None s → IsNodeTaken s t f place → IsFrontierOf q f (Some place) t
taken-off q f place s t fr w = subst (IsFrontierOf q f (Some place)) (sym w.rest) (taken q f s.nodes (earliest_in s.labels) s.open_list t.open_list place fr w.last w.others)

pub taken-left : (q : Query) (f place : ℕ) (s t : Exploration) → IsFrontierOf q f None s → IsNodeTaken s t f place → WasOpen q f t place (state_in t.nodes place)
taken-left q f place s t fr w = subst (λ z. WasOpen q f z place (state_in z.nodes place)) (sym w.rest) (record {
  within = w.within;
  here = refl;
  bucket = taken-known q f s.nodes (earliest_in s.labels) s.open_list t.open_list place fr w.last w.others;
})

pub swept-off : (q : Query) (f : ℕ) (s t : Exploration) → IsFrontierOf q f None s → IsBucketDone s t f → IsFrontierOf q (f + 1) None t
swept-off q f s t fr w = subst (IsFrontierOf q (f + 1) None) (sym w.rest) (swept q f s.nodes (earliest_in s.labels) s.open_list t.open_list fr w.empty w.same)

-- ---- the start is reached, and nothing else

module _ (q : Query) (ask : IsPosed q) (near : heuristic_of q q.start ≤ q.horizon) (labels labels' : Times) (none open_list : List (List ℕ)) (blank : (cell interval : ℕ) → labels cell interval ≡ None) (r : List Node) (link : Link) (e : r ≡ [] ++ node_of (state 0 q.start) link ∷ []) (interval : ℕ) (inside : IsInInterval (occupancies_on q q.start) interval 0) (set : IsLabelSet labels labels' (cell_index q.grid.now q.start) interval 0) (bare : (k : ℕ) → bucket_of none k ≡ []) (key : ℕ) (bucket : IsBucket q (state 0 q.start) key) (put : IsPut none open_list key 0) where
  open-long : length r ≡ 1
  open-long = let l = push-long [] r (node_of (state 0 q.start) link) e in omega arith

  open-at : (i : ℕ) → i < length r → get_or r i no_node ≡ node_of (state 0 q.start) link
  open-at i h = elim (push-cases [] r (node_of (state 0 q.start) link) e i h) [
    | inl l ↦ absurd (omega arith)
    | inr s ↦ ap (λ z. get_or r z no_node) s ∙ push-end [] r (node_of (state 0 q.start) link) e
  ]

  open-state : (i : ℕ) → i < length r → state_in r i ≡ state 0 q.start
  open-state i h = ap (λ (z : Node). z.state) (open-at i h)

  first-place : (i : ℕ) → i < length r → i ≡ 0
  first-place i h = let l = open-long in omega arith

  only : (k i : ℕ) → Contains (bucket_of open_list k) i → (i ≡ 0) × (k ≡ key)
  only k i h = elim (cases_eq k key) [
    | inl s ↦ elim (Contains-push_cases (bucket_of none k) 0 i (subst (λ z. Contains z i) (put k ∙ ap (λ b. cond b (bucket_of none k ++ 0 ∷ []) (bucket_of none k)) (eq-eqb k key s)) h)) [
      | inl o ↦ absurd (let l = (subst (λ z. Contains z i) (bare k) o).1 in omega arith)
      | inr t ↦ (sym t, s)
    ]
    | inr ne ↦ absurd (let l = (subst (λ z. Contains z i) (put k ∙ ap (λ b. cond b (bucket_of none k ++ 0 ∷ []) (bucket_of none k)) (false_from_ne_true (k == key) (λ s. ne (eqb-true k key s))) ∙ bare k) h).1 in omega arith)
  ]

  on-stack : Contains (bucket_of open_list key) 0
  on-stack = subst (λ z. Contains z 0) (sym (put key ∙ ap (λ b. cond b (bucket_of none key ++ 0 ∷ []) (bucket_of none key)) (eq-eqb key key refl))) (Contains-push (bucket_of none key) 0)

  within-first : 0 < length r
  within-first = let l = open-long in omega arith

  open-met : (c : Cell) (k time : ℕ) → IsTrue (is_passable q.grid.now (place_of c)) → k ≤ length (occupancies_on q c) → earliest_of q labels' c k ≡ Some time → IsInInterval (occupancies_on q c) k time × IsKnown r (record { time = time; cell = c })
  open-met c k time ground bound e = elim (cases_eq (cell_index q.grid.now c) (cell_index q.grid.now q.start)) [
    | inr ne ↦ absurd (none-some time (sym (set.others (cell_index q.grid.now c) k (inl ne) ∙ blank (cell_index q.grid.now c) k) ∙ e))
    | inl s ↦ elim (cases_eq k interval) [
      | inr ne ↦ absurd (none-some time (sym (set.others (cell_index q.grid.now c) k (inr ne) ∙ blank (cell_index q.grid.now c) k) ∙ e))
      | inl n ↦
          let here : c ≡ q.start = one_place q.grid.now c q.start ask.measured.heuristic.ready.map ground ask.on_ground s in
          let there : earliest_of q labels' q.start interval ≡ Some time = sym (λ t. earliest_of q labels' (here t) (n t)) ∙ e in
          let now : 0 ≡ time = same_Some 0 time (sym set.set ∙ there) in (
            subst (λ z. IsInInterval (occupancies_on q z) k time) (sym here) (subst (λ z. IsInInterval (occupancies_on q q.start) z time) (sym n) (subst (IsInInterval (occupancies_on q q.start) interval) now inside)),
            subst (λ z. IsKnown r (state time z)) (sym here) (subst (λ z. IsKnown r (state z q.start)) now (0, within-first, open-state 0 within-first)),
          )
    ]
  ]

  pub opening : IsFrontier q 0 None r labels' open_list
  opening = record {
    measured = ask.measured;
    origin = (0, within-first, open-state 0 within-first);
    sound = λ i h. subst (λ (z : Node). IsSoundNode q r z.state (place_in z.parent)) (sym (open-at i h)) (record { reached_from = inl (refl, refl); in_time = (let b = near in omega arith); on_ground = ask.on_ground; free = ask.free });
    apart = λ i k a b s. first-place i a ∙ sym (first-place k b);
    labelled = λ i h. subst (IsLabelled q labels') (sym (open-state i h)) (λ k g. subst (λ z. IsSeen (earliest_of q labels' q.start z) 0) (one_gap (occupancies_on q q.start) (occupancies-apart q.reserved.now q.start (occupancies_on q q.start) (ask.measured.occupancies q.start)) 0 interval k inside g) (record { time = 0; is = set.set; early = omega arith }));
    met = open-met;
    stacked = λ k i h. let w = only k i h in subst (λ z. IsBucket q z k) (sym (open-state i (let z = w.0 in let l = open-long in omega arith))) (subst (IsBucket q (state 0 q.start)) (sym w.1) bucket);
    past = λ k h. absurd (omega arith);
    done = λ i h. inl (key, subst (Contains (bucket_of open_list key)) (sym (first-place i h)) on-stack);
  }
