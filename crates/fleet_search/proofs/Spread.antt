-- Cells are labelled with their distances from a goal.
use Rattle.fleet_search.proofs.Words.{◌≡◌, ◌≢◌, ℕ, zero, suc, ◌+◌, ◌<◌, ◌≤◌, ◌/◌, ◌%◌, ◌==◌, true, false, cond, List, [], ◌∷◌, ◌++◌, length, get_or, Contains, Option, Some, None, ◌⊎◌, inl, inr, refl, sym, ap, ◌∙◌, subst, arith, ltb, IsTrue, ◌↔◌, Bool, abs_diff, sum_by, sum_by-set, unwrap_or, min, set, ints, div-mul-add, mod-mul-add, cases_lt, cases_eq, lt-ltb, ltb-true, eqb-true, eq-eqb, false_from_ne_true, none-some, same_Some, get_or-set_same, get_or-set_other, length-set, get_or_past, length-append, Contains-append_left, Contains-push, Contains-push_cases, Cell, Place, Dir, North, East, South, West, place_of, moved, place_of-injective, MAX_HORIZON, Ground, IsGround, cell_index, off_map, AreNeighbours, Label, DistanceTable, no_label, label_in, label_of_search, manhattan, least_moves, heuristic, with_label, IsReady, AreDistances, IsOnGround, IsClosed, IsWaiting, IsSpread, IsSpreadOf, IsOnBound, LabelsFall, IsFoundTowards, IsPutFrom, IsLabelNear, IsLabelledTowards, label_weight, work_left, HasSpread, IsLayerDone}
use Rattle.fleet_search.specs.Distance.{IsLabelled}

-- ---- the places of cells in a table

-- a passable cell is on the map
pub on_map : (g : Ground) (c : Cell) → IsGround g → IsOnGround g c → (c.x < g.width) × (c.y < g.height)
on_map g c s h = (
  elim (cases_lt c.x g.width) [ inl l ↦ l | inr l ↦ absurd (let z : true ≡ false = sym h ∙ off_map g c.x c.y s (inl l) in cc) ],
  elim (cases_lt c.y g.height) [ inl l ↦ l | inr l ↦ absurd (let z : true ≡ false = sym h ∙ off_map g c.x c.y s (inr l) in cc) ],
)

-- no two passable cells stand in one place
pub one_place : (g : Ground) (c d : Cell) → IsGround g → IsOnGround g c → IsOnGround g d → cell_index g c ≡ cell_index g d → c ≡ d
one_place g c d s a b same =
    let in_row = (on_map g c s a).0 in
    let in_row_too = (on_map g d s b).0 in
    let row : c.y ≡ d.y = sym (div-mul-add c.y g.width c.x in_row) ∙ ap (λ n. n / g.width) same ∙ div-mul-add d.y g.width d.x in_row_too in
    let column : c.x ≡ d.x = sym (mod-mul-add c.y g.width c.x in_row) ∙ ap (λ n. n % g.width) same ∙ mod-mul-add d.y g.width d.x in_row_too in
    let made : ℕ → ℕ → Cell = λ x y. record { x = x; y = y } in
    ap (λ x. made x c.y) column ∙ ap (λ y. made d.x y) row

pub AreNeighbours-sym : (c d : Cell) → AreNeighbours c d → AreNeighbours d c
AreNeighbours-sym c d (North, h) = (South, let x = ap (λ (p : Place). p.x) h in let y = ap (λ (p : Place). p.y) h in λ i. record { x = sym x i; y = south y i })
  where
    south : (place_of d).y ≡ (moved (place_of c) North).y → (place_of c).y ≡ (moved (place_of d) South).y
    south y = omega (arith, ints, y)
AreNeighbours-sym c d (East, h) = (West, let x = ap (λ (p : Place). p.x) h in let y = ap (λ (p : Place). p.y) h in λ i. record { x = west x i; y = sym y i })
  where
    west : (place_of d).x ≡ (moved (place_of c) East).x → (place_of c).x ≡ (moved (place_of d) West).x
    west x = omega (arith, ints, x)
AreNeighbours-sym c d (South, h) = (North, let x = ap (λ (p : Place). p.x) h in let y = ap (λ (p : Place). p.y) h in λ i. record { x = sym x i; y = north y i })
  where
    north : (place_of d).y ≡ (moved (place_of c) South).y → (place_of c).y ≡ (moved (place_of d) North).y
    north y = omega (arith, ints, y)
AreNeighbours-sym c d (West, h) = (East, let x = ap (λ (p : Place). p.x) h in let y = ap (λ (p : Place). p.y) h in λ i. record { x = east x i; y = sym y i })
  where
    east : (place_of d).x ≡ (moved (place_of c) West).x → (place_of c).x ≡ (moved (place_of d) East).x
    east x = omega (arith, ints, x)

-- ---- labels

pub label_of_search-here : (search distance : ℕ) → label_of_search search (record { search = search; distance = distance }) ≡ Some distance
label_of_search-here search distance = ap (λ b. cond b (Some distance) None) (eq-eqb search search refl)

-- a label of another search is none
pub label_of_search-other : (search : ℕ) (l : Label) → l.search ≢ search → label_of_search search l ≡ None
label_of_search-other search l ne = ap (λ b. cond b (Some l.distance) None) (false_from_ne_true (l.search == search) (λ e. ne (eqb-true l.search search e)))

pub label_of_search-same : (search : ℕ) (l : Label) → l.search ≡ search → label_of_search search l ≡ Some l.distance
label_of_search-same search l e = ap (λ b. cond b (Some l.distance) None) (eq-eqb l.search search e)

-- what is read in the cell's place
pub label_read : (s : DistanceTable) (c : Cell) (place : ℕ) (l : Label) → place ≡ cell_index s.grid c → l ≡ get_or s.labels place no_label → label_of_search s.search l ≡ label_in s.grid s.labels s.search c
unfolding label_in
label_read s c place l at read = ap (label_of_search s.search) (read ∙ ap (λ n. get_or s.labels n no_label) at)

-- a label of this search leaves no later one
pub ready_set : (g : Ground) (labels : List Label) (search place distance : ℕ) → place < length labels → IsReady g labels search → IsReady g (set labels place (record { search = search; distance = distance })) search
ready_set g labels search place distance within ready = record { map = ready.map; size = long ∙ ready.size; old = old }
  where
    label : Label
    label = record { search = search; distance = distance }

    long : length (set labels place label) ≡ length labels
    long = length-set labels place label

    old : (i : ℕ) → i < length (set labels place label) → (get_or (set labels place label) i no_label).search ≤ search
    old i h = elim (cases_eq i place) [
      | inl e ↦
          let at : get_or (set labels place label) i no_label ≡ label = ap (λ k. get_or (set labels place label) k no_label) e ∙ get_or-set_same labels place label no_label within in
          let s = ap (λ (l : Label). l.search) at in
          omega arith
      | inr ne ↦
          let s = ap (λ (l : Label). l.search) (get_or-set_other labels place i label no_label ne) in
          let o = ready.old i (omega (arith, long)) in
          omega arith
    ]

-- ---- columns and rows between cells

pub manhattan-self : (c : Cell) → manhattan c c ≡ 0
unfolding manhattan
manhattan-self c = omega arith

-- on one line a step changes the way to a number by one
diff-step : (x y s : ℕ) → x ≡ y + 1 → (abs_diff x s ≡ abs_diff y s + 1) ⊎ (abs_diff y s ≡ abs_diff x s + 1)
diff-step x y s e = elim (cases_lt y s) [ inl l ↦ inr (omega arith) | inr l ↦ inl (omega arith) ]

in_row : (a b s : Cell) → a.x ≡ b.x → (abs_diff b.y s.y ≡ abs_diff a.y s.y + 1) ⊎ (abs_diff a.y s.y ≡ abs_diff b.y s.y + 1) → (manhattan b s ≡ manhattan a s + 1) ⊎ (manhattan a s ≡ manhattan b s + 1)
unfolding manhattan
in_row a b s e h = let k = ap (λ n. abs_diff n s.x) e in elim h [ inl l ↦ inl (omega arith) | inr l ↦ inr (omega arith) ]

in_column : (a b s : Cell) → a.y ≡ b.y → (abs_diff b.x s.x ≡ abs_diff a.x s.x + 1) ⊎ (abs_diff a.x s.x ≡ abs_diff b.x s.x + 1) → (manhattan b s ≡ manhattan a s + 1) ⊎ (manhattan a s ≡ manhattan b s + 1)
unfolding manhattan
in_column a b s e h = let k = ap (λ n. abs_diff n s.y) e in elim h [ inl l ↦ inl (omega arith) | inr l ↦ inr (omega arith) ]

turn_round : {A B : Type 0} → A ⊎ B → B ⊎ A
turn_round (inl a) = inr a
turn_round (inr b) = inl b

pub manhattan-step : (a b s : Cell) → AreNeighbours a b → (manhattan b s ≡ manhattan a s + 1) ⊎ (manhattan a s ≡ manhattan b s + 1)
manhattan-step a b s (North, h) = let x = ap (λ (p : Place). p.x) h in let y = ap (λ (p : Place). p.y) h in in_row a b s (omega (arith, ints, x)) (turn_round (diff-step a.y b.y s.y (omega (arith, ints, y))))
manhattan-step a b s (East, h) = let x = ap (λ (p : Place). p.x) h in let y = ap (λ (p : Place). p.y) h in in_column a b s (omega (arith, ints, y)) (diff-step b.x a.x s.x (omega (arith, ints, x)))
manhattan-step a b s (South, h) = let x = ap (λ (p : Place). p.x) h in let y = ap (λ (p : Place). p.y) h in in_row a b s (omega (arith, ints, x)) (diff-step b.y a.y s.y (omega (arith, ints, y)))
manhattan-step a b s (West, h) = let x = ap (λ (p : Place). p.x) h in let y = ap (λ (p : Place). p.y) h in in_column a b s (omega (arith, ints, y)) (turn_round (diff-step a.x b.x s.x (omega (arith, ints, x))))

-- a sum that changes as the way to a number on one line does falls by a step exactly on that side
fall-down : (x y s m n : ℕ) → x ≡ y + 1 → n + abs_diff x s ≡ m + abs_diff y s → IsTrue (ltb s x) ↔ (n < m)
fall-down x y s m n e d = (λ l. let below = ltb-true s x l in omega arith, λ l. elim (cases_lt s x) [ inl below ↦ lt-ltb s x below | inr past ↦ absurd (omega arith) ])

fall-up : (x y s m n : ℕ) → y ≡ x + 1 → n + abs_diff x s ≡ m + abs_diff y s → IsTrue (ltb x s) ↔ (n < m)
fall-up x y s m n e d = (λ l. let above = ltb-true x s l in omega arith, λ l. elim (cases_lt x s) [ inl above ↦ lt-ltb x s above | inr past ↦ absurd (omega arith) ])

-- whether a neighbour is nearer to a cell, by the numbers in which the two differ
abbrev pub NearerIf : Bool → Cell → Cell → Cell → Type 0
NearerIf nearer a b s = IsTrue nearer ↔ (manhattan b s < manhattan a s)

pub nearer-north : (a b s : Cell) → place_of b ≡ moved (place_of a) North → NearerIf (ltb s.y a.y) a b s
unfolding manhattan
nearer-north a b s h =
    let e : a.x ≡ b.x = omega (arith, ints, ap (λ (p : Place). p.x) h) in
    let k = ap (λ n. abs_diff n s.x) e in
    fall-down a.y b.y s.y (manhattan a s) (manhattan b s) (omega (arith, ints, ap (λ (p : Place). p.y) h)) (omega (arith, k))

pub nearer-south : (a b s : Cell) → place_of b ≡ moved (place_of a) South → NearerIf (ltb a.y s.y) a b s
unfolding manhattan
nearer-south a b s h =
    let e : a.x ≡ b.x = omega (arith, ints, ap (λ (p : Place). p.x) h) in
    let k = ap (λ n. abs_diff n s.x) e in
    fall-up a.y b.y s.y (manhattan a s) (manhattan b s) (omega (arith, ints, ap (λ (p : Place). p.y) h)) (omega (arith, k))

pub nearer-east : (a b s : Cell) → place_of b ≡ moved (place_of a) East → NearerIf (ltb a.x s.x) a b s
unfolding manhattan
nearer-east a b s h =
    let e : a.y ≡ b.y = omega (arith, ints, ap (λ (p : Place). p.y) h) in
    let k = ap (λ n. abs_diff n s.y) e in
    fall-up a.x b.x s.x (manhattan a s) (manhattan b s) (omega (arith, ints, ap (λ (p : Place). p.x) h)) (omega (arith, k))

pub nearer-west : (a b s : Cell) → place_of b ≡ moved (place_of a) West → NearerIf (ltb s.x a.x) a b s
unfolding manhattan
nearer-west a b s h =
    let e : a.y ≡ b.y = omega (arith, ints, ap (λ (p : Place). p.y) h) in
    let k = ap (λ n. abs_diff n s.y) e in
    fall-down a.x b.x s.x (manhattan a s) (manhattan b s) (omega (arith, ints, ap (λ (p : Place). p.x) h)) (omega (arith, k))

pub manhattan-near : (a b s : Cell) → AreNeighbours a b → manhattan b s ≤ manhattan a s + 1
manhattan-near a b s n = elim (manhattan-step a b s n) [ inl e ↦ omega arith | inr e ↦ omega arith ]

-- neighbours are two cells
apart_cells : (a b : Cell) → AreNeighbours a b → a ≡ b → ⊥
apart_cells a b n e = let k = ap (λ c. manhattan c a) e in elim (manhattan-step a b a n) [ inl l ↦ omega arith | inr l ↦ omega arith ]

-- on a map no two cells are far apart
pub manhattan-few : (g : Ground) (a b : Cell) → IsGround g → IsOnGround g a → IsOnGround g b → manhattan a b ≤ 8192
unfolding manhattan
manhattan-few g a b s ha hb = let p = on_map g a s ha in let q = on_map g b s hb in let w = s.width.few in let h = s.height.few in omega (arith, p.0, p.1, q.0, q.1)

-- ---- a cell is labelled

module _ (g : Ground) (labels : List Label) (search : ℕ) (start goal : Cell) (f_bound : ℕ) (left : Cell) (layer next : List Cell) (sp : IsSpread g labels search start goal f_bound (Some left) layer next) (map : IsGround g) (d : ℕ) (few : d < MAX_HORIZON) (on_left : IsOnGround g left) (at_left : label_in g labels search left ≡ Some d) (over : d + manhattan left start ≡ f_bound) (b : Cell) (beside : AreNeighbours left b) (on : IsOnGround g b) (within : cell_index g b < length labels) (more : (n : ℕ) → label_in g labels search b ≡ Some n → d + 1 < n) (labels' : List Label) (put : labels' ≡ set labels (cell_index g b) (record { search = search; distance = d + 1 })) where
  here : label_in g labels' search b ≡ Some (d + 1)
  unfolding label_in
  here = ap (λ z. label_of_search search (get_or z (cell_index g b) no_label)) put ∙ ap (label_of_search search) (get_or-set_same labels (cell_index g b) (record { search = search; distance = d + 1 }) no_label within) ∙ label_of_search-here search (d + 1)

  other : (c : Cell) → cell_index g c ≢ cell_index g b → label_in g labels' search c ≡ label_in g labels search c
  unfolding label_in
  other c ne = ap (λ z. label_of_search search (get_or z (cell_index g c) no_label)) put ∙ ap (label_of_search search) (get_or-set_other labels (cell_index g b) (cell_index g c) (record { search = search; distance = d + 1 }) no_label ne)

  -- the cell is the new one, or its label is as before
  cases : (c : Cell) → IsOnGround g c → (b ≡ c) ⊎ (label_in g labels' search c ≡ label_in g labels search c)
  cases c h = elim (cases_eq (cell_index g c) (cell_index g b)) [
    | inl e ↦ inl (one_place g b c map on h (sym e))
    | inr ne ↦ inr (other c ne)
  ]

  pub falls : (c : Cell) (n : ℕ) → IsOnGround g c → label_in g labels search c ≡ Some n → (m : ℕ) × (label_in g labels' search c ≡ Some m) × (m ≤ n)
  falls c n h e = elim (cases c h) [
    | inl s ↦ let k = more n (ap (label_in g labels search) s ∙ e) in (d + 1, ap (label_in g labels' search) (sym s) ∙ here, (omega arith))
    | inr s ↦ (n, s ∙ e, (omega arith))
  ]

  pub left-stays : label_in g labels' search left ≡ Some d
  left-stays = elim (cases left on_left) [
    | inl s ↦ absurd (apart_cells left b beside (sym s))
    | inr s ↦ s ∙ at_left
  ]

  closed-stays : (c : Cell) (n : ℕ) → IsClosed g labels search c n → IsClosed g labels' search c n
  closed-stays c n h e nb on' = let w = h e nb on' in let f = falls e w.0 on' w.1 in let l = f.2 in let l' = w.2 in (f.0, f.1, (omega arith))

  -- where the cell waits
  record IsPut (layer' next' : List Cell) : Type 0 where
    keeps : (c : Cell) → Contains layer c → Contains layer' c
    keeps_next : (c : Cell) → Contains next c → Contains next' c
    only : (c : Cell) → Contains layer' c → Contains layer c ⊎ (b ≡ c)
    only_next : (c : Cell) → Contains next' c → Contains next c ⊎ (b ≡ c)
    waits : IsWaiting f_bound (d + 1 + manhattan b start) layer' next' (Some left) b

  spread-put : (layer' next' : List Cell) → IsPut layer' next' → IsSpread g labels' search start goal f_bound (Some left) layer' next'
  spread-put layer' next' p = record {
    goal_on_ground = sp.goal_on_ground;
    at_goal = let f = falls goal 0 sp.goal_on_ground sp.at_goal in let l = f.2 in f.1 ∙ ap Some (let z : f.0 ≡ 0 = omega arith in z);
    apart = λ c n h e. elim (cases c h) [
      | inl s ↦
          let k : n ≡ d + 1 = same_Some n (d + 1) (sym e ∙ ap (label_in g labels' search) (sym s) ∙ here) in
          let a = sp.apart left d on_left at_left in
          let m = manhattan-near left b goal beside in
          let z = ap (λ v. manhattan v goal) s in
          omega arith
      | inr s ↦ sp.apart c n h (sym s ∙ e)
    ];
    in_layer = λ c h. elim (p.only c h) [ inl o ↦ sp.in_layer c o | inr s ↦ subst (IsOnGround g) s on ];
    in_next = λ c h. elim (p.only_next c h) [ inl o ↦ sp.in_next c o | inr s ↦ subst (IsOnGround g) s on ];
    closed = λ c n h e. elim (cases c h) [
      | inl s ↦
          let k : n ≡ d + 1 = same_Some n (d + 1) (sym e ∙ ap (label_in g labels' search) (sym s) ∙ here) in
          inr (subst (λ v. IsWaiting f_bound (v + manhattan c start) layer' next' (Some left) c) (sym k) (subst (λ v. IsWaiting f_bound (d + 1 + manhattan v start) layer' next' (Some left) v) s p.waits))
      | inr s ↦ elim (sp.closed c n h (sym s ∙ e)) [
        | inl k ↦ inl (closed-stays c n k)
        | inr w ↦ inr (elim w [
          | inl x ↦ inl (x.0, elim x.1 [ inl y ↦ inl (p.keeps c y) | inr y ↦ inr y ])
          | inr x ↦ inr (x.0, p.keeps_next c x.1)
        ])
      ]
    ];
  }

  -- nearer to the start: on the layer
  pub spread-near : (layer' next' : List Cell) → manhattan b start < manhattan left start → layer' ≡ layer ++ b ∷ [] → next' ≡ next → IsSpread g labels' search start goal f_bound (Some left) layer' next'
  spread-near layer' next' l e f = spread-put layer' next' (record {
    keeps = λ c h. subst (λ z. Contains z c) (sym e) (Contains-append_left layer (b ∷ []) c h);
    keeps_next = λ c h. subst (λ z. Contains z c) (sym f) h;
    only = λ c h. Contains-push_cases layer b c (subst (λ z. Contains z c) e h);
    only_next = λ c h. inl (subst (λ z. Contains z c) f h);
    waits = inl (elim (manhattan-step left b start beside) [ inl k ↦ absurd (omega arith) | inr k ↦ omega arith ], inl (subst (λ z. Contains z b) (sym e) (Contains-push layer b)));
  })

  -- farther from it: on the next list
  pub spread-far : (layer' next' : List Cell) → manhattan left start ≤ manhattan b start → layer' ≡ layer → next' ≡ next ++ b ∷ [] → IsSpread g labels' search start goal f_bound (Some left) layer' next'
  spread-far layer' next' l e f = spread-put layer' next' (record {
    keeps = λ c h. subst (λ z. Contains z c) (sym e) h;
    keeps_next = λ c h. subst (λ z. Contains z c) (sym f) (Contains-append_left next (b ∷ []) c h);
    only = λ c h. inl (subst (λ z. Contains z c) e h);
    only_next = λ c h. Contains-push_cases next b c (subst (λ z. Contains z c) f h);
    waits = inr (elim (manhattan-step left b start beside) [ inl k ↦ omega arith | inr k ↦ absurd (omega arith) ], subst (λ z. Contains z b) (sym f) (Contains-push next b));
  })

  pub found-put : (dir : Dir) → place_of b ≡ moved (place_of left) dir → (e : Cell) → place_of e ≡ moved (place_of left) dir → IsOnGround g e → (m : ℕ) × (label_in g labels' search e ≡ Some m) × (m ≤ d + 1)
  found-put dir h e g' on' = (d + 1, subst (λ z. label_in g labels' search z ≡ Some (d + 1)) (place_of-injective b e (h ∙ sym g')) here, (let n = d in omega arith))

  pub weight : sum_by (label_weight search) labels' + 1 ≤ sum_by (label_weight search) labels
  unfolding label_in
  weight =
      let v : Label = record { search = search; distance = d + 1 } in
      let s = sum_by-set (label_weight search) labels (cell_index g b) v no_label within in
      let e = ap (sum_by (label_weight search)) put in
      let n = ap (λ o. unwrap_or o (MAX_HORIZON + 1)) (label_of_search-here search (d + 1)) in
      let old = heavier (label_in g labels search b) refl in
      omega arith
    where
      heavier : (o : Option ℕ) → label_in g labels search b ≡ o → d + 2 ≤ label_weight search (get_or labels (cell_index g b) no_label)
      heavier None e = let k = ap (λ o. unwrap_or o (MAX_HORIZON + 1)) e in omega arith
      heavier (Some n) e = let k = ap (λ o. unwrap_or o (MAX_HORIZON + 1)) e in let m = more n e in omega arith

-- the neighbour has such a label already
pub near_before : (s : DistanceTable) (d : ℕ) (left b : Cell) → IsLabelNear s.search (get_or s.labels (cell_index s.grid b) no_label) (d + 1) → (dir : Dir) → place_of b ≡ moved (place_of left) dir → IsFoundTowards s d left dir
unfolding label_in
near_before s d left b near dir p e p' on =
    let l = get_or s.labels (cell_index s.grid b) no_label in
    (l.distance, subst (λ z. label_in s.grid s.labels s.search z ≡ Some l.distance) (place_of-injective b e (p ∙ sym p')) (label_of_search-same s.search l near.current), near.near)

-- a label that is none of this search, or says more moves
pub not-near : (g : Ground) (labels : List Label) (search d : ℕ) (b : Cell) → (IsLabelNear search (get_or labels (cell_index g b) no_label) (d + 1) → ⊥) → (n : ℕ) → label_in g labels search b ≡ Some n → d + 1 < n
unfolding label_in
not-near g labels search d b not n e =
    let l = get_or labels (cell_index g b) no_label in
    elim (cases_eq l.search search) [
      | inr ne ↦ absurd (none-some n (sym (label_of_search-other search l ne) ∙ e))
      | inl s ↦
          let k : l.distance ≡ n = same_Some l.distance n (sym (label_of_search-same search l s) ∙ e) in
          elim (cases_lt (d + 1) n) [ inl y ↦ y | inr y ↦ absurd (not (record { current = s; near = (omega arith) })) ]
    ]

-- ---- a cell is left

pub spread-popped : (c : Cell) (t : DistanceTable) → IsSpreadOf None (record t { layer = t.layer ++ c ∷ [] }) → IsSpreadOf (Some c) t
spread-popped c t sp = record {
  goal_on_ground = sp.goal_on_ground;
  at_goal = sp.at_goal;
  apart = sp.apart;
  in_layer = λ x h. sp.in_layer x (Contains-append_left t.layer (c ∷ []) x h);
  in_next = sp.in_next;
  closed = λ x n h k. elim (sp.closed x n h k) [
    | inl y ↦ inl y
    | inr w ↦ inr (elim w [
      | inl y ↦ elim y.1 [
        | inl u ↦ inl (y.0, elim (Contains-push_cases t.layer c x u) [ inl z ↦ inl z | inr s ↦ inr (ap Some s) ])
        | inr u ↦ absurd (none-some x u)
      ]
      | inr y ↦ inr y
    ])
  ];
}

-- a cell of the layer is passable
pub taken : (c : Cell) (t : DistanceTable) → IsSpreadOf None (record t { layer = t.layer ++ c ∷ [] }) → IsOnGround t.grid c
taken c t sp = sp.in_layer c (Contains-push t.layer c)

-- the cell that was left is closed, or waits no more
left_done : (s : DistanceTable) (left : Cell) → IsSpreadOf (Some left) s → ((n : ℕ) → IsLabelled s left n → n + manhattan left s.start ≡ s.f_bound → IsClosed s.grid s.labels s.search left n) → IsSpreadOf None s
left_done s left sp done = record {
  goal_on_ground = sp.goal_on_ground;
  at_goal = sp.at_goal;
  apart = sp.apart;
  in_layer = sp.in_layer;
  in_next = sp.in_next;
  closed = λ x k h l. elim (sp.closed x k h l) [
    | inl y ↦ inl y
    | inr y ↦ elim y [
      | inl z ↦ elim z.1 [
        | inl u ↦ inr (inl (z.0, inl u))
        | inr u ↦
            let same = same_Some left x u in
            let closed = done k (subst (λ v. IsLabelled s v k) (sym same) l) (subst (λ v. k + manhattan v s.start ≡ s.f_bound) (sym same) z.0) in
            inl (subst (λ v. IsClosed s.grid s.labels s.search v k) same closed)
      ]
      | inr z ↦ inr (inr z)
    ]
  ];
}

-- no path of `f_bound` moves leads over the cell that was left
pub spread-passed : (s : DistanceTable) (left : Cell) → IsSpreadOf (Some left) s → ((n : ℕ) → IsLabelled s left n → n + manhattan left s.start ≢ s.f_bound) → HasSpread s s
spread-passed s left sp passed = record { spread = left_done s left sp (λ n here over. absurd (passed n here over)); work = omega arith }

module _ (s1 s2 s3 s4 : DistanceTable) (d : ℕ) (left : Cell) (o : IsOnBound d left s4) (g1 : s1.grid ≡ s4.grid) (g2 : s2.grid ≡ s4.grid) (g3 : s3.grid ≡ s4.grid) (n : IsFoundTowards s1 d left North) (e : IsFoundTowards s2 d left East) (s : IsFoundTowards s3 d left South) (w : IsFoundTowards s4 d left West) (t2 : LabelsFall s1 s2) (t3 : LabelsFall s2 s3) (t4 : LabelsFall s3 s4) where
  Found : DistanceTable → Cell → Type 0
  Found t x = (m : ℕ) × IsLabelled t x m × (m ≤ d + 1)

  on : (a b : DistanceTable) → a.grid ≡ s4.grid → LabelsFall a b → (x : Cell) → IsOnGround s4.grid x → Found a x → Found b x
  unfolding Found
  on a b same t x h f = let k = t x f.0 (subst (λ g. IsOnGround g x) (sym same) h) f.1 in let l = f.2 in let l' = k.2 in (k.0, k.1, (omega arith))

  left-closed : (x : Cell) → AreNeighbours left x → IsOnGround s4.grid x → (m : ℕ) × IsLabelled s4 x m × (m ≤ d + 1)
  unfolding Found
  left-closed x (North, p) h = on s3 s4 g3 t4 x h (on s2 s3 g2 t3 x h (on s1 s2 g1 t2 x h (n x p (subst (λ g. IsOnGround g x) (sym g1) h))))
  left-closed x (East, p) h = on s3 s4 g3 t4 x h (on s2 s3 g2 t3 x h (e x p (subst (λ g. IsOnGround g x) (sym g2) h)))
  left-closed x (South, p) h = on s3 s4 g3 t4 x h (s x p (subst (λ g. IsOnGround g x) (sym g3) h))
  left-closed x (West, p) h = w x p h

  pub spread-left : IsSpreadOf None s4
  spread-left = left_done s4 left o.spread (λ k here over. let at : k ≡ d = same_Some k d (sym here ∙ o.labelled) in subst (IsClosed s4.grid s4.labels s4.search left) (sym at) left-closed)

-- ---- the next list

pub spread-turned : (t : DistanceTable) → IsLayerDone t → IsSpreadOf None (record t { f_bound = t.f_bound + 2; layer = t.next; next = [] })
spread-turned t done = record {
  goal_on_ground = done.spread.goal_on_ground;
  at_goal = done.spread.at_goal;
  apart = done.spread.apart;
  in_layer = done.spread.in_next;
  in_next = λ c h. absurd (let l = h.1 in omega arith);
  closed = λ c n h k. elim (done.spread.closed c n h k) [
    | inl y ↦ inl y
    | inr y ↦ elim y [
      | inl z ↦ elim z.1 [
        | inl u ↦ absurd (let l = (subst (λ v. Contains v c) done.layer u).1 in omega arith)
        | inr u ↦ absurd (none-some c u)
      ]
      | inr z ↦ inr (inl (z.0, inl z.1))
    ]
  ];
}

-- ---- the distances that come of it

-- a cell has a label or none
label_cases : (o : Option ℕ) → (o ≡ None) ⊎ ((n : ℕ) × (o ≡ Some n))
label_cases None = inl refl
label_cases (Some n) = inr (n, refl)

pub heuristic-none : (s : DistanceTable) (c : Cell) → label_in s.grid s.labels s.search c ≡ None → heuristic s c ≡ least_moves s c
unfolding heuristic
heuristic-none s c e = let k = ap (λ o. unwrap_or o (least_moves s c)) e in omega arith

pub heuristic-some : (s : DistanceTable) (c : Cell) (n : ℕ) → label_in s.grid s.labels s.search c ≡ Some n → heuristic s c ≡ min n (least_moves s c)
unfolding heuristic
heuristic-some s c n e = let k = ap (λ o. unwrap_or o (least_moves s c)) e in omega arith

heuristic-within : (s : DistanceTable) (c : Cell) → heuristic s c ≤ least_moves s c
unfolding heuristic
heuristic-within s c = omega arith

least-near : (s : DistanceTable) (x y : Cell) → AreNeighbours x y → least_moves s y ≤ least_moves s x + 1
unfolding least_moves
least-near s x y n = elim (manhattan-step x y s.start n) [
  | inl e ↦ let k = manhattan-near x y s.goal n in omega arith
  | inr e ↦ let k = manhattan-near x y s.goal n in omega arith
]

least-within : (s : DistanceTable) (x : Cell) (n : ℕ) → manhattan x s.goal ≤ n → s.f_bound ≤ n + manhattan x s.start → least_moves s x ≤ n
unfolding least_moves
least-within s x n a b = omega arith

-- nothing waits at fewer moves, or nothing at all
pub distances-of : (s : DistanceTable) (f_bound : ℕ) (layer next : List Cell) → IsReady s.grid s.labels s.search → IsSpread s.grid s.labels s.search s.start s.goal f_bound None layer next → (s.f_bound ≤ f_bound) ⊎ ((layer ≡ []) × (next ≡ [])) → s.f_bound ≤ MAX_HORIZON + 1 → AreDistances s.grid s s.goal
distances-of s f_bound layer next ready sp low few = record {
  grid = refl;
  ready = ready;
  goal_on_ground = sp.goal_on_ground;
  few = few;
  at_goal = let k = heuristic-some s s.goal 0 sp.at_goal in omega arith;
  near = λ x y hx hy nb. step x y hx hy nb (label_cases (label_in s.grid s.labels s.search x));
}
  where
    no : (xs : List Cell) (x : Cell) → xs ≡ [] → Contains xs x → ⊥
    no xs x e h = let l = (subst (λ v. Contains v x) e h).1 in omega arith

    step : (x y : Cell) → IsOnGround s.grid x → IsOnGround s.grid y → AreNeighbours x y → (label_in s.grid s.labels s.search x ≡ None) ⊎ ((n : ℕ) × (label_in s.grid s.labels s.search x ≡ Some n)) → heuristic s y ≤ heuristic s x + 1
    step x y hx hy nb (inl p) = let a = heuristic-within s y in let b = least-near s x y nb in let c = heuristic-none s x p in omega arith
    step x y hx hy nb (inr (n, p)) = elim (sp.closed x n hx p) [
      | inl k ↦
          let w = k y nb hy in
          let l = w.2 in
          let a = heuristic-within s y in
          let b = least-near s x y nb in
          let c = heuristic-some s x n p in
          let d = heuristic-some s y w.0 w.1 in
          omega arith
      | inr k ↦
          let a = heuristic-within s y in
          let b = least-near s x y nb in
          let c = heuristic-some s x n p in
          elim low [
            | inl l ↦
                let d : least_moves s x ≤ n = least-within s x n (sp.apart x n hx p) (elim k [ inl z ↦ let e = z.0 in omega arith | inr z ↦ let e = z.0 in omega arith ]) in
                omega arith
            | inr l ↦ absurd (elim k [
              | inl z ↦ elim z.1 [ inl u ↦ no layer x l.0 u | inr u ↦ none-some x u ]
              | inr z ↦ no next x l.1 z.1
            ])
          ]
    ]

-- ---- the goal is labelled

-- the labels are of sooner searches
pub none-labelled : (g : Ground) (labels : List Label) (search : ℕ) → 0 < search → ((i : ℕ) → i < length labels → (get_or labels i no_label).search < search) → (c : Cell) → label_in g labels search c ≡ None
unfolding label_in
none-labelled g labels search some sooner c = label_of_search-other search (get_or labels (cell_index g c) no_label) (λ same. elim (cases_lt (cell_index g c) (length labels)) [
  | inl l ↦ let s = sooner (cell_index g c) l in omega arith
  | inr l ↦ let s = ap (λ (l : Label). l.search) (get_or_past labels (cell_index g c) no_label l) in omega arith
])

-- no cell but the goal has a label
pub spread-begin : (r : DistanceTable) (start goal : Cell) → IsGround r.grid → ((c : Cell) → label_in r.grid r.labels r.search c ≡ None) → IsOnGround r.grid goal → cell_index r.grid goal < length r.labels → IsSpreadOf None (record (with_label r (cell_index r.grid goal) 0) { start = start; goal = goal; f_bound = manhattan goal start; layer = goal ∷ []; next = [] })
unfolding label_in
spread-begin r start goal map fresh on within = record {
  goal_on_ground = on;
  at_goal = here;
  apart = λ c n h e. let k = ap (λ v. manhattan v goal) (only c n h e).0 in let z = manhattan-self goal in omega arith;
  in_layer = λ c h. subst (IsOnGround g) (same c h) on;
  in_next = λ c h. absurd (let l = h.1 in omega arith);
  closed = λ c n h e. let o = only c n h e in inr (inl (let k = ap (λ v. manhattan v start) o.0 in let z = o.1 in (omega arith), inl (subst (Contains (goal ∷ [])) o.0 (0, omega arith, refl))));
}
  where
    g : Ground
    g = r.grid

    first : Label
    first = record { search = r.search; distance = 0 }

    labels : List Label
    labels = set r.labels (cell_index r.grid goal) first

    here : label_in r.grid labels r.search goal ≡ Some 0
    here = ap (label_of_search r.search) (get_or-set_same r.labels (cell_index r.grid goal) first no_label within) ∙ label_of_search-here r.search 0

    same : (c : Cell) → Contains (goal ∷ []) c → goal ≡ c
    same c (zero, l, s) = s
    same c (suc k, l, s) = absurd (omega arith)

    only : (c : Cell) (n : ℕ) → IsOnGround r.grid c → label_in r.grid labels r.search c ≡ Some n → (goal ≡ c) × (n ≡ 0)
    only c n h e = elim (cases_eq (cell_index r.grid c) (cell_index r.grid goal)) [
      | inl k ↦ (one_place r.grid goal c map on h (sym k), same_Some n 0 (sym e ∙ ap (λ i. label_of_search r.search (get_or labels i no_label)) k ∙ here))
      | inr ne ↦ absurd (none-some n (sym (ap (label_of_search r.search) (get_or-set_other r.labels (cell_index r.grid goal) (cell_index r.grid c) first no_label ne) ∙ fresh c) ∙ e))
    ]

-- ---- the work

-- the labels fall, and one cell more may be on the layer
lighter-works : (old new : DistanceTable) → sum_by (label_weight new.search) new.labels + 1 ≤ sum_by (label_weight old.search) old.labels → length new.layer ≤ length old.layer + 1 → work_left new ≤ work_left old
unfolding work_left
lighter-works old new w l = omega arith

pub work-popped : (old new : DistanceTable) (c : Cell) → old ≡ record new { layer = new.layer ++ c ∷ [] } → work_left new < work_left old
unfolding work_left
work-popped old new c e =
    let k = length-append new.layer (c ∷ []) in
    let same = ap work_left e in
    omega arith

-- ---- a cell that was labelled is put on its list

module _ (s new : DistanceTable) (left : Cell) (sp : IsSpreadOf (Some left) s) (map : IsGround s.grid) (d : ℕ) (few : d < MAX_HORIZON) (on_left : IsOnGround s.grid left) (at_left : IsLabelled s left d) (over : d + manhattan left s.start ≡ s.f_bound) (b : Cell) (beside : AreNeighbours left b) (on_b : IsOnGround s.grid b) (within : cell_index s.grid b < length s.labels) (more : (n : ℕ) → IsLabelled s b n → d + 1 < n) (p : IsPutFrom left b (with_label s (cell_index s.grid b) (d + 1)) new) where
  put_label : DistanceTable
  put_label = with_label s (cell_index s.grid b) (d + 1)

  put-spread : IsSpreadOf (Some left) new
  unfolding put_label
  put-spread = elim p [
    | inl n ↦ subst (IsSpreadOf (Some left)) (sym n.1) (spread-near s.grid s.labels s.search s.start s.goal s.f_bound left s.layer s.next sp map d few on_left at_left over b beside on_b within more put_label.labels refl (s.layer ++ b ∷ []) s.next n.0 refl refl)
    | inr n ↦ subst (IsSpreadOf (Some left)) (sym n.1) (spread-far s.grid s.labels s.search s.start s.goal s.f_bound left s.layer s.next sp map d few on_left at_left over b beside on_b within more put_label.labels refl s.layer (s.next ++ b ∷ []) n.0 refl refl)
  ]

  -- what holds of the labels holds whichever list the cell is put on
  put-labels : (P : DistanceTable → Type 0) → ((layer next : List Cell) → P (record put_label { layer = layer; next = next })) → P new
  unfolding put_label
  put-labels P h = elim p [ inl n ↦ subst P (sym n.1) (h (s.layer ++ b ∷ []) s.next) | inr n ↦ subst P (sym n.1) (h s.layer (s.next ++ b ∷ [])) ]

  put-works : work_left new ≤ work_left s
  unfolding put_label
  put-works = elim p [
    | inl n ↦ subst (λ t. work_left t ≤ work_left s) (sym n.1) (lighter-works s (record put_label { layer = s.layer ++ b ∷ [] }) lighter (let k = length-append s.layer (b ∷ []) in omega arith))
    | inr n ↦ subst (λ t. work_left t ≤ work_left s) (sym n.1) (lighter-works s (record put_label { next = s.next ++ b ∷ [] }) lighter (let k = length s.layer in omega arith))
  ]
    where
      lighter : sum_by (label_weight s.search) put_label.labels + 1 ≤ sum_by (label_weight s.search) s.labels
      lighter = weight s.grid s.labels s.search s.start s.goal s.f_bound left s.layer s.next sp map d few on_left at_left over b beside on_b within more put_label.labels refl

  pub put_towards : (dir : Dir) → place_of b ≡ moved (place_of left) dir → IsLabelledTowards d left dir s new
  unfolding put_label
  put_towards dir h = record {
    left_on_bound = record {
      spread = put-spread;
      labelled = put-labels (λ t. IsLabelled t left d) (λ _ _. left-stays s.grid s.labels s.search s.start s.goal s.f_bound left s.layer s.next sp map d few on_left at_left over b beside on_b within more put_label.labels refl);
      on_ground = put-labels (λ t. IsOnGround t.grid left) (λ _ _. on_left);
      over = put-labels (λ t. d + manhattan left t.start ≡ t.f_bound) (λ _ _. over);
    };
    found = put-labels (λ t. IsFoundTowards t d left dir) (λ _ _. found-put s.grid s.labels s.search s.start s.goal s.f_bound left s.layer s.next sp map d few on_left at_left over b beside on_b within more put_label.labels refl dir h);
    fall = put-labels (LabelsFall s) (λ _ _. falls s.grid s.labels s.search s.start s.goal s.f_bound left s.layer s.next sp map d few on_left at_left over b beside on_b within more put_label.labels refl);
    work = put-works;
  }

-- nothing is to be labelled in the direction
pub none_towards : (s : DistanceTable) (left : Cell) (d : ℕ) (dir : Dir) → IsOnBound d left s → IsFoundTowards s d left dir → IsLabelledTowards d left dir s s
none_towards s left d dir on found = record { left_on_bound = on; found = found; fall = λ c n on e. (n, e, omega arith); work = (let w = work_left s in omega arith) }
