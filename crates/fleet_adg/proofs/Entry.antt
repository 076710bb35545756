-- What the action of an agent in a step awaits: only leavings of its cell by others, up to that step, and among them
-- that of the visit before.
use Rattle.fleet_adg.proofs.Words.{◌≡◌, ◌≢◌, ℕ, zero, suc, ◌+◌, ◌<◌, ◌≤◌, Bool, true, cond, not, ◌==◌, List, [], ◌∷◌, map, filter, filter_map, length, get_or, All, Contains, Option, Some, None, option_map, option_and_then, option_to_list, is_some, inl, inr, refl, sym, ap, ◌∙◌, subst, arith, add-one, range_with_len, AllByRecursion, cons_option, IsStrictlyIncreasing, cases_lt, cases_Bool, and_parts, and_from, not-true, eqb-false, ne_eqb, not_from_false, none-some, same_Some, All-from_recursion, All-filter, filter_passes, Cell, Place, Await, Deps, Task, is_same_cell, indices, is_same_cell-true, is_same_cell-eq, Plan, cell_of, IsConflictFree, last_below, changes_in, moves_by, leaves, await_of, leaver, last_leaving_by, last_leaving, leavings, entry_awaits, contains_later, filter_has}
use Rattle.fleet_adg.proofs.Basics.{last_below-some, last_below-at}
use Rattle.fleet_adg.proofs.Moves.{changes_in-from_ne, moves_by-yes, moves_by-mono, only_one}

-- ---- lists

contains_here : {X : Type 0} (x : X) (xs : List X) (w : X) → x ≡ w → Contains (x ∷ xs) w
contains_here x xs w e = (zero, omega arith, e)

contains_cons_option : {X : Type 0} (o : Option X) (xs : List X) (w : X) → Contains xs w → Contains (cons_option o xs) w
contains_cons_option None xs w c = c
contains_cons_option (Some x) xs w c = contains_later x xs w c

pub contains_filter_map : {X : Type 0} (h : ℕ → Option X) (a n j : ℕ) (w : X) → a ≤ j → j < a + n → h j ≡ Some w → Contains (filter_map h (range_with_len a n)) w
contains_filter_map h a zero j w p q e = absurd (omega arith)
contains_filter_map h a (suc n) j w p q e =
    let rest = filter_map h (range_with_len (a + 1) n) in
    let before = λ (l : a + 1 ≤ j). contains_filter_map h (a + 1) n j w l (omega arith) e in
    elim (cases_lt a j) [
      | inl l ↦ contains_cons_option (h a) rest w (before (omega arith))
      | inr l ↦
          let s : a ≡ j = omega arith in
          subst (λ o. Contains (cons_option o rest) w) (sym (ap h s ∙ e)) (contains_here w rest w refl)
    ]

all_cons_option : {X : Type 0} (P : X → Type 0) (o : Option X) (xs : List X) → ((w : X) → o ≡ Some w → P w) → AllByRecursion P xs → AllByRecursion P (cons_option o xs)
all_cons_option P None xs p ps = ps
all_cons_option P (Some x) xs p ps = (p x refl, ps)

pub all_filter_map : {X : Type 0} (P : X → Type 0) (h : ℕ → Option X) (a n : ℕ) → ((j : ℕ) (w : X) → j < a + n → h j ≡ Some w → P w) → AllByRecursion P (filter_map h (range_with_len a n))
all_filter_map P h a zero p = tt
all_filter_map P h a (suc n) p = all_cons_option P (h a) (filter_map h (range_with_len (a + 1) n)) (λ w e. p a w (omega arith) e) (all_filter_map P h (a + 1) n (λ j w l e. p j w (omega arith) e))

-- awaits in rising order of agent, from a on
abbrev RisingFrom : ℕ → List Await → Type 0
RisingFrom a [] = Unit {0}
RisingFrom a (w ∷ ws) = (a ≤ w.agent) × RisingFrom (suc w.agent) ws

rising_weaker : (a b : ℕ) (ws : List Await) → b ≤ a → RisingFrom a ws → RisingFrom b ws
rising_weaker a b [] l r = tt
rising_weaker a b (w ∷ ws) l (p, r) = (omega arith, r)

rising_filter : (test : Await → Bool) (a : ℕ) (ws : List Await) → RisingFrom a ws → RisingFrom a (filter test ws)
rising_filter test a [] r = tt
rising_filter test a (w ∷ ws) (p, r) =
    let rest = rising_filter test (suc w.agent) ws r in
    elim (cases_Bool (test w)) [
      | inl h ↦ subst (λ b. RisingFrom a (cond b (w ∷ filter test ws) (filter test ws))) (sym h) (p, rest)
      | inr h ↦ subst (λ b. RisingFrom a (cond b (w ∷ filter test ws) (filter test ws))) (sym h) (rising_weaker (suc w.agent) a (filter test ws) (omega arith) rest)
    ]

rising_cons_option : (a : ℕ) (o : Option Await) (ws : List Await) → ((w : Await) → o ≡ Some w → w.agent ≡ a) → RisingFrom (suc a) ws → RisingFrom a (cons_option o ws)
rising_cons_option a None ws p r = rising_weaker (suc a) a ws (omega arith) r
rising_cons_option a (Some w) ws p r = (omega (arith, p w refl), subst (λ z. RisingFrom (suc z) ws) (sym (p w refl)) r)

rising_filter_map : (h : ℕ → Option Await) → ((j : ℕ) (w : Await) → h j ≡ Some w → w.agent ≡ j) → (a n : ℕ) → RisingFrom a (filter_map h (range_with_len a n))
rising_filter_map h p a zero = tt
rising_filter_map h p a (suc n) = rising_cons_option a (h a) (filter_map h (range_with_len (a + 1) n)) (p a) (rw (← add-one) (rising_filter_map h p (a + 1) n))

rising_is : (a : ℕ) (ws : List Await) → RisingFrom a ws → IsStrictlyIncreasing (map (λ w. w.agent) ws)
rising_is a [] r k l = absurd (omega arith)
rising_is a (w ∷ []) r k l = absurd (omega arith)
rising_is a (w ∷ v ∷ ws) r zero l = omega (arith, r.1.0)
rising_is a (w ∷ v ∷ ws) r (suc k) l = rw add-one (rw add-one at (rising_is (suc w.agent) (v ∷ ws) r.1 k (omega arith)))

-- ---- what an action awaits

-- w is to wait for a leaving of q, in a step before t
record IsLeaving (plan : Plan) (q : Cell) (t : ℕ) (w : Await) : Type 0 where
  agent : w.agent < length plan
  step : (y : ℕ) × (y < t) × (leaves plan q y w.agent ≡ true) × (w.count ≡ moves_by plan w.agent (suc y))

pub option_map-some : {X Y : Type 0} (f : X → Y) (o : Option X) (y : Y) → option_map f o ≡ Some y → (x : X) × (o ≡ Some x) × (f x ≡ y)
option_map-some f None y e = absurd (none-some y e)
option_map-some f (Some x) y e = (x, refl, same_Some (f x) y e)

is_leaving : (plan : Plan) (q : Cell) (t y j : ℕ) (w : Await) → y < t → j < length plan → leaves plan q y j ≡ true → await_of plan y j ≡ w → IsLeaving plan q t w
unfolding await_of
is_leaving plan q t y j w l b e d = subst (IsLeaving plan q t) d (record { agent = b; step = (y, l, e, ap (moves_by plan j) (add-one y)) })

last_leaving_by-sound : (plan : Plan) (q : Cell) (t j : ℕ) (w : Await) → j < length plan → last_leaving_by plan q t j ≡ Some w → IsLeaving plan q t w
unfolding last_leaving_by
last_leaving_by-sound plan q t j w b e =
    let s = option_map-some (λ y. await_of plan y j) (last_below (λ y. leaves plan q y j) t) w e in
    let l = last_below-some (λ y. leaves plan q y j) t s.0 s.1 in
    is_leaving plan q t s.0 j w l.below b l.passes s.2

pub last_leaving_by-agent : (plan : Plan) (q : Cell) (t j : ℕ) (w : Await) → last_leaving_by plan q t j ≡ Some w → w.agent ≡ j
unfolding last_leaving_by await_of
last_leaving_by-agent plan q t j w e =
    let s = option_map-some (λ y. await_of plan y j) (last_below (λ y. leaves plan q y j) t) w e in
    sym (ap (λ (v : Await). v.agent) s.2)

and_then-some : {X Y : Type 0} (f : X → Option Y) (o : Option X) (y : Y) → option_and_then f o ≡ Some y → (x : X) × (o ≡ Some x) × (f x ≡ Some y)
and_then-some f None y e = absurd (none-some y e)
and_then-some f (Some x) y e = (x, refl, e)

last_leaving-sound : (plan : Plan) (q : Cell) (t : ℕ) (w : Await) → last_leaving plan q t ≡ Some w → IsLeaving plan q t w
unfolding last_leaving leaver
last_leaving-sound plan q t w e =
    let s = and_then-some (λ y. option_map (await_of plan y) (leaver plan q y)) (last_below (λ y. is_some (leaver plan q y)) t) w e in
    let l = last_below-some (λ y. is_some (leaver plan q y)) t s.0 s.1 in
    let v = option_map-some (await_of plan s.0) (leaver plan q s.0) w s.2 in
    let m = last_below-some (leaves plan q s.0) (length plan) v.0 v.1 in
    is_leaving plan q t s.0 v.0 w l.below m.below m.passes v.2

all_option : (P : Await → Type 0) (o : Option Await) → ((w : Await) → o ≡ Some w → P w) → AllByRecursion P (option_to_list o)
all_option P None p = tt
all_option P (Some w) p = (p w refl, tt)

leavings-sound : (plan : Plan) (deps : Deps) (q : Cell) (t : ℕ) → All (IsLeaving plan q t) (leavings plan deps q t)
unfolding leavings
leavings-sound plan Deps.All q t = All-from_recursion (IsLeaving plan q t) (filter_map (last_leaving_by plan q t) (indices (length plan))) (all_filter_map (IsLeaving plan q t) (last_leaving_by plan q t) 0 (length plan) (λ j w l e. last_leaving_by-sound plan q t j w (omega arith) e))
leavings-sound plan Deps.Last q t = All-from_recursion (IsLeaving plan q t) (option_to_list (last_leaving plan q t)) (all_option (IsLeaving plan q t) (last_leaving plan q t) (last_leaving-sound plan q t))

rising_option : (o : Option Await) → RisingFrom 0 (option_to_list o)
rising_option None = tt
rising_option (Some w) = (omega arith, tt)

leavings-rising : (plan : Plan) (deps : Deps) (q : Cell) (t : ℕ) → RisingFrom 0 (leavings plan deps q t)
unfolding leavings
leavings-rising plan Deps.All q t = rising_filter_map (last_leaving_by plan q t) (last_leaving_by-agent plan q t) 0 (length plan)
leavings-rising plan Deps.Last q t = rising_option (last_leaving plan q t)

pub entry-rising : (plan : Plan) (deps : Deps) (i x : ℕ) → IsStrictlyIncreasing (map (λ w. w.agent) (entry_awaits plan deps i x))
unfolding entry_awaits
entry-rising plan deps i x =
    let ws = leavings plan deps (cell_of plan i (x + 1)) (x + 1) in
    rising_is 0 (filter (λ w. not (w.agent == i)) ws) (rising_filter (λ w. not (w.agent == i)) 0 ws (leavings-rising plan deps (cell_of plan i (x + 1)) (x + 1)))

-- w is to wait for the move of another agent, in a step up to x, from the cell that i enters in step x
pub record IsAwaitOf (plan : Plan) (i x : ℕ) (w : Await) : Type 0 where
  pub agent : w.agent < length plan
  pub other : w.agent ≢ i
  pub step : (y : ℕ) × (y ≤ x) × (changes_in plan w.agent y ≡ true) × (cell_of plan w.agent y ≡ cell_of plan i (suc x)) × (w.count ≡ suc (moves_by plan w.agent y))

pub leaves-parts : (plan : Plan) (q : Cell) (y j : ℕ) → leaves plan q y j ≡ true → (cell_of plan j y ≡ q) × (changes_in plan j y ≡ true)
unfolding leaves
leaves-parts plan q y j h =
    let p = and_parts (is_same_cell (cell_of plan j y) q) (changes_in plan j y) h in
    (is_same_cell-true (cell_of plan j y) q p.0, p.1)

pub leaves-from : (plan : Plan) (q : Cell) (y j : ℕ) → cell_of plan j y ≡ q → changes_in plan j y ≡ true → leaves plan q y j ≡ true
unfolding leaves
leaves-from plan q y j e c = and_from (is_same_cell (cell_of plan j y) q) (changes_in plan j y) (is_same_cell-eq (cell_of plan j y) q e) c

is_await_of : (plan : Plan) (i x : ℕ) (w : Await) → IsLeaving plan (cell_of plan i (x + 1)) (x + 1) w → not (w.agent == i) ≡ true → IsAwaitOf plan i x w
is_await_of plan i x w v ne =
    let y = v.step.0 in
    let p = leaves-parts plan (cell_of plan i (x + 1)) y w.agent v.step.2 in
    record {
      agent = v.agent;
      other = eqb-false w.agent i (not-true (w.agent == i) ne);
      step = (y, omega (arith, v.step.1), p.1, rw add-one at p.0, v.step.3 ∙ moves_by-yes plan w.agent y p.1);
    }

pub entry-sound : (plan : Plan) (deps : Deps) (i x : ℕ) → All (IsAwaitOf plan i x) (entry_awaits plan deps i x)
unfolding entry_awaits
entry-sound plan deps i x k d l =
    let ws = leavings plan deps (cell_of plan i (x + 1)) (x + 1) in
    let test = λ (w : Await). not (w.agent == i) in
    is_await_of plan i x (get_or (filter test ws) k d) (All-filter test (IsLeaving plan (cell_of plan i (x + 1)) (x + 1)) ws (leavings-sound plan deps (cell_of plan i (x + 1)) (x + 1)) k d l) (filter_passes test ws k d l)

-- ---- the visit before

pub leaver-at : (plan : Plan) (q : Cell) (s j : ℕ) → ((k : ℕ) → k < length plan → cell_of plan k s ≡ q → k ≡ j) → j < length plan → leaves plan q s j ≡ true → leaver plan q s ≡ Some j
unfolding leaver
leaver-at plan q s j one b h =
    let w = last_below-at (leaves plan q s) (length plan) j b h in
    w.1 ∙ ap Some (one w.0 w.3.below (leaves-parts plan q s w.0 w.3.passes).0)

is_some-from : {X : Type 0} (o : Option X) (x : X) → o ≡ Some x → is_some o ≡ true
is_some-from o x e = ap is_some e

pub some-from : {X : Type 0} (o : Option X) → is_some o ≡ true → (x : X) × (o ≡ Some x)
some-from None h = absurd (package.Rattle.std.proofs.lemmas.Bool.false≢true h)
some-from (Some x) h = (x, refl)

pub leaver-some : (plan : Plan) (q : Cell) (y j : ℕ) → leaver plan q y ≡ Some j → (j < length plan) × (cell_of plan j y ≡ q)
unfolding leaver
leaver-some plan q y j e =
    let l = last_below-some (leaves plan q y) (length plan) j e in
    (l.below, (leaves-parts plan q y j l.passes).0)

-- the last leaving is that in step s if nobody stands on q after it
pub last_leaving-at : (plan : Plan) (q : Cell) (t s j : ℕ) → s < t → leaver plan q s ≡ Some j → ((u k : ℕ) → s < u → u < t → k < length plan → cell_of plan k u ≢ q) → last_leaving plan q t ≡ Some (await_of plan s j)
unfolding last_leaving
last_leaving-at plan q t s j l e nobody =
    let w = last_below-at (λ y. is_some (leaver plan q y)) t s l (is_some-from (leaver plan q s) j e) in
    let v = some-from (leaver plan q w.0) w.3.passes in
    let at = leaver-some plan q w.0 v.0 v.1 in
    let same : w.0 ≡ s = elim (cases_lt s w.0) [ inl m ↦ absurd (nobody w.0 v.0 m w.3.below at.0 at.1) | inr m ↦ omega (arith, w.2) ] in
    ap (option_and_then (λ y. option_map (await_of plan y) (leaver plan q y))) (w.1 ∙ ap Some same) ∙ ap (option_map (await_of plan s)) e

last_leaving_by-at : (plan : Plan) (q : Cell) (t s j : ℕ) → s < t → leaves plan q s j ≡ true → (m : ℕ) × (s ≤ m) × (last_leaving_by plan q t j ≡ Some (await_of plan m j))
unfolding last_leaving_by
last_leaving_by-at plan q t s j l h =
    let w = last_below-at (λ y. leaves plan q y j) t s l h in
    (w.0, w.2, ap (option_map (λ y. await_of plan y j)) w.1)

contains_option : (o : Option Await) (w : Await) → o ≡ Some w → Contains (option_to_list o) w
contains_option None w e = absurd (none-some w e)
contains_option (Some v) w e = contains_here v [] w (same_Some v w e)

leavings-contain : (plan : Plan) (deps : Deps) (q : Cell) (t s j : ℕ) → s < t → j < length plan → ((k : ℕ) → k < length plan → cell_of plan k s ≡ q → k ≡ j) → leaves plan q s j ≡ true → ((u k : ℕ) → s < u → u < t → k < length plan → cell_of plan k u ≢ q) → (m : ℕ) × (s ≤ m) × Contains (leavings plan deps q t) (await_of plan m j)
unfolding leavings
leavings-contain plan Deps.All q t s j l b one h nobody =
    let w = last_leaving_by-at plan q t s j l h in
    (w.0, w.1, contains_filter_map (last_leaving_by plan q t) 0 (length plan) j (await_of plan w.0 j) (omega arith) (omega arith) w.2)
leavings-contain plan Deps.Last q t s j l b one h nobody =
    (s, omega arith, contains_option (last_leaving plan q t) (await_of plan s j) (last_leaving-at plan q t s j l (leaver-at plan q s j one b h) nobody))

await_count : (plan : Plan) (y j : ℕ) → (await_of plan y j).count ≡ moves_by plan j (suc y)
unfolding await_of
await_count plan y j = ap (moves_by plan j) (add-one y)

await_agent : (plan : Plan) (y j : ℕ) → (await_of plan y j).agent ≡ j
unfolding await_of
await_agent plan y j = refl

module _ (passable : Place → Bool) (tasks : List Task) (plan : Plan) (free : IsConflictFree passable tasks plan) where
  -- agent j stands on the cell at time s, the last before i enters it in step x: then i awaits that j has left
  pub entry-complete : (deps : Deps) (i x s j : ℕ) → i < length plan → j < length plan → j ≢ i → s ≤ x → cell_of plan j s ≡ cell_of plan i (suc x) → ((u k : ℕ) → s < u → u ≤ x → k < length plan → cell_of plan k u ≢ cell_of plan i (suc x)) → (w : Await) × Contains (entry_awaits plan deps i x) w × (w.agent ≡ j) × (suc (moves_by plan j s) ≤ w.count)
  unfolding entry_awaits
  entry-complete deps i x s j bi bj ne l on nobody =
      let q = cell_of plan i (x + 1) in
      let same : cell_of plan i (suc x) ≡ q = ap (cell_of plan i) (sym (add-one x)) in
      let gone : changes_in plan j s ≡ true = changes_in-from_ne plan j s (λ e. elim (cases_lt s x) [
        | inl m ↦ nobody (suc s) j (omega arith) m bj (sym e ∙ on)
        | inr m ↦ let z : s ≡ x = omega arith in ne (only_one passable tasks plan free (suc x) j i bj bi (ap (λ t. cell_of plan j (suc t)) (sym z) ∙ sym e ∙ on))
      ]) in
      let w = leavings-contain plan deps q (x + 1) s j (omega arith) bj (λ k b e. only_one passable tasks plan free s k j b bj (e ∙ sym same ∙ sym on)) (leaves-from plan q s j (on ∙ same) gone) (λ u k p r b e. nobody u k p (omega arith) b (e ∙ sym same)) in
      let v = await_of plan w.0 j in (
        v,
        filter_has (λ w. not (w.agent == i)) (leavings plan deps q (x + 1)) v w.2 (not_from_false (v.agent == i) (ne_eqb v.agent i (λ e. ne (sym (await_agent plan w.0 j) ∙ e)))),
        await_agent plan w.0 j,
        omega (arith, await_count plan w.0 j, moves_by-yes plan j s gone, moves_by-mono plan j (suc s) (suc w.0) (omega (arith, w.1))),
      )
