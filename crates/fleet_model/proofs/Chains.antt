-- Chains of actions, numberings, the longest chain, and visits.
use Rattle.std.proofs.Common.{◌≡◌, ℕ, ◌+◌, ◌<◌, ◌≤◌, List, [], ◌∷◌, length, refl, ap, sym, subst, arith, zero, suc, ◌-◌, ◌++◌, inl, inr, ◌⊎◌, ◌≢◌, Bool, true, false, drop, Option, Some, slice_get, ◌∙◌, add-one}
use Rattle.std.specs.Prelude.{sum_by, pos, ◌+ℤ◌, ◌-ℤ◌}
use Rattle.std.proofs.lemmas.List.Sums.{sum_by-cons, sum_by-append}
use Rattle.fleet_model.specs.declared.program.ActionId.{ActionId}
use Rattle.fleet_model.specs.Program.{Program, moves, AreInRange, actions_of, path}
use Rattle.fleet_model.specs.Chain.{IsAction, DirectlyNeeds, ChainFrom, Reaches, unit_cost, EndsChain, IsLevel, IsNumbering, EndsChainOfCost, IsLongestChain}
use Rattle.std.specs.Option.{option_map_or}
use Rattle.std.proofs.lemmas.Bool.{cases_lt, both_ways}
use Rattle.std.proofs.lemmas.Int.{ints}
use Rattle.std.proofs.lemmas.List.{length-drop}
use Rattle.std.proofs.lemmas.Option.{slice_get-get_or, same_Some}
use Rattle.fleet_model.specs.declared.geometry.Place.{Place}
use Rattle.fleet_model.specs.declared.geometry.Dir.{Dir}
use Rattle.fleet_model.specs.declared.geometry.Dir.TheVariants.{North, East, South, West}
use Rattle.fleet_model.specs.declared.geometry.Step.{Step}
use Rattle.fleet_model.specs.declared.geometry.Step.TheVariants.{Go, Dwell}
use Rattle.fleet_model.specs.declared.program.Action.{Action}
use Rattle.fleet_model.specs.Geometry.{moved, is_move, stepped}
use Rattle.fleet_model.specs.Visit.{is_entry, stays_before, next_move}
use Rattle.fleet_model.proofs.Tick.{some_passes, path_more}

-- what an action directly needs is an action
pub need_action : (p : Program) → AreInRange p → (a b : ActionId) → IsAction p a → DirectlyNeeds p a b → IsAction p b
need_action p in_range a b act (inl h) =
    let same : moves p a.agent ≡ moves p b.agent = ap (moves p) h.0 in
    record { agent = omega (arith, act.agent, h.0); first = h.2; last = omega (arith, act.last, h.1, same) }
need_action p in_range a b act (inr h) =
    let k = in_range a.agent a.number (record { agent = b.agent; count = b.number }) h in
    record { agent = k.agent; first = k.first; last = k.last }

-- the first action of a chain is one of the program, and so is the last
pub chain_first : (p : Program) (a : ActionId) (cs : List ActionId) (b : ActionId) → ChainFrom p a cs b → IsAction p a
chain_first p a [] b h = h.0
chain_first p a (c ∷ cs) b h = h.0

pub chain_last : (p : Program) (a : ActionId) (cs : List ActionId) (b : ActionId) → ChainFrom p a cs b → IsAction p b
chain_last p a [] b h = subst (IsAction p) h.1 h.0
chain_last p a (c ∷ cs) b h = chain_last p c cs b h.2

pub Reaches-first : (p : Program) (a b : ActionId) → Reaches p a b → IsAction p a
Reaches-first p a b (cs, h) = chain_first p a cs b h

pub Reaches-last : (p : Program) (a b : ActionId) → Reaches p a b → IsAction p b
Reaches-last p a b (cs, h) = chain_last p a cs b h

pub Reaches-need : (p : Program) (a b : ActionId) → IsAction p a → IsAction p b → DirectlyNeeds p b a → Reaches p a b
Reaches-need p a b h k n = (b ∷ [], (h, n, (k, refl)))

-- what holds of an action, and of all that is directly needed by an action of which it holds, holds of all that reaches
-- the first
pub Reaches-kept : (p : Program) (K : ActionId → Type 0) → ((c d : ActionId) → K c → IsAction p d → DirectlyNeeds p c d → K d) → (a b : ActionId) → K b → Reaches p a b → K a
Reaches-kept p K on a b last (cs, h) = go a cs h
  where
    go : (a : ActionId) (cs : List ActionId) → ChainFrom p a cs b → K a
    go a [] h = subst K (sym h.1) last
    go a (c ∷ cs) h = on c a (go c cs h.2) h.0 h.1

-- numbers rise along a chain
pub chain_rises : (p : Program) (number : ActionId → ℕ) → IsNumbering p number → (a : ActionId) (cs : List ActionId) (b : ActionId) → ChainFrom p a cs b
    → number a + length cs ≤ number b
chain_rises p number is a [] b h = let e : number a ≡ number b = ap number h.1 in omega arith
chain_rises p number is a (c ∷ cs) b h =
    let l : number a < number c = is.rising c a (chain_first p c cs b h.2) h.0 h.1 in
    omega (arith, chain_rises p number is c cs b h.2)

-- at unit cost, actions cost as much as there are
all_units : (cs : List ActionId) → sum_by unit_cost cs ≡ length cs
all_units [] = refl
all_units (c ∷ cs) = omega (arith, sum_by-cons unit_cost c cs, all_units cs)

-- a chain of n actions, by the number of those after the first
pub ends_by : (p : Program) (n : ℕ) (a : ActionId) (cs : List ActionId) (b : ActionId) → ChainFrom p a cs b → n ≡ length cs + 1 → EndsChain p n b
ends_by p n a cs b h e = (a, cs, h, omega (arith, e, all_units (a ∷ cs)))

pub ends_long : (p : Program) (n : ℕ) (b : ActionId) → (h : EndsChain p n b) → n ≡ length h.1 + 1
ends_long p n b h = omega (arith, h.3, all_units (h.0 ∷ h.1))

-- a chain has at most as many actions as its last one's number
pub ends_within : (p : Program) (number : ActionId → ℕ) → IsNumbering p number → (n : ℕ) (b : ActionId) → EndsChain p n b → n ≤ number b
ends_within p number is n b h =
    omega (arith, ends_long p n b h, chain_rises p number is h.0 h.1 b h.2, is.positive h.0 (chain_first p h.0 h.1 b h.2))

pub ends_action : (p : Program) (n : ℕ) (b : ActionId) → EndsChain p n b → IsAction p b
ends_action p n b h = chain_last p h.0 h.1 b h.2

-- if a chain has as many actions as the number of its last one, that is the level
pub level_is : (p : Program) (number : ActionId → ℕ) → IsNumbering p number → (b : ActionId) → EndsChain p (number b) b → IsLevel p b (number b)
level_is p number is b some = record { some = some; most = λ m h. ends_within p number is m b h }

-- a chain of more than one action, but for its last
pub record ButLast (p : Program) (a : ActionId) (cs : List ActionId) (b : ActionId) : Type 0 where
  pub before : ActionId
  pub others : List ActionId
  pub chain : ChainFrom p a others before
  pub needs : DirectlyNeeds p b before
  pub total : (cost : ActionId → ℕ) → sum_by cost (a ∷ cs) ≡ sum_by cost (a ∷ others) + cost b

pub but_last : (p : Program) (a c : ActionId) (cs : List ActionId) (b : ActionId) → ChainFrom p a (c ∷ cs) b → ButLast p a (c ∷ cs) b
but_last p a c [] b (act, n, (k, e)) =
    record { before = a; others = []; chain = (act, refl); needs = subst (λ (x : ActionId). DirectlyNeeds p x a) e n; total = λ cost. (let same : cost c ≡ cost b = ap cost e in omega arith) }
but_last p a c (d ∷ cs) b (act, n, k) =
    let r = but_last p c d cs b k in
    record { before = r.before; others = c ∷ r.others; chain = (act, n, r.chain); needs = r.needs; total = λ cost. omega (arith, r.total cost, sum_by-cons cost a (c ∷ d ∷ cs), sum_by-cons cost a (c ∷ r.others)) }

pub chain_join : (p : Program) (a : ActionId) (cs : List ActionId) (b : ActionId) (ds : List ActionId) (d : ActionId) → ChainFrom p a cs b → ChainFrom p b ds d → ChainFrom p a (cs ++ ds) d
chain_join p a [] b ds d (h, e) k = subst (λ x. ChainFrom p x ds d) (sym e) k
chain_join p a (c ∷ cs) b ds d (h, n, k) l = (h, n, chain_join p c cs b ds d k l)

pub Reaches-refl : (p : Program) (a : ActionId) → IsAction p a → Reaches p a a
Reaches-refl p a h = ([], (h, refl))

pub Reaches-trans : (p : Program) (a b c : ActionId) → Reaches p a b → Reaches p b c → Reaches p a c
Reaches-trans p a b c (cs, h) (ds, k) = (cs ++ ds, chain_join p a cs b ds c h k)

-- a chain of one action, or one with a last step
pub record LastStep (p : Program) (a b : ActionId) : Type 0 where
  pub before : ActionId
  pub reaches : Reaches p a before
  pub needs : DirectlyNeeds p b before

pub chain_ends_by_step : (p : Program) (a : ActionId) (cs : List ActionId) (b : ActionId) → ChainFrom p a cs b → (a ≡ b) ⊎ LastStep p a b
chain_ends_by_step p a [] b (h, e) = inl e
chain_ends_by_step p a (c ∷ cs) b (h, n, k) =
    elim (chain_ends_by_step p c cs b k) [
      | inl e ↦ inr (record { before = a; reaches = Reaches-refl p a h; needs = subst (λ x. DirectlyNeeds p x a) e n })
      | inr l ↦ inr (record { before = l.before; reaches = Reaches-trans p a c l.before (Reaches-need p a c h (Reaches-first p c l.before l.reaches) n) l.reaches; needs = l.needs })
    ]

-- later actions of an agent need its earlier ones
pub own_chain : (p : Program) (i n : ℕ) (k : ℕ) → IsAction p (record { agent = i; number = n }) → n + k ≤ moves p i → Reaches p (record { agent = i; number = n }) (record { agent = i; number = n + k })
own_chain p i n zero h l =
    let e : n ≡ n + zero = omega arith in
    subst (λ m. Reaches p (record { agent = i; number = n }) (record { agent = i; number = m })) e (Reaches-refl p (record { agent = i; number = n }) h)
own_chain p i n (suc k) h l =
    let first : 1 ≤ n = h.first in
    let before : Reaches p (record { agent = i; number = n }) (record { agent = i; number = n + k }) = own_chain p i n k h (omega arith) in
    Reaches-trans p (record { agent = i; number = n }) (record { agent = i; number = n + k }) (record { agent = i; number = n + suc k }) before
    (Reaches-need p (record { agent = i; number = n + k }) (record { agent = i; number = n + suc k })
    (record { agent = h.agent; first = omega arith; last = omega arith })
    (record { agent = h.agent; first = omega arith; last = l })
    (inl (refl, omega arith, omega arith)))

pub own_reach : (p : Program) (i n m : ℕ) → i < length p → 1 ≤ n → n ≤ m → m ≤ moves p i → Reaches p (record { agent = i; number = n }) (record { agent = i; number = m })
own_reach p i n m a f l k =
    let e : n + (m - n) ≡ m = omega arith in
    let last : n + (m - n) ≤ moves p i = omega arith in
    let own : n ≤ moves p i = omega arith in
    subst (λ x. Reaches p (record { agent = i; number = n }) (record { agent = i; number = x })) e
    (own_chain p i n (m - n) (record { agent = a; first = f; last = own }) last)

pub chain_push : (p : Program) (a : ActionId) (cs : List ActionId) (b d : ActionId) → ChainFrom p a cs b → IsAction p d → DirectlyNeeds p d b
    → ChainFrom p a (cs ++ d ∷ []) d
chain_push p a [] b d h act need = (h.0, subst (λ (x : ActionId). DirectlyNeeds p d x) (sym h.1) need, (act, refl))
chain_push p a (c ∷ cs) b d h act need = (h.0, h.1, chain_push p c cs b d h.2 act need)

pub chain_cost_push : (cost : ActionId → ℕ) (a : ActionId) (cs : List ActionId) (b : ActionId) → sum_by cost (a ∷ cs ++ b ∷ []) ≡ sum_by cost (a ∷ cs) + cost b
chain_cost_push cost a cs b = let e : sum_by cost (cs ++ b ∷ []) ≡ sum_by cost cs + sum_by cost (b ∷ []) = sum_by-append cost cs (b ∷ []) in omega (arith, sum_by-cons cost a cs, sum_by-cons cost a (cs ++ b ∷ []), sum_by-cons cost b [])

-- an action ends the chain of it alone
pub ends_alone : (p : Program) (cost : ActionId → ℕ) (b : ActionId) → IsAction p b → EndsChainOfCost p cost (cost b) b
ends_alone p cost b act = (b, [], (act, refl), omega (arith, sum_by-cons cost b []))

-- and what directly needs the end of a chain ends one that costs more
pub ends_dearer : (p : Program) (cost : ActionId → ℕ) (m : ℕ) (b d : ActionId) → EndsChainOfCost p cost m b → IsAction p d → DirectlyNeeds p d b → EndsChainOfCost p cost (m + cost d) d
ends_dearer p cost m b d h act need =
    (h.0, h.1 ++ d ∷ [], chain_push p h.0 h.1 b d h.2 act need, omega (arith, h.3, chain_cost_push cost h.0 h.1 d))

-- the same by numbers of actions
pub ends_one : (p : Program) (b : ActionId) → IsAction p b → EndsChain p 1 b
ends_one p b act = ends_alone p unit_cost b act

pub ends_more : (p : Program) (n : ℕ) (b d : ActionId) → EndsChain p n b → IsAction p d → DirectlyNeeds p d b → EndsChain p (n + 1) d
ends_more p n b d h act need = ends_dearer p unit_cost n b d h act need

pub Reaches-rises : (p : Program) (number : ActionId → ℕ) → IsNumbering p number → (a b : ActionId) → Reaches p a b → number a ≤ number b
Reaches-rises p number s a b (cs, h) = let up : number a + length cs ≤ number b = chain_rises p number s a cs b h in omega arith

-- ---- there are finitely many actions, so their numbers have a bound

pub bound_below : (f : ℕ → ℕ) (n : ℕ) → (m : ℕ) × ((i : ℕ) → i < n → f i ≤ m)
bound_below f zero = (0, λ i h. absurd (omega arith))
bound_below f (suc n) = let r = bound_below f n in (r.0 + f n, λ i h. go i (cases i n h) r)
  where
    cases : (i n : ℕ) → i < suc n → (i < n) ⊎ (i ≡ n)
    cases i n h = grind arith

    go : (i : ℕ) → (i < n) ⊎ (i ≡ n) → (r : (m : ℕ) × ((i : ℕ) → i < n → f i ≤ m)) → f i ≤ r.0 + f n
    go i (inl lt) r = omega (arith, r.1 i lt)
    go i (inr e) r = let e' : f i ≡ f n = ap f e in omega arith

pub numbers_bound : (p : Program) (number : ActionId → ℕ) → (m : ℕ) × ((a : ActionId) → IsAction p a → number a ≤ m)
numbers_bound p number = (
  all.0,
  λ a act.
      omega (arith, all.1 a.agent act.agent, (each a.agent).1 a.number (omega (arith, act.last))),
)
  where
    each : (i : ℕ) → (m : ℕ) × ((n : ℕ) → n < suc (moves p i) → number (record { agent = i; number = n }) ≤ m)
    each i = bound_below (λ n. number (record { agent = i; number = n })) (suc (moves p i))

    all : (m : ℕ) × ((i : ℕ) → i < length p → (each i).0 ≤ m)
    all = bound_below (λ i. (each i).0) (length p)

pub longest_below : (p : Program) (l m : ℕ) → IsLongestChain p l → IsLongestChain p m → l ≤ m
longest_below p l m h k = go h.some
  where
    go : (l ≡ 0) ⊎ ((b : ActionId) × EndsChain p l b) → l ≤ m
    go (inl e) = omega arith
    go (inr r) = k.most r.0 l r.1

-- a program has one longest chain
pub longest_is_one : (p : Program) (l m : ℕ) → IsLongestChain p l → IsLongestChain p m → l ≡ m
longest_is_one p l m h k = let a = longest_below p l m h k in let b = longest_below p m l k h in omega arith

-- ---- steps

moved_away : (q : Place) (d : Dir) → moved q d ≢ q
moved_away q North e = let y : q.y -ℤ pos 1 ≡ q.y = ap (λ (z : Place). z.y) e in omega (arith, ints)
moved_away q East e = let x : q.x +ℤ pos 1 ≡ q.x = ap (λ (z : Place). z.x) e in omega (arith, ints)
moved_away q South e = let y : q.y +ℤ pos 1 ≡ q.y = ap (λ (z : Place). z.y) e in omega (arith, ints)
moved_away q West e = let x : q.x -ℤ pos 1 ≡ q.x = ap (λ (z : Place). z.x) e in omega (arith, ints)

goes_away : (q : Place) (s : Step) → is_move s ≡ true → stepped q s ≢ q
goes_away q (Go d) h = moved_away q d
goes_away q Dwell h = absurd cc

stays_there : (q : Place) (s : Step) → is_move s ≡ false → stepped q s ≡ q
stays_there q (Go d) h = absurd cc
stays_there q Dwell h = refl

-- ---- stays at the front of a list of actions

none_before : (x : Action) (xs : List Action) → is_move x.step ≡ true → stays_before (x ∷ xs) ≡ 0
none_before x xs e = rw e refl

one_before : (x : Action) (xs : List Action) → is_move x.step ≡ false → stays_before (x ∷ xs) ≡ stays_before xs + 1
one_before x xs e = rw e refl

stays_are : (xs : List Action) (k : ℕ) (a : Action) → slice_get xs k ≡ Some a → k < stays_before xs → is_move a.step ≡ false
stays_are [] k a e h = absurd cc
stays_are (x ∷ xs) zero a e h = go (is_move x.step) refl
  where
    go : (b : Bool) → is_move x.step ≡ b → is_move a.step ≡ false
    go true is = absurd (omega (arith, h, none_before x xs is))
    go false is = subst (λ (y : Action). is_move y.step ≡ false) (same_Some x a e) is
stays_are (x ∷ xs) (suc k) a e h = go (is_move x.step) refl (stays_are xs k a e)
  where
    go : (b : Bool) → is_move x.step ≡ b → (k < stays_before xs → is_move a.step ≡ false) → is_move a.step ≡ false
    go true is rest = absurd (omega (arith, h, none_before x xs is))
    go false is rest = rest (omega (arith, h, one_before x xs is))

-- what comes after them is a move
move_is : (xs : List Action) (k : ℕ) (a : Action) → slice_get xs k ≡ Some a → k ≡ stays_before xs → is_move a.step ≡ true
move_is [] k a e h = absurd cc
move_is (x ∷ xs) zero a e h = go (is_move x.step) refl
  where
    go : (b : Bool) → is_move x.step ≡ b → is_move a.step ≡ true
    go true is = subst (λ (y : Action). is_move y.step ≡ true) (same_Some x a e) is
    go false is = absurd (omega (arith, h, one_before x xs is))
move_is (x ∷ xs) (suc k) a e h = go (is_move x.step) refl (move_is xs k a e)
  where
    go : (b : Bool) → is_move x.step ≡ b → (k ≡ stays_before xs → is_move a.step ≡ true) → is_move a.step ≡ true
    go true is rest = absurd (omega (arith, h, none_before x xs is))
    go false is rest = rest (omega (arith, h, one_before x xs is))

few_stays : (xs : List Action) → stays_before xs ≤ length xs
few_stays [] = omega arith
few_stays (x ∷ xs) = go (is_move x.step) refl (few_stays xs)
  where
    go : (b : Bool) → is_move x.step ≡ b → stays_before xs ≤ length xs → stays_before (x ∷ xs) ≤ length (x ∷ xs)
    go true is h = omega (arith, none_before x xs is)
    go false is h = omega (arith, h, one_before x xs is)

get-drop : (xs : List Action) (m k n : ℕ) → n ≡ m + k → slice_get (drop m xs) k ≡ slice_get xs n
get-drop [] zero k n e = cc
get-drop [] (suc m) k n e = cc
get-drop (x ∷ xs) zero k n e = let s : k ≡ n = omega arith in ap (slice_get (x ∷ xs)) s
get-drop (x ∷ xs) (suc m) k zero e = absurd (omega arith)
get-drop (x ∷ xs) (suc m) k (suc n) e = get-drop xs m k n (omega arith)

-- ---- of a program

abbrev pub there : Program → ℕ → ℕ → Action → Type 0
there p i n a = slice_get (actions_of p i) n ≡ Some a

pub action_there : (p : Program) (i n : ℕ) → n < moves p i → (a : Action) × there p i n a
action_there p i n h = (_, slice_get-get_or (actions_of p i) n (record { step = Dwell; awaits = [] }) h)

pub stay_path : (p : Program) (i n : ℕ) (a : Action) → there p i n a → is_move a.step ≡ false → path p i (n + 1) ≡ path p i n
stay_path p i n a e h = path_more p i n a e ∙ stays_there (path p i n) a.step h

pub move_path : (p : Program) (i n : ℕ) (a : Action) → there p i n a → is_move a.step ≡ true → path p i (n + 1) ≢ path p i n
move_path p i n a e h same = goes_away (path p i n) a.step h (sym (path_more p i n a e) ∙ same)

-- an action that begins a visit is a move
pub entry_moves : (p : Program) (i n : ℕ) → is_entry p i (suc n) ≡ true → (a : Action) × there p i n a × (is_move a.step ≡ true)
entry_moves p i n e = some_passes (λ (a : Action). is_move a.step) (slice_get (actions_of p i) n) e

pub move_enters : (p : Program) (i n : ℕ) (a : Action) → there p i n a → is_move a.step ≡ true → is_entry p i (suc n) ≡ true
move_enters p i n a e h = ap (λ (o : Option Action). option_map_or (λ (b : Action). is_move b.step) o false) e ∙ h

-- actions between a position and the next move are stays
stay_between : (p : Program) (i m n : ℕ) (a : Action) → there p i n a → m ≤ n → n + 1 < next_move p i m → is_move a.step ≡ false
stay_between p i m n a e le lt =
    stays_are (drop m (actions_of p i)) (n - m) a (get-drop (actions_of p i) m (n - m) n (omega arith) ∙ e) (omega arith)

-- and the next move is one
pub next_is_move : (p : Program) (i m n : ℕ) (a : Action) → there p i n a → n + 1 ≡ next_move p i m → is_move a.step ≡ true
next_is_move p i m n a e h =
    move_is (drop m (actions_of p i)) (n - m) a (get-drop (actions_of p i) m (n - m) n (omega arith) ∙ e) (omega arith)

-- no visit begins between a position and the next move
pub next_upto : (p : Program) (i m n : ℕ) → m < n → is_entry p i n ≡ true → next_move p i m ≤ n
next_upto p i m zero lt e = absurd (omega arith)
next_upto p i m (suc n) lt e = elim (cases_lt (n + 1) (next_move p i m)) [
  | inl within ↦ (let a = entry_moves p i n e in absurd (both_ways (is_move a.0.step) (stay_between p i m n a.0 a.1 (omega arith) within) a.2))
  | inr past ↦ omega arith
]

pub next_within : (p : Program) (i m : ℕ) → m ≤ moves p i → next_move p i m ≤ moves p i + 1
next_within p i m le =
    let few = few_stays (drop m (actions_of p i)) in
    let rest = length-drop m (actions_of p i) in
    omega (arith, few, rest)

-- an agent that stays is still in its visit
pub stay_on : (p : Program) (i m n : ℕ) (a : Action) → there p i n a → is_move a.step ≡ false → m ≤ n → n < next_move p i m → n + 1 < next_move p i m
stay_on p i m n a e is le lt = elim (cases_lt (n + 1) (next_move p i m)) [
  | inl on ↦ on
  | inr past ↦ absurd (both_ways (is_move a.step) is (next_is_move p i m n a e (omega arith)))
]

-- the visit that an agent is in after n actions begins at position m
pub record IsIn (p : Program) (i n m : ℕ) : Type 0 where
  pub within : m ≤ n
  pub entered : is_entry p i m ≡ true
  pub place : path p i m ≡ path p i n
  pub staying : n < next_move p i m

pub is_in : (p : Program) (i n : ℕ) → n ≤ moves p i → (m : ℕ) × IsIn p i n m
is_in p i zero h = (0, record { within = omega arith; entered = refl; place = refl; staying = omega arith })
is_in p i (suc n) h = go (is_move a.0.step) refl (is_in p i n (omega arith))
  where
    a : (a : Action) × there p i n a
    a = action_there p i n (omega arith)

    go : (b : Bool) → is_move a.0.step ≡ b → (m : ℕ) × IsIn p i n m → (m : ℕ) × IsIn p i (suc n) m
    go true is r = (suc n, record { within = omega arith; entered = move_enters p i n a.0 a.1 is; place = refl; staying = omega arith })
    go false is (m, r) = (
      m,
      record {
        within = omega (arith, r.within);
        entered = r.entered;
        place = r.place ∙ (sym (stay_path p i n a.0 a.1 is) ∙ ap (path p i) (add-one n));
        staying = omega (arith, stay_on p i m n a.0 a.1 is r.within r.staying);
      },
    )

-- an agent has no next move after its last action
pub past_moves : (p : Program) (i m n : ℕ) → m ≤ n → moves p i ≤ n → next_move p i m ≤ n + 1
past_moves p i m n le all =
    let few = few_stays (drop m (actions_of p i)) in
    let rest = length-drop m (actions_of p i) in
    omega (arith, few, rest)

-- ---- an agent that never stays

abbrev pub NeverDwells : Program → ℕ → Type 0
NeverDwells p i = (n : ℕ) (a : Action) → there p i n a → is_move a.step ≡ true

pub goes_next : (p : Program) (i n : ℕ) → NeverDwells p i → next_move p i n ≡ n + 1
goes_next p i n goes = elim (cases_lt 0 (stays_before (drop n (actions_of p i)))) [
  | inr none ↦ omega arith
  | inl some ↦ (
      let few = few_stays (drop n (actions_of p i)) in
      let rest = length-drop n (actions_of p i) in
      let a = action_there p i n (omega arith) in
      absurd (both_ways (is_move a.0.step) (stays_are (drop n (actions_of p i)) 0 a.0 (get-drop (actions_of p i) n 0 n (omega arith) ∙ a.1) some) (goes n a.0 a.1)))
]

pub goes_enters : (p : Program) (i n : ℕ) → NeverDwells p i → n ≤ moves p i → is_entry p i n ≡ true
goes_enters p i zero goes le = refl
goes_enters p i (suc n) goes le = let a = action_there p i n (omega arith) in move_enters p i n a.0 a.1 (goes n a.0 a.1)

-- an agent is on one place until its next move
stays_until : (p : Program) (i m d : ℕ) → m + d ≤ moves p i → m + d < next_move p i m → path p i (m + d) ≡ path p i m
stays_until p i m zero le lt = let e : m + zero ≡ m = omega arith in ap (path p i) e
stays_until p i m (suc d) le lt =
    let a = action_there p i (m + d) (omega arith) in
    let e : m + suc d ≡ m + d + 1 = omega arith in
    ap (path p i) e ∙ (stay_path p i (m + d) a.0 a.1 (stay_between p i m (m + d) a.0 a.1 (omega arith) (omega arith)) ∙ stays_until p i m d (omega arith) (omega arith))

pub stays_to : (p : Program) (i m k : ℕ) → m ≤ k → k ≤ moves p i → k < next_move p i m → path p i k ≡ path p i m
stays_to p i m k le within lt =
    let e : m + (k - m) ≡ k = omega arith in
    ap (path p i) (sym e) ∙ stays_until p i m (k - m) (omega arith) (omega arith)
