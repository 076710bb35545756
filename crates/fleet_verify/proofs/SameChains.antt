-- Programs with the same chains, and those of them with the fewest awaits.
use Rattle.fleet_verify.proofs.Words.{◌≡◌, ℕ, zero, suc, ◌+◌, ◌<◌, ◌≤◌, List, [], ◌∷◌, length, map, take, drop, get_or, Option, Some, None, refl, sym, ap, ap₂, ◌∙◌, arith, Bool, true, false, cond, not, ◌&&◌, ◌++◌, subst, inl, inr, ◌≢◌, slice_get, option_map, if◌then◌else◌, Contains, ◌⊎◌, option_map_or, length-map, ext_get_or, take-map, drop-map, length-append, slice_get-map, slice_get_past, Place, Step, Action, ActionId, Visit, Standing, place_of, stepped, is_move, Program, origin, start_of, actions_of, moves, path, walked, awaits_of, AreInRange, IsInRange, Configuration, standing_at, count_at, next_action, finished_one, opening, is_ready, standing_after, indices, tick, Holds, is_held, run, IsAction, DirectlyNeeds, ChainFrom, Reaches, EndsChain, IsLevel, IsLongestChain, IsNumbering, awaited, is_entry, stays_before, next_move, IsVisitOf, ListsVisits, leaving, Adjacent, ComesAfterByChain, entering, length_opening, standing_at_opening, Task, Await, IsAcceptedBy, chain_first, chain_rises, ends_by, ends_long, Reaches-need, chain_join, chain_last, Reaches-first, Reaches-last, Reaches-trans, Reaches-refl, cases_lt, AgentProgram, both_ways, DiffersInAwaits, HaveSameChains, IsThinned, IsReduced, HasLeastAwaits}
use Rattle.fleet_verify.proofs.RunCounts.{counts, readies, run_counts, chain_due}
use Rattle.fleet_verify.proofs.Waiting.{ready_says, ready_from}
use Rattle.fleet_verify.proofs.BreakingHolds.{moves_within}
use Rattle.fleet_verify.proofs.Members.{same_action, contains_none}
use Rattle.fleet_needs.specs.Implied.{IsImplied}
use Rattle.fleet_verify.proofs.Decide.{some-dec, action-dec, before_in, needs_before, Reaches-dec}

pub same_moves : (p q : Program) → DiffersInAwaits p q → (i : ℕ) → moves q i ≡ moves p i
same_moves p q h i = sym (length-map (actions_of q i) (λ a. a.step)) ∙ ap length (h.steps i) ∙ length-map (actions_of p i) (λ a. a.step)

pub action_there : (p q : Program) → DiffersInAwaits p q → (a : ActionId) → IsAction p a → IsAction q a
action_there p q h a k =
    let n : length q ≡ length p = h.agents in
    let m : moves q a.agent ≡ moves p a.agent = same_moves p q h a.agent in
    let l : a.agent < length p = k.agent in
    let g : a.number ≤ moves p a.agent = k.last in
    record { agent = omega arith; first = k.first; last = omega arith }

pub alike_back : (p q : Program) → DiffersInAwaits p q → DiffersInAwaits q p
alike_back p q h = record { agents = sym h.agents; starts = λ i. sym (h.starts i); goals = λ i. sym (h.goals i); steps = λ i. sym (h.steps i) }

pub action_back : (p q : Program) → DiffersInAwaits p q → (a : ActionId) → IsAction q a → IsAction p a
action_back p q h = action_there q p (alike_back p q h)

-- an action moves its agent by its step alone
finished_same : (s : Standing) (o u : Option Action) → option_map (λ a. a.step) o ≡ option_map (λ a. a.step) u → finished_one s o ≡ finished_one s u
finished_same s None None e = refl
finished_same s None (Some b) e = absurd (let f : ⊥ = cc in f)
finished_same s (Some a) None e = absurd (let f : ⊥ = cc in f)
finished_same s (Some a) (Some b) e =
    let same : a.step ≡ b.step = cc in
    λ i. record { place = stepped s.place (same i); count = s.count + 1 }

pub next_same : (p q : Program) → DiffersInAwaits p q → (c : Configuration) (i : ℕ) → finished_one (standing_at c i) (next_action q c i) ≡ finished_one (standing_at c i) (next_action p c i)
next_same p q h c i =
    finished_same (standing_at c i) (next_action q c i) (next_action p c i)
    (sym (slice_get-map (λ a. a.step) (actions_of q i) (count_at c i)) ∙ ap (λ l. slice_get l (count_at c i)) (h.steps i) ∙ slice_get-map (λ a. a.step) (actions_of p i) (count_at c i))

pub opening_same : (p q : Program) → DiffersInAwaits p q → opening q ≡ opening p
opening_same p q h =
    ext_get_or (record { place = place_of origin; count = 0 }) (opening q) (opening p)
    (length_opening q ∙ h.agents ∙ sym (length_opening p))
    (λ i l. standing_at_opening q i ∙ start i ∙ sym (standing_at_opening p i))
  where
    start : (i : ℕ) → ◌≡◌ {A = Standing} (record { place = place_of (start_of q i); count = 0 }) (record { place = place_of (start_of p i); count = 0 })
    start i = λ j. record { place = place_of (h.starts i j); count = 0 }

-- if steps agree, so do paths
abbrev walk : Place → List Step → Place
walk x [] = x
walk x (s ∷ ss) = walk (stepped x s) ss

walked_walk : (x : Place) (actions : List Action) → walked x actions ≡ walk x (map (λ a. a.step) actions)
walked_walk x [] = refl
walked_walk x (a ∷ actions) = walked_walk (stepped x a.step) actions

path_walk : (p : Program) (i n : ℕ) → path p i n ≡ walk (place_of (start_of p i)) (take n (map (λ a. a.step) (actions_of p i)))
path_walk p i n = walked_walk (place_of (start_of p i)) (take n (actions_of p i)) ∙ ap (walk (place_of (start_of p i))) (sym (take-map (λ a. a.step) n (actions_of p i)))

pub path_there : (p q : Program) → DiffersInAwaits p q → (i n : ℕ) → path q i n ≡ path p i n
path_there p q h i n =
    path_walk q i n
    ∙ ap₂ (λ s ds. walk (place_of s) (take n ds)) (h.starts i) (h.steps i)
    ∙ sym (path_walk p i n)

-- so their visits begin and end alike
entry_step : (o : Option Action) → option_map_or (λ a. is_move a.step) o false ≡ option_map_or is_move (option_map (λ a. a.step) o) false
entry_step None = refl
entry_step (Some a) = refl

entry_by_step : (p : Program) (i n : ℕ) → is_entry p i (suc n) ≡ option_map_or is_move (slice_get (map (λ a. a.step) (actions_of p i)) n) false
entry_by_step p i n =
    entry_step (slice_get (actions_of p i) n)
    ∙ ap (λ o. option_map_or is_move o false) (sym (slice_get-map (λ a. a.step) (actions_of p i) n))

pub entry_there : (p q : Program) → DiffersInAwaits p q → (i n : ℕ) → is_entry q i n ≡ is_entry p i n
entry_there p q h i zero = refl
entry_there p q h i (suc n) =
    entry_by_step q i n
    ∙ ap (λ ss. option_map_or is_move (slice_get ss n) false) (h.steps i)
    ∙ sym (entry_by_step p i n)

abbrev stays : List Step → ℕ
stays [] = 0
stays (s ∷ ss) = if is_move s then 0 else stays ss + 1

stays_by_step : (actions : List Action) → stays_before actions ≡ stays (map (λ a. a.step) actions)
stays_by_step [] = refl
stays_by_step (a ∷ actions) = ap (λ n. if is_move a.step then 0 else n + 1) (stays_by_step actions)

next_by_step : (p : Program) (i n : ℕ) → next_move p i n ≡ n + 1 + stays (drop n (map (λ a. a.step) (actions_of p i)))
next_by_step p i n =
    ap (λ m. n + 1 + m) (stays_by_step (drop n (actions_of p i)) ∙ ap stays (sym (drop-map (λ a. a.step) n (actions_of p i))))

pub next_there : (p q : Program) → DiffersInAwaits p q → (i n : ℕ) → next_move q i n ≡ next_move p i n
next_there p q h i n =
    next_by_step q i n
    ∙ ap (λ ss. n + 1 + stays (drop n ss)) (h.steps i)
    ∙ sym (next_by_step p i n)

pub leaving_there : (p q : Program) → DiffersInAwaits p q → (v : Visit) → leaving q v ≡ leaving p v
leaving_there p q h v = λ i. record { agent = v.agent; number = next_there p q h v.agent v.position i }

pub visit_there : (p q : Program) → DiffersInAwaits p q → (x : Place) (v : Visit) → IsVisitOf p x v → IsVisitOf q x v
visit_there p q h x v k =
    let n : length q ≡ length p = h.agents in
    let m : moves q v.agent ≡ moves p v.agent = same_moves p q h v.agent in
    let l : v.agent < length p = k.agent in
    let g : v.position ≤ moves p v.agent = k.position in
    record { agent = omega arith; position = omega arith; entered = entry_there p q h v.agent v.position ∙ k.entered; place = path_there p q h v.agent v.position ∙ k.place }

pub visit_back : (p q : Program) → DiffersInAwaits p q → (x : Place) (v : Visit) → IsVisitOf q x v → IsVisitOf p x v
visit_back p q h = visit_there q p (alike_back p q h)

pub lists_there : (p q : Program) → DiffersInAwaits p q → (x : Place) (l : List Visit) → ListsVisits p x l → ListsVisits q x l
lists_there p q h x l k = record {
  all = λ v m. k.all v (visit_back p q h x v m);
  only = λ j d m. visit_there p q h x (get_or l j d) (k.only j d m);
  once = k.once;
}

pub turned : (p q : Program) → HaveSameChains p q → HaveSameChains q p
turned p q h = record {
  rest = alike_back p q h.rest;
  chains = λ a b. ((h.chains a b).1, (h.chains a b).0);
}

-- ---- lengths

need_apart : (p : Program) → AreInRange p → (a b : ActionId) → DirectlyNeeds p a b → b ≡ a → ⊥
need_apart p range a b (inl (e, n, f)) same = let g : b.number ≡ a.number = ap (λ x. x.number) same in omega arith
need_apart p range a b (inr c) same = (range a.agent a.number (record { agent = b.agent; count = b.number }) c).other (ap (λ x. x.agent) same)

-- no chain becomes shorter
chain_over : (p q : Program) → AreInRange p → HaveSameChains p q → (a : ActionId) (cs : List ActionId) (b : ActionId) → ChainFrom p a cs b → (ds : List ActionId) × ChainFrom q a ds b × (length cs ≤ length ds)
chain_over p q range h a [] b (k, e) = ([], (action_there p q h.rest a k, e), omega arith)
chain_over p q range h a (c ∷ cs) b (k, n, r) = go ((h.chains a c).0 (Reaches-need p a c k (chain_first p c cs b r) n)) (chain_over p q range h c cs b r)
  where
    go : Reaches q a c → ((ds : List ActionId) × ChainFrom q c ds b × (length cs ≤ length ds)) → (ds : List ActionId) × ChainFrom q a ds b × (suc (length cs) ≤ length ds)
    go ([], (m, e)) (ds, g, l) = absurd (need_apart p range c a n e)
    go (x ∷ xs, g) (ds, f, l) = (x ∷ xs ++ ds, chain_join q a (x ∷ xs) c ds b g f, (let e : length (xs ++ ds) ≡ length xs + length ds = length-append xs ds in omega arith))

ends_over : (p q : Program) → AreInRange p → HaveSameChains p q → (n : ℕ) (b : ActionId) → EndsChain p n b → (m : ℕ) × EndsChain q m b × (n ≤ m)
ends_over p q range h n b k =
    let r = chain_over p q range h k.0 k.1 b k.2 in
    (length r.0 + 1, ends_by q (length r.0 + 1) k.0 r.0 b r.1 refl, omega (arith, ends_long p n b k, r.2))

most_over : (p q : Program) → AreInRange q → HaveSameChains p q → (b : ActionId) (n : ℕ) → ((m : ℕ) → EndsChain p m b → m ≤ n) → (m : ℕ) → EndsChain q m b → m ≤ n
most_over p q range h b n most m e =
    let k = ends_over q p range (turned p q h) m b e in
    omega (arith, most k.0 k.1, k.2)

some_over : (p q : Program) → AreInRange p → AreInRange q → HaveSameChains p q → (b : ActionId) (n : ℕ) → ((m : ℕ) → EndsChain p m b → m ≤ n) → EndsChain p n b → EndsChain q n b
some_over p q range range' h b n most e =
    let k = ends_over p q range h n b e in
    let same : k.0 ≡ n = omega (arith, most_over p q range' h b n most k.0 k.1, k.2) in
    subst (λ (x : ℕ). EndsChain q x b) same k.1

pub level_over : (p q : Program) → AreInRange p → AreInRange q → HaveSameChains p q → (b : ActionId) (n : ℕ) → IsLevel p b n → IsLevel q b n
level_over p q range range' h b n l = record { some = some_over p q range range' h b n l.most l.some; most = most_over p q range' h b n l.most }

pub longest_over : (p q : Program) → AreInRange p → AreInRange q → HaveSameChains p q → (n : ℕ) → IsLongestChain p n → IsLongestChain q n
longest_over p q range range' h n l = record { some = go l.some; most = λ b m e. most_over p q range' h b n (l.most b) m e }
  where
    go : (n ≡ 0) ⊎ ((b : ActionId) × EndsChain p n b) → (n ≡ 0) ⊎ ((b : ActionId) × EndsChain q n b)
    go (inl e) = inl e
    go (inr (b, e)) = inr (b, some_over p q range range' h b n (l.most b) e)

-- ---- acceptance

pub numbering_over : (p q : Program) → AreInRange q → HaveSameChains p q → (number : ActionId → ℕ) → IsNumbering p number → IsNumbering q number
numbering_over p q range h number s = record {
  positive = λ a k. s.positive a (action_back p q h.rest a k);
  rising = λ a b k m n. up a b n ((h.chains b a).1 (Reaches-need q b a m k n));
}
  where
    up : (a b : ActionId) → DirectlyNeeds q a b → Reaches p b a → number b < number a
    up a b n ([], (k, e)) = absurd (need_apart q range a b n e)
    up a b n (c ∷ cs, r) = omega (arith, chain_rises p number s b (c ∷ cs) a r)

adjacent_over : (p q : Program) → HaveSameChains p q → (l : List Visit) → Adjacent (ComesAfterByChain p) l → Adjacent (ComesAfterByChain q) l
adjacent_over p q h [] a = tt
adjacent_over p q h (v ∷ []) a = tt
adjacent_over p q h (v ∷ w ∷ vs) (a, g) = (after a, adjacent_over p q h (w ∷ vs) g)
  where
    after : ComesAfterByChain p v w → ComesAfterByChain q v w
    after (inl o) = inl o
    after (inr r) = inr (subst (λ a. Reaches q a (entering w)) (sym (leaving_there p q h.rest v)) ((h.chains (leaving p v) (entering w)).0 r))

pub accepted_over : (p q : Program) → AreInRange q → HaveSameChains p q → (passable : Place → Bool) (tasks : List Task) → IsAcceptedBy ComesAfterByChain passable tasks p → IsAcceptedBy ComesAfterByChain passable tasks q
accepted_over p q range h passable tasks a = record {
  right = record {
    for_tasks = record {
      agents = h.rest.agents ∙ a.right.for_tasks.agents;
      ends = λ i t e. (h.rest.starts i ∙ (a.right.for_tasks.ends i t e).0, h.rest.goals i ∙ (a.right.for_tasks.ends i t e).1);
    };
    on_ground = λ i n l m. ap passable (path_there p q h.rest i n) ∙ a.right.on_ground i n (let e : length q ≡ length p = h.rest.agents in omega arith) (let e : moves q i ≡ moves p i = same_moves p q h.rest i in omega arith);
    arrives = λ i l. ap (path q i) (same_moves p q h.rest i) ∙ path_there p q h.rest i (moves p i) ∙ a.right.arrives i (let e : length q ≡ length p = h.rest.agents in omega arith) ∙ ap place_of (sym (h.rest.goals i));
    in_range = range;
  };
  numbering = (a.numbering.0, numbering_over p q range h a.numbering.0 a.numbering.1);
  orderly = λ x. ((a.orderly x).0, lists_there p q h.rest x (a.orderly x).0 (a.orderly x).1, adjacent_over p q h (a.orderly x).0 (a.orderly x).2);
}

-- ---- runs

-- ready in p, in a configuration of a run of p: ready in q
ready_over : (p q : Program) → AreInRange q → HaveSameChains p q → (holds : Holds) (t i : ℕ) → is_ready p (run p holds t) i ≡ true → is_ready q (run p holds t) i ≡ true
ready_over p q range h holds t i r = ready_from q c i (record { left = left; met = met })
  where
    c : Configuration
    c = run p holds t

    a : ActionId
    a = record { agent = i; number = suc (count_at c i) }

    left : count_at c i < moves q i
    left = let e : moves q i ≡ moves p i = same_moves p q h.rest i in let l : count_at c i < moves p i = (ready_says p c i r).left in omega arith

    is : IsAction q a
    is = let l : count_at c i < moves q i = left in record { agent = moves_within q i (omega arith); first = omega arith; last = l }

    met : (w : Await) → Contains (awaits_of q i (suc (count_at c i))) w → w.count ≤ count_at c w.agent
    met w k =
        let known = range i (suc (count_at c i)) w k in
        let way = (h.chains (awaited w) a).1 (Reaches-need q (awaited w) a (record { agent = known.agent; first = known.first; last = known.last }) is (inr k)) in
        elim (chain_due p (is_held holds) (readies p holds) (counts p holds) (run_counts p holds) t (awaited w) way.0 a way.1 r (omega arith)) [
          | inl e ↦ absurd (known.other (ap (λ x. x.agent) e))
          | inr done ↦ done
        ]

ready_same : (p q : Program) → AreInRange p → AreInRange q → HaveSameChains p q → (holds : Holds) (t : ℕ) → run p holds t ≡ run q holds t → (i : ℕ) → is_ready q (run p holds t) i ≡ is_ready p (run p holds t) i
ready_same p q range range' h holds t e i =
    both_ways (is_ready q (run p holds t) i) (is_ready p (run p holds t) i)
    (λ r. subst (λ c. is_ready p c i ≡ true) (sym e) (ready_over q p range (turned p q h) holds t i (subst (λ c. is_ready q c i ≡ true) e r)))
    (λ r. ready_over p q range' h holds t i r)

all_same : {A B : Type 0} (f g : A → B) → ((x : A) → f x ≡ g x) → f ≡ g
all_same f g h = λ i x. h x i

-- one tick more
tick_over : (p q : Program) → AreInRange p → AreInRange q → HaveSameChains p q → (holds : Holds) (t : ℕ) → run p holds t ≡ run q holds t → run p holds (suc t) ≡ run q holds (suc t)
tick_over p q range range' h holds t before =
    sym (ap (λ f. map f (indices (length p))) (all_same (standing_after q (is_held holds t) c) (standing_after p (is_held holds t) c) stands))
    ∙ ap (λ n. map (standing_after q (is_held holds t) c) (indices n)) (sym h.rest.agents)
    ∙ ap (tick q (is_held holds t)) before
  where
    c : Configuration
    c = run p holds t

    stands : (i : ℕ) → standing_after q (is_held holds t) c i ≡ standing_after p (is_held holds t) c i
    stands i = ap₂ (λ r f. cond (r && not (is_held holds t i)) f (standing_at c i)) (ready_same p q range range' h holds t before i) (next_same p q h.rest c i)

pub run_over : (p q : Program) → AreInRange p → AreInRange q → HaveSameChains p q → (holds : Holds) (t : ℕ) → run p holds t ≡ run q holds t
run_over p q range range' h holds zero = sym (opening_same p q h.rest)
run_over p q range range' h holds (suc t) = tick_over p q range range' h holds t (run_over p q range range' h holds t)

need_back : (p q : Program) → IsReduced p q → (a b : ActionId) → DirectlyNeeds q a b → DirectlyNeeds p a b
need_back p q h a b (inl e) = inl e
need_back p q h a b (inr c) = inr (h.fewer a.agent a.number (record { agent = b.agent; count = b.number }) c)

chain_back : (p q : Program) → IsReduced p q → (a : ActionId) (cs : List ActionId) (b : ActionId) → ChainFrom q a cs b → ChainFrom p a cs b
chain_back p q h a [] b (k, e) = (action_back p q h.rest a k, e)
chain_back p q h a (c ∷ cs) b (k, n, r) = (action_back p q h.rest a k, need_back p q h c a n, chain_back p q h c cs b r)

-- q needs what p needs, and nothing else
pub need_there : (p q : Program) → IsReduced p q → (a b : ActionId) → IsAction p a → IsAction p b → DirectlyNeeds p b a → Reaches q a b
need_there p q h a b k m (inl e) = Reaches-need q a b (action_there p q h.rest a k) (action_there p q h.rest b m) (inl e)
need_there p q h a b k m (inr c) =
    elim (h.needed b.agent b.number (record { agent = a.agent; count = a.number }) m c) [
      | inl d ↦ Reaches-need q a b (action_there p q h.rest a k) (action_there p q h.rest b m) (inr d)
      | inr r ↦ r
    ]

chain_reaches : (p q : Program) → IsReduced p q → (a : ActionId) (cs : List ActionId) (b : ActionId) → ChainFrom p a cs b → Reaches q a b
chain_reaches p q h a [] b (k, e) = ([], (action_there p q h.rest a k, e))
chain_reaches p q h a (c ∷ cs) b (k, n, r) = Reaches-trans q a c b (need_there p q h a c k (chain_first p c cs b r) n) (chain_reaches p q h c cs b r)

pub reach_there : (p q : Program) → IsReduced p q → (a b : ActionId) → Reaches p a b → Reaches q a b
reach_there p q h a b (cs, r) = chain_reaches p q h a cs b r

pub reach_back : (p q : Program) → IsReduced p q → (a b : ActionId) → Reaches q a b → Reaches p a b
reach_back p q h a b (cs, r) = (cs, chain_back p q h a cs b r)

pub reduced_chains : (p q : Program) → IsReduced p q → HaveSameChains p q
reduced_chains p q h = record { rest = h.rest; chains = λ a b. (reach_there p q h a b, reach_back p q h a b) }

-- every await can be met as before
range_of : (p q : Program) → DiffersInAwaits p q → ((i n : ℕ) (w : Await) → Contains (awaits_of q i n) w → Contains (awaits_of p i n) w) → AreInRange p → AreInRange q
range_of p q h fewer range i n w c =
    let agents : length q ≡ length p = h.agents in
    let same : moves q w.agent ≡ moves p w.agent = same_moves p q h w.agent in
    let r = range i n w (fewer i n w c) in
    record { agent = omega (arith, r.agent); other = r.other; first = r.first; last = omega (arith, r.last) }

pub range_there : (p q : Program) → IsReduced p q → AreInRange p → AreInRange q
range_there p q h range = range_of p q h.rest h.fewer range

pub thinned_range : (p q : Program) → IsThinned p q → AreInRange p → AreInRange q
thinned_range p q h range = range_of p q h.rest (λ i n w c. ((h.awaits i n w).0 c).0) range

-- whether an await is implied can be computed
implied-dec : (p : Program) (number : ActionId → ℕ) → IsNumbering p number → (a : ActionId) → IsAction p a → (w : Await) → Dec (IsImplied p a w)
implied-dec p number s a h w =
    elim (Both before) [
      | yes g ↦ yes (before, g.0, needs_before p a (Reaches-last p (awaited w) before g.1), g.1)
      | no n ↦ (elim (some-dec (λ v. Either (awaited v)) (awaits_of p a.agent a.number) (λ v c. Both (awaited v))) [
        | yes g ↦ yes (awaited g.0, g.2.0, inr g.1, g.2.1)
        | no m ↦ no (λ (b, apart, d, r). none n m b apart d r)
      ])
    ]
  where
    before : ActionId
    before = before_in a

    Either : ActionId → Type 0
    Either b = (b ≢ awaited w) × Reaches p (awaited w) b

    Both : (b : ActionId) → Dec ((b ≢ awaited w) × Reaches p (awaited w) b)
    Both b =
        elim (action-dec b (awaited w)) [
          | yes e ↦ no (λ g. g.0 e)
          | no n ↦ (elim (Reaches-dec p number s (awaited w) b) [ yes r ↦ yes (n, r) | no m ↦ no (λ g. m g.1) ])
        ]

    none : (Either before → ⊥) → ((v : Await) × Contains (awaits_of p a.agent a.number) v × Either (awaited v) → ⊥) → (b : ActionId) → b ≢ awaited w → DirectlyNeeds p a b → Reaches p (awaited w) b → ⊥
    none n m b apart (inl (e, g, f)) r =
        let same : b ≡ before = same_action b before (sym e) (omega arith) in
        n (subst Either same (apart, r))
    none n m b apart (inr c) r = m (record { agent = b.agent; count = b.number }, c, (apart, r))

-- a chain of steps that each have a chain in q
chain_in : (p q : Program) → IsThinned p q → (number : ActionId → ℕ) → IsNumbering p number → (f : ℕ) → ((a b : ActionId) → IsAction p a → IsAction p b → DirectlyNeeds p b a → number b ≤ number a + f → Reaches q a b) → (a : ActionId) (cs : List ActionId) (b : ActionId) → ChainFrom p a cs b → number b ≤ number a + f → Reaches q a b
chain_in p q h number s f short a [] b (k, e) l = ([], (action_there p q h.rest a k, e))
chain_in p q h number s f short a (c ∷ cs) b (k, n, r) l =
    let first : IsAction p c = chain_first p c cs b r in
    let up : number a < number c = s.rising c a first k n in
    let rest : number c + length cs ≤ number b = chain_rises p number s c cs b r in
    Reaches-trans q a c b (short a c k first n (omega arith)) (chain_in p q h number s f short c cs b r (omega arith))

-- two actions with a chain between them have different numbers, or are the same
pub chain_apart : (p : Program) (number : ActionId → ℕ) → IsNumbering p number → (a : ActionId) (cs : List ActionId) (b : ActionId) → ChainFrom p a cs b → (b ≢ a) → number a < number b
chain_apart p number s a [] b (k, e) apart = absurd (apart (sym e))
chain_apart p number s a (c ∷ cs) b h apart = let up : number a + suc (length cs) ≤ number b = chain_rises p number s a (c ∷ cs) b h in omega arith

-- an implied need, by way of the other action
longer_in : (p q : Program) → IsThinned p q → (number : ActionId → ℕ) → IsNumbering p number → (f : ℕ) → ((a b : ActionId) → IsAction p a → IsAction p b → DirectlyNeeds p b a → number b ≤ number a + f → Reaches q a b) → (a b : ActionId) → IsAction p b → number b ≤ number a + suc f → (x : ActionId) → x ≢ a → DirectlyNeeds p b x → (cs : List ActionId) → ChainFrom p a cs x → Reaches q a b
longer_in p q h number s f short a b m l x apart n cs r =
    let up : number a < number x = chain_apart p number s a cs x r apart in
    let is : IsAction p x = chain_last p a cs x r in
    let on : number x < number b = s.rising b x m is n in
    Reaches-trans q a x b (chain_in p q h number s f short a cs x r (omega arith)) (short x b is m n (omega arith))

-- what is needed in p begins a chain in q, by the distance of the numbers
step_in : (p q : Program) → IsThinned p q → (number : ActionId → ℕ) → IsNumbering p number → (f : ℕ) (a b : ActionId) → IsAction p a → IsAction p b → DirectlyNeeds p b a → number b ≤ number a + f → Reaches q a b
step_in p q h number s f a b k m (inl e) l = Reaches-need q a b (action_there p q h.rest a k) (action_there p q h.rest b m) (inl e)
step_in p q h number s zero a b k m (inr c) l = absurd (let up : number a < number b = s.rising b a m k (inr c) in omega arith)
step_in p q h number s (suc f) a b k m (inr c) l =
    elim (implied-dec p number s b m w) [
      | no n ↦ Reaches-need q a b (action_there p q h.rest a k) (action_there p q h.rest b m) (inr ((h.awaits b.agent b.number w).1 (c, n)))
      | yes g ↦ longer_in p q h number s f (step_in p q h number s f) a b m l g.0 g.1 g.2 g.3.0 g.3.1
    ]
  where
    w : Await
    w = record { agent = a.agent; count = a.number }

-- dropping the implied awaits is such a reduction
pub thinned_reduced : (p q : Program) (number : ActionId → ℕ) → IsNumbering p number → IsThinned p q → IsReduced p q
thinned_reduced p q number s h = record {
  rest = h.rest;
  fewer = λ i n w c. ((h.awaits i n w).0 c).0;
  needed = λ i n w k c. needed i n w k c (implied-dec p number s (record { agent = i; number = n }) k w);
}
  where
    needed : (i n : ℕ) (w : Await) → IsAction p (record { agent = i; number = n }) → Contains (awaits_of p i n) w → Dec (IsImplied p (record { agent = i; number = n }) w) → Contains (awaits_of q i n) w ⊎ Reaches q (awaited w) (record { agent = i; number = n })
    needed i n w k c (no m) = inl ((h.awaits i n w).1 (c, m))
    needed i n w k c (yes (x, apart, d, r)) =
        let b : ActionId = record { agent = i; number = n } in
        inr (step_in p q h number s (number b) (awaited w) b (Reaches-first p (awaited w) x r) k (inr c) (omega arith))

-- what is left is not implied
pub thinned_again : (p q : Program) (number : ActionId → ℕ) → IsNumbering p number → IsThinned p q → IsThinned q q
thinned_again p q number s h = record {
  rest = record { agents = refl; starts = λ i. refl; goals = λ i. refl; steps = λ i. refl };
  awaits = λ i n w. ((λ c. (c, none i n w c)), (λ t. t.0));
}
  where
    less : IsReduced p q
    less = thinned_reduced p q number s h

    none : (i n : ℕ) (w : Await) → Contains (awaits_of q i n) w → IsImplied q (record { agent = i; number = n }) w → ⊥
    none i n w c (b, apart, d, r) =
        ((h.awaits i n w).0 c).1 (b, apart, need_back p q less (record { agent = i; number = n }) b d, reach_back p q less (awaited w) b r)

-- an action with an await is one of the program
pub awaiting_action : (p : Program) (i n : ℕ) (w : Await) → Contains (awaits_of p i n) w → IsAction p (record { agent = i; number = n })
awaiting_action p i zero w h = absurd (contains_none w h)
awaiting_action p i (suc n) w h =
    elim (cases_lt i (length p)) [
      | inl lt ↦ record { agent = lt; first = omega arith; last = within }
      | inr past ↦ absurd (contains_none w (subst (λ (o : Option AgentProgram). Contains (option_map_or (λ (s : Action). s.awaits) (slice_get (option_map_or (λ (a : AgentProgram). a.actions) o []) n) []) w) (slice_get_past p i past) h))
    ]
  where
    within : suc n ≤ moves p i
    within = elim (cases_lt n (moves p i)) [
      | inl lt ↦ omega arith
      | inr past ↦ absurd (contains_none w (subst (λ (o : Option Action). Contains (option_map_or (λ (s : Action). s.awaits) o []) w) (slice_get_past (actions_of p i) n past) h))
    ]

-- a chain to b ends with a step from another action
record LastOther (p : Program) (a b : ActionId) : Type 0 where
  before : ActionId
  other : before ≢ b
  reaches : Reaches p a before
  needs : DirectlyNeeds p b before

last_other : (p : Program) (a : ActionId) (cs : List ActionId) (b : ActionId) → ChainFrom p a cs b → (a ≡ b) ⊎ LastOther p a b
last_other p a [] b (k, e) = inl e
last_other p a (c ∷ cs) b (k, n, r) =
    elim (last_other p c cs b r) [
      | inl e ↦ (elim (action-dec a b) [
        | yes s ↦ inl s
        | no m ↦ inr (record { before = a; other = m; reaches = Reaches-refl p a k; needs = subst (λ x. DirectlyNeeds p x a) e n })
      ])
      | inr l ↦ inr (record { before = l.before; other = l.other; reaches = Reaches-trans p a c l.before (Reaches-need p a c k (chain_first p c cs b r) n) l.reaches; needs = l.needs })
    ]

-- no two actions reach each other
one_way : (p : Program) (number : ActionId → ℕ) → IsNumbering p number → (a b : ActionId) → a ≢ b → Reaches p a b → Reaches p b a → ⊥
one_way p number s a b apart (cs, there) (ds, back) =
    let up = chain_apart p number s a cs b there (λ e. apart (sym e)) in
    let down = chain_apart p number s b ds a back apart in
    omega (arith, up, down)

-- an action between the awaited one and the one that awaits it implies the await
between : (p : Program) (number : ActionId → ℕ) → IsNumbering p number → (a x : ActionId) (w : Await) → x ≢ awaited w → x ≢ a → Reaches p (awaited w) x → Reaches p x a → IsImplied p a w
between p number s a x w apart other there (cs, on) =
    elim (last_other p x cs a on) [
      | inl e ↦ absurd (other e)
      | inr l ↦ (
        l.before,
        (λ e. one_way p number s x (awaited w) apart (subst (Reaches p x) e l.reaches) there),
        l.needs,
        Reaches-trans p (awaited w) x l.before there l.reaches,
      )
    ]

pub thinned_least : (p q : Program) (number : ActionId → ℕ) → IsNumbering p number → AreInRange p → IsThinned p q → HasLeastAwaits p q
thinned_least p q number s range h r same i n w c =
    elim (last_other r (awaited w) there.0 a there.1) [
      | inl e ↦ absurd (is.other (ap (λ (x : ActionId). x.agent) e))
      | inr l ↦ (elim (action-dec l.before (awaited w)) [
        | yes e ↦ direct (subst (λ x. DirectlyNeeds r a x) e l.needs)
        | no apart ↦ absurd (own.1 (between p number s a l.before w apart l.other ((same.chains (awaited w) l.before).1 l.reaches) ((same.chains l.before a).1 (step l.before l.reaches l.needs))))
      ])
    ]
  where
    a : ActionId
    a = record { agent = i; number = n }

    own : Contains (awaits_of p i n) w × (IsImplied p a w → ⊥)
    own = (h.awaits i n w).0 c

    is : IsInRange p i w
    is = range i n w own.0

    there : Reaches r (awaited w) a
    there = (same.chains (awaited w) a).0 (Reaches-need p (awaited w) a (record { agent = is.agent; first = is.first; last = is.last }) (awaiting_action p i n w own.0) (inr own.0))

    step : (x : ActionId) → Reaches r (awaited w) x → DirectlyNeeds r a x → Reaches r x a
    step x reaches needs = Reaches-need r x a (Reaches-last r (awaited w) x reaches) (Reaches-last r (awaited w) a there) needs

    direct : DirectlyNeeds r a (awaited w) → Contains (awaits_of r i n) w
    direct (inl (e, g, f)) = absurd (is.other (sym e))
    direct (inr k) = k
