-- The rest of a program.
use Rattle.fleet_verify.proofs.Words.{◌≡◌, ℕ, zero, suc, ◌+◌, ◌-◌, ◌<◌, ◌≤◌, Bool, true, false, not, List, [], ◌∷◌, ◌++◌, length, map, get_or, drop, take, Option, Some, None, slice_get, Contains, IsTrue, refl, ap, sym, ◌∙◌, subst, arith, inl, inr, leb-true, leb-false, get_or-append-add, ◌==◌, option_map, filter, ◌⊎◌, option_map_or, list_any, range_with_len, cases_lt, get_or_append_left, length-map, length-map-range_with_len, get_or-map-range_with_len, slice_get_past, slice_get-map, slice_get_within, same_Some, Cell, Place, Await, Action, AgentProgram, Task, place_of, stepped, Program, origin, start_of, goal_of, actions_of, moves, awaits_of, path, walked, IsInRange, AreInRange, total_moves, IsCell, AreAwaits, IsWellFormed, Configuration, Holds, is_held, is_met, run, tick, place_at, count_at, is_finished, indices, IsReached, IsFinish, opening, ComesAfterByChain, IsRight, IsAcceptedBy, RunsWell, motion, tick_agree, HasVertexConflict, AwaitsFrom, any_begins, awaits_are, awaits_from, no_awaits, moves_more}
use Rattle.fleet_verify.specs.Rest.{StandOn, rest_await, rest_awaits, rest_action, rest_agent, rest, rest_tasks}
use Rattle.fleet_verify.proofs.Members.{contains_head, contains_later, contains_cases, contains_none, filter_has, filter_from, contains_map}
use Rattle.fleet_verify.proofs.UnderWay.{within_moves}
use Rattle.fleet_verify.proofs.RunCounts.{finished_all, unfinished_one, run_counts, run_place, count_opening, count_past, least_of}
use Rattle.fleet_verify.proofs.Exact.{accepted_runs, runs_accepted}
use Rattle.fleet_verify.proofs.Waiting.{IsReadyTo, Moves, StaysBehind, step}

-- ---- the parts of the rest

pub made_at : {X : Type 0} (f : ℕ → X) (a n i j : ℕ) → i < n → j ≡ a + i → slice_get (map f (range_with_len a n)) i ≡ Some (f j)
made_at f a zero i j h e = absurd (omega arith)
made_at f a (suc n) zero j h e = let g : a ≡ j = omega (arith, e) in ap (λ k. Some (f k)) g
made_at f a (suc n) (suc i) j h e = made_at f (a + 1) n i j (omega arith) (omega (arith, e))

nth_drop : {X : Type 0} (n : ℕ) (xs : List X) (k : ℕ) → slice_get (drop n xs) k ≡ slice_get xs (n + k)
nth_drop zero xs k = let e : k ≡ 0 + k = omega arith in ap (slice_get xs) e
nth_drop (suc n) [] k = refl
nth_drop (suc n) (x ∷ xs) k = let e : suc (n + k) ≡ suc n + k = omega arith in nth_drop n xs k ∙ ap (slice_get (x ∷ xs)) e

pub rest_long : (cells : ℕ → Cell) (p : Program) (c : Configuration) → length (rest cells p c) ≡ length p
rest_long cells p c = length-map-range_with_len (rest_agent cells p c) 0 (length p)

pub agent_at : (cells : ℕ → Cell) (p : Program) (c : Configuration) (i : ℕ) → i < length p → slice_get (rest cells p c) i ≡ Some (rest_agent cells p c i)
agent_at cells p c i h = made_at (rest_agent cells p c) 0 (length p) i i h (omega arith)

pub rest_start : (cells : ℕ → Cell) (p : Program) (c : Configuration) (i : ℕ) → i < length p → start_of (rest cells p c) i ≡ cells i
rest_start cells p c i h = ap (λ (o : Option AgentProgram). option_map_or (λ a. a.start) o origin) (agent_at cells p c i h)

pub rest_goal : (cells : ℕ → Cell) (p : Program) (c : Configuration) (i : ℕ) → i < length p → goal_of (rest cells p c) i ≡ goal_of p i
rest_goal cells p c i h = ap (λ (o : Option AgentProgram). option_map_or (λ a. a.goal) o origin) (agent_at cells p c i h)

rest_actions : (cells : ℕ → Cell) (p : Program) (c : Configuration) (i : ℕ) → i < length p → actions_of (rest cells p c) i ≡ map (rest_action c) (drop (count_at c i) (actions_of p i))
rest_actions cells p c i h = ap (λ (o : Option AgentProgram). option_map_or (λ a. a.actions) o []) (agent_at cells p c i h)

drop_long : {X : Type 0} (k : ℕ) (xs : List X) → length (drop k xs) ≡ length xs - k
drop_long zero xs = omega arith
drop_long (suc k) [] = omega arith
drop_long (suc k) (x ∷ xs) = omega (arith, drop_long k xs)

pub rest_moves : (cells : ℕ → Cell) (p : Program) (c : Configuration) (i : ℕ) → i < length p → moves (rest cells p c) i ≡ moves p i - count_at c i
rest_moves cells p c i h = ap length (rest_actions cells p c i h) ∙ (length-map (drop (count_at c i) (actions_of p i)) (rest_action c) ∙ drop_long (count_at c i) (actions_of p i))

pub rest_awaits_of : (cells : ℕ → Cell) (p : Program) (c : Configuration) (i n : ℕ) → i < length p → awaits_of (rest cells p c) i (suc n) ≡ rest_awaits c (awaits_of p i (suc (count_at c i + n)))
rest_awaits_of cells p c i n h =
    ap (λ (acts : List Action). option_map_or (λ a. a.awaits) (slice_get acts n) []) (rest_actions cells p c i h)
    ∙ (ap (λ (o : Option Action). option_map_or (λ a. a.awaits) o []) (slice_get-map (rest_action c) (drop (count_at c i) (actions_of p i)) n ∙ ap (option_map (rest_action c)) (nth_drop (count_at c i) (actions_of p i) n))
    ∙ through (slice_get (actions_of p i) (count_at c i + n)))
  where
    through : (o : Option Action) → option_map_or (λ a. a.awaits) (option_map (rest_action c) o) [] ≡ rest_awaits c (option_map_or (λ a. a.awaits) o [])
    through None = refl
    through (Some a) = refl

-- ---- paths

walked_on : (g : Action → Action) → ((a : Action) → (g a).step ≡ a.step) → (q : Place) (k n : ℕ) (acts : List Action) → walked (walked q (take k acts)) (take n (map g (drop k acts))) ≡ walked q (take (k + n) acts)
walked_on g same q (suc k) n [] = none n ∙ sym (none (suc k + n))
  where
    none : (n : ℕ) → walked q (take n []) ≡ q
    none zero = refl
    none (suc n) = refl
walked_on g same q (suc k) n (a ∷ acts) = walked_on g same (stepped q a.step) k n acts ∙ (let e : suc (k + n) ≡ suc k + n = omega arith in ap (λ m. walked q (take m (a ∷ acts))) e)
walked_on g same q zero n acts = all q n acts ∙ (let e : n ≡ 0 + n = omega arith in ap (λ m. walked q (take m acts)) e)
  where
    all : (q : Place) (n : ℕ) (acts : List Action) → walked q (take n (map g acts)) ≡ walked q (take n acts)
    all q zero acts = refl
    all q (suc n) [] = refl
    all q (suc n) (a ∷ acts) = ap (λ s. walked (stepped q s) (take n (map g acts))) (same a) ∙ all (stepped q a.step) n acts

-- the path of the rest is the rest of the path
rest_path : (cells : ℕ → Cell) (p : Program) (c : Configuration) (i n : ℕ) → i < length p → place_of (cells i) ≡ path p i (count_at c i) → path (rest cells p c) i n ≡ path p i (count_at c i + n)
rest_path cells p c i n h at =
    ap (λ (s : Cell). walked (place_of s) (take n (actions_of (rest cells p c) i))) (rest_start cells p c i h)
    ∙ (ap (λ (acts : List Action). walked (place_of (cells i)) (take n acts)) (rest_actions cells p c i h)
    ∙ (ap (λ (q : Place). walked q (take n (map (rest_action c) (drop (count_at c i) (actions_of p i))))) at
    ∙ walked_on (rest_action c) (λ a. refl) (place_of (start_of p i)) (count_at c i) n (actions_of p i)))

-- ---- awaits

mapped_from : {X Y : Type 0} (f : X → Y) (xs : List X) (y : Y) → Contains (map f xs) y → (x : X) × Contains xs x × (f x ≡ y)
mapped_from f [] y h = absurd (contains_none y h)
mapped_from f (x ∷ xs) y h = elim (contains_cases (f x) (map f xs) y h) [
  | inl e ↦ (x, contains_head x xs, e)
  | inr k ↦ let r = mapped_from f xs y k in (r.0, contains_later x xs r.0 r.1, r.2)
]

pub unmet : (c : Configuration) (v : Await) → not (is_met c v) ≡ true → count_at c v.agent < v.count
unmet c v e = go (is_met c v) refl e
  where
    go : (b : Bool) → is_met c v ≡ b → not b ≡ true → count_at c v.agent < v.count
    go true is e = absurd cc
    go false is e = leb-false _ _ is

pub rest_await_from : (c : Configuration) (ws : List Await) (w : Await) → Contains (rest_awaits c ws) w → (v : Await) × Contains ws v × (count_at c v.agent < v.count) × (rest_await c v ≡ w)
rest_await_from c ws w h =
    let r = mapped_from (rest_await c) (filter (λ v. not (is_met c v)) ws) w h in
    let f = filter_from (λ v. not (is_met c v)) ws r.0 r.1 in
    (r.0, f.0, unmet c r.0 f.1, r.2)

rest_await_has : (c : Configuration) (ws : List Await) (v : Await) → Contains ws v → (v.count ≤ count_at c v.agent) ⊎ Contains (rest_awaits c ws) (rest_await c v)
rest_await_has c ws v h = go (is_met c v) refl
  where
    go : (b : Bool) → is_met c v ≡ b → (v.count ≤ count_at c v.agent) ⊎ Contains (rest_awaits c ws) (rest_await c v)
    go true e = inl (leb-true _ _ e)
    go false e = inr (contains_map (rest_await c) (filter (λ v. not (is_met c v)) ws) v (filter_has (λ v. not (is_met c v)) ws v h (ap not e)))

-- ---- runs

-- in d the agents have finished acts many actions more than in c acts in e
abbrev Follows : Configuration → Configuration → Configuration → Type 0
Follows c d e = (i : ℕ) → count_at d i ≡ count_at c i + count_at e i

ready_rest : (cells : ℕ → Cell) (p : Program) (c d e : Configuration) → Follows c d e → (i : ℕ) → i < length p → IsReadyTo p d i → IsReadyTo (rest cells p c) e i
ready_rest cells p c d e f i h r = record {
  left = omega (arith, f i, rest_moves cells p c i h, r.left);
  met = λ w k.
      let a = rest_await_from c (awaits_of p i (suc (count_at c i + count_at e i))) w (subst (λ ws. Contains ws w) (rest_awaits_of cells p c i (count_at e i) h) k) in
      subst (λ (w : Await). w.count ≤ count_at e w.agent) a.3 (met a.0 a.2 (r.met a.0 (subst (λ m. Contains (awaits_of p i (suc m)) a.0) (sym (f i)) a.1)));
}
  where
    met : (v : Await) → count_at c v.agent < v.count → v.count ≤ count_at d v.agent → v.count - count_at c v.agent ≤ count_at e v.agent
    met v l u = omega (arith, f v.agent, l, u)

rest_ready : (cells : ℕ → Cell) (p : Program) (c d e : Configuration) → Follows c d e → (i : ℕ) → i < length p → IsReadyTo (rest cells p c) e i → IsReadyTo p d i
rest_ready cells p c d e f i h r = record {
  left = omega (arith, f i, rest_moves cells p c i h, r.left);
  met = λ v k. met v (rest_await_has c (awaits_of p i (suc (count_at c i + count_at e i))) v (subst (λ m. Contains (awaits_of p i (suc m)) v) (f i) k));
}
  where
    met : (v : Await) → (v.count ≤ count_at c v.agent) ⊎ Contains (rest_awaits c (awaits_of p i (suc (count_at c i + count_at e i)))) (rest_await c v) → v.count ≤ count_at d v.agent
    met v (inl l) = omega (arith, f v.agent, l)
    met v (inr k) =
        let l = r.met (rest_await c v) (subst (λ ws. Contains ws (rest_await c v)) (sym (rest_awaits_of cells p c i (count_at e i) h)) k) in
        omega (arith, f v.agent, l)

tick_follows : (cells : ℕ → Cell) (p : Program) (c : Configuration) (j k : Holds) (x t i : ℕ) → i < length p → is_held j x i ≡ is_held k t i
    → Follows c (run p j x) (run (rest cells p c) k t) → count_at (run p j (suc x)) i ≡ count_at c i + count_at (run (rest cells p c) k (suc t)) i
tick_follows cells p c j k x t i h same f = go (step p j x i h) (step (rest cells p c) k t i (omega (arith, rest_long cells p c, h)))
  where
    go : Moves p (is_held j x) (run p j x) (run p j (suc x)) i ⊎ StaysBehind p (is_held j x) (run p j x) (run p j (suc x)) i
        → Moves (rest cells p c) (is_held k t) (run (rest cells p c) k t) (run (rest cells p c) k (suc t)) i ⊎ StaysBehind (rest cells p c) (is_held k t) (run (rest cells p c) k t) (run (rest cells p c) k (suc t)) i
        → count_at (run p j (suc x)) i ≡ count_at c i + count_at (run (rest cells p c) k (suc t)) i
    go (inl m) (inl n) = omega (arith, f i, m.count, n.count)
    go (inr m) (inr n) = omega (arith, f i, m.count, n.count)
    go (inl m) (inr n) = absurd (let a = n.why (ready_rest cells p c (run p j x) (run (rest cells p c) k t) f i h m.ready) in let b = m.free in cc)
    go (inr m) (inl n) = absurd (let a = m.why (rest_ready cells p c (run p j x) (run (rest cells p c) k t) f i h n.ready) in let b = n.free in cc)

follows : (cells : ℕ → Cell) (p : Program) (j k : Holds) (x : ℕ) → ((t i : ℕ) → is_held j (x + t) i ≡ is_held k t i)
    → (t : ℕ) → Follows (run p j x) (run p j (x + t)) (run (rest cells p (run p j x)) k t)
follows cells p j k x same zero i =
    let e : x + 0 ≡ x = omega arith in
    ap (λ m. count_at (run p j m) i) e ∙ omega (arith, count_opening (rest cells p (run p j x)) k i)
follows cells p j k x same (suc t) i =
    let e : x + suc t ≡ suc (x + t) = omega arith in
    ap (λ m. count_at (run p j m) i) e ∙ elim (cases_lt i (length p)) [
      | inl h ↦ tick_follows cells p (run p j x) j k (x + t) t i h (same t i) (follows cells p j k x same t)
      | inr h ↦ omega (arith, count_past p j (suc (x + t)) i h, count_past p j x i h, count_past (rest cells p (run p j x)) k (suc t) i (omega (arith, rest_long cells p (run p j x), h)))
    ]

stand : (cells : ℕ → Cell) (p : Program) (j : Holds) (x : ℕ) → StandOn p (run p j x) cells → (i : ℕ) → i < length p → place_of (cells i) ≡ path p i (count_at (run p j x) i)
stand cells p j x at i h = at i h ∙ run_place p j x i h

places_follow : (cells : ℕ → Cell) (p : Program) (j k : Holds) (x : ℕ) → ((t i : ℕ) → is_held j (x + t) i ≡ is_held k t i) → StandOn p (run p j x) cells
    → (t i : ℕ) → i < length p → place_at (run p j (x + t)) i ≡ place_at (run (rest cells p (run p j x)) k t) i
places_follow cells p j k x same at t i h =
    let r : Program = rest cells p (run p j x) in
    run_place p j (x + t) i h
    ∙ (ap (path p i) (follows cells p j k x same t i)
    ∙ (sym (rest_path cells p (run p j x) i (count_at (run r k t) i) h (stand cells p j x at i h))
    ∙ sym (run_place r k t i (omega (arith, rest_long cells p (run p j x), h)))))

dropped : (x : ℕ) (holds : Holds) (t i : ℕ) → is_held holds (x + t) i ≡ is_held (drop x holds) t i
dropped x holds t i = ap (λ (xs : List ℕ). list_any (λ j. j == i) xs) (later x holds)
  where
    later : (x : ℕ) (holds : Holds) → get_or holds (x + t) [] ≡ get_or (drop x holds) t []
    later zero holds = let e : 0 + t ≡ t = omega arith in ap (λ m. get_or holds m []) e
    later (suc x) [] = let e : suc x + t ≡ suc (x + t) = omega arith in ap (λ m. get_or [] m []) e
    later (suc x) (h ∷ holds) = let e : suc x + t ≡ suc (x + t) = omega arith in ap (λ m. get_or (h ∷ holds) m []) e ∙ later x holds

pub runs_on : (p : Program) (holds : Holds) (x : ℕ) (cells : ℕ → Cell) → StandOn p (run p holds x) cells → (t i : ℕ) → i < length p
    → (place_at (run p holds (x + t)) i ≡ place_at (run (rest cells p (run p holds x)) (drop x holds) t) i)
    × (count_at (run p holds (x + t)) i ≡ count_at (run p holds x) i + count_at (run (rest cells p (run p holds x)) (drop x holds) t) i)
runs_on p holds x cells at t i h = (places_follow cells p holds (drop x holds) x (dropped x holds) at t i h, follows cells p holds (drop x holds) x (dropped x holds) t i)

-- ---- acceptance

run_agree : (p : Program) (holds holds' : Holds) (t : ℕ) → ((s i : ℕ) → s < t → is_held holds s i ≡ is_held holds' s i) → run p holds t ≡ run p holds' t
run_agree p holds holds' zero h = refl
run_agree p holds holds' (suc t) h =
    ap (tick p (is_held holds t)) (run_agree p holds holds' t (λ s i l. h s i (omega arith)))
    ∙ tick_agree p (is_held holds t) (is_held holds' t) (run p holds' t) (λ i k. h t i (omega arith))

-- the first x ticks as in the first list of holds, and then the second
abbrev joined : Holds → ℕ → Holds → Holds
joined holds x more = map (λ s. get_or holds s []) (indices x) ++ more

joined_before : (holds : Holds) (x : ℕ) (more : Holds) (s i : ℕ) → s < x → is_held (joined holds x more) s i ≡ is_held holds s i
joined_before holds x more s i h =
    let f : ℕ → List ℕ = λ s. get_or holds s [] in
    ap (λ (xs : List ℕ). list_any (λ j. j == i) xs)
    (get_or_append_left (map f (indices x)) more [] s (omega (arith, length-map-range_with_len f 0 x))
    ∙ get_or-map-range_with_len f 0 x s s [] h (omega arith))

joined_after : (holds : Holds) (x : ℕ) (more : Holds) (t i : ℕ) → is_held (joined holds x more) (x + t) i ≡ is_held more t i
joined_after holds x more t i =
    let front : List (List ℕ) = map (λ s. get_or holds s []) (indices x) in
    let e : length front + t ≡ x + t = omega (arith, length-map-range_with_len (λ s. get_or holds s []) 0 x) in
    ap (λ (xs : List ℕ). list_any (λ j. j == i) xs) (ap (λ (m : ℕ). get_or (front ++ more) m []) (sym e) ∙ get_or-append-add front more t [])

grown : (p : Program) (holds : Holds) (f i n : ℕ) → count_at (run p holds f) i ≤ count_at (run p holds (n + f)) i
grown p holds f i zero = let e : f ≡ 0 + f = omega arith in subst (λ m. count_at (run p holds f) i ≤ count_at (run p holds m) i) e (omega arith)
grown p holds f i (suc n) =
    let e : suc (n + f) ≡ suc n + f = omega arith in
    subst (λ m. count_at (run p holds f) i ≤ count_at (run p holds m) i) e (elim ((run_counts p holds).step (n + f) i) [
      | inl s ↦ omega (arith, grown p holds f i n, s)
      | inr s ↦ omega (arith, grown p holds f i n, s.1)
    ])

rest_in_range : (cells : ℕ → Cell) (p : Program) (c : Configuration) → AreInRange p → AreInRange (rest cells p c)
rest_in_range cells p c ok i zero w h = absurd (contains_none w h)
rest_in_range cells p c ok i (suc n) w h = elim (cases_lt i (length p)) [
  | inl l ↦
      let r = rest_await_from c (awaits_of p i (suc (count_at c i + n))) w (subst (λ ws. Contains ws w) (rest_awaits_of cells p c i n l) h) in
      subst (IsInRange (rest cells p c) i) r.3 (one r.0 r.2 (ok i (suc (count_at c i + n)) r.0 r.1))
  | inr l ↦ absurd (contains_none w (subst (λ ws. Contains ws w) (none l) h))
]
  where
    one : (v : Await) → count_at c v.agent < v.count → IsInRange p i v → IsInRange (rest cells p c) i (rest_await c v)
    one v l r = record {
      agent = omega (arith, r.agent, rest_long cells p c);
      other = r.other;
      first = omega (arith, l);
      last = omega (arith, r.last, rest_moves cells p c v.agent r.agent);
    }

    none : length p ≤ i → awaits_of (rest cells p c) i (suc n) ≡ []
    none l =
        let past : slice_get (rest cells p c) i ≡ None = slice_get_past (rest cells p c) i (omega (arith, rest_long cells p c, l)) in
        ap (λ (o : Option AgentProgram). option_map_or (λ a. a.awaits) (slice_get (option_map_or (λ a. a.actions) o []) n) []) past

rest_right : (passable : Place → Bool) (tasks : List Task) (p : Program) → IsRight passable tasks p → (c : Configuration) → ((i : ℕ) → count_at c i ≤ moves p i)
    → (cells : ℕ → Cell) → ((i : ℕ) → i < length p → place_of (cells i) ≡ path p i (count_at c i)) → IsRight passable (rest_tasks cells p) (rest cells p c)
rest_right passable tasks p ok c within cells at = record {
  for_tasks = record {
    agents = rest_long cells p c ∙ sym (length-map-range_with_len task 0 (length p));
    ends = λ i t e.
        let h : i < length p = omega (arith, slice_get_within (rest_tasks cells p) i t e, length-map-range_with_len task 0 (length p)) in
        let s : task i ≡ t = same_Some (task i) t (sym (made_at task 0 (length p) i i h (omega arith)) ∙ e) in
        (rest_start cells p c i h ∙ ap (λ (t : Task). t.start) s, rest_goal cells p c i h ∙ ap (λ (t : Task). t.goal) s);
  };
  on_ground = λ i n l m.
      let h : i < length p = omega (arith, l, rest_long cells p c) in
      subst (λ (q : Place). IsTrue (passable q)) (sym (rest_path cells p c i n h (at i h))) (ok.on_ground i (count_at c i + n) h (omega (arith, m, rest_moves cells p c i h, within i)));
  arrives = λ i l.
      let h : i < length p = omega (arith, l, rest_long cells p c) in
      let e : count_at c i + moves (rest cells p c) i ≡ moves p i = omega (arith, rest_moves cells p c i h, within i) in
      rest_path cells p c i (moves (rest cells p c) i) h (at i h) ∙ (ap (path p i) e ∙ (ok.arrives i h ∙ ap place_of (sym (rest_goal cells p c i h))));
  in_range = rest_in_range cells p c ok.in_range;
}
  where
    task : ℕ → Task
    task i = record { start = cells i; goal = goal_of p i }

rest_apart : (p : Program) → RunsWell p → (cells : ℕ → Cell) (j k : Holds) (x : ℕ) → ((t i : ℕ) → is_held j (x + t) i ≡ is_held k t i) → StandOn p (run p j x) cells
    → (t a b : ℕ) → a < length p → b < length p → HasVertexConflict (motion (rest cells p (run p j x)) k) t a b → ⊥
rest_apart p well cells j k x same at t a b ha hb v =
    well.apart j (x + t) a b ha hb (record { apart = v.apart; same = places_follow cells p j k x same at t a ha ∙ (v.same ∙ sym (places_follow cells p j k x same at t b hb)) })

rest_finishes : (p : Program) → RunsWell p → (cells : ℕ → Cell) (j k : Holds) (x : ℕ) → ((t i : ℕ) → is_held j (x + t) i ≡ is_held k t i)
    → (f : ℕ) × IsFinish (rest cells p (run p j x)) k f
rest_finishes p well cells j k x same = least_of (λ t. is_finished (rest cells p (run p j x)) (run (rest cells p (run p j x)) k t)) (well.finishes j).0 (go (is_finished (rest cells p (run p j x)) (run (rest cells p (run p j x)) k (well.finishes j).0)) refl)
  where
    go : (b : Bool) → is_finished (rest cells p (run p j x)) (run (rest cells p (run p j x)) k (well.finishes j).0) ≡ b → is_finished (rest cells p (run p j x)) (run (rest cells p (run p j x)) k (well.finishes j).0) ≡ true
    go true e = e
    go false e =
        let f : ℕ = (well.finishes j).0 in
        let u = unfinished_one (rest cells p (run p j x)) (run (rest cells p (run p j x)) k f) e in
        let h : u.0 < length p = omega (arith, u.1, rest_long cells p (run p j x)) in
        absurd (omega (arith, u.2, rest_moves cells p (run p j x) u.0 h, follows cells p j k x same f u.0, grown p j f u.0 x, finished_all p (run p j f) (well.finishes j).1.holds u.0 h))

rest_well : (p : Program) → RunsWell p → (holds : Holds) (x : ℕ) (cells : ℕ → Cell) → StandOn p (run p holds x) cells → RunsWell (rest cells p (run p holds x))
rest_well p well holds x cells at = record {
  apart = λ k t a b ha hb.
      subst (λ (c : Configuration). HasVertexConflict (motion (rest cells p c) k) t a b → ⊥) (before k)
      (rest_apart p well cells (joined holds x k) k x (joined_after holds x k) (subst (λ (c : Configuration). StandOn p c cells) (sym (before k)) at) t a b (omega (arith, ha, rest_long cells p (run p holds x))) (omega (arith, hb, rest_long cells p (run p holds x))));
  finishes = λ k.
      subst (λ (c : Configuration). (f : ℕ) × IsFinish (rest cells p c) k f) (before k)
      (rest_finishes p well cells (joined holds x k) k x (joined_after holds x k));
}
  where
    before : (k : Holds) → run p (joined holds x k) x ≡ run p holds x
    before k = run_agree p (joined holds x k) holds x (λ s i h. joined_before holds x k s i h)

pub rest_accepted : (passable : Place → Bool) (tasks : List Task) (p : Program) → IsAcceptedBy ComesAfterByChain passable tasks p → (c : Configuration) → IsReached p c
    → (cells : ℕ → Cell) → StandOn p c cells → IsAcceptedBy ComesAfterByChain passable (rest_tasks cells p) (rest cells p c)
rest_accepted passable tasks p ok c r cells at =
    subst (λ (c : Configuration). StandOn p c cells → IsAcceptedBy ComesAfterByChain passable (rest_tasks cells p) (rest cells p c)) r.same go at
  where
    go : StandOn p (run p r.holds r.ticks) cells → IsAcceptedBy ComesAfterByChain passable (rest_tasks cells p) (rest cells p (run p r.holds r.ticks))
    go at = runs_accepted passable (rest_tasks cells p) (rest cells p (run p r.holds r.ticks))
        (rest_right passable tasks p ok.right (run p r.holds r.ticks) (within_moves p (run p r.holds r.ticks) (record { holds = r.holds; ticks = r.ticks; same = refl })) cells (stand cells p r.holds r.ticks at))
        (rest_well p (accepted_runs passable tasks p ok) r.holds r.ticks cells at)

-- ---- the awaits of one action

sooner : (n i least more : ℕ) (ws : List Await) → least ≤ more → AwaitsFrom n i more ws → AwaitsFrom n i least ws
sooner n i least more [] le h = tt
sooner n i least more (w ∷ ws) le h = (record { above = omega (arith, h.0.above, le); agent = h.0.agent; other = h.0.other; count = h.0.count; few = h.0.few }, h.1)

left : (c : Configuration) (n i least : ℕ) (ws : List Await) → AwaitsFrom n i least ws → AwaitsFrom n i least (rest_awaits c ws)
left c n i least [] h = tt
left c n i least (w ∷ ws) h = go (not (is_met c w)) refl (left c n i (w.agent + 1) ws h.1)
  where
    go : (b : Bool) → not (is_met c w) ≡ b → AwaitsFrom n i (w.agent + 1) (rest_awaits c ws) → AwaitsFrom n i least (rest_awaits c (w ∷ ws))
    go true e more =
        let l = unmet c w e in
        rw e (record { above = h.0.above; agent = h.0.agent; other = h.0.other; count = omega (arith, l); few = omega (arith, h.0.few) }, more)
    go false e more = rw e (sooner n i least (w.agent + 1) (rest_awaits c ws) (omega (arith, h.0.above)) more)

awaits_left : (c : Configuration) (n i : ℕ) (ws : List Await) → AreAwaits n i ws → AreAwaits n i (rest_awaits c ws)
awaits_left c n i ws h = awaits_are n i 0 (rest_awaits c ws) (left c n i 0 ws (awaits_from n i 0 ws (any_begins ws) h))

-- ---- what is not there

past : (cells : ℕ → Cell) (p : Program) (c : Configuration) (i : ℕ) → length p ≤ i → slice_get (rest cells p c) i ≡ None
past cells p c i l = slice_get_past (rest cells p c) i (omega (arith, rest_long cells p c, l))

fewer : (cells : ℕ → Cell) (p : Program) (c : Configuration) (i : ℕ) → moves (rest cells p c) i ≤ moves p i
fewer cells p c i = elim (cases_lt i (length p)) [
  | inl h ↦ omega (arith, rest_moves cells p c i h)
  | inr h ↦ (let e : moves (rest cells p c) i ≡ 0 = ap (λ (o : Option AgentProgram). length (option_map_or (λ a. a.actions) o [])) (past cells p c i h) in omega (arith, e))
]

all_taken : {X : Type 0} (xs : List X) → take (length xs) xs ≡ xs
all_taken [] = refl
all_taken (x ∷ xs) = ap (λ ys. x ∷ ys) (all_taken xs)

no_more : (p r : Program) → ((i : ℕ) → moves r i ≤ moves p i) → (n : ℕ) → total_moves (take n r) ≤ total_moves (take n p)
no_more p r h zero = omega arith
no_more p r h (suc n) =
    let e : n + 1 ≡ suc n = omega arith in
    subst (λ m. total_moves (take m r) ≤ total_moves (take m p)) e (omega (arith, moves_more p n, moves_more r n, no_more p r h n, h n))

total_fewer : (cells : ℕ → Cell) (p : Program) (c : Configuration) → total_moves (rest cells p c) ≤ total_moves p
total_fewer cells p c =
    let a : take (length p) (rest cells p c) ≡ rest cells p c = subst (λ m. take m (rest cells p c) ≡ rest cells p c) (rest_long cells p c) (all_taken (rest cells p c)) in
    let b = no_more p (rest cells p c) (fewer cells p c) (length p) in
    let b' = subst (λ r. total_moves r ≤ total_moves (take (length p) p)) a b in
    subst (λ q. total_moves (rest cells p c) ≤ total_moves q) (all_taken p) b'

origin_is_cell : IsCell origin
origin_is_cell = record { x = omega arith; y = omega arith }

pub rest_formed : (p : Program) → IsWellFormed p → (c : Configuration) (cells : ℕ → Cell) → ((i : ℕ) → i < length p → IsCell (cells i)) → IsWellFormed (rest cells p c)
rest_formed p wf c cells are = record {
  some_agents = omega (arith, wf.some_agents, rest_long cells p c);
  few_agents = omega (arith, wf.few_agents, rest_long cells p c);
  starts = λ i. elim (cases_lt i (length p)) [
    | inl h ↦ subst IsCell (sym (rest_start cells p c i h)) (are i h)
    | inr h ↦ subst IsCell (sym (ap (λ (o : Option AgentProgram). option_map_or (λ a. a.start) o origin) (past cells p c i h))) origin_is_cell
  ];
  goals = λ i. elim (cases_lt i (length p)) [
    | inl h ↦ subst IsCell (sym (rest_goal cells p c i h)) (wf.goals i)
    | inr h ↦ subst IsCell (sym (ap (λ (o : Option AgentProgram). option_map_or (λ a. a.goal) o origin) (past cells p c i h))) origin_is_cell
  ];
  moves_each = λ i. omega (arith, fewer cells p c i, wf.moves_each i);
  moves_in_all = omega (arith, total_fewer cells p c, wf.moves_in_all);
  awaits = λ i n. subst (λ m. AreAwaits m i (awaits_of (rest cells p c) i n)) (sym (rest_long cells p c)) (awaits i n);
}
  where
    awaits : (i n : ℕ) → AreAwaits (length p) i (awaits_of (rest cells p c) i n)
    awaits i zero = no_awaits (length p) i
    awaits i (suc n) = elim (cases_lt i (length p)) [
      | inl h ↦ subst (AreAwaits (length p) i) (sym (rest_awaits_of cells p c i n h)) (awaits_left c (length p) i (awaits_of p i (suc (count_at c i + n))) (wf.awaits i (suc (count_at c i + n))))
      | inr h ↦ subst (AreAwaits (length p) i) (sym (ap (λ (o : Option AgentProgram). option_map_or (λ a. a.awaits) (slice_get (option_map_or (λ a. a.actions) o []) n) []) (past cells p c i h))) (no_awaits (length p) i)
    ]

rebuilt : {X : Type 0} (f : ℕ → X) (a : ℕ) (xs : List X) → ((i : ℕ) (x : X) → slice_get xs i ≡ Some x → f (a + i) ≡ x) → map f (range_with_len a (length xs)) ≡ xs
rebuilt f a [] h = refl
rebuilt f a (x ∷ xs) h =
    let e : a ≡ a + 0 = omega arith in
    cc (ap f e ∙ h 0 x refl, rebuilt f (a + 1) xs (λ i y s. (let g : a + 1 + i ≡ a + suc i = omega arith in ap f g ∙ h (suc i) y s)))

awaits_whole : (c : Configuration) → ((i : ℕ) → count_at c i ≡ 0) → (ws : List Await) → ((w : Await) → Contains ws w → 1 ≤ w.count) → rest_awaits c ws ≡ ws
awaits_whole c none [] h = refl
awaits_whole c none (w ∷ ws) h = go (is_met c w) refl (awaits_whole c none ws (λ v k. h v (contains_later w ws v k)))
  where
    count : w.count - count_at c w.agent ≡ w.count
    count = omega (arith, none w.agent)

    same : rest_await c w ≡ w
    same = λ k. record { agent = w.agent; count = count k }

    go : (b : Bool) → is_met c w ≡ b → rest_awaits c ws ≡ ws → rest_awaits c (w ∷ ws) ≡ w ∷ ws
    go true e more = absurd (omega (arith, leb-true _ _ e, none w.agent, h w (contains_head w ws)))
    go false e more = rw e (cc (same, more))

actions_whole : (c : Configuration) (acts : List Action) → ((n : ℕ) → rest_awaits c (option_map_or (λ a. a.awaits) (slice_get acts n) []) ≡ option_map_or (λ a. a.awaits) (slice_get acts n) []) → map (rest_action c) acts ≡ acts
actions_whole c [] h = refl
actions_whole c (a ∷ acts) h = cc (same, actions_whole c acts (λ n. h (suc n)))
  where
    same : rest_action c a ≡ a
    same = λ k. record { step = a.step; awaits = h 0 k }

pub rest_whole : (p : Program) → AreInRange p → rest (start_of p) p (opening p) ≡ p
rest_whole p ok = rebuilt (rest_agent (start_of p) p (opening p)) 0 p agent
  where
    none : (i : ℕ) → count_at (opening p) i ≡ 0
    none i = count_opening p [] i

    acts : (i : ℕ) → map (rest_action (opening p)) (drop (count_at (opening p) i) (actions_of p i)) ≡ actions_of p i
    acts i =
        ap (λ n. map (rest_action (opening p)) (drop n (actions_of p i))) (none i)
        ∙ actions_whole (opening p) (actions_of p i) (λ n. awaits_whole (opening p) none (awaits_of p i (suc n)) (λ w k. (ok i (suc n) w k).first))

    agent : (i : ℕ) (a : AgentProgram) → slice_get p i ≡ Some a → rest_agent (start_of p) p (opening p) (0 + i) ≡ a
    agent i a e =
        let z : 0 + i ≡ i = omega arith in
        ap (rest_agent (start_of p) p (opening p)) z ∙ at
      where
        start : start_of p i ≡ a.start
        start = ap (λ (o : Option AgentProgram). option_map_or (λ a. a.start) o origin) e

        goal : goal_of p i ≡ a.goal
        goal = ap (λ (o : Option AgentProgram). option_map_or (λ a. a.goal) o origin) e

        actions : map (rest_action (opening p)) (drop (count_at (opening p) i) (actions_of p i)) ≡ a.actions
        actions = acts i ∙ ap (λ (o : Option AgentProgram). option_map_or (λ a. a.actions) o []) e

        at : rest_agent (start_of p) p (opening p) i ≡ a
        at = λ k. record { start = start k; goal = goal k; actions = actions k }
