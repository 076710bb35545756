-- Runs by counts of finished actions: what is finished before what, how runs end, and from how far an action is
-- reached.
use Rattle.fleet_verify.proofs.Words.{◌≡◌, ℕ, zero, suc, ◌+◌, ◌<◌, ◌≤◌, Bool, true, false, not, ◌&&◌, length, Contains, refl, ap, sym, ◌∙◌, inl, inr, ◌⊎◌, List, [], ◌∷◌, get_or, nat_le, arith, leb-true, leb-false, subst, cond, ◌||◌, sum_by, IsTrue, ◌++◌, map, filter, ◌==◌, eqb-true, get_or-append-add, cases_lt, and_right, cases_Bool, cond-true, cond-false, cases_eq, Place, Await, stepped, Program, moves, awaits_of, path, AreInRange, total_moves, Standing, Configuration, standing_at, place_at, count_at, is_ready, tick, Holds, is_held, run, is_ready_held, held_ticks, indices, is_finished, IsLeast, IsFinish, is_stuck, is_over, opening, IsReached, ready_left, ready_met, unready_waits, standing_at_tick, standing_at_past, standing_at_opening, free_moves, other_stays, path_more, fails_at, tick_agree, list_any, range_with_len, get_or_past, get_or_append_left, length-range_with_len, get_or-range_with_len, length-map-range_with_len, get_or-map-range_with_len, list_any_at, Any-from_list_any, AllPass-from_list_all, sum_by-cons, sum_by-le-sum_by, ActionId, DirectlyNeeds, ChainFrom, IsAction, EndsChain, IsLongestChain, IsNumbering, chain_first, ends_long, ends_within, ends_action, ends_one, ends_more, numbers_bound, longest_is_one, motion, IsSafe, IsSafeStep, AgentProgram, nat_tests}
use Rattle.fleet_needs.specs.Rows.{IsColumn}
use Rattle.fleet_verify.specs.Reach.{IsGreatest}

-- ---- counts of finished actions, and ticks in which somebody is held

-- what the proofs know of a run: the counts of the agents in time, and which agents are ready
pub record AreCountsInTime (p : Program) (held ready : ℕ → ℕ → Bool) (count : ℕ → ℕ → ℕ) : Type 0 where
  pub start : (i : ℕ) → count 0 i ≡ 0
  -- a tick leaves the count of an agent or raises it by one, which it does only where the agent is ready
  pub step : (t i : ℕ) → (count (suc t) i ≡ count t i) ⊎ ((ready t i ≡ true) × (count (suc t) i ≡ count t i + 1))
  pub free : (t i : ℕ) → i < length p → ready t i ≡ true → held t i ≡ false → count (suc t) i ≡ count t i + 1
  pub left : (t i : ℕ) → ready t i ≡ true → count t i < moves p i
  pub met : (t i : ℕ) (w : Await) → ready t i ≡ true → Contains (awaits_of p i (suc (count t i))) w → w.count ≤ count t w.agent
  pub waits : (t i : ℕ) → ready t i ≡ false → count t i < moves p i → (w : Await) × Contains (awaits_of p i (suc (count t i))) w × (count t w.agent < w.count)

abbrev pub counts : Program → Holds → ℕ → ℕ → ℕ
counts p holds t i = count_at (run p holds t) i

abbrev pub readies : Program → Holds → ℕ → ℕ → Bool
readies p holds t i = is_ready p (run p holds t) i

-- n is m, or the next number if r is true
abbrev pub RisesIf : Bool → ℕ → ℕ → Type 0
RisesIf r m n = (n ≡ m) ⊎ ((r ≡ true) × (n ≡ m + 1))

pub tick_free : (p : Program) (held : ℕ → Bool) (c : Configuration) (i : ℕ) → i < length p → is_ready p c i ≡ true → held i ≡ false
    → count_at (tick p held c) i ≡ count_at c i + 1
tick_free p held c i h e f =
    let r = free_moves p held c i e f in
    ap (λ (s : Standing). s.count) (standing_at_tick p held c i h ∙ r.2)

pub tick_stays : (p : Program) (held : ℕ → Bool) (c : Configuration) (i : ℕ) → i < length p → (is_ready p c i && not (held i)) ≡ false
    → standing_at (tick p held c) i ≡ standing_at c i
tick_stays p held c i h e = standing_at_tick p held c i h ∙ other_stays p held c i e

tick_step : (p : Program) (held : ℕ → Bool) (c : Configuration) (i : ℕ) → i < length p → RisesIf (is_ready p c i) (count_at c i) (count_at (tick p held c) i)
tick_step p held c i h = go (is_ready p c i) (held i) refl refl
  where
    go : (r b : Bool) → is_ready p c i ≡ r → held i ≡ b → RisesIf (is_ready p c i) (count_at c i) (count_at (tick p held c) i)
    go true false e f = inr (e, tick_free p held c i h e f)
    go true true e f = inl (ap (λ (s : Standing). s.count) (tick_stays p held c i h (rw (e, f))))
    go false b e f = inl (ap (λ (s : Standing). s.count) (tick_stays p held c i h (rw e)))

pub count_opening : (p : Program) (holds : Holds) (i : ℕ) → count_at (run p holds 0) i ≡ 0
count_opening p holds i = ap (λ (s : Standing). s.count) (standing_at_opening p i)

pub count_past : (p : Program) (holds : Holds) (t i : ℕ) → length p ≤ i → count_at (run p holds t) i ≡ 0
count_past p holds zero i h = count_opening p holds i
count_past p holds (suc t) i h = standing_at_past p (is_held holds t) (run p holds t) i h

pub run_counts : (p : Program) (holds : Holds) → AreCountsInTime p (is_held holds) (readies p holds) (counts p holds)
run_counts p holds = record {
  start = λ i. count_opening p holds i;
  step = λ t i. elim (cases_lt i (length p)) [
    | inl h ↦ tick_step p (is_held holds t) (run p holds t) i h
    | inr h ↦ inl (count_past p holds (suc t) i h ∙ sym (count_past p holds t i h))
  ];
  free = λ t i h e f. tick_free p (is_held holds t) (run p holds t) i h e f;
  left = λ t i e. ready_left p (run p holds t) i e;
  met = λ t i w e h. ready_met p (run p holds t) i w e h;
  waits = λ t i e h. unready_waits p (run p holds t) i e h;
}

-- ---- places

pub run_place : (p : Program) (holds : Holds) (t i : ℕ) → i < length p → place_at (run p holds t) i ≡ path p i (count_at (run p holds t) i)
run_place p holds zero i h =
    let at = standing_at_opening p i in
    ap (λ (s : Standing). s.place) at ∙ sym (ap (λ (s : Standing). path p i s.count) at)
run_place p holds (suc t) i h = go (is_ready p (run p holds t) i) (is_held holds t i) refl refl (run_place p holds t i h)
  where
    go : (r b : Bool) → is_ready p (run p holds t) i ≡ r → is_held holds t i ≡ b → place_at (run p holds t) i ≡ path p i (count_at (run p holds t) i)
        → place_at (tick p (is_held holds t) (run p holds t)) i ≡ path p i (count_at (tick p (is_held holds t) (run p holds t)) i)
    go true false e f before =
        let r = free_moves p (is_held holds t) (run p holds t) i e f in
        let at = standing_at_tick p (is_held holds t) (run p holds t) i h ∙ r.2 in
        ap (λ (s : Standing). s.place) at ∙ (ap (λ (q : Place). stepped q r.0.step) before ∙ (sym (path_more p i (count_at (run p holds t) i) r.0 r.1) ∙ sym (ap (λ (s : Standing). path p i s.count) at)))
    go true true e f before = let at = tick_stays p (is_held holds t) (run p holds t) i h (rw (e, f)) in
        ap (λ (s : Standing). s.place) at ∙ (before ∙ sym (ap (λ (s : Standing). path p i s.count) at))
    go false b e f before = let at = tick_stays p (is_held holds t) (run p holds t) i h (rw e) in
        ap (λ (s : Standing). s.place) at ∙ (before ∙ sym (ap (λ (s : Standing). path p i s.count) at))

-- what the proofs know of the number of ticks in which a ready agent was held
pub record AreHeldTicks (n : ℕ) (held ready : ℕ → ℕ → Bool) (ticks : ℕ → ℕ) : Type 0 where
  pub start : ticks 0 ≡ 0
  pub step : (t : ℕ) → (ticks (suc t) ≡ ticks t + 1) ⊎ ((ticks (suc t) ≡ ticks t) × ((i : ℕ) → i < n → ready t i ≡ true → held t i ≡ false))

-- a test that no agent below n passes
pub any_below : (f : ℕ → Bool) (n i : ℕ) → i < n → list_any f (indices n) ≡ false → f i ≡ false
any_below f n i h e = go (f i) refl
  where
    go : (b : Bool) → f i ≡ b → f i ≡ false
    go false is = is
    go true is =
        let at : get_or (indices n) i 0 ≡ i = get_or-range_with_len 0 n i 0 h ∙ omega arith in
        let yes : list_any f (indices n) ≡ true = list_any_at f (indices n) i 0 (omega (arith, length-range_with_len 0 n)) (ap f at ∙ is) in
        absurd (cc (e, yes))

pub run_held : (p : Program) (holds : Holds) → AreHeldTicks (length p) (is_held holds) (readies p holds) (held_ticks p holds)
run_held p holds = record { start = refl; step = λ t. go t (is_ready_held p (is_held holds t) (run p holds t)) refl }
  where
    no : (a b : Bool) → (a && b) ≡ false → a ≡ true → b ≡ false
    no true b e f = e
    no false b e f = absurd cc

    go : (t : ℕ) (b : Bool) → is_ready_held p (is_held holds t) (run p holds t) ≡ b
        → (held_ticks p holds (suc t) ≡ held_ticks p holds t + 1) ⊎ ((held_ticks p holds (suc t) ≡ held_ticks p holds t) × ((i : ℕ) → i < length p → readies p holds t i ≡ true → is_held holds t i ≡ false))
    go t true e = inl (rw e)
    go t false e = inr (rw e (omega arith), λ i h r. no (readies p holds t i) (is_held holds t i) (any_below (λ i. is_ready p (run p holds t) i && is_held holds t i) (length p) i h e) r)

-- ---- a held tick is one of the list

any_false : (f : ℕ → Bool) (xs : List ℕ) → ((i : ℕ) → f i ≡ false) → list_any f xs ≡ false
any_false f [] h = refl
any_false f (x ∷ xs) h = rw (h x) (any_false f xs h)

pub held_past : (holds : Holds) (t i : ℕ) → length holds ≤ t → is_held holds t i ≡ false
held_past holds t i h = rw (get_or_past holds t [] h)

pub held_within : (p : Program) (holds : Holds) (t : ℕ) → (held_ticks p holds t ≤ t) × (held_ticks p holds t ≤ length holds)
held_within p holds zero = omega arith
held_within p holds (suc t) = go (is_ready_held p (is_held holds t) (run p holds t)) refl (cases_lt t (length holds)) (held_within p holds t)
  where
    go : (b : Bool) → is_ready_held p (is_held holds t) (run p holds t) ≡ b → (t < length holds) ⊎ (length holds ≤ t)
        → (held_ticks p holds t ≤ t) × (held_ticks p holds t ≤ length holds)
        → (held_ticks p holds (suc t) ≤ suc t) × (held_ticks p holds (suc t) ≤ length holds)
    go false e s r = rw e (omega arith)
    go true e (inl lt) r = rw e (omega arith)
    go true e (inr past) r =
        let no : is_ready_held p (is_held holds t) (run p holds t) ≡ false = any_false (λ i. is_ready p (run p holds t) i && is_held holds t i) (indices (length p)) (λ i. and_right (is_ready p (run p holds t) i) (is_held holds t i) (held_past holds t i past)) in
        absurd (cc (e, no))

pub held_at_most : (p : Program) (holds : Holds) (t : ℕ) → held_ticks p holds t ≤ length holds
held_at_most p holds t = (held_within p holds t).1

-- ---- finished

pub finished_all : (p : Program) (c : Configuration) → is_finished p c ≡ true → (i : ℕ) → i < length p → moves p i ≤ count_at c i
finished_all p c e i h =
    let f : ℕ → Bool = λ i. nat_le (moves p i) (count_at c i) in
    let at : get_or (indices (length p)) i 0 ≡ i = get_or-range_with_len 0 (length p) i 0 h ∙ omega arith in
    let t : f (get_or (indices (length p)) i 0) ≡ true = AllPass-from_list_all f (indices (length p)) e i 0 (omega (arith, length-range_with_len 0 (length p))) in
    leb-true _ _ (ap f (sym at) ∙ t)

pub unfinished_one : (p : Program) (c : Configuration) → is_finished p c ≡ false → (i : ℕ) × (i < length p) × (count_at c i < moves p i)
unfinished_one p c e =
    let r = fails_at (λ i. nat_le (moves p i) (count_at c i)) (indices (length p)) e in
    let h : r.1.0 < length p = omega (arith, r.1.1, length-range_with_len 0 (length p)) in
    let at : r.1.0 ≡ r.0 = omega (arith, r.1.2, get_or-range_with_len 0 (length p) r.1.0 r.0 h) in
    (r.0, omega arith, leb-false _ _ r.2)

-- ---- what is finished before what

module _ (p : Program) (held ready : ℕ → ℕ → Bool) (count : ℕ → ℕ → ℕ) (run : AreCountsInTime p held ready count) where
  pub grows_once : (t i : ℕ) → count t i ≤ count (suc t) i
  grows_once t i = go (run.step t i)
    where
      go : (count (suc t) i ≡ count t i) ⊎ ((ready t i ≡ true) × (count (suc t) i ≡ count t i + 1)) → count t i ≤ count (suc t) i
      go (inl e) = omega arith
      go (inr e) = omega arith

  pub grows : (s t i : ℕ) → s ≤ t → count s i ≤ count t i
  grows s zero i h = let e : s ≡ 0 = omega arith in rw e (omega arith)
  grows s (suc t) i h = go (cases s t h) (grows s t i)
    where
      cases : (s t : ℕ) → s ≤ suc t → (s ≡ suc t) ⊎ (s ≤ t)
      cases s t h = grind arith

      go : (s ≡ suc t) ⊎ (s ≤ t) → (s ≤ t → count s i ≤ count t i) → count s i ≤ count (suc t) i
      go (inl e) rest = rw e (omega arith)
      go (inr le) rest = omega (arith, rest le, grows_once t i)

  pub within_moves : (t i : ℕ) → count t i ≤ moves p i
  within_moves zero i = omega (arith, run.start i)
  within_moves (suc t) i = go (run.step t i) (within_moves t i)
    where
      go : (count (suc t) i ≡ count t i) ⊎ ((ready t i ≡ true) × (count (suc t) i ≡ count t i + 1)) → count t i ≤ moves p i → count (suc t) i ≤ moves p i
      go (inl e) h = omega arith
      go (inr e) h = omega (arith, run.left t i e.0)

  -- the action that a ready agent has next: all that it directly needs is finished
  pub ready_needs : (t : ℕ) (a b : ActionId) → ready t a.agent ≡ true → a.number ≡ count t a.agent + 1 → DirectlyNeeds p a b → b.number ≤ count t b.agent
  ready_needs t a b r e (inl h) = let c : count t a.agent ≡ count t b.agent = ap (λ i. count t i) h.0 in omega (arith, h.1)
  ready_needs t a b r e (inr h) =
      let e' : a.number ≡ suc (count t a.agent) = omega arith in
      run.met t a.agent (record { agent = b.agent; count = b.number }) r (subst (λ (n : ℕ). Contains (awaits_of p a.agent n) (record { agent = b.agent; count = b.number })) e' h)

  -- what a finished action directly needs was finished at least a tick before
  pub needs_before : (t : ℕ) (a b : ActionId) → 1 ≤ a.number → DirectlyNeeds p a b → a.number ≤ count t a.agent
      → (s : ℕ) × (suc s ≤ t) × (b.number ≤ count s b.agent)
  needs_before zero a b first d h = absurd (omega (arith, run.start a.agent))
  needs_before (suc t) a b first d h = go (run.step t a.agent) (needs_before t a b first d)
    where
      cases : (m n : ℕ) → m ≤ n + 1 → (m ≤ n) ⊎ (m ≡ n + 1)
      cases m n h = grind arith

      later : ((s : ℕ) × (suc s ≤ t) × (b.number ≤ count s b.agent)) → (s : ℕ) × (suc s ≤ suc t) × (b.number ≤ count s b.agent)
      later r = (r.0, omega (arith, r.1), r.2)

      go : (count (suc t) a.agent ≡ count t a.agent) ⊎ ((ready t a.agent ≡ true) × (count (suc t) a.agent ≡ count t a.agent + 1))
          → (a.number ≤ count t a.agent → (s : ℕ) × (suc s ≤ t) × (b.number ≤ count s b.agent))
          → (s : ℕ) × (suc s ≤ suc t) × (b.number ≤ count s b.agent)
      go (inl e) rest = later (rest (omega arith))
      go (inr e) rest = elim (cases a.number (count t a.agent) (omega arith)) [
        | inl le ↦ later (rest le)
        | inr eq ↦ (t, omega arith, ready_needs t a b e.0 eq d)
      ]

  -- of a chain whose last action is finished after t ticks, the first was finished a tick sooner for each action after
  -- it
  pub chain_before : (t : ℕ) (a : ActionId) (cs : List ActionId) (b : ActionId) → ChainFrom p a cs b → b.number ≤ count t b.agent
      → (s : ℕ) × (s + length cs ≤ t) × (a.number ≤ count s a.agent)
  chain_before t a [] b h done = (t, omega arith, subst (λ (x : ActionId). x.number ≤ count t x.agent) (sym h.1) done)
  chain_before t a (c ∷ cs) b h done =
      let r = chain_before t c cs b h.2 done in
      let n = needs_before r.0 c a (chain_first p c cs b h.2).first h.1 r.2 in
      (n.0, omega (arith, n.1, r.1), n.2)

  -- of a chain whose last action is the next one of a ready agent, each other action is finished
  pub chain_due : (t : ℕ) (a : ActionId) (cs : List ActionId) (b : ActionId) → ChainFrom p a cs b → ready t b.agent ≡ true → b.number ≡ count t b.agent + 1
      → (a ≡ b) ⊎ (a.number ≤ count t a.agent)
  chain_due t a [] b h r e = inl h.1
  chain_due t a (c ∷ cs) b h r e = go (chain_due t c cs b h.2 r e)
    where
      go : (c ≡ b) ⊎ (c.number ≤ count t c.agent) → (a ≡ b) ⊎ (a.number ≤ count t a.agent)
      go (inl same) = inr (ready_needs t b a r e (subst (λ (x : ActionId). DirectlyNeeds p x a) same h.1))
      go (inr done) =
          let n = needs_before t c a (chain_first p c cs b h.2).first h.1 done in
          inr (omega (arith, n.2, grows n.0 t a.agent (omega (arith, n.1))))

-- ---- the least number that passes a test

-- the least number that passes a test, if one up to the fuel does
pub first_passing : (ℕ → Bool) → ℕ → ℕ
first_passing test zero = 0
first_passing test (suc n) = cond (test 0) 0 (suc (first_passing (λ k. test (suc k)) n))

least_here : (test : ℕ → Bool) (n : ℕ) → test 0 ≡ true → IsLeast test (cond (test 0) 0 (suc n))
least_here test n e = subst (IsLeast test) (sym (cond-true (test 0) 0 (suc n) e)) (record { holds = e; least = λ s k. omega arith })

least_later : (test : ℕ → Bool) (n : ℕ) → test 0 ≡ false → IsLeast (λ k. test (suc k)) n → IsLeast test (cond (test 0) 0 (suc n))
least_later test n e h = subst (IsLeast test) (sym (cond-false (test 0) 0 (suc n) e)) (record { holds = h.holds; least = later })
  where
    later : (s : ℕ) → test s ≡ true → suc n ≤ s
    later zero k = absurd (let f : ⊥ = cc in f)
    later (suc s) k = let l : n ≤ s = h.least s k in omega arith

pub first_is : (test : ℕ → Bool) (fuel t : ℕ) → t ≤ fuel → test t ≡ true → IsLeast test (first_passing test fuel)
unfolding first_passing
first_is test zero t l h =
    let e : t ≡ 0 = omega arith in
    record { holds = subst (λ k. test k ≡ true) e h; least = λ s k. omega arith }
first_is test (suc n) zero l h = least_here test (first_passing (λ k. test (suc k)) n) h
first_is test (suc n) (suc t) l h =
    elim (cases_Bool (test 0)) [
      | inl e ↦ least_here test (first_passing (λ k. test (suc k)) n) e
      | inr e ↦ least_later test (first_passing (λ k. test (suc k)) n) e (first_is (λ k. test (suc k)) n t (omega arith) h)
    ]

-- a test that holds somewhere holds somewhere first
pub least_of : (test : ℕ → Bool) (n : ℕ) → test n ≡ true → (t : ℕ) × IsLeast test t
least_of test n e = (first_passing test n, first_is test n n (omega arith) e)

-- ---- that runs end, and that agents have arrived then

module _ (p : Program) (held ready : ℕ → ℕ → Bool) (count : ℕ → ℕ → ℕ) (run : AreCountsInTime p held ready count) (in_range : AreInRange p) where
  -- the action is the next one of a ready agent
  abbrev pub IsNext : ℕ → ActionId → Type 0
  IsNext t b = (ready t b.agent ≡ true) × (b.number ≡ count t b.agent + 1)

  -- it directly needs an unfinished one
  abbrev pub NeedsUnfinished : ℕ → ActionId → Type 0
  NeedsUnfinished t b = (d : ActionId) × IsAction p d × (count t d.agent < d.number) × DirectlyNeeds p b d

  -- an unfinished action is the next one of a ready agent, or directly needs an unfinished one
  pub ready_or_needs : (t : ℕ) (b : ActionId) → IsAction p b → count t b.agent < b.number
      → IsNext t b ⊎ NeedsUnfinished t b
  ready_or_needs t b act h = go (cases (count t b.agent) b.number h)
    where
      cases : (m n : ℕ) → m < n → ((k : ℕ) × (n ≡ k + 1) × (m < k)) ⊎ (n ≡ m + 1)
      cases m zero h = absurd (omega arith)
      cases m (suc k) h = elim (cases_lt m k) [ inl lt ↦ inl (k, omega arith, lt) | inr le ↦ inr (omega arith) ]

      go : ((k : ℕ) × (b.number ≡ k + 1) × (count t b.agent < k)) ⊎ (b.number ≡ count t b.agent + 1)
          → IsNext t b ⊎ NeedsUnfinished t b
      go (inl r) = inr (
        record { agent = b.agent; number = r.0 },
        record { agent = act.agent; first = omega (arith, r.2); last = omega (arith, r.1, act.last) },
        r.2,
        inl (refl, r.1, omega (arith, r.2)),
      )
      go (inr e) = waiting (ready t b.agent) refl
        where
          waiting : (r : Bool) → ready t b.agent ≡ r
              → IsNext t b ⊎ NeedsUnfinished t b
          waiting true r = inl (r, e)
          waiting false r =
              let w = run.waits t b.agent r (omega (arith, act.last)) in
              let e' : suc (count t b.agent) ≡ b.number = omega arith in
              let here : Contains (awaits_of p b.agent b.number) w.0 = subst (λ (n : ℕ). Contains (awaits_of p b.agent n) w.0) e' w.1 in
              let known = in_range b.agent b.number w.0 here in
              inr (
                record { agent = w.0.agent; number = w.0.count },
                record { agent = known.agent; first = known.first; last = known.last },
                w.2,
                inr here,
              )

  -- one that stays unfinished in a tick where no ready agent is held directly needs an unfinished one
  needs_unfinished : (t : ℕ) (b : ActionId) → IsAction p b → ((i : ℕ) → i < length p → ready t i ≡ true → held t i ≡ false) → count (suc t) b.agent < b.number
      → NeedsUnfinished t b
  needs_unfinished t b act free h = go (ready_or_needs t b act (omega (arith, grows_once p held ready count run t b.agent)))
    where
      go : IsNext t b ⊎ NeedsUnfinished t b
          → NeedsUnfinished t b
      go (inl r) = absurd (omega (arith, r.1, run.free t b.agent act.agent r.0 (free b.agent act.agent r.0)))
      go (inr d) = d

  -- an unfinished action ends a chain of one more action than the ticks so far in which no ready agent was held
  pub unfinished_ends : (ticks : ℕ → ℕ) → AreHeldTicks (length p) held ready ticks → (t : ℕ) (b : ActionId) → IsAction p b → count t b.agent < b.number
      → (m : ℕ) × (m + ticks t ≡ t + 1) × EndsChain p m b
  unfinished_ends ticks w zero b act h = (1, omega (arith, w.start), ends_one p b act)
  unfinished_ends ticks w (suc t) b act h = go (w.step t) (unfinished_ends ticks w t)
    where
      go : (ticks (suc t) ≡ ticks t + 1) ⊎ ((ticks (suc t) ≡ ticks t) × ((i : ℕ) → i < length p → ready t i ≡ true → held t i ≡ false))
          → ((b : ActionId) → IsAction p b → count t b.agent < b.number → (m : ℕ) × (m + ticks t ≡ t + 1) × EndsChain p m b)
          → (m : ℕ) × (m + ticks (suc t) ≡ suc t + 1) × EndsChain p m b
      go (inl e) rest =
          let r = rest b act (omega (arith, grows_once p held ready count run t b.agent)) in
          (r.0, omega (arith, r.1), r.2)
      go (inr e) rest =
          let d = needs_unfinished t b act e.1 h in
          let r = rest d.0 d.1 d.2 in
          (r.0 + 1, omega (arith, r.1, e.0), ends_more p r.0 d.0 b r.2 act d.3)

  -- no tick finishes two actions of one chain
  pub ends_in_time : (t m : ℕ) (b : ActionId) → EndsChain p m b → b.number ≤ count t b.agent → m ≤ t
  ends_in_time t m b h done =
      let r = chain_before p held ready count run t h.0 h.1 b h.2 done in
      let some : 1 ≤ r.0 = started r.0 h.0.agent (omega (arith, r.2, (chain_first p h.0 h.1 b h.2).first)) in
      omega (arith, r.1, ends_long p m b h)
    where
      started : (s i : ℕ) → 1 ≤ count s i → 1 ≤ s
      started zero i h = absurd (omega (arith, run.start i))
      started (suc s) i h = omega arith

-- ---- of a run

-- while a run is unfinished, some chain has one more action than the ticks so far in which no ready agent was held
pub unfinished_chain : (p : Program) (holds : Holds) → AreInRange p → (t : ℕ) → is_finished p (run p holds t) ≡ false
    → (m : ℕ) × (b : ActionId) × (m + held_ticks p holds t ≡ t + 1) × EndsChain p m b
unfinished_chain p holds in_range t e =
    let u = unfinished_one p (run p holds t) e in
    let b : ActionId = record { agent = u.0; number = moves p u.0 } in
    let r = unfinished_ends p (is_held holds) (readies p holds) (counts p holds) (run_counts p holds) in_range (held_ticks p holds) (run_held p holds) t b (record { agent = u.1; first = omega (arith, u.2); last = omega arith }) u.2 in
    (r.0, b, r.1, r.2)

unfinished_before : (p : Program) (holds : Holds) (f t : ℕ) → IsFinish p holds f → t < f → is_finished p (run p holds t) ≡ false
unfinished_before p holds f t fin h = go (is_finished p (run p holds t)) refl
  where
    go : (b : Bool) → is_finished p (run p holds t) ≡ b → is_finished p (run p holds t) ≡ false
    go false e = e
    go true e = absurd (omega (arith, fin.least t e))

-- no chain is longer than a finished run
pub chain_fits : (p : Program) (holds : Holds) → AreInRange p → (t m : ℕ) (b : ActionId) → is_finished p (run p holds t) ≡ true → EndsChain p m b → m ≤ t
chain_fits p holds in_range t m b fin h =
    let act = ends_action p m b h in
    ends_in_time p (is_held holds) (readies p holds) (counts p holds) (run_counts p holds) in_range t m b h (omega (arith, act.last, finished_all p (run p holds t) fin b.agent act.agent))

-- if there is a bound on chains, each run comes to its end
pub finish_exists : (p : Program) (holds : Holds) → AreInRange p → (l : ℕ) → ((b : ActionId) (m : ℕ) → EndsChain p m b → m ≤ l) → (f : ℕ) × IsFinish p holds f
finish_exists p holds in_range l most = go (is_finished p (run p holds (l + length holds))) refl
  where
    go : (b : Bool) → is_finished p (run p holds (l + length holds)) ≡ b → (f : ℕ) × IsFinish p holds f
    go true e = least_of (λ t. is_finished p (run p holds t)) (l + length holds) e
    go false e =
        let r = unfinished_chain p holds in_range (l + length holds) e in
        absurd (omega (arith, r.2, most r.1 r.0 r.3, held_at_most p holds (l + length holds)))

-- without holds the run takes as many ticks as the longest chain has actions
pub unheld_is_longest : (p : Program) → AreInRange p → (f : ℕ) → IsFinish p [] f → IsLongestChain p f
unheld_is_longest p in_range zero fin = record { some = inl refl; most = λ b m h. chain_fits p [] in_range zero m b fin.holds h }
unheld_is_longest p in_range (suc t) fin =
    let r = unfinished_chain p [] in_range t (unfinished_before p [] (suc t) t fin (omega arith)) in
    let e : r.0 ≡ suc t = omega (arith, r.2, held_at_most p [] t) in
    record { some = inr (r.1, subst (λ (m : ℕ). EndsChain p m r.1) e r.3); most = λ b m h. chain_fits p [] in_range (suc t) m b fin.holds h }

pub longest_exists : (p : Program) → AreInRange p → (number : ActionId → ℕ) → IsNumbering p number → (l : ℕ) × IsLongestChain p l
longest_exists p in_range number is =
    let bound = numbers_bound p number in
    let f = finish_exists p [] in_range bound.0 (λ b m h. omega (arith, ends_within p number is m b h, bound.1 b (ends_action p m b h))) in
    (f.0, unheld_is_longest p in_range f.0 f.1)

-- a run takes at least as many ticks as the longest chain has actions
pub finish_above : (p : Program) (holds : Holds) → AreInRange p → (l f : ℕ) → IsLongestChain p l → IsFinish p holds f → l ≤ f
finish_above p holds in_range l f long fin = go long.some
  where
    go : (l ≡ 0) ⊎ ((b : ActionId) × EndsChain p l b) → l ≤ f
    go (inl e) = omega arith
    go (inr r) = chain_fits p holds in_range f l r.0 fin.holds r.1

held_grows : (p : Program) (holds : Holds) (t : ℕ) → held_ticks p holds t ≤ held_ticks p holds (suc t)
held_grows p holds t = elim ((run_held p holds).step t) [ inl e ↦ omega arith | inr e ↦ omega (arith, e.0) ]

-- and at most those and the ticks in which a ready agent was held
pub finish_below : (p : Program) (holds : Holds) → AreInRange p → (l f : ℕ) → IsLongestChain p l → IsFinish p holds f → f ≤ l + held_ticks p holds f
finish_below p holds in_range l zero long fin = omega arith
finish_below p holds in_range l (suc t) long fin =
    let r = unfinished_chain p holds in_range t (unfinished_before p holds (suc t) t fin (omega arith)) in
    omega (arith, r.2, long.most r.1 r.0 r.3, held_grows p holds t)

-- from then on each agent stands at the end of its path
pub finish_stays : (p : Program) (holds : Holds) (f x i : ℕ) → IsFinish p holds f → f ≤ x → i < length p → motion p holds x i ≡ path p i (moves p i)
finish_stays p holds f x i fin le h =
    let n : counts p holds x i ≡ moves p i = omega (arith, finished_all p (run p holds f) fin.holds i h, grows p (is_held holds) (readies p holds) (counts p holds) (run_counts p holds) f x i le, within_moves p (is_held holds) (readies p holds) (counts p holds) (run_counts p holds) x i) in
    run_place p holds x i h ∙ ap (path p i) n

-- ---- sums over agents

pub sum_rises : (f g : ℕ → ℕ) (a n i : ℕ) → ((j : ℕ) → f j ≤ g j) → a ≤ i → i < a + n → f i + 1 ≤ g i → sum_by f (range_with_len a n) + 1 ≤ sum_by g (range_with_len a n)
sum_rises f g a zero i h l u more = absurd (omega arith)
sum_rises f g a (suc n) i h l u more = go (split a i l) (λ l. sum_rises f g (a + 1) n i h l (omega arith) more)
  where
    split : (a i : ℕ) → a ≤ i → (i ≡ a) ⊎ (a + 1 ≤ i)
    split a i l = grind arith

    go : (i ≡ a) ⊎ (a + 1 ≤ i) → (a + 1 ≤ i → sum_by f (range_with_len (a + 1) n) + 1 ≤ sum_by g (range_with_len (a + 1) n))
        → sum_by f (range_with_len a (suc n)) + 1 ≤ sum_by g (range_with_len a (suc n))
    go (inl e) rest =
        let e' : f i ≡ f a = ap f e in
        let e'' : g i ≡ g a = ap g e in
        omega (arith, sum_by-cons f a (range_with_len (a + 1) n), sum_by-cons g a (range_with_len (a + 1) n), sum_by-le-sum_by f g (range_with_len (a + 1) n) h)
    go (inr l) rest = omega (arith, sum_by-cons f a (range_with_len (a + 1) n), sum_by-cons g a (range_with_len (a + 1) n), h a, rest l)

sum_shift : (f : ℕ → ℕ) (a n : ℕ) → sum_by f (range_with_len (a + 1) n) ≡ sum_by (λ i. f (suc i)) (range_with_len a n)
sum_shift f a zero = refl
sum_shift f a (suc n) = let e : f (a + 1) ≡ f (suc a) = ap f (omega arith) in
    omega (arith, sum_by-cons f (a + 1) (range_with_len (a + 1 + 1) n), sum_by-cons (λ i. f (suc i)) a (range_with_len (a + 1) n), sum_shift f (a + 1) n)

pub sum_of_moves : (p : Program) → sum_by (moves p) (indices (length p)) ≡ total_moves p
sum_of_moves [] = refl
sum_of_moves (a ∷ p) = omega (arith, sum_by-cons (moves (a ∷ p)) 0 (range_with_len 1 (length p)), sum_by-cons (λ (b : AgentProgram). length b.actions) a p, sum_shift (moves (a ∷ p)) 0 (length p), sum_of_moves p)

-- ---- how many actions are finished

abbrev finished_count : Program → Holds → ℕ → ℕ
finished_count p holds t = sum_by (counts p holds t) (indices (length p))

few : (p : Program) (holds : Holds) (t : ℕ) → finished_count p holds t ≤ total_moves p
few p holds t = omega (arith, sum_of_moves p, sum_by-le-sum_by (counts p holds t) (moves p) (indices (length p)) (λ i. within_moves p (is_held holds) (readies p holds) (counts p holds) (run_counts p holds) t i))

-- not over: some agent is ready
pub some_ready : (p : Program) (c : Configuration) → is_over p c ≡ false → (i : ℕ) × (i < length p) × (is_ready p c i ≡ true)
some_ready p c e = go (is_finished p c) (list_any (is_ready p c) (indices (length p))) refl e
  where
    go : (f a : Bool) → list_any (is_ready p c) (indices (length p)) ≡ a → (f || (not f && not a)) ≡ false → (i : ℕ) × (i < length p) × (is_ready p c i ≡ true)
    go true a s e = absurd cc
    go false false s e = absurd cc
    go false true s e =
        let r = Any-from_list_any (is_ready p c) (indices (length p)) s in
        let h : r.0 < length p = omega (arith, r.2, length-range_with_len 0 (length p)) in
        let at : r.1 ≡ r.0 = omega (arith, r.3, get_or-range_with_len 0 (length p) r.0 r.1 h) in
        (r.1, omega arith, r.4)

-- after the end of the list of holds each tick of a run that is not over finishes an action
rises : (p : Program) (holds : Holds) (t : ℕ) → length holds ≤ t → is_over p (run p holds t) ≡ false → finished_count p holds t + 1 ≤ finished_count p holds (suc t)
rises p holds t past e =
    let r = some_ready p (run p holds t) e in
    sum_rises (counts p holds t) (counts p holds (suc t)) 0 (length p) r.0 (grows_once p (is_held holds) (readies p holds) (counts p holds) (run_counts p holds) t) (omega arith) (omega (arith, r.1))
    (omega (arith, (run_counts p holds).free t r.0 r.1 r.2 (held_past holds t r.0 past)))

abbrev OverBy : Program → Holds → ℕ → Type 0
OverBy p holds n = (t : ℕ) × (t ≤ n) × (is_over p (run p holds t) ≡ true)

over_or_more : (p : Program) (holds : Holds) (k : ℕ) → OverBy p holds (length holds + k) ⊎ (k ≤ finished_count p holds (length holds + k))
over_or_more p holds zero = inr (omega arith)
over_or_more p holds (suc k) = go (over_or_more p holds k) (is_over p (run p holds (length holds + k))) refl
  where
    next : suc (length holds + k) ≡ length holds + suc k
    next = omega arith

    go : OverBy p holds (length holds + k) ⊎ (k ≤ finished_count p holds (length holds + k)) → (b : Bool) → is_over p (run p holds (length holds + k)) ≡ b
        → OverBy p holds (length holds + suc k) ⊎ (suc k ≤ finished_count p holds (length holds + suc k))
    go (inl r) b e = inl (r.0, omega (arith, r.1), r.2)
    go (inr h) true e = inl (length holds + k, omega arith, e)
    go (inr h) false e = inr (subst (λ (t : ℕ). suc k ≤ finished_count p holds t) next (omega (arith, rises p holds (length holds + k) (omega arith) e)))

over_by : (p : Program) (holds : Holds) → OverBy p holds (length holds + total_moves p)
over_by p holds = go (over_or_more p holds (total_moves p)) (is_over p (run p holds (length holds + total_moves p))) refl
  where
    go : OverBy p holds (length holds + total_moves p) ⊎ (total_moves p ≤ finished_count p holds (length holds + total_moves p))
        → (b : Bool) → is_over p (run p holds (length holds + total_moves p)) ≡ b → OverBy p holds (length holds + total_moves p)
    go (inl r) b e = r
    go (inr h) true e = (length holds + total_moves p, omega arith, e)
    go (inr h) false e = absurd (omega (arith, rises p holds (length holds + total_moves p) (omega arith) e, few p holds (suc (length holds + total_moves p))))

pub run_ends : (p : Program) (holds : Holds) → (t : ℕ) × IsLeast (λ t. is_over p (run p holds t)) t × (t ≤ length holds + total_moves p)
run_ends p holds =
    let over = over_by p holds in
    let first = least_of (λ t. is_over p (run p holds t)) over.0 over.2 in
    (first.0, first.1, omega (arith, over.1, first.1.least over.0 over.2))

-- ---- with a numbering

-- while an action is unfinished, some agent is ready
ready_below : (p : Program) → AreInRange p → (number : ActionId → ℕ) → IsNumbering p number → (holds : Holds) (t k : ℕ) (b : ActionId) → IsAction p b
    → counts p holds t b.agent < b.number → number b ≤ k → (i : ℕ) × (i < length p) × (is_ready p (run p holds t) i ≡ true)
ready_below p in_range number is holds t zero b act h low = absurd (omega (arith, is.positive b act))
ready_below p in_range number is holds t (suc k) b act h low =
    go (ready_or_needs p (is_held holds) (readies p holds) (counts p holds) (run_counts p holds) in_range t b act h) (ready_below p in_range number is holds t k)
  where
    go : ((readies p holds t b.agent ≡ true) × (b.number ≡ counts p holds t b.agent + 1)) ⊎ ((d : ActionId) × IsAction p d × (counts p holds t d.agent < d.number) × DirectlyNeeds p b d)
        → ((b : ActionId) → IsAction p b → counts p holds t b.agent < b.number → number b ≤ k → (i : ℕ) × (i < length p) × (is_ready p (run p holds t) i ≡ true))
        → (i : ℕ) × (i < length p) × (is_ready p (run p holds t) i ≡ true)
    go (inl r) rest = (b.agent, act.agent, r.0)
    go (inr d) rest = rest d.0 d.1 d.2 (omega (arith, is.rising b d.0 act d.1 d.3))

-- a run is never stuck
pub run_not_stuck : (p : Program) → AreInRange p → (number : ActionId → ℕ) → IsNumbering p number → (holds : Holds) (t : ℕ) → is_stuck p (run p holds t) ≡ false
run_not_stuck p in_range number is holds t = go (is_finished p (run p holds t)) refl
  where
    go : (f : Bool) → is_finished p (run p holds t) ≡ f → is_stuck p (run p holds t) ≡ false
    go true e = rw e
    go false e =
        let u = unfinished_one p (run p holds t) e in
        let b : ActionId = record { agent = u.0; number = moves p u.0 } in
        let r = ready_below p in_range number is holds t (number b) b (record { agent = u.1; first = omega (arith, u.2); last = omega arith }) u.2 (omega arith) in
        let at : get_or (indices (length p)) r.0 0 ≡ r.0 = get_or-range_with_len 0 (length p) r.0 0 r.1 ∙ omega arith in
        let yes : list_any (is_ready p (run p holds t)) (indices (length p)) ≡ true =
        list_any_at (is_ready p (run p holds t)) (indices (length p)) r.0 0 (omega (arith, r.1, length-range_with_len 0 (length p))) (ap (is_ready p (run p holds t)) at ∙ r.2) in
        rw (e, yes)

-- and its longest chain has no more actions than there are
pub longest_small : (p : Program) → AreInRange p → (number : ActionId → ℕ) → IsNumbering p number → (l : ℕ) → IsLongestChain p l → l ≤ total_moves p
longest_small p in_range number is l long =
    let f = finish_exists p [] in_range l long.most in
    let over = over_by p [] in
    let done : is_finished p (run p [] over.0) ≡ true = finished_over (is_finished p (run p [] over.0)) (is_stuck p (run p [] over.0)) (run_not_stuck p in_range number is [] over.0) over.2 in
    omega (arith, over.1, f.1.least over.0 done, longest_is_one p l f.0 long (unheld_is_longest p in_range f.0 f.1))
  where
    finished_over : (f s : Bool) → s ≡ false → (f || s) ≡ true → f ≡ true
    finished_over true s e h = refl
    finished_over false s e h = absurd (cc (e, h))

-- ---- from how far each action is reached

-- ---- a run depends only on what is held of the agents of the program

run_agree : (p : Program) (holds holds' : Holds) (t : ℕ) → ((s i : ℕ) → s < t → i < length p → is_held holds s i ≡ is_held holds' s i) → run p holds t ≡ run p holds' t
run_agree p holds holds' zero h = refl
run_agree p holds holds' (suc t) h =
    ap (tick p (is_held holds t)) (run_agree p holds holds' t (λ s i l k. h s i (omega arith) k))
    ∙ tick_agree p (is_held holds t) (is_held holds' t) (run p holds' t) (λ i k. h t i (omega arith) k)

-- ---- one more tick at the end of a list of holds

any_of_filter : (f : ℕ → Bool) (i : ℕ) (xs : List ℕ) → list_any (λ j. j == i) (filter f xs) ≡ (f i && list_any (λ j. j == i) xs)
any_of_filter f i [] = neither (f i)
  where
    neither : (b : Bool) → false ≡ (b && false)
    neither true = refl
    neither false = refl
any_of_filter f i (x ∷ xs) = go (f x) (x == i) refl refl (any_of_filter f i xs)
  where
    yes : (b : Bool) → b ≡ true → true ≡ (b && true)
    yes b e = rw e

    none : (b : Bool) (r s : Bool) → b ≡ false → r ≡ (b && s) → r ≡ (b && true)
    none b r s e h = rw e (rw e at h)

    at : (x == i) ≡ true → f x ≡ f i
    at s = ap f (eqb-true x i s)

    go : (b c : Bool) → f x ≡ b → (x == i) ≡ c → list_any (λ j. j == i) (filter f xs) ≡ (f i && list_any (λ j. j == i) xs)
        → list_any (λ j. j == i) (filter f (x ∷ xs)) ≡ (f i && list_any (λ j. j == i) (x ∷ xs))
    go true true e s rest = rw (e, s) (yes (f i) (sym (at s) ∙ e))
    go true false e s rest = rw (e, s) rest
    go false true e s rest = rw (e, s) (none (f i) (list_any (λ j. j == i) (filter f xs)) (list_any (λ j. j == i) xs) (sym (at s) ∙ e) rest)
    go false false e s rest = rw (e, s) rest

pub agents_held : (n : ℕ) (f : ℕ → Bool) (i : ℕ) → i < n → list_any (λ j. j == i) (filter f (indices n)) ≡ f i
agents_held n f i h = any_of_filter f i (indices n) ∙ go (f i) (list_any_at (λ j. j == i) (indices n) i 0 (omega (arith, length-range_with_len 0 n)) (rw at same))
  where
    at : get_or (indices n) i 0 ≡ i
    at = get_or-range_with_len 0 n i 0 h ∙ omega arith

    same : (i == i) ≡ true
    same = grind (arith, nat_tests)

    go : (b : Bool) → list_any (λ j. j == i) (indices n) ≡ true → (b && list_any (λ j. j == i) (indices n)) ≡ b
    go true e = e
    go false e = refl

abbrev longer : Program → Holds → ℕ → (ℕ → Bool) → Holds
longer p holds t held = map (λ s. get_or holds s []) (indices t) ++ filter held (indices (length p)) ∷ []

-- up to the last tick it holds as before, and then these agents
longer_before : (p : Program) (holds : Holds) (t : ℕ) (held : ℕ → Bool) (s i : ℕ) → s < t → is_held (longer p holds t held) s i ≡ is_held holds s i
longer_before p holds t held s i h =
    let f : ℕ → List ℕ = λ s. get_or holds s [] in
    ap (λ (xs : List ℕ). list_any (λ j. j == i) xs)
    (get_or_append_left (map f (indices t)) (filter held (indices (length p)) ∷ []) [] s (omega (arith, length-map-range_with_len f 0 t))
    ∙ get_or-map-range_with_len f 0 t s s [] h (omega arith))

longer_last : (p : Program) (holds : Holds) (t : ℕ) (held : ℕ → Bool) (i : ℕ) → i < length p → is_held (longer p holds t held) t i ≡ held i
longer_last p holds t held i h =
    let front : List (List ℕ) = map (λ s. get_or holds s []) (indices t) in
    let last : List (List ℕ) = filter held (indices (length p)) ∷ [] in
    let e : length front + 0 ≡ t = omega (arith, length-map-range_with_len (λ s. get_or holds s []) 0 t) in
    ap (λ (xs : List ℕ). list_any (λ j. j == i) xs) (ap (λ (m : ℕ). get_or (front ++ last) m []) (sym e) ∙ get_or-append-add front last 0 [])
    ∙ agents_held (length p) held i h

longer_run : (p : Program) (holds : Holds) (t : ℕ) (held : ℕ → Bool) → run p (longer p holds t held) t ≡ run p holds t
longer_run p holds t held = run_agree p (longer p holds t held) holds t (λ s i h k. longer_before p holds t held s i h)

longer_after : (p : Program) (holds : Holds) (t : ℕ) (held : ℕ → Bool) → run p (longer p holds t held) (suc t) ≡ tick p held (run p holds t)
longer_after p holds t held =
    ap (tick p (is_held (longer p holds t held) t)) (longer_run p holds t held)
    ∙ tick_agree p (is_held (longer p holds t held) t) held (run p holds t) (longer_last p holds t held)

pub tick_reached : (p : Program) (c : Configuration) (held : ℕ → Bool) → IsReached p c → IsReached p (tick p held c)
tick_reached p c held r =
    record { holds = longer p r.holds r.ticks held; ticks = suc r.ticks; same = longer_after p r.holds r.ticks held ∙ ap (tick p held) r.same }

-- a run that comes to c, and from there by this tick
pub reached_tick : (p : Program) (c : Configuration) (held : ℕ → Bool) → IsReached p c
    → (holds : Holds) × (t : ℕ) × (run p holds t ≡ c) × (run p holds (suc t) ≡ tick p held c)
reached_tick p c held r =
    (longer p r.holds r.ticks held, r.ticks, longer_run p r.holds r.ticks held ∙ r.same, longer_after p r.holds r.ticks held ∙ ap (tick p held) r.same)

pub start_reached : (p : Program) → IsReached p (opening p)
start_reached p = record { holds = []; ticks = 0; same = refl }

-- what holds of two configurations of one run, the second a tick after the first
pub tick_safe : (passable : Place → Bool) (p : Program) → ((holds : Holds) → IsSafe passable p holds) → (c : Configuration) (held : ℕ → Bool) → IsReached p c
    → IsSafeStep passable (length p) c (tick p held c)
tick_safe passable p safe c held r = record {
  on_ground = λ i h. subst (λ (d : Configuration). IsTrue (passable (place_at d i))) after ((safe holds).on_ground (suc t) i h);
  apart = λ i j h k ne e. (safe holds).free.vertex (suc t) i j h k (record { apart = ne; same = ap (λ (d : Configuration). place_at d i) after ∙ (e ∙ ap (λ (d : Configuration). place_at d j) (sym after)) });
  behind = λ i j h k ne e. (safe holds).free.following t i j h k (record { apart = ne; same = ap (λ (m : ℕ). place_at (run p holds m) i) next ∙ (ap (λ (d : Configuration). place_at d i) after ∙ (e ∙ ap (λ (d : Configuration). place_at d j) (sym before))) });
}
  where
    t : ℕ
    t = r.ticks

    holds : Holds
    holds = longer p r.holds r.ticks held

    after : run p (longer p r.holds r.ticks held) (suc r.ticks) ≡ tick p held c
    after = longer_after p r.holds r.ticks held ∙ ap (tick p held) r.same

    next : r.ticks + 1 ≡ suc r.ticks
    next = omega arith

    before : run p (longer p r.holds r.ticks held) r.ticks ≡ c
    before = longer_run p r.holds r.ticks held ∙ r.same

pub longest_finishes : (p : Program) → AreInRange p → (l : ℕ) → IsLongestChain p l → IsFinish p [] l
longest_finishes p range l h =
    let f = finish_exists p [] range l h.most in
    subst (IsFinish p []) (longest_is_one p f.0 l (unheld_is_longest p range f.0 f.1) h) f.1

pub greatest_is : (p : Program) (a : ActionId) (j n : ℕ) → IsColumn p a j n → IsGreatest p a j n
greatest_is p a j n h = record {
  some = elim (cases_eq n 0) [
    | inl none ↦ inl none
    | inr some ↦ inr ((h n).1 (omega arith, omega arith))
  ];
  most = λ c r. ((h c).0 r).1;
}
