-- Moves that take time: what agents claim, and that an order lasts until its move is finished.
use Rattle.fleet_verify.proofs.Words.{◌≡◌, ℕ, not, List, [], get_or, filter, add-one, zero, suc, ◌+◌, ◌-◌, ◌<◌, ◌≤◌, Bool, true, false, ◌&&◌, length, Option, Some, None, cond, IsTrue, slice_get, refl, ap, sym, ◌∙◌, subst, arith, inl, inr, option_map, same_Some, get_or-map, and-false, Place, Step, Action, Standing, stepped, Program, actions_of, path, Configuration, Holds, is_among, is_held, indices, run, tick, standing_at, place_at, count_at, next_action, is_ready, IsReached, order_of, Claims, KeepsOrder, MayBeOn, is_new, orders_given, holds_of, tick_agree}
use Rattle.fleet_verify.proofs.RunCounts.{tick_free, tick_stays, run_place, count_opening, reached_tick, agents_held}
use Rattle.fleet_verify.proofs.Finish.{count_grows, count_grows_to}
use Rattle.fleet_verify.proofs.Waiting.{ready_says, ready_from}

-- ---- an order is the step of the next action of a ready agent

pub record IsOrder (p : Program) (c : Configuration) (i : ℕ) (d : Step) : Type 0 where
  pub ready : is_ready p c i ≡ true
  pub action : Action
  pub next : next_action p c i ≡ Some action
  pub step : action.step ≡ d

pub order_says : (p : Program) (c : Configuration) (i : ℕ) (d : Step) → order_of p c i ≡ Some d → IsOrder p c i d
order_says p c i d e = go (is_ready p c i) (next_action p c i) refl refl e
  where
    go : (b : Bool) (o : Option Action) → is_ready p c i ≡ b → next_action p c i ≡ o
        → cond b (option_map (λ a. a.step) o) None ≡ Some d → IsOrder p c i d
    go false o r n e = absurd cc
    go true None r n e = absurd cc
    go true (Some a) r n e = record { ready = r; action = a; next = n; step = same_Some a.step d e }

-- ---- an order lasts while its agent finishes nothing and no count falls

pub ready_lasts : (p : Program) (c d : Configuration) (i : ℕ) → ((j : ℕ) → count_at c j ≤ count_at d j) → count_at c i ≡ count_at d i
    → is_ready p c i ≡ true → is_ready p d i ≡ true
ready_lasts p c d i grows same e =
    let r = ready_says p c i e in
    ready_from p d i (record {
      left = omega (arith, r.left);
      met = λ w h. let m : w.count ≤ count_at c w.agent = r.met w (rw (← same) at h) in omega (arith, grows w.agent);
    })

pub order_lasts : (p : Program) (c d : Configuration) (i : ℕ) (step : Step) → ((j : ℕ) → count_at c j ≤ count_at d j) → count_at c i ≡ count_at d i
    → order_of p c i ≡ Some step → order_of p d i ≡ Some step
order_lasts p c d i step grows same e =
    let o = order_says p c i step e in
    let still = ready_lasts p c d i grows same o.ready in
    rw still (ap (λ n. option_map (λ (a : Action). a.step) (slice_get (actions_of p i) n)) (sym same) ∙ (rw o.ready at e))

-- ---- what is claimed over time

pub held_keeps : (p : Program) (c : Configuration) (held : ℕ → Bool) (i : ℕ) → IsReached p c → i < length p → IsTrue (held i) → KeepsOrder p c (tick p held c) i
held_keeps p c held i r h b = record {
  stays = stay;
  order = λ step e. order_lasts p c (tick p held c) i step grows (sym (ap (λ (s : Standing). s.count) stay)) e;
}
  where
    stay : standing_at (tick p held c) i ≡ standing_at c i
    stay = tick_stays p held c i h (rw b (and-false (is_ready p c i)))

    grows : (j : ℕ) → count_at c j ≤ count_at (tick p held c) j
    grows j =
        let w = reached_tick p c held r in
        subst (λ (d : Configuration). count_at c j ≤ count_at d j) w.3 (subst (λ (d : Configuration). count_at d j ≤ count_at (run p w.0 (suc w.1)) j) w.2 (count_grows p w.0 w.1 j))

-- whoever may be on a place claims it still
pub still_claims : (p : Program) (holds : Holds) (t i : ℕ) (q : Place) → i < length p → MayBeOn p holds t i q → Claims p (run p holds t) i q
still_claims p holds t i q h m = go m.claimed
  where
    same : place_at (run p holds m.since) i ≡ place_at (run p holds t) i
    same = run_place p holds m.since i h ∙ (ap (path p i) m.nothing_since ∙ sym (run_place p holds t i h))

    grows : (j : ℕ) → count_at (run p holds m.since) j ≤ count_at (run p holds t) j
    grows j =
        let e : m.since + (t - m.since) ≡ t = omega (arith, m.before) in
        subst (λ n. count_at (run p holds m.since) j ≤ count_at (run p holds n) j) e (count_grows_to p holds m.since (t - m.since) j)

    go : Claims p (run p holds m.since) i q → Claims p (run p holds t) i q
    go (inl e) = inl (e ∙ same)
    go (inr (d, o, e)) = inr (d, order_lasts p (run p holds m.since) (run p holds t) i d grows m.nothing_since o, e ∙ ap (λ (r : Place). stepped r d) same)

-- ---- each order is given once

abbrev one_if : Bool → ℕ
one_if b = cond b 1 0

pub given_once : (p : Program) (holds : Holds) (t i : ℕ) → i < length p
    → orders_given p holds t i ≡ count_at (run p holds t) i + (cond (is_ready p (run p holds t) i) 1 0)
given_once p holds zero i h = omega (arith, count_opening p holds i)
given_once p holds (suc t) i h = go (is_ready p (run p holds t) i) (is_held holds t i) refl refl (given_once p holds t i h)
  where
    one : (b : Bool) → (b && not (true && false)) ≡ b
    one true = refl
    one false = refl

    free : (b h : Bool) → (b && not (false && h)) ≡ b
    free true h = refl
    free false h = refl

    go : (r b : Bool) → is_ready p (run p holds t) i ≡ r → is_held holds t i ≡ b
        → orders_given p holds t i ≡ count_at (run p holds t) i + (cond (is_ready p (run p holds t) i) 1 0)
        → orders_given p holds (suc t) i ≡ count_at (run p holds (suc t)) i + (cond (is_ready p (run p holds (suc t)) i) 1 0)
    go true false e f before =
        let count : count_at (run p holds (suc t)) i ≡ count_at (run p holds t) i + 1 = tick_free p (is_held holds t) (run p holds t) i h e f in
        let new : is_new p holds (suc t) i ≡ is_ready p (run p holds (suc t)) i = rw (e, f) (one (is_ready p (run p holds (suc t)) i)) in
        let was : orders_given p holds t i ≡ count_at (run p holds t) i + 1 = rw e at before in
        let now : one_if (is_new p holds (suc t) i) ≡ one_if (is_ready p (run p holds (suc t)) i) = ap one_if new in
        omega arith
    go true true e f before =
        let count : count_at (run p holds t) i ≡ count_at (run p holds (suc t)) i = sym (ap (λ (s : Standing). s.count) (tick_stays p (is_held holds t) (run p holds t) i h (rw (e, f)))) in
        let still : is_ready p (run p holds (suc t)) i ≡ true = ready_lasts p (run p holds t) (run p holds (suc t)) i (λ j. count_grows p holds t j) count e in
        let new : is_new p holds (suc t) i ≡ false = rw (still, e, f) refl in
        let was : orders_given p holds t i ≡ count_at (run p holds t) i + 1 = rw e at before in
        let now : one_if (is_new p holds (suc t) i) ≡ 0 = ap one_if new in
        let last : one_if (is_ready p (run p holds (suc t)) i) ≡ 1 = ap one_if still in
        omega arith
    go false b e f before =
        let count : count_at (run p holds (suc t)) i ≡ count_at (run p holds t) i = ap (λ (s : Standing). s.count) (tick_stays p (is_held holds t) (run p holds t) i h (rw e)) in
        let new : is_new p holds (suc t) i ≡ is_ready p (run p holds (suc t)) i = rw e (free (is_ready p (run p holds (suc t)) i) (is_held holds t i)) in
        let was : orders_given p holds t i ≡ count_at (run p holds t) i + 0 = rw e at before in
        let now : one_if (is_new p holds (suc t) i) ≡ one_if (is_ready p (run p holds (suc t)) i) = ap one_if new in
        omega arith

-- ---- reports are holds of all others

pub reports_hold : (n : ℕ) (reports : List (List ℕ)) (t i : ℕ) → i < n → t < length reports → is_held (holds_of n reports) t i ≡ not (is_among (get_or reports t []) i)
reports_hold n reports t i h k =
    let f : List ℕ → List ℕ = λ done. filter (λ j. not (is_among done j)) (indices n) in
    ap (λ (xs : List ℕ). is_among xs i) (get_or-map f reports t [] [] k)
    ∙ agents_held n (λ j. not (is_among (get_or reports t []) j)) i h

pub reports_tick : (p : Program) (reports : List (List ℕ)) (t : ℕ) → t < length reports
    → run p (holds_of (length p) reports) (t + 1) ≡ tick p (λ i. not (is_among (get_or reports t []) i)) (run p (holds_of (length p) reports) t)
reports_tick p reports t h =
    ap (run p (holds_of (length p) reports)) (add-one t)
    ∙ tick_agree p (is_held (holds_of (length p) reports) t) (λ i. not (is_among (get_or reports t []) i)) (run p (holds_of (length p) reports) t) (λ i k. reports_hold (length p) reports t i k h)
