-- Runs in ticks are schedules.
use Rattle.fleet_verify.proofs.Words.{◌≡◌, ℕ, zero, suc, ◌+◌, ◌-◌, ◌<◌, ◌≤◌, Bool, true, false, cond, length, Option, Some, None, nat_le, refl, ap, sym, ◌∙◌, subst, arith, add-one, inl, inr, ◌⊎◌, leb-true, leb-false, le-leb, option_map, Contains, ◌↔◌, cases_lt, cases_order, same_Some, Place, ActionId, Program, moves, path, awaits_of, AreInRange, Configuration, Holds, is_held, run, count_at, place_at, is_ready, is_over, IsLeast, IsDone, IsDue, Claims, MayBeOn, stepped, IsAction, ready_left, path_more, Schedule, IsBy, HasBegunBy, HasEndedBy, IsSchedule, MayBeOnAt, IsFinishedIn, IsScheduleOf, BeginsWhenDue, TakesOneTick, need_action}
use Rattle.fleet_verify.proofs.RunCounts.{counts, readies, run_counts, run_place, count_opening, count_past, grows, first_passing, first_is, run_ends}
use Rattle.fleet_verify.proofs.Finish.{count_within, needs_of_ready}
use Rattle.fleet_verify.proofs.Claimed.{order_says, ready_lasts, still_claims}
use Rattle.fleet_verify.proofs.Waiting.{ready_says, ready_from}
use Rattle.fleet_verify.proofs.UnderWay.{ready_not_over}
use Rattle.fleet_verify.proofs.Timed.{by_later}

-- ---- a run that is over stays as it is

over_unready : (p : Program) (c : Configuration) → is_over p c ≡ true → (i : ℕ) → i < length p → is_ready p c i ≡ false
over_unready p c e i h = go (is_ready p c i) refl
  where
    go : (b : Bool) → is_ready p c i ≡ b → is_ready p c i ≡ false
    go false r = r
    go true r = absurd (let n = ready_not_over p c i h r in cc)

module _ (p : Program) (holds : Holds) where
  pub count_up : (s t i : ℕ) → s ≤ t → count_at (run p holds s) i ≤ count_at (run p holds t) i
  count_up s t i h = grows p (is_held holds) (readies p holds) (counts p holds) (run_counts p holds) s t i h

  pub done_later : (s t : ℕ) (a : ActionId) → s ≤ t → IsDone (run p holds s) a → IsDone (run p holds t) a
  done_later s t a h d = omega (arith, d, count_up s t a.agent h)

  -- readiness goes by the counts alone
  ready_by : (t u i : ℕ) → ((j : ℕ) → count_at (run p holds u) j ≡ count_at (run p holds t) j) → is_ready p (run p holds u) i ≡ true → is_ready p (run p holds t) i ≡ true
  ready_by t u i same e =
      let o = ready_says p (run p holds u) i e in
      ready_from p (run p holds t) i (record {
        left = omega (arith, o.left, same i);
        met = λ w h. let m : w.count ≤ count_at (run p holds u) w.agent = o.met w (subst (λ n. Contains (awaits_of p i (suc n)) w) (sym (same i)) h) in omega (arith, m, same w.agent);
      })

  over_same : (t k : ℕ) → is_over p (run p holds t) ≡ true → (j : ℕ) → count_at (run p holds (t + k)) j ≡ count_at (run p holds t) j
  over_same t zero e j = let g : t + zero ≡ t = omega arith in ap (λ s. count_at (run p holds s) j) g
  over_same t (suc k) e j = ap (λ s. count_at (run p holds s) j) next ∙ go (cases_lt j (length p)) (over_same t k e)
    where
      next : t + suc k ≡ suc (t + k)
      next = omega arith

      go : (j < length p) ⊎ (length p ≤ j) → ((i : ℕ) → count_at (run p holds (t + k)) i ≡ count_at (run p holds t) i) → count_at (run p holds (suc (t + k))) j ≡ count_at (run p holds t) j
      go (inr past) rest = count_past p holds (suc (t + k)) j past ∙ sym (count_past p holds t j past)
      go (inl l) rest = elim ((run_counts p holds).step (t + k) j) [
        | inl same ↦ same ∙ rest j
        | inr r ↦ absurd (
            let still : is_ready p (run p holds t) j ≡ true = ready_by t (t + k) j rest r.0 in
            let not : is_ready p (run p holds t) j ≡ false = over_unready p (run p holds t) e j l in
            cc (still, not)
            )
      ]

  -- ---- the tick that finishes an action

  abbrev pub test_of : ActionId → ℕ → Bool
  test_of a t = nat_le a.number (count_at (run p holds t) a.agent)

  not_at_start : (a : ActionId) → IsAction p a → IsDone (run p holds 0) a → ⊥
  not_at_start a act d = omega (arith, act.first, d, count_opening p holds a.agent)

  -- what is finished after some ticks was finished by one of them
  pub finished_in : (t : ℕ) (a : ActionId) → IsAction p a → IsDone (run p holds t) a → (u : ℕ) × (u < t) × IsFinishedIn p holds u a
  finished_in zero a act d = absurd (not_at_start a act d)
  finished_in (suc t) a act d = go (cases_lt (count_at (run p holds t) a.agent) a.number) (finished_in t a act)
    where
      go : (count_at (run p holds t) a.agent < a.number) ⊎ (a.number ≤ count_at (run p holds t) a.agent) → (IsDone (run p holds t) a → (u : ℕ) × (u < t) × IsFinishedIn p holds u a) → (u : ℕ) × (u < suc t) × IsFinishedIn p holds u a
      go (inl l) rest = (t, omega arith, record { not_before = λ e. omega (arith, l, e); after = subst (λ s. IsDone (run p holds s) a) (sym (add-one t)) d })
      go (inr l) rest = let r = rest l in (r.0, omega (arith, r.1), r.2)

  -- an action is finished in one tick
  pub finished_once : (t u : ℕ) (a : ActionId) → IsFinishedIn p holds t a → IsFinishedIn p holds u a → t ≡ u
  finished_once t u a h k = elim (cases_order t u) [
    | inl e ↦ e
    | inr (inl l) ↦ absurd (k.not_before (done_later (t + 1) u a (omega arith) h.after))
    | inr (inr l) ↦ absurd (h.not_before (done_later (u + 1) t a (omega arith) k.after))
  ]

  -- ---- the schedule of a run

  last_tick : ℕ
  last_tick = (run_ends p holds).0

  -- an action that some tick finishes is finished when the run is over
  done_when_over : (t : ℕ) (a : ActionId) → IsDone (run p holds t) a → IsDone (run p holds last_tick) a
  unfolding last_tick
  done_when_over t a d =
      let over = (run_ends p holds).1.holds in
      let more = done_later t (last_tick + t) a (omega arith) d in
      omega (arith, more, over_same last_tick t over a.agent)

  tick_of : ActionId → Option ℕ
  tick_of a = cond (test_of a last_tick) (Some (first_passing (test_of a) last_tick - 1)) None

  tick_is : (a : ActionId) (t : ℕ) → IsAction p a → (tick_of a ≡ Some t) ↔ IsFinishedIn p holds t a
  unfolding tick_of
  tick_is a t act = go (test_of a last_tick) refl
    where
      go : (b : Bool) → test_of a last_tick ≡ b → (tick_of a ≡ Some t) ↔ IsFinishedIn p holds t a
      go false e = (
        (λ h. let n : tick_of a ≡ None = rw e refl in absurd (cc (n, h))),
        (λ h. absurd (omega (arith, leb-false _ _ e, done_when_over (t + 1) a h.after))),
      )
      go true e =
          let found = finished_in last_tick a act (leb-true _ _ e) in
          let first = first_is (test_of a) last_tick last_tick (omega arith) e in
          let low : first_passing (test_of a) last_tick ≤ suc found.0 = first.least (suc found.0) (le-leb _ _ (subst (λ s. IsDone (run p holds s) a) (add-one found.0) found.2.after)) in
          let high : found.0 < first_passing (test_of a) last_tick = elim (cases_lt found.0 (first_passing (test_of a) last_tick)) [
            | inl l ↦ l
            | inr l ↦ absurd (found.2.not_before (done_later (first_passing (test_of a) last_tick) found.0 a l (leb-true _ _ first.holds)))
          ] in
          let is : first_passing (test_of a) last_tick - 1 ≡ found.0 = omega arith in
          let some : tick_of a ≡ Some found.0 = rw e (ap Some is) in (
            (λ h. let same : found.0 ≡ t = same_Some found.0 t (sym some ∙ h) in subst (λ u. IsFinishedIn p holds u a) same found.2),
            (λ h. let same : found.0 ≡ t = finished_once found.0 t a found.2 h in some ∙ ap Some same),
          )

  -- ---- an action that is due

  -- what a tick finishes was due
  pub finished_due : (t : ℕ) (a : ActionId) → IsFinishedIn p holds t a → IsDue p (run p holds t) a
  finished_due t a f =
      let after : a.number ≤ count_at (run p holds (suc t)) a.agent = subst (λ s. IsDone (run p holds s) a) (add-one t) f.after in
      elim ((run_counts p holds).step t a.agent) [
        | inl e ↦ absurd (f.not_before (omega arith))
        | inr r ↦ record { next = due_next a.number (count_at (run p holds t) a.agent) f.not_before (omega (arith, r.1)); ready = r.0 }
      ]
    where
      due_next : (n k : ℕ) → (n ≤ k → ⊥) → n ≤ k + 1 → n ≡ k + 1
      due_next n k h l = grind (arith, h)

  -- an action that is due stays so until it is finished
  due_on : (t : ℕ) (a : ActionId) → IsDue p (run p holds t) a → IsDone (run p holds (suc t)) a ⊎ IsDue p (run p holds (suc t)) a
  due_on t a d = elim ((run_counts p holds).step t a.agent) [
    | inl e ↦ inr (record { next = omega (arith, d.next, e); ready = ready_lasts p (run p holds t) (run p holds (suc t)) a.agent (λ j. count_up t (suc t) j (omega arith)) (sym e) d.ready })
    | inr r ↦ inl (omega (arith, d.next, r.1))
  ]

  -- begun: finished or due
  abbrev begun_test : ActionId → ℕ → Bool
  begun_test a t = nat_le a.number (count_at (run p holds t) a.agent + cond (is_ready p (run p holds t) a.agent) 1 0)

  begun_says : (a : ActionId) (t : ℕ) → begun_test a t ≡ true → IsDone (run p holds t) a ⊎ IsDue p (run p holds t) a
  begun_says a t e = go (is_ready p (run p holds t) a.agent) refl (leb-true _ _ e)
    where
      go : (b : Bool) → is_ready p (run p holds t) a.agent ≡ b → a.number ≤ count_at (run p holds t) a.agent + cond (is_ready p (run p holds t) a.agent) 1 0 → IsDone (run p holds t) a ⊎ IsDue p (run p holds t) a
      go false r l = inl (let m : a.number ≤ count_at (run p holds t) a.agent + 0 = rw r at l in omega arith)
      go true r l = elim (cases_lt (count_at (run p holds t) a.agent) a.number) [
        | inr le ↦ inl le
        | inl lt ↦ (let m : a.number ≤ count_at (run p holds t) a.agent + 1 = rw r at l in inr (record { next = omega arith; ready = r }))
      ]

  done_begun : (a : ActionId) (t : ℕ) → IsDone (run p holds t) a → begun_test a t ≡ true
  done_begun a t d = le-leb _ _ (omega (arith, d))

  due_begun : (a : ActionId) (t : ℕ) → IsDue p (run p holds t) a → begun_test a t ≡ true
  due_begun a t d = le-leb _ _ (let e : ◌≡◌ {A = ℕ} (cond (is_ready p (run p holds t) a.agent) 1 0) 1 = rw d.ready refl in omega (arith, d.next, e))

  begun_later : (a : ActionId) (t k : ℕ) → begun_test a t ≡ true → begun_test a (t + k) ≡ true
  begun_later a t zero e = let g : t ≡ t + zero = omega arith in subst (λ u. begun_test a u ≡ true) g e
  begun_later a t (suc k) e =
      let g : suc (t + k) ≡ t + suc k = omega arith in
      subst (λ u. begun_test a u ≡ true) g (elim (begun_says a (t + k) (begun_later a t k e)) [
        | inl done ↦ done_begun a (suc (t + k)) (done_later (t + k) (suc (t + k)) a (omega arith) done)
        | inr due ↦ (elim (due_on (t + k) a due) [ inl done ↦ done_begun a (suc (t + k)) done | inr still ↦ due_begun a (suc (t + k)) still ])
      ])

  -- no action is due once the run is over
  due_before_over : (t : ℕ) (a : ActionId) → IsAction p a → IsDue p (run p holds t) a → t < last_tick
  unfolding last_tick
  due_before_over t a act d = elim (cases_lt t last_tick) [
    | inl l ↦ l
    | inr l ↦ absurd (
        let over = (run_ends p holds).1.holds in
        let e : last_tick + (t - last_tick) ≡ t = omega arith in
        let same : (j : ℕ) → count_at (run p holds t) j ≡ count_at (run p holds last_tick) j = λ j. ap (λ s. count_at (run p holds s) j) (sym e) ∙ over_same last_tick (t - last_tick) over j in
        let still : is_ready p (run p holds last_tick) a.agent ≡ true = ready_by last_tick t a.agent same d.ready in
        let not : is_ready p (run p holds last_tick) a.agent ≡ false = over_unready p (run p holds last_tick) over a.agent act.agent in
        cc (still, not)
        )
  ]

  -- when an action becomes due
  due_from : ActionId → Option ℕ
  due_from a = cond (begun_test a last_tick) (Some (first_passing (begun_test a) last_tick)) None

  due_from_is : (a : ActionId) (t : ℕ) → IsAction p a → due_from a ≡ Some t → IsDue p (run p holds t) a
  unfolding due_from
  due_from_is a t act = go (begun_test a last_tick) refl
    where
      at : (u : ℕ) → IsLeast (begun_test a) u → IsDue p (run p holds u) a
      at zero first = elim (begun_says a 0 first.holds) [ inl d ↦ absurd (not_at_start a act d) | inr due ↦ due ]
      at (suc u) first = elim (begun_says a (suc u) first.holds) [
        | inr due ↦ due
        | inl d ↦ absurd (
            let f : IsFinishedIn p holds u a = record {
              not_before = λ e. let l : suc u ≤ u = first.least u (done_begun a u e) in omega arith;
              after = subst (λ s. IsDone (run p holds s) a) (sym (add-one u)) d;
            } in
            let l : suc u ≤ u = first.least u (due_begun a u (finished_due u a f)) in
            omega arith
            )
      ]

      go : (b : Bool) → begun_test a last_tick ≡ b → due_from a ≡ Some t → IsDue p (run p holds t) a
      go false e h = absurd (let n : due_from a ≡ None = rw e refl in cc (n, h))
      go true e h =
          let some : due_from a ≡ Some (first_passing (begun_test a) last_tick) = rw e refl in
          subst (λ u. IsDue p (run p holds u) a) (same_Some _ t (sym some ∙ h)) (at (first_passing (begun_test a) last_tick) (first_is (begun_test a) last_tick last_tick (omega arith) e))

  due_from_by : (a : ActionId) (t : ℕ) → IsAction p a → IsDue p (run p holds t) a → IsBy (due_from a) t
  unfolding due_from
  due_from_by a t act d =
      let l : t < last_tick = due_before_over t a act d in
      let g : t + (last_tick - t) ≡ last_tick = omega arith in
      let e : begun_test a last_tick ≡ true = subst (λ u. begun_test a u ≡ true) g (begun_later a t (last_tick - t) (due_begun a t d)) in
      let first = first_is (begun_test a) last_tick last_tick (omega arith) e in
      (first_passing (begun_test a) last_tick, rw e refl, first.least t (due_begun a t d))

  -- ---- the shortest schedule of the run, and the longest

  ends_of : (a : ActionId) (t : ℕ) → IsAction p a → (option_map (λ n. n + 1) (tick_of a) ≡ Some t) ↔ ((u : ℕ) × IsFinishedIn p holds u a × (t ≡ u + 1))
  ends_of a t act = (
    (λ h. go (tick_of a) refl h),
    (λ (u, f, e). ap (option_map (λ n. n + 1)) ((tick_is a u act).1 f) ∙ ap Some (sym e)),
  )
    where
      go : (o : Option ℕ) → tick_of a ≡ o → option_map (λ n. n + 1) o ≡ Some t → (u : ℕ) × IsFinishedIn p holds u a × (t ≡ u + 1)
      go None is h = absurd cc
      go (Some u) is h = (u, (tick_is a u act).0 is, sym (same_Some (u + 1) t h))

  pub shortest : (s : Schedule) × IsScheduleOf p holds s × TakesOneTick p s
  shortest = (
    record { begins = tick_of; ends = λ a. option_map (λ t. t + 1) (tick_of a) },
    record {
      ends = ends_of;
      begins = λ a t act e. finished_due t a ((tick_is a t act).0 e);
      begins_first = λ a t act f. (t, (tick_is a t act).1 f, omega arith);
    },
    λ a act. refl,
  )

  pub longest : (s : Schedule) × IsScheduleOf p holds s × BeginsWhenDue p holds s
  longest = (
    record { begins = due_from; ends = λ a. option_map (λ t. t + 1) (tick_of a) },
    record {
      ends = ends_of;
      begins = due_from_is;
      begins_first = λ a t act f. due_from_by a t act (finished_due t a f);
    },
    due_from_by,
  )

  module _ (s : Schedule) (of : IsScheduleOf p holds s) where
    -- what is finished after t ticks has ended by t, and what has ended by t is finished
    pub ended_done : (t : ℕ) (a : ActionId) → IsAction p a → IsDone (run p holds t) a → HasEndedBy s t a
    ended_done t a act d =
        let u = finished_in t a act d in
        (u.0 + 1, (of.ends a (u.0 + 1) act).1 (u.0, u.2, refl), omega (arith, u.1))

    begun_done : (t : ℕ) (a : ActionId) → IsAction p a → IsDone (run p holds t) a → HasBegunBy s t a
    begun_done t a act d =
        let u = finished_in t a act d in
        by_later (s.begins a) u.0 t (omega (arith, u.1)) (of.begins_first a u.0 act u.2)

    pub done_ended : (t : ℕ) (a : ActionId) → IsAction p a → HasEndedBy s t a → IsDone (run p holds t) a
    done_ended t a act h =
        let f = (of.ends a h.0 act).0 h.1 in
        done_later (f.0 + 1) t a (omega (arith, f.2, h.2)) f.1.after

    pub is_schedule : AreInRange p → IsSchedule p s
    is_schedule in_range = record {
      needs_end = λ a b t act need e.
          let due = of.begins a t act e in
          ended_done t b (need_action p in_range a b act need) (needs_of_ready p (run p holds t) a b (ready_says p (run p holds t) a.agent due.ready) (omega (arith, due.next)) need);
      begins_first = λ a t act e.
          let f = (of.ends a t act).0 e in
          by_later (s.begins a) f.0 t (omega (arith, f.2)) (of.begins_first a f.0 act f.1);
    }

    -- ---- where the agents are

    pub here : (t i : ℕ) → i < length p → MayBeOnAt p s t i (place_at (run p holds t) i)
    here t i h = record {
      position = count_at (run p holds t) i;
      within = count_within p holds t i;
      place = sym (run_place p holds t i h);
      entered = λ f. begun_done t (record { agent = i; number = count_at (run p holds t) i }) (record { agent = h; first = f; last = count_within p holds t i }) (omega arith);
      not_left = λ l e.
          let d = done_ended t (record { agent = i; number = count_at (run p holds t) i + 1 }) (record { agent = h; first = omega arith; last = omega (arith, l) }) e in
          omega (arith, d);
    }

    pub next : (t i : ℕ) → i < length p → MayBeOnAt p s t i (place_at (run p holds (t + 1)) i)
    next t i h = subst (λ u. MayBeOnAt p s t i (place_at (run p holds u) i)) (sym (add-one t)) (go ((run_counts p holds).step t i))
      where
        go : (count_at (run p holds (suc t)) i ≡ count_at (run p holds t) i) ⊎ ((is_ready p (run p holds t) i ≡ true) × (count_at (run p holds (suc t)) i ≡ count_at (run p holds t) i + 1)) → MayBeOnAt p s t i (place_at (run p holds (suc t)) i)
        go (inl e) = subst (MayBeOnAt p s t i) (run_place p holds t i h ∙ (ap (path p i) (sym e) ∙ sym (run_place p holds (suc t) i h))) (here t i h)
        go (inr r) =
            let n = count_at (run p holds (suc t)) i in
            let a : ActionId = record { agent = i; number = n } in
            let act : IsAction p a = record { agent = h; first = omega (arith, r.1); last = count_within p holds (suc t) i } in
            let f : IsFinishedIn p holds t a = record { not_before = λ d. omega (arith, d, r.1); after = subst (λ u. IsDone (run p holds u) a) (sym (add-one t)) (omega arith) } in
            record {
              position = n;
              within = count_within p holds (suc t) i;
              place = sym (run_place p holds (suc t) i h);
              entered = λ g. of.begins_first a t act f;
              not_left = λ l e.
                  let d = done_ended t (record { agent = i; number = n + 1 }) (record { agent = h; first = omega arith; last = omega (arith, l) }) e in
                  omega (arith, d, r.1);
            }

    -- ---- and where their orders send them

    sent : BeginsWhenDue p holds s → (t i : ℕ) (q : Place) → i < length p → Claims p (run p holds t) i q → MayBeOnAt p s t i q
    sent when t i q h (inl e) = subst (MayBeOnAt p s t i) (sym e) (here t i h)
    sent when t i q h (inr (d, o, e)) =
        let order = order_says p (run p holds t) i d o in
        let n = count_at (run p holds t) i in
        let left : n < moves p i = ready_left p (run p holds t) i order.ready in
        let a : ActionId = record { agent = i; number = n + 1 } in
        let act : IsAction p a = record { agent = h; first = omega arith; last = omega (arith, left) } in
        let to : path p i (n + 1) ≡ stepped (path p i n) order.action.step = path_more p i n order.action order.next in
        record {
          position = n + 1;
          within = omega (arith, left);
          place = to ∙ (ap (stepped (path p i n)) order.step ∙ (ap (λ (r : Place). stepped r d) (sym (run_place p holds t i h)) ∙ sym e));
          entered = λ f. when a t act (record { next = refl; ready = order.ready });
          not_left = λ l ended.
              let done = done_ended t (record { agent = i; number = n + 1 + 1 }) (record { agent = h; first = omega arith; last = omega (arith, l) }) ended in
              omega (arith, done);
        }

    pub claimed : BeginsWhenDue p holds s → (t i : ℕ) (q : Place) → i < length p → MayBeOn p holds t i q → MayBeOnAt p s t i q
    claimed when t i q h m = sent when t i q h (still_claims p holds t i q h m)
