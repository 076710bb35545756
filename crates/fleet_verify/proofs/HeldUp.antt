-- The actions of a run end when their critical paths do, if an action costs one tick and those in which it is held up.
use Rattle.fleet_verify.proofs.Words.{◌≡◌, ℕ, zero, suc, ◌+◌, ◌-◌, ◌<◌, ◌≤◌, ◌==◌, ◌&&◌, Bool, true, false, length, Some, refl, ap, sym, ◌∙◌, subst, arith, add-one, inl, inr, ◌⊎◌, cases_lt, cases_Bool, eq-eqb, eqb-true, same_Some, ActionId, Standing, Program, AreInRange, Holds, is_held, run, count_at, is_ready, IsDone, IsDue, IsAction, DirectlyNeeds, IsCriticalCost, IsNumbering, Schedule, HasEndedBy, EndInTime, TakeAtLeast, IsFinishedIn, IsScheduleOf, BeginsWhenDue, is_held_up, held_up_ticks, ticks_taken, need_action}
use Rattle.fleet_verify.proofs.RunCounts.{counts, readies, run_counts, tick_stays, held_past, ready_or_needs}
use Rattle.fleet_verify.proofs.Levels.{due_done}
use Rattle.fleet_verify.proofs.Timed.{no_sooner, critical, ends_in_time}
use Rattle.fleet_verify.proofs.Ticked.{done_later, longest, ended_done, done_ended, is_schedule}

module _ (p : Program) (holds : Holds) where
  abbrev up : ActionId → ℕ → ℕ
  up a t = held_up_ticks p holds a t

  abbrev cost : ActionId → ℕ
  cost a = ticks_taken p holds a

  -- ---- held up: due, and held

  held_up_says : (a : ActionId) (t : ℕ) → is_held_up p holds a t ≡ true → IsDue p (run p holds t) a × (is_held holds t a.agent ≡ true)
  held_up_says a t e = go (a.number == count_at (run p holds t) a.agent + 1) (is_ready p (run p holds t) a.agent) (is_held holds t a.agent) refl refl refl e
    where
      go : (n r h : Bool) → (a.number == count_at (run p holds t) a.agent + 1) ≡ n → is_ready p (run p holds t) a.agent ≡ r → is_held holds t a.agent ≡ h → (n && r && h) ≡ true → IsDue p (run p holds t) a × (is_held holds t a.agent ≡ true)
      go true true true n r h e = (record { next = eqb-true _ _ n; ready = r }, h)
      go true true false n r h e = absurd cc
      go true false b n r h e = absurd cc
      go false c b n r h e = absurd cc

  held_up_from : (a : ActionId) (t : ℕ) → IsDue p (run p holds t) a → is_held holds t a.agent ≡ true → is_held_up p holds a t ≡ true
  held_up_from a t d h = rw (eq-eqb a.number (count_at (run p holds t) a.agent + 1) d.next, d.ready, h) refl

  -- a tick more
  up_more : (a : ActionId) (t : ℕ) → ((up a (suc t) ≡ up a t + 1) × IsDue p (run p holds t) a × (is_held holds t a.agent ≡ true)) ⊎ ((up a (suc t) ≡ up a t) × (is_held_up p holds a t ≡ false))
  up_more a t = go (is_held_up p holds a t) refl
    where
      go : (b : Bool) → is_held_up p holds a t ≡ b → ((up a (suc t) ≡ up a t + 1) × IsDue p (run p holds t) a × (is_held holds t a.agent ≡ true)) ⊎ ((up a (suc t) ≡ up a t) × (is_held_up p holds a t ≡ false))
      go true e = let s = held_up_says a t e in inl (rw e refl, s.0, s.1)
      go false e = inr (let n : up a (suc t) ≡ up a t + 0 = rw e refl in omega arith, e)

  -- there is no more of it after the list of holds
  up_most : (a : ActionId) (t : ℕ) → up a t ≤ up a (length holds)
  up_most a t = elim (cases_lt t (length holds)) [
    | inl l ↦ (let e : t + (length holds - t) ≡ length holds = omega arith in subst (λ n. up a t ≤ up a n) e (rises t (length holds - t)))
    | inr l ↦ (let e : length holds + (t - length holds) ≡ t = omega arith in subst (λ n. up a n ≤ up a (length holds)) e (past (t - length holds)))
  ]
    where
      rises : (s k : ℕ) → up a s ≤ up a (s + k)
      rises s zero = let e : s ≡ s + zero = omega arith in subst (λ n. up a s ≤ up a n) e (omega arith)
      rises s (suc k) = let e : suc (s + k) ≡ s + suc k = omega arith in subst (λ n. up a s ≤ up a n) e (elim (up_more a (s + k)) [
        | inl m ↦ omega (arith, m.0, rises s k)
        | inr m ↦ omega (arith, m.0, rises s k)
      ])

      past : (k : ℕ) → up a (length holds + k) ≤ up a (length holds)
      past zero = let e : length holds ≡ length holds + zero = omega arith in subst (λ n. up a n ≤ up a (length holds)) e (omega arith)
      past (suc k) = let e : suc (length holds + k) ≡ length holds + suc k = omega arith in subst (λ n. up a n ≤ up a (length holds)) e (elim (up_more a (length holds + k)) [
        | inl m ↦ absurd (let free : is_held holds (length holds + k) a.agent ≡ false = held_past holds (length holds + k) a.agent (omega arith) in let held : is_held holds (length holds + k) a.agent ≡ true = m.2 in cc (free, held))
        | inr m ↦ omega (arith, m.0, past k)
      ])

  -- ---- how long an action takes once all that it needs is finished

  module _ (in_range : AreInRange p) where
    -- an unfinished action is due if all that it needs is finished
    due_at : (t : ℕ) (a : ActionId) → IsAction p a → count_at (run p holds t) a.agent < a.number → ((b : ActionId) → DirectlyNeeds p a b → IsDone (run p holds t) b) → IsDue p (run p holds t) a
    due_at t a act l needs = elim (ready_or_needs p (is_held holds) (readies p holds) (counts p holds) (run_counts p holds) in_range t a act l) [
      | inl n ↦ record { next = n.1; ready = n.0 }
      | inr d ↦ absurd (omega (arith, d.2, needs d.0 d.3))
    ]

    done_or_up : (t : ℕ) (a : ActionId) → IsAction p a → ((b : ActionId) → DirectlyNeeds p a b → IsDone (run p holds t) b) → (k : ℕ) → IsDone (run p holds (t + k)) a ⊎ (k + up a t ≤ up a (t + k))
    done_or_up t a act needs zero = inr (let e : t ≡ t + zero = omega arith in subst (λ n. 0 + up a t ≤ up a n) e (omega arith))
    done_or_up t a act needs (suc k) = go (done_or_up t a act needs k)
      where
        next : suc (t + k) ≡ t + suc k
        next = omega arith

        on : up a t + k ≤ up a (t + k) → (count_at (run p holds (t + k)) a.agent < a.number) ⊎ (a.number ≤ count_at (run p holds (t + k)) a.agent) → IsDone (run p holds (suc (t + k))) a ⊎ (suc k + up a t ≤ up a (suc (t + k)))
        on h (inr d) = inl (done_later p holds (t + k) (suc (t + k)) a (omega arith) d)
        on h (inl l) =
            let due = due_at (t + k) a act l (λ b need. done_later p holds t (t + k) b (omega arith) (needs b need)) in
            elim (cases_Bool (is_held holds (t + k) a.agent)) [
              | inr free ↦ inl (subst (λ n. IsDone (run p holds n) a) (add-one (t + k)) (due_done p holds (t + k) a act due free))
              | inl held ↦ (elim (up_more a (t + k)) [
                | inl m ↦ inr (omega (arith, h, m.0))
                | inr m ↦ absurd (let yes : is_held_up p holds a (t + k) ≡ true = held_up_from a (t + k) due held in let no' : is_held_up p holds a (t + k) ≡ false = m.1 in cc (yes, no'))
              ])
            ]

        go : IsDone (run p holds (t + k)) a ⊎ (k + up a t ≤ up a (t + k)) → IsDone (run p holds (t + suc k)) a ⊎ (suc k + up a t ≤ up a (t + suc k))
        go (inl d) = inl (done_later p holds (t + k) (t + suc k) a (omega arith) d)
        go (inr h) = subst (λ n. IsDone (run p holds n) a ⊎ (suc k + up a t ≤ up a n)) next (on (omega (arith, h)) (cases_lt (count_at (run p holds (t + k)) a.agent) a.number))

    done_by_cost : (t : ℕ) (a : ActionId) → IsAction p a → ((b : ActionId) → DirectlyNeeds p a b → IsDone (run p holds t) b) → IsDone (run p holds (t + cost a)) a
    done_by_cost t a act needs = elim (done_or_up t a act needs (cost a)) [ inl d ↦ d | inr h ↦ absurd (omega (arith, h, up_most a (t + cost a))) ]

    module _ (s : Schedule) (of : IsScheduleOf p holds s) (when : BeginsWhenDue p holds s) where
      in_time : EndInTime p s (λ _. false) cost
      in_time a t act goes needs =
          ended_done p holds s of (t + cost a) a act (done_by_cost t a act (λ b need. done_ended p holds s of t b (need_action p in_range a b act need) (needs b need)))

      -- it is held up only from its begin on, and before it is finished
      up_between : (a : ActionId) (b t : ℕ) → IsAction p a → s.begins a ≡ Some b → IsFinishedIn p holds t a → (u : ℕ) → (up a u ≤ u - b) × (up a u ≤ t - b)
      up_between a b t act begins f zero = (omega arith, omega arith)
      up_between a b t act begins f (suc u) = go (up_more a u) (up_between a b t act begins f u)
        where
          go : ((up a (suc u) ≡ up a u + 1) × IsDue p (run p holds u) a × (is_held holds u a.agent ≡ true)) ⊎ ((up a (suc u) ≡ up a u) × (is_held_up p holds a u ≡ false)) → (up a u ≤ u - b) × (up a u ≤ t - b) → (up a (suc u) ≤ suc u - b) × (up a (suc u) ≤ t - b)
          go (inr m) r = (omega (arith, m.0, r.0), omega (arith, m.0, r.1))
          go (inl m) r =
              let begun = when a u act m.1 in
              let same : begun.0 ≡ b = same_Some begun.0 b (sym begun.1 ∙ begins) in
              let from : b ≤ u = omega (arith, begun.2, same) in
              let before : u < t = elim (cases_lt u t) [
                | inl l ↦ l
                | inr l ↦ absurd (unheld (cases_lt t u) l)
              ] in
              (omega (arith, m.0, r.0, from), omega (arith, m.0, r.0, before, from))
            where
              not_later : t < u → ⊥
              not_later l = let d : IsDone (run p holds u) a = done_later p holds (t + 1) u a (omega arith) f.after in omega (arith, d, (m.1).next)

              unheld : (t < u) ⊎ (u ≤ t) → t ≤ u → ⊥
              unheld (inl l) k = not_later l
              unheld (inr l) k =
                  let e : u ≡ t = omega arith in
                  let held : is_held holds t a.agent ≡ true = subst (λ n. is_held holds n a.agent ≡ true) e m.2 in
                  let stays = tick_stays p (is_held holds t) (run p holds t) a.agent act.agent (rw held (unready (is_ready p (run p holds t) a.agent))) in
                  let same : count_at (run p holds (suc t)) a.agent ≡ count_at (run p holds t) a.agent = ap (λ (s : Standing). s.count) stays in
                  let after : IsDone (run p holds (suc t)) a = subst (λ n. IsDone (run p holds n) a) (add-one t) f.after in
                  f.not_before (omega (arith, after, same))
                where
                  unready : (r : Bool) → (r && false) ≡ false
                  unready true = refl
                  unready false = refl

      takes : TakeAtLeast p s cost
      takes a t u act begins ends =
          let f = (of.ends a u act).0 ends in
          let r = up_between a t f.0 act begins f.1 (length holds) in
          let due = of.begins a t act begins in
          let low : t ≤ f.0 = elim (cases_lt f.0 t) [
            | inr l ↦ l
            | inl l ↦ absurd (let d : IsDone (run p holds t) a = done_later p holds (f.0 + 1) t a (omega arith) f.1.after in omega (arith, d, due.next))
          ] in
          omega (arith, r.1, f.2, low)

      on_critical_path : (number : ActionId → ℕ) → IsNumbering p number → (a : ActionId) (t : ℕ) → IsAction p a → IsFinishedIn p holds t a → IsCriticalCost p cost a (t + 1)
      on_critical_path number numbered a t act f =
          let c = critical p cost in_range number numbered a act in
          let ended : HasEndedBy s c.0 a = ends_in_time p cost in_range number numbered s (λ _. false) in_time a c.0 act (λ b h r. absurd cc) c.1 in
          let high : IsDone (run p holds c.0) a = done_ended p holds s of c.0 a act ended in
          let low = no_sooner p s (is_schedule p holds s of in_range) (t + 1) cost takes c.1.some.0 c.1.some.1 a c.1.some.2 (ended_done p holds s of (t + 1) a act f.after) in
          subst (λ n. IsCriticalCost p cost a n) (elim (cases_lt t c.0) [
            | inl l ↦ omega (arith, low, c.1.some.3, l)
            | inr l ↦ absurd (f.not_before (done_later p holds c.0 t a l high))
          ]) c.1

  pub finished_on_critical_path : AreInRange p → (number : ActionId → ℕ) → IsNumbering p number → (a : ActionId) (t : ℕ) → IsAction p a → IsFinishedIn p holds t a → IsCriticalCost p (ticks_taken p holds) a (t + 1)
  finished_on_critical_path in_range number numbered a t act f =
      let s = longest p holds in on_critical_path in_range s.0 s.1 s.2 number numbered a t act f
