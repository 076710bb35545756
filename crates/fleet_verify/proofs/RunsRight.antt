-- Programs of which each run is right are accepted.
use Rattle.fleet_verify.proofs.Words.{◌≡◌, ℕ, zero, suc, ◌+◌, ◌<◌, ◌≤◌, Bool, true, List, [], length, IsTrue, ap, sym, ◌∙◌, subst, arith, add-one, inl, inr, Place, ActionId, Task, place_of, Program, goal_of, moves, path, AreInRange, IsWellFormed, Holds, is_held, run, place_at, count_at, is_finished, held_ticks, IsFinish, IsAction, IsLevel, ComesAfterByChain, IsRight, IsAcceptedBy, HasTasks, RunsWell, RunsRight, ends_action, Schedule, IsSchedule, MayBeOnAt, IsSafeSchedule, IsFinishedIn}
use Rattle.fleet_verify.proofs.RunCounts.{counts, readies, run_counts, run_place, count_opening, run_held, longest_exists, finish_exists, finish_stays, unfinished_ends, ends_in_time}
use Rattle.fleet_verify.proofs.Finish.{finished_says, done_after, run_numbers}
use Rattle.fleet_verify.proofs.FreeRun.{runs_free, runs_on_ground}
use Rattle.fleet_verify.proofs.Arrived.{ranges_hold}
use Rattle.fleet_verify.proofs.Stays.{ranges_all}
use Rattle.fleet_verify.proofs.Exact.{accepted_runs, runs_accepted}
use Rattle.fleet_verify.proofs.Ticked.{finished_in, shortest, is_schedule, here}

pub runs_right : (passable : Place → Bool) (tasks : List Task) (p : Program) → IsAcceptedBy ComesAfterByChain passable tasks p → RunsRight passable p
runs_right passable tasks p ok = record {
  safe = λ holds. record { on_ground = runs_on_ground passable p holds ok.right.on_ground; free = runs_free p holds ok.orderly };
  arrives = λ holds.
      let f = (accepted_runs passable tasks p ok).finishes holds in
      (f.0, f.1, λ i h. finish_stays p holds f.0 f.0 i f.1 (omega arith) h ∙ ok.right.arrives i h);
}

-- each agent comes to each place of its path in a run that finishes
comes_to : (p : Program) (holds : Holds) (f : ℕ) → is_finished p (run p holds f) ≡ true → (i n : ℕ) → i < length p → n ≤ moves p i → (t : ℕ) × (place_at (run p holds t) i ≡ path p i n)
comes_to p holds f fin i zero h l = (0, run_place p holds 0 i h ∙ ap (path p i) (count_opening p holds i))
comes_to p holds f fin i (suc n) h l =
    let a : ActionId = record { agent = i; number = suc n } in
    let act : IsAction p a = record { agent = h; first = omega arith; last = l } in
    let u = finished_in p holds f a act (finished_says p (run p holds f) fin a act) in
    (suc u.0, run_place p holds (suc u.0) i h ∙ ap (path p i) (here u.0 u.2))
  where
    here : (u : ℕ) → IsFinishedIn p holds u (record { agent = i; number = suc n }) → count_at (run p holds (suc u)) i ≡ suc n
    here u d =
        let after : suc n ≤ count_at (run p holds (suc u)) i = subst (λ s. suc n ≤ count_at (run p holds s) i) (add-one u) d.after in
        elim ((run_counts p holds).step u i) [
          | inl e ↦ absurd (d.not_before (omega arith))
          | inr r ↦ go after r.1 (λ x. d.not_before x)
        ]
      where
        go : suc n ≤ count_at (run p holds (suc u)) i → count_at (run p holds (suc u)) i ≡ count_at (run p holds u) i + 1 → (suc n ≤ count_at (run p holds u) i → ⊥) → count_at (run p holds (suc u)) i ≡ suc n
        go after more not = grind arith

pub right_accepted : (passable : Place → Bool) (tasks : List Task) (p : Program) → IsWellFormed p → HasTasks tasks p → RunsRight passable p → IsAcceptedBy ComesAfterByChain passable tasks p
right_accepted passable tasks p wf of r = runs_accepted passable tasks p right well
  where
    fin : is_finished p (run p [] (r.arrives []).0) ≡ true
    fin = (r.arrives []).1.holds

    right : IsRight passable tasks p
    right = record {
      for_tasks = of;
      on_ground = λ i n h l. let c = comes_to p [] (r.arrives []).0 fin i n h l in subst (λ (q : Place). IsTrue (passable q)) c.1 ((r.safe []).on_ground c.0 i h);
      arrives = λ i h. let a = r.arrives [] in sym (finish_stays p [] a.0 a.0 i a.1 (omega arith) h) ∙ a.2 i h;
      in_range = ranges_all p (ranges_hold p (r.arrives []).0 fin wf);
    }

    well : RunsWell p
    well = record {
      apart = λ holds. (r.safe holds).free.vertex;
      finishes = λ holds. ((r.arrives holds).0, (r.arrives holds).1);
    }

-- ---- and those of which each schedule is right

pub schedules_accepted : (passable : Place → Bool) (tasks : List Task) (p : Program) → IsWellFormed p → HasTasks tasks p → (f : ℕ) → IsFinish p [] f
    → ((i : ℕ) → i < length p → place_at (run p [] f) i ≡ place_of (goal_of p i))
    → ((s : Schedule) → IsSchedule p s → IsSafeSchedule passable p s) → IsAcceptedBy ComesAfterByChain passable tasks p
schedules_accepted passable tasks p wf of f fin on_goal safe = runs_accepted passable tasks p right well
  where
    in_range : AreInRange p
    in_range = ranges_all p (ranges_hold p f fin.holds wf)

    timed : (holds : Holds) → (s : Schedule) × IsSchedule p s × ((t i : ℕ) → i < length p → MayBeOnAt p s t i (place_at (run p holds t) i))
    timed holds = let s = shortest p holds in (s.0, is_schedule p holds s.0 s.1 in_range, here p holds s.0 s.1)

    right : IsRight passable tasks p
    right = record {
      for_tasks = of;
      on_ground = λ i n h l.
          let c = comes_to p [] f fin.holds i n h l in
          let s = timed [] in
          subst (λ (q : Place). IsTrue (passable q)) c.1 ((safe s.0 s.1).on_ground c.0 i (place_at (run p [] c.0) i) h (s.2 c.0 i h));
      arrives = λ i h. sym (finish_stays p [] f f i fin (omega arith) h) ∙ on_goal i h;
      in_range = in_range;
    }

    well : RunsWell p
    well = record {
      apart = λ holds x i j hi hj h.
          let s = timed holds in
          (safe s.0 s.1).apart x i j (place_at (run p holds x) i) hi hj h.apart (s.2 x i hi) (subst (MayBeOnAt p s.0 x j) (sym h.same) (s.2 x j hj));
      finishes = λ holds. let l = longest_exists p in_range (done_after p [] f) (run_numbers p [] f fin.holds) in finish_exists p holds in_range l.0 l.1.most;
    }

-- ---- each action in time

pub some_tick : (passable : Place → Bool) (tasks : List Task) (p : Program) → IsAcceptedBy ComesAfterByChain passable tasks p → (holds : Holds) (a : ActionId) → IsAction p a → (t : ℕ) × IsFinishedIn p holds t a
some_tick passable tasks p ok holds a act =
    let f = (accepted_runs passable tasks p ok).finishes holds in
    let u = finished_in p holds f.0 a act (finished_says p (run p holds f.0) f.1.holds a act) in
    (u.0, u.2)

pub tick_in_time : (p : Program) → AreInRange p → (holds : Holds) (a : ActionId) (n t : ℕ) → IsLevel p a n → IsFinishedIn p holds t a → (n ≤ t + 1) × (t + 1 ≤ n + held_ticks p holds t)
tick_in_time p in_range holds a n t level f =
    let act = ends_action p n a level.some in
    let low = ends_in_time p (is_held holds) (readies p holds) (counts p holds) (run_counts p holds) in_range (t + 1) n a level.some f.after in
    let r = unfinished_ends p (is_held holds) (readies p holds) (counts p holds) (run_counts p holds) in_range (held_ticks p holds) (run_held p holds) t a act (not_yet (count_at (run p holds t) a.agent) f.not_before) in
    let high = level.most r.0 r.2 in
    (low, omega (arith, high, r.1))
  where
    not_yet : (k : ℕ) → (a.number ≤ k → ⊥) → k < a.number
    not_yet k h = grind (arith, h)
