-- What a run without holds shows that finishes all actions: every place on its way, and that each await was met.
use Rattle.fleet_verify.proofs.Words.{EachIndex, ◌≡◌, ℕ, zero, suc, ◌<◌, ◌≤◌, Bool, true, List, [], length, Some, nat_le, ap, ◌∙◌, subst, arith, inl, inr, leb-true, le-leb, Contains, cases_lt, slice_get-get_or, Place, Task, Await, ActionId, Visit, Program, moves, awaits_of, IsWellFormed, count_at, run, is_finished, IsLeast, EachAction, EndsRight, StandsRight, AwaitsRight, HasStarts, HasRanges, begun_in, AreOnGround}
use Rattle.fleet_verify.proofs.RunCounts.{count_opening}
use Rattle.fleet_verify.proofs.Finish.{count_within, done_after, done_first}
use Rattle.fleet_verify.proofs.FreeRun.{order_all}
use Rattle.fleet_verify.proofs.Ranges.{one_in_range}
use Rattle.fleet_verify.proofs.Waiting.{step}

-- an action that some tick finishes awaits nothing that is not there
met_in_run : (p : Program) (i n s : ℕ) → i < length p → IsLeast (λ t. nat_le (suc n) (count_at (run p [] t) i)) s → (w : Await) → Contains (awaits_of p i (suc n)) w → w.count ≤ moves p w.agent
met_in_run p i n zero agent first w h =
    absurd (let none : count_at (run p [] 0) i ≡ 0 = count_opening p [] i in let some = leb-true (suc n) (count_at (run p [] 0) i) first.holds in omega arith)
met_in_run p i n (suc s) agent first w h = elim (cases_lt (count_at (run p [] s) i) (suc n)) [
  | inr before ↦ absurd (let sooner : suc s ≤ s = first.least s (le-leb (suc n) (count_at (run p [] s) i) before) in omega arith)
  | inl before ↦
      let after = leb-true (suc n) (count_at (run p [] (suc s)) i) first.holds in
      elim (step p [] s i agent) [
        | inl m ↦
            let same : suc n ≡ suc (count_at (run p [] s) i) = omega (arith, m.count) in
            omega (arith, m.ready.met w (subst (λ k. Contains (awaits_of p i k) w) same h), count_within p [] s w.agent)
        | inr stays ↦ absurd (omega (arith, stays.count))
      ]
]

module _ (p : Program) (t : ℕ) (finished : is_finished p (run p [] t) ≡ true) where
  pub ranges_hold : IsWellFormed p → EachAction p (AwaitsRight p)
  ranges_hold wf i zero agent last = record { met = λ w (k, l, e). absurd (omega arith) }
  ranges_hold wf i (suc n) agent last = record {
    met = λ w (k, l, e).
        one_in_range p wf i (suc n) k w (slice_get-get_or (awaits_of p i (suc n)) k w l ∙ ap Some e)
        (met_in_run p i n (done_after p [] t (action i n)) agent (done_first p [] t finished (action i n) (record { agent = agent; first = omega arith; last = last })) w (k, l, e));
  }
    where
      action : ℕ → ℕ → ActionId
      action i n = record { agent = i; number = suc n }

  pub steps_hold : (passable : Place → Bool) → AreOnGround passable p (begun_in p t) → EachAction p (StandsRight passable p)
  steps_hold passable on_ground i n agent last =
      let visit : Visit = record { agent = i; position = n } in
      let found = (order_all p t finished).all visit agent last in
      subst (λ (v : Visit). StandsRight passable p v.agent v.position) found.2 (on_ground found.0 visit found.1)

  -- where each agent also stands on its goal, all that is judged agent by agent is right
  pub all_right : (passable : Place → Bool) (tasks : List Task) → HasStarts tasks p → IsWellFormed p → AreOnGround passable p (begun_in p t) → EachIndex p (EndsRight tasks p) → HasRanges passable tasks p
  all_right passable tasks starts wf on_ground ends = record {
    before = record { before = record { before = starts; ends = ends }; steps = steps_hold passable on_ground };
    ranges = ranges_hold wf;
  }
