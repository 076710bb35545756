-- What is promised of an accepted program, and of a refusal.
use Rattle.fleet_verify.proofs.Words.{◌≡◌, ℕ, ◌≤◌, ◌&&◌, Bool, true, false, List, sym, subst, ◌∙◌, ◌≢◌, IsTrue, Place, Task, ActionId, Program, IsWellFormed, Holds, run, is_held, is_ready, IsDue, IsAction, IsLongestChain, IsRight, IsAccepted, RunsWell, RunsRight, IsOfLeastLevel, Progresses, IsFinishedInTime, Schedule, IsSchedule, VerifyFault, OutOfMemory, IsFault}
use Rattle.fleet_verify.specs.Promises.{KeepsSchedule, Promises, IsRefusedRightly}
use Rattle.fleet_verify.proofs.RunCounts.{any_below}
use Rattle.fleet_verify.proofs.Levels.{level_exists, least_due, due_done, chain_done}
use Rattle.fleet_verify.proofs.Timed.{critical, ends_in_time, no_two_on, at_end, no_sooner, needs_unended}
use Rattle.fleet_verify.proofs.HeldUp.{finished_on_critical_path}
use Rattle.fleet_verify.proofs.CriticalPaths.{never_stuck}
use Rattle.fleet_verify.proofs.RunsRight.{runs_right, right_accepted, some_tick, tick_in_time}
use Rattle.fleet_verify.proofs.Exact.{runs_accepted}
use Rattle.fleet_verify.proofs.Broken.{broken_by}
use Rattle.fleet_verify.proofs.Refuses.{no_fault, of_order, owned, arrives}

module _ (passable : Place → Bool) (tasks : List Task) (p : Program) (ok : IsAccepted passable tasks p) where
  progresses : (holds : Holds) (t : ℕ) → Progresses p holds t
  progresses holds t = record {
    ready = due;
    finished = λ none a h. due_done p holds t a h.action (due a h) (unheld (is_ready p (run p holds t) a.agent) (is_held holds t a.agent) (any_below (λ i. is_ready p (run p holds t) i && is_held holds t i) _ a.agent h.action.agent none) (due a h).ready);
    one_of_a_chain = λ a b reaches apart first second. first.not_before (chain_done p holds t a b reaches apart second.not_before second.after);
  }
    where
      due : (a : ActionId) → IsOfLeastLevel p (run p holds t) a → IsDue p (run p holds t) a
      due a h =
          let l = level_exists p ok.right.in_range ok.numbering.0 ok.numbering.1 a h.action in
          least_due p ok.right.in_range ok.numbering.0 ok.numbering.1 holds t a l.0 h.action h.unfinished l.1 (λ b m act open' level. h.least b l.0 m act open' l.1 level)

      unheld : (ready held : Bool) → (ready && held) ≡ false → ready ≡ true → held ≡ false
      unheld true held e r = e
      unheld false held e r = absurd cc

  in_time : (holds : Holds) (a : ActionId) → IsAction p a → IsFinishedInTime p holds a
  in_time holds a act =
      let u = some_tick passable tasks p ok holds a act in
      let l = level_exists p ok.right.in_range ok.numbering.0 ok.numbering.1 a act in
      let both = tick_in_time p ok.right.in_range holds a l.0 u.0 l.1 u.1 in
      record {
        tick = u.0;
        finished = u.1;
        critical = finished_on_critical_path p holds ok.right.in_range ok.numbering.0 ok.numbering.1 a u.0 act u.1;
        level = l.0;
        is_level = l.1;
        no_sooner = both.0;
        in_time = both.1;
      }

  keeps_schedule : (s : Schedule) → IsSchedule p s → KeepsSchedule passable p s
  keeps_schedule s is = record {
    safe = record {
      apart = λ x. no_two_on p s is x ok.orderly;
      on_ground = λ x i q h m. subst (λ (r : Place). IsTrue (passable r)) m.place (ok.right.on_ground i m.position h m.within);
    };
    in_time = λ stalls cost ends b act free.
        let c = critical p cost ok.right.in_range ok.numbering.0 ok.numbering.1 b act in
        (c.0, c.1, ends_in_time p cost ok.right.in_range ok.numbering.0 ok.numbering.1 s stalls ends b c.0 act free c.1);
    no_sooner = λ cost least b m x c ended.
        subst (λ n. n ≤ x) (sym c.some.3) (no_sooner p s is x cost least c.some.0 c.some.1 b c.some.2 ended);
    stopped = λ a b reaches apart never x begun. needs_unended p s is x a b reaches apart never begun;
    never_stuck = λ x b act not.
        let r = never_stuck p s x ok.right.in_range ok.numbering.0 ok.numbering.1 b act not in
        (r.0, record { action = r.1; unended = r.2; needs_ended = r.3 }, r.4);
    on_goal = λ x i q h ended m. sym (at_end p s is x i q h ended m) ∙ ok.right.arrives i h;
  }

  pub promised : (chain : ℕ) → IsLongestChain p chain → Promises passable p chain
  promised chain long = record {
    right = runs_right passable tasks p ok;
    in_turn = λ q. let o = owned passable tasks p ok q in record { listing = o.0; lists = o.1; after = o.2; owned = o.3 };
    in_time = λ holds. record {
      arrives = arrives passable tasks p ok holds chain long;
      progress = progresses holds;
      actions = in_time holds;
    };
    schedules = keeps_schedule;
  }

pub refused_rightly : (passable : Place → Bool) (tasks : List Task) (p : Program) → IsWellFormed p → (f : VerifyFault) → IsFault passable tasks p f → IsRefusedRightly passable tasks p f
refused_rightly passable tasks p formed f h = record {
  fault = h;
  not_accepted = λ n a. no_fault passable tasks p a f n h;
  not_right = λ n of r. no_fault passable tasks p (right_accepted passable tasks p formed of r) f n h;
  broken = broken_by passable tasks p f h;
  of_order = λ ranges. of_order passable tasks p ranges f h;
}

-- what runs right runs well
pub runs_well : (passable : Place → Bool) (p : Program) → RunsRight passable p → RunsWell p
runs_well passable p r = record {
  apart = λ holds. (r.safe holds).free.vertex;
  finishes = λ holds. ((r.arrives holds).0, (r.arrives holds).1);
}

-- a refused program that is right but for its order runs badly
pub runs_badly : (passable : Place → Bool) (tasks : List Task) (p : Program) (f : VerifyFault) → IsRefusedRightly passable tasks p f → f ≢ OutOfMemory → IsRight passable tasks p → RunsWell p → ⊥
runs_badly passable tasks p f r n right well = r.not_accepted n (runs_accepted passable tasks p right well)
