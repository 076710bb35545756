use Rattle.fleet_verify.proofs.Words.{Bool, List, length, ℕ, ◌<◌, IsTrue, refl, subst, arith, ◌≢◌, Place, Task, Program, Holds, run, ComesAfterByChain, IsAcceptedBy, AreApart, Claims, MayBeOn, MayBeOnAt}
use Rattle.fleet_verify.proofs.Claimed.{held_keeps}
use Rattle.fleet_verify.proofs.Ticked.{is_schedule, longest, claimed}
use Rattle.fleet_verify.proofs.Timed.{no_two_on}
use Rattle.fleet_verify.proofs.runs.ready_moves_are_apart.Goals as goal

-- what may be claimed in a run may be on a place by its longest schedule, and schedules are safe
on_passable : (passable : Place → Bool) (tasks : List Task) (p : Program) → IsAcceptedBy ComesAfterByChain passable tasks p
    → (holds : Holds) (t i : ℕ) (q : Place) → i < length p → MayBeOn p holds t i q → IsTrue (passable q)
on_passable passable tasks p ok holds t i q h m =
    let s = longest p holds in
    let on : MayBeOnAt p s.0 t i q = claimed p holds s.0 s.1 s.2 t i q h m in
    subst (λ (r : Place). IsTrue (passable r)) on.place (ok.right.on_ground i on.position h on.within)

no_two : (passable : Place → Bool) (tasks : List Task) (p : Program) → IsAcceptedBy ComesAfterByChain passable tasks p
    → (holds : Holds) (t i j : ℕ) (q : Place) → i < length p → j < length p → i ≢ j → MayBeOn p holds t i q → MayBeOn p holds t j q → ⊥
no_two passable tasks p ok holds t i j q h k ne a b =
    let s = longest p holds in
    no_two_on p s.0 (is_schedule p holds s.0 s.1 ok.right.in_range) t ok.orderly i j q h k ne (claimed p holds s.0 s.1 s.2 t i q h a) (claimed p holds s.0 s.1 s.2 t j q k b)

now : (p : Program) (holds : Holds) (t i : ℕ) (q : Place) → Claims p (run p holds t) i q → MayBeOn p holds t i q
now p holds t i q h = record { since = t; before = omega arith; nothing_since = refl; claimed = h }

pub returns-clause-apart : goal.returns-clause-apart
returns-clause-apart c passable tasks p ok d r =
    subst (AreApart passable p) r.same (record {
      on_ground = λ i q h a. on_passable passable tasks p ok r.holds r.ticks i q h (now p r.holds r.ticks i q a);
      apart = λ i j q h k ne a b. no_two passable tasks p ok r.holds r.ticks i j q h k ne (now p r.holds r.ticks i q a) (now p r.holds r.ticks j q b);
    })

pub returns-clause-kept : goal.returns-clause-kept
returns-clause-kept c = held_keeps

pub returns-clause-on_ground : goal.returns-clause-on_ground
returns-clause-on_ground c = on_passable

pub returns-clause-no_contact : goal.returns-clause-no_contact
returns-clause-no_contact c = no_two
