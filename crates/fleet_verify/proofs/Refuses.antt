-- What is refused is not accepted, and what is accepted runs well.
use Rattle.fleet_verify.proofs.Words.{◌≡◌, ◌≢◌, ℕ, suc, ◌+◌, ◌<◌, Bool, List, length, get_or, Some, slice_get, refl, ap, sym, ◌∙◌, subst, arith, add-one, option_map, slice_get-get_or, slice_get_within, get_or_from_slice_get, Cell, Place, Task, ActionId, Visit, place_of, Holds, IsFinish, run, Program, origin, IsLongestChain, ListsVisits, Adjacent, ComesAfter, IsAccepted, IsOwnedInTurn, Arrives, IsToldRing, VerifyFault, OutOfMemory, OtherFleet, Start, Goal, AwaitRange, Cyclic, Unordered, HasRanges, IsFault, IsOfOrder, IsUnordered, StartsRight, EndsRight}
use Rattle.fleet_verify.proofs.FreeRun.{runs_owned}
use Rattle.fleet_verify.proofs.RunCounts.{finish_exists, finish_above, finish_below, finish_stays}
use Rattle.fleet_verify.proofs.Finish.{ring_unnumbered}
use Rattle.fleet_verify.proofs.Listing.{sorted_passes, after_reaches, levels_number}
use Rattle.fleet_verify.proofs.Unordered.{neighbours_unordered}
use Rattle.fleet_verify.proofs.Neighbours.{adjacent_at}
use Rattle.fleet_verify.specs.declared.fault.VerifyFault.TheVariants.{Step}

module _ (passable : Place → Bool) (tasks : List Task) (p : Program) (a : IsAccepted passable tasks p) where
  task_at : (i : ℕ) → i < length p → (t : Task) × (slice_get tasks i ≡ Some t)
  task_at i l =
      let d : Task = record { start = origin; goal = origin } in
      (get_or tasks i d, slice_get-get_or tasks i d (omega (arith, a.right.for_tasks.agents)))

  pub starts_right : (i : ℕ) → i < length p → StartsRight tasks p i
  starts_right i l = let t = task_at i l in ap (option_map (λ (u : Task). u.start)) t.1 ∙ ap (λ (c : Cell). Some c) (sym ((a.right.for_tasks.ends i t.0 t.1).0))

  pub ends_right : (i : ℕ) → i < length p → EndsRight tasks p i
  ends_right i l =
      let t = task_at i l in
      record { goal = ap (option_map (λ (u : Task). u.goal)) t.1 ∙ ap (λ (c : Cell). Some c) (sym ((a.right.for_tasks.ends i t.0 t.1).1)); arrives = a.right.arrives i l }

  pub no_ring : (ring : List ActionId) → IsToldRing p ring → ⊥
  no_ring ring r =
      let d : ActionId = record { agent = 0; number = 0 } in
      ring_unnumbered p ring r.around a.numbering.0 a.numbering.1 (a.numbering.0 (get_or ring 0 d)) 0 (get_or ring 0 d) (slice_get-get_or ring 0 d r.some) (omega arith)

  pub no_break : (q : Place) (v w : Visit) → IsUnordered ComesAfter p q v w → ⊥
  no_break q v w u =
      let o = a.orderly q in
      let adj : Adjacent (ComesAfter p) u.sorted =
      sorted_passes p u.level (levels_number p u.level u.levels) q (ComesAfter p) (after_reaches p q) o.0 o.1 o.2 u.sorted u.listing in
      let b = u.broken in
      let l : b.at + 1 < length u.sorted = slice_get_within u.sorted (b.at + 1) w b.next in
      let r : ComesAfter p (get_or u.sorted b.at v) (get_or u.sorted (suc b.at) v) = adjacent_at (ComesAfter p) u.sorted adj b.at v (omega arith) in
      let second : get_or u.sorted (suc b.at) v ≡ w = ap (λ m. get_or u.sorted m v) (sym (add-one b.at)) ∙ get_or_from_slice_get u.sorted (b.at + 1) w v b.next in
      let first : get_or u.sorted b.at v ≡ v = get_or_from_slice_get u.sorted b.at v v b.here in
      b.breaks (subst (λ x. ComesAfter p v x) second (subst (λ x. ComesAfter p x (get_or u.sorted (suc b.at) v)) first r))

  pub no_fault : (f : VerifyFault) → f ≢ OutOfMemory → IsFault passable tasks p f → ⊥
  no_fault OutOfMemory n h = n refl
  no_fault OtherFleet n h = h a.right.for_tasks.agents
  no_fault (Start i) n h = (h.1).wrong (starts_right i (h.1).agent)
  no_fault (Goal i) n h = (h.1).wrong (ends_right i (h.1).agent)
  no_fault (Step i k) n h = ((h.1).action).wrong (a.right.on_ground i k (h.1).agent ((h.1).action).within)
  no_fault (AwaitRange i k) n h = ((h.1).action).wrong (record { met = a.right.in_range i k })
  no_fault (Cyclic ring) n h = no_ring ring.items h.1
  no_fault (Unordered c v w) n h = no_break (place_of c) v w h.1

  -- ---- what is accepted

  pub owned : (q : Place) → (listing : List Visit) × ListsVisits p q listing × Adjacent (ComesAfter p) listing × ((holds : Holds) (t : ℕ) → IsOwnedInTurn p listing (run p holds t))
  owned q =
      let o = a.orderly q in
      (o.0, o.1, o.2, λ holds t. runs_owned p holds t q o.0 o.1 o.2)

  pub arrives : (holds : Holds) (l : ℕ) → IsLongestChain p l → (f : ℕ) × IsFinish p holds f × Arrives p holds l f
  arrives holds l long =
      let fin = finish_exists p holds a.right.in_range l long.most in (
        fin.0,
        fin.1,
        record {
          no_sooner = finish_above p holds a.right.in_range l fin.0 long fin.1;
          in_time = finish_below p holds a.right.in_range l fin.0 long fin.1;
          on_goal = λ x i le h. finish_stays p holds fin.0 x i fin.1 le h ∙ a.right.arrives i h;
        },
      )

-- a fault if all but the order is right
pub of_order : (passable : Place → Bool) (tasks : List Task) (p : Program) → HasRanges passable tasks p → (f : VerifyFault) → IsFault passable tasks p f → IsOfOrder p f
of_order passable tasks p h OutOfMemory f = tt
of_order passable tasks p h OtherFleet f = f h.before.before.before.fleet
of_order passable tasks p h (Start i) f = (f.1).wrong (h.before.before.before.starts i (f.1).agent)
of_order passable tasks p h (Goal i) f = (f.1).wrong (h.before.before.ends i (f.1).agent)
of_order passable tasks p h (Step i k) f = ((f.1).action).wrong (h.before.steps i k (f.1).agent ((f.1).action).within)
of_order passable tasks p h (AwaitRange i k) f = ((f.1).action).wrong (h.ranges i k (f.1).agent ((f.1).action).within)
of_order passable tasks p h (Cyclic ring) f = f.1
of_order passable tasks p h (Unordered c v w) f =
    let u = f.1 in
    neighbours_unordered p u.level (levels_number p u.level u.levels) (place_of c) u.sorted u.listing u.broken.at v w u.broken.here u.broken.next u.broken.breaks
