-- The stays of a finished run without holds have all visits, sorted.
use Rattle.fleet_verify.proofs.Words.{◌≡◌, ℕ, zero, suc, ◌<◌, ◌≤◌, Bool, true, false, List, [], ◌∷◌, length, map, get_or, Some, slice_get, refl, ap, sym, ◌∙◌, subst, arith, inl, inr, Contains, All, option_map, filter, AllPairs, cases_order, get_or_default, length-map, AllPairs-filter, slice_get_within, get_or_from_slice_get, same_Some, Place, Task, Await, ActionId, Visit, place_of, is_same_place, run, is_finished, IsEnd, IsFinish, Program, moves, actions_of, awaits_of, path, start_of, goal_of, IsLongestChain, IsNumbering, is_entry, IsVisitOf, ListsVisits, ComesAfter, IsOrderly, IsAccepted, AreInRange, IsVisit, is_same_place-true, is_same_place-eq, IsBefore, IsSortedListing, PlacedVisit, begun_in, IsRunOnGround, HasArrived, visits_of, entries, AreAllPlaced, IsVisitPlaced, AreAdded, AreAllAdded, VisitOrder, HasStarts, HasRanges, AwaitsRight, EachAction}
use Rattle.fleet_verify.proofs.RunCounts.{unheld_is_longest}
use Rattle.fleet_verify.proofs.Members.{filter_has, filter_from, contains_map}
use Rattle.fleet_verify.proofs.Listing.{levels_number}
use Rattle.fleet_verify.proofs.Neighbours.{adjacent_from}
use Rattle.fleet_verify.specs.declared.unheld_run.UnheldRun.{UnheldRun}
use Rattle.fleet_verify.proofs.Arrived.{all_right}
use Rattle.fleet_verify.proofs.FreeRun.{level, levels_are, order_all, IsOrder}

-- ---- awaits

pub has_action : (p : Program) (i n : ℕ) (w : Await) → Contains (awaits_of p i n) w → (i < length p) × (n ≤ moves p i)
has_action p i zero w (k, l, e) = absurd (omega arith)
has_action p i (suc n) w h = (known p i n (inside (actions_of p i) n h), inside (actions_of p i) n h)
  where
    inside : (xs : List Rattle.fleet_model.specs.declared.program.Action.Action) (n : ℕ) → Contains (Rattle.std.specs.Option.option_map_or (λ a. a.awaits) (slice_get xs n) []) w → suc n ≤ length xs
    inside [] n (k, l, e) = absurd (omega arith)
    inside (x ∷ xs) zero h = omega arith
    inside (x ∷ xs) (suc n) h = omega (arith, inside xs n h)

    known : (p : Program) (i n : ℕ) → suc n ≤ moves p i → i < length p
    known [] i n l = absurd (omega arith)
    known (a ∷ p) zero n l = omega arith
    known (a ∷ p) (suc i) n l = omega (arith, known p i n l)

pub ranges_all : (p : Program) → EachAction p (AwaitsRight p) → AreInRange p
ranges_all p h i n w k = let r = has_action p i n w k in (h i n r.0 r.1).met w k

-- ---- lists

pub visit_at : (stays : List PlacedVisit) (i : ℕ) (d : PlacedVisit) → get_or (map (λ s. s.visit) stays) i d.visit ≡ (get_or stays i d).visit
visit_at [] i d = refl
visit_at (s ∷ stays) zero d = refl
visit_at (s ∷ stays) (suc i) d = visit_at stays i d

pub before_itself : (lev : ActionId → ℕ) (v : Visit) → IsBefore lev v v → ⊥
before_itself lev v (inl h) = omega arith
before_itself lev v (inr (e, inl h)) = omega arith
before_itself lev v (inr (e, inr (f, h))) = omega arith

once : (lev : ActionId → ℕ) (l : List Visit) → AllPairs (IsBefore lev) l → (j k : ℕ) (v : Visit) → slice_get l j ≡ Some v → slice_get l k ≡ Some v → j ≡ k
once lev l h j k v e g = elim (cases_order j k) [
  | inl s ↦ s
  | inr (inl m) ↦ absurd (before_itself lev v (subst (λ x. IsBefore lev x v) (at j e) (subst (IsBefore lev (get_or l j v)) (at k g) (h j k v m (slice_get_within l k v g)))))
  | inr (inr m) ↦ absurd (before_itself lev v (subst (λ x. IsBefore lev x v) (at k g) (subst (IsBefore lev (get_or l k v)) (at j e) (h k j v m (slice_get_within l j v e)))))
]
  where
    at : (i : ℕ) → slice_get l i ≡ Some v → get_or l i v ≡ v
    at i f = get_or_from_slice_get l i v v f

-- ---- the visits of a place

abbrev pub is_at : Program → Place → Visit → Bool
is_at p q v = is_same_place (path p v.agent v.position) q

pub visits_are : (p : Program) (q : Place) (stays : List PlacedVisit) → All (IsVisitPlaced p) stays → visits_of q stays ≡ filter (is_at p q) (map (λ s. s.visit) stays)
unfolding visits_of
visits_are p q [] h = refl
visits_are p q (s ∷ stays) h = go (is_same_place (place_of s.cell) q) refl (visits_are p q stays (λ k d l. h (suc k) d (omega arith)))
  where
    here : is_at p q s.visit ≡ is_same_place (place_of s.cell) q
    here = ap (λ r. is_same_place r q) (sym (h 0 s (omega arith)).here)

    go : (b : Bool) → is_same_place (place_of s.cell) q ≡ b → map (λ (s : PlacedVisit). s.visit) (filter (λ s. is_same_place (place_of s.cell) q) stays) ≡ filter (is_at p q) (map (λ s. s.visit) stays)
        → map (λ (s : PlacedVisit). s.visit) (filter (λ s. is_same_place (place_of s.cell) q) (s ∷ stays)) ≡ filter (is_at p q) (map (λ s. s.visit) (s ∷ stays))
    go true e rest = let f : is_at p q s.visit ≡ true = here ∙ e in rw (e, f) (ap (λ vs. s.visit ∷ vs) rest)
    go false e rest = let f : is_at p q s.visit ≡ false = here ∙ e in rw (e, f) rest

module _ (p : Program) (t : ℕ) (end : IsEnd p [] t) (fin : is_finished p (run p [] t) ≡ true) where
  -- the run finishes with the last tick
  pub finish_is : IsFinish p [] t
  finish_is = record { holds = fin; least = λ s f. end.least s (rw f refl) }

  -- the longest chain has as many actions as there were ticks
  pub chain_is : AreInRange p → IsLongestChain p t
  chain_is range = unheld_is_longest p range t finish_is

  pub all_added : (w : VisitOrder) → AreAdded p (begun_in p t) w → AreInRange p → AreAllAdded p w
  all_added w added range = record {
    placed = placed;
    all = record {
      level = lev;
      levels = levels_are p range t fin;
      visits = visits;
      all = λ v is. subst (λ (vs : List Visit). Contains vs v) (sym added.same) (begins v is.agent is.position is.entered);
      in_order = in_order;
      sorted = sorted;
    };
    each = added.each;
    grouped = added.grouped;
  }
    where
      placed : List PlacedVisit
      placed = added.placed

      lev : ActionId → ℕ
      lev = level p t fin

      order : IsOrder p t fin (λ v. v.position ≤ moves p v.agent) (begun_in p t)
      order = order_all p t fin

      -- the visits are those positions that begin one
      begins : (v : Visit) → v.agent < length p → v.position ≤ moves p v.agent → is_entry p v.agent v.position ≡ true → Contains (entries p (begun_in p t)) v
      begins v a n e = filter_has (λ (w : Visit). is_entry p w.agent w.position) (begun_in p t) v (order.all v a n) e

      only_begun : (v : Visit) → Contains (entries p (begun_in p t)) v → (v.agent < length p) × (v.position ≤ moves p v.agent) × (is_entry p v.agent v.position ≡ true)
      only_begun v k = let f = filter_from (λ (w : Visit). is_entry p w.agent w.position) (begun_in p t) v k in let r = order.only v f.0 in (r.0, r.1, f.1)

      visits : All (λ s. IsVisit p s.visit) placed
      visits k d l =
          let has : Contains (map (λ s. s.visit) placed) (get_or placed k d).visit = contains_map (λ (s : PlacedVisit). s.visit) placed (get_or placed k d) (k, l, get_or_default placed k (get_or placed k d) d l) in
          let r = only_begun (get_or placed k d).visit (subst (λ (vs : List Visit). Contains vs (get_or placed k d).visit) added.same has) in
          record { agent = r.0; position = r.1; entered = r.2 }

      in_order : AllPairs (λ s u. IsBefore lev s.visit u.visit) placed
      in_order i j d l m =
          let pairs : AllPairs (IsBefore lev) (map (λ s. s.visit) placed) = subst (λ (vs : List Visit). AllPairs (IsBefore lev) vs) (sym added.same) (AllPairs-filter (IsBefore lev) (λ (w : Visit). is_entry p w.agent w.position) (begun_in p t) order.sorted) in
          let long : length (map (λ (s : PlacedVisit). s.visit) placed) ≡ length placed = length-map placed (λ (s : PlacedVisit). s.visit) in
          subst (λ (v : Visit). IsBefore lev v (get_or placed j d).visit) (visit_at placed i d) (subst (λ (v : Visit). IsBefore lev (get_or (map (λ s. s.visit) placed) i d.visit) v) (visit_at placed j d) (pairs i j d.visit l (omega arith)))

      sorted : (q : Place) → IsSortedListing p lev q (visits_of q placed)
      sorted q = subst (IsSortedListing p lev q) (sym same) (record { lists = lists; sorted = adjacent_from (IsBefore lev) l (λ k d m. pairs k (suc k) d (omega arith) m) })
        where
          l : List Visit
          l = filter (is_at p q) (entries p (begun_in p t))

          same : visits_of q placed ≡ l
          same = visits_are p q placed added.each ∙ ap (filter (is_at p q)) added.same

          pairs : AllPairs (IsBefore lev) l
          pairs = AllPairs-filter (IsBefore lev) (is_at p q) (entries p (begun_in p t)) (AllPairs-filter (IsBefore lev) (λ (w : Visit). is_entry p w.agent w.position) (begun_in p t) order.sorted)

          all : (v : Visit) → IsVisitOf p q v → Contains l v
          all v is = filter_has (is_at p q) (entries p (begun_in p t)) v (begins v is.agent is.position is.entered) (ap (λ r. is_same_place r q) is.place ∙ is_same_place-eq q q refl)

          only : (v : Visit) → Contains l v → IsVisitOf p q v
          only v k =
              let f = filter_from (is_at p q) (entries p (begun_in p t)) v k in
              let r = only_begun v f.0 in
              record { agent = r.0; position = r.1; entered = r.2; place = is_same_place-true (path p v.agent v.position) q f.1 }

          lists : ListsVisits p q l
          lists = record { all = all; only = λ k d m. only (get_or l k d) (k, m, get_or_default l k (get_or l k d) d m); once = once lev l pairs }

-- ---- accepted

pub accepted_by : (passable : Place → Bool) (tasks : List Task) (p : Program) → HasRanges passable tasks p → (number : ActionId → ℕ) × IsNumbering p number → IsOrderly ComesAfter p → IsAccepted passable tasks p
accepted_by passable tasks p h numbering o = record {
  right = record {
    for_tasks = record { agents = fleet; ends = ends };
    on_ground = h.before.steps;
    arrives = λ i l. (h.before.before.ends i l).arrives;
    in_range = ranges_all p h.ranges;
  };
  numbering = numbering;
  orderly = o;
}
  where
    fleet : length p ≡ length tasks
    fleet = h.before.before.before.fleet

    ends : (i : ℕ) (t : Task) → slice_get tasks i ≡ Some t → (start_of p i ≡ t.start) × (goal_of p i ≡ t.goal)
    ends i t e =
        let l : i < length p = omega (arith, slice_get_within tasks i t e, fleet) in
        let s : Some t.start ≡ Some (start_of p i) = sym (ap (option_map (λ (u : Task). u.start)) e) ∙ h.before.before.before.starts i l in
        let g : Some t.goal ≡ Some (goal_of p i) = sym (ap (option_map (λ (u : Task). u.goal)) e) ∙ (h.before.before.ends i l).goal in
        (sym (same_Some t.start (start_of p i) s), sym (same_Some t.goal (goal_of p i) g))

pub accepted : (passable : Place → Bool) (tasks : List Task) (p : Program) (stays : List PlacedVisit) → HasRanges passable tasks p → AreAllPlaced p stays → IsOrderly ComesAfter p → IsAccepted passable tasks p
accepted passable tasks p stays h all o = accepted_by passable tasks p h (all.level, levels_number p all.level all.levels) o

-- ---- a run without holds that arrives

-- all that is judged agent by agent is right, the visits kept are all visits, and the number of ticks is that of the
-- longest chain
pub record WholeRun (p : Program) (passable : Place → Bool) (tasks : List Task) (r : UnheldRun) : Type 0 where
  pub ranges : HasRanges passable tasks p
  pub added : AreAllAdded p r.visits
  pub finish : IsFinish p [] r.ticks
  pub longest : IsLongestChain p r.ticks

pub whole_run : (p : Program) (passable : Place → Bool) (tasks : List Task) (r : UnheldRun) → HasStarts tasks p → IsRunOnGround passable p r → HasArrived tasks p r.machine.configuration
    → WholeRun p passable tasks r
whole_run p passable tasks r starts right arrived = record {
  ranges = ranges;
  added = all_added p r.ticks right.ended.end fin r.visits right.added (ranges_all p ranges.ranges);
  finish = finish_is p r.ticks right.ended.end fin;
  longest = chain_is p r.ticks right.ended.end fin (ranges_all p ranges.ranges);
}
  where
    fin : is_finished p (run p [] r.ticks) ≡ true
    fin = ap (is_finished p) (sym right.ended.here) ∙ arrived.finished

    ranges : HasRanges passable tasks p
    ranges = all_right p r.ticks fin passable tasks starts right.ended.runs.well_formed right.on_ground arrived.ends
