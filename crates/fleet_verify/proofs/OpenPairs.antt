-- Open pairs: questions for chains, and the first neighbours of each cell without one.
use Rattle.fleet_verify.proofs.Words.{◌≡◌, ◌≢◌, ℕ, zero, suc, ◌+◌, ◌<◌, ◌≤◌, Bool, List, [], ◌∷◌, length, map, get_or, Option, Some, None, slice_get, refl, ap, sym, ◌∙◌, subst, arith, inl, inr, add-one, All, Contains, ◌⊎◌, ◌↔◌, option_map, option_or, cases_eq, cases_lt, length-map, slice_get-get_or, slice_get_within, get_or_from_slice_get, same_Some, Cell, Place, Task, ActionId, Visit, place_of, Program, path, start_of, IsCell, AreInRange, Reaches, IsNumbering, IsVisitOf, ComesAfter, ComesAfterByChain, entering, leaving, All-map, place_of-injective, IsQuestion, AreAnswers, OrderViolation, OpenPair, PlacedVisit, VisitOrder, HasStarts, IsFirstBreak, IsBefore, number_of, visits_of, IsListJudged, AreAllPlaced, AreViolations, AreGrouped, IsOpenPair, AreConsecutive, StandsBefore, AreVisits, question_of, violation_of, IsChained, IsFirstBad, AnswersFirstBad, IsFlagged}
use Rattle.fleet_scen.specs.Instance.{IsInstance}
use Rattle.fleet_verify.proofs.Decide.{Reaches-dec}
use Rattle.fleet_verify.proofs.Listing.{levels_number, await_chain, entry_start, entry_later, before_rank, as_visit}
use Rattle.fleet_verify.proofs.Neighbours.{adjacent_at, adjacent_from, any_two}
use Rattle.fleet_verify.proofs.Ordered.{same_cell}
use Rattle.fleet_verify.proofs.Stays.{visit_at, before_itself}

-- ---- the first bad pair

first_on : (Bad : ℕ → OpenPair → Type 0) (pairs : List OpenPair) (k n : ℕ) (v w : Visit) → IsFirstBad Bad pairs k n v w → IsFirstBad Bad pairs (k + 1) n v w
first_on Bad pairs k n v w h = record { at = h.at; cell = h.cell; within = omega (arith, h.within); here = h.here; number = h.number; bad = h.bad; sooner = h.sooner }

-- a pair that is not bad, or of another cell, or of a cell that has one already
pub first_skip : (Bad : ℕ → OpenPair → Type 0) (pairs : List OpenPair) (k n : ℕ) (m : Option OrderViolation) → AnswersFirstBad Bad pairs k n m
    → (m ≡ None → (o : OpenPair) → slice_get pairs k ≡ Some o → number_of o.cell ≡ n → Bad k o → ⊥) → AnswersFirstBad Bad pairs (k + 1) n m
first_skip Bad pairs k n None h skip = λ j o l e f b. elim (cases_eq j k) [
  | inl s ↦ skip refl o (subst (λ (i : ℕ). slice_get pairs i ≡ Some o) s e) f (subst (λ (i : ℕ). Bad i o) s b)
  | inr ne ↦ h j o (omega arith) e f b
]
first_skip Bad pairs k n (Some b) h skip = first_on Bad pairs k n b.first b.second h

pub first_put : (Bad : ℕ → OpenPair → Type 0) (pairs : List OpenPair) (k n : ℕ) (o : OpenPair) → AnswersFirstBad Bad pairs k n None → slice_get pairs k ≡ Some o → number_of o.cell ≡ n → Bad k o
    → AnswersFirstBad Bad pairs (k + 1) n (Some (record { first = o.first; second = o.second }))
first_put Bad pairs k n o h e f b = record { at = k; cell = o.cell; within = omega arith; here = e; number = f; bad = b; sooner = h_sooner }
  where
    h_sooner : (j : ℕ) (x : OpenPair) → j < k → slice_get pairs j ≡ Some x → number_of x.cell ≡ n → Bad j x → ⊥
    h_sooner j x l g i c = h j x l g i c

-- a bad pair, which is kept if none of its cell is kept yet
pub first_next : (Bad : ℕ → OpenPair → Type 0) (pairs : List OpenPair) (k n : ℕ) (o : OpenPair) (old new : Option OrderViolation) → AnswersFirstBad Bad pairs k n old → slice_get pairs k ≡ Some o → Bad k o
    → (n ≢ number_of o.cell → new ≡ old) → (number_of o.cell ≡ n → new ≡ option_or old (Some (violation_of o))) → AnswersFirstBad Bad pairs (k + 1) n new
first_next Bad pairs k n o old new h e b others here = elim (cases_eq (number_of o.cell) n) [
  | inl f ↦ subst (λ (m : Option OrderViolation). AnswersFirstBad Bad pairs (k + 1) n m) (sym (here f)) (put old h f)
  | inr f ↦ subst (λ (m : Option OrderViolation). AnswersFirstBad Bad pairs (k + 1) n m) (sym (others (λ g. f (sym g))))
      (first_skip Bad pairs k n old h (λ none x g i c. f (ap (λ (y : OpenPair). number_of y.cell) (same_Some o x (sym e ∙ g)) ∙ i)))
]
  where
    put : (m : Option OrderViolation) → AnswersFirstBad Bad pairs k n m → number_of o.cell ≡ n → AnswersFirstBad Bad pairs (k + 1) n (option_or m (Some (violation_of o)))
    put None t f = first_put Bad pairs k n o t e f b
    put (Some c) t f = first_skip Bad pairs k n (Some c) t (λ none x g i d. absurd cc)

pub first_as : (B C : ℕ → OpenPair → Type 0) (pairs : List OpenPair) (many n : ℕ) → ((k : ℕ) (o : OpenPair) → slice_get pairs k ≡ Some o → B k o ↔ C k o)
    → (m : Option OrderViolation) → AnswersFirstBad B pairs many n m → AnswersFirstBad C pairs many n m
first_as B C pairs many n same None h = λ k o l e f c. h k o l e f ((same k o e).1 c)
first_as B C pairs many n same (Some b) h = record {
  at = h.at;
  cell = h.cell;
  within = h.within;
  here = h.here;
  number = h.number;
  bad = (same h.at (record { cell = h.cell; first = b.first; second = b.second }) h.here).0 h.bad;
  sooner = λ k o l e f c. h.sooner k o l e f ((same k o e).1 c);
}

-- ---- questions

question_get : (p : Program) (pairs : List OpenPair) (k : ℕ) (o : OpenPair) → slice_get pairs k ≡ Some o → slice_get (map (question_of p) pairs) k ≡ Some (question_of p o)
question_get p [] k o e = absurd (omega (arith, slice_get_within [] k o e))
question_get p (x ∷ xs) zero o e = ap (option_map (question_of p)) e
question_get p (x ∷ xs) (suc k) o e = question_get p xs k o e

-- flags that answer the questions tell the pairs without a chain
pub flags_tell : (p : Program) (pairs : List OpenPair) (flags : List Bool) → AreAnswers p (map (question_of p) pairs) flags → (n : ℕ) (m : Option OrderViolation)
    → AnswersFirstBad (IsFlagged flags) pairs (length pairs) n m → AnswersFirstBad (λ _ o. ¬ IsChained p o) pairs (length pairs) n m
flags_tell p pairs flags h n m t = first_as (IsFlagged flags) (λ _ o. ¬ IsChained p o) pairs (length pairs) n (λ k o e. h.each k (question_of p o) (question_get p pairs k o e)) m t

before_trans : (lev : ActionId → ℕ) (u v w : Visit) → IsBefore lev u v → IsBefore lev v w → IsBefore lev u w
before_trans lev u v w (inl a) (inl b) = inl (omega arith)
before_trans lev u v w (inl a) (inr (f, b)) = inl (omega arith)
before_trans lev u v w (inr (e, a)) (inl b) = inl (omega arith)
before_trans lev u v w (inr (e, inl a)) (inr (f, inl b)) = inr (e ∙ f, inl (omega arith))
before_trans lev u v w (inr (e, inl a)) (inr (f, inr (g, b))) = inr (e ∙ f, inl (omega arith))
before_trans lev u v w (inr (e, inr (h, a))) (inr (f, inl b)) = inr (e ∙ f, inl (omega arith))
before_trans lev u v w (inr (e, inr (h, a))) (inr (f, inr (g, b))) = inr (e ∙ f, inr (h ∙ g, omega arith))

module _ (p : Program) (order : VisitOrder) (placed : List PlacedVisit) (all : AreAllPlaced p placed) (grouped : AreGrouped p placed order) where
  numbered : IsNumbering p all.level
  numbered = levels_number p all.level all.levels

  visit_here : (q : Place) (k : ℕ) (v : Visit) → slice_get (visits_of q placed) k ≡ Some v → IsVisitOf p q v
  visit_here q k v e = subst (IsVisitOf p q) (get_or_from_slice_get (visits_of q placed) k v v e) ((all.sorted q).lists.only k v (slice_get_within (visits_of q placed) k v e))

  -- visits of a place stand in the order of the levels
  before_in : (q : Place) (i j : ℕ) (v w : Visit) → i < j → slice_get (visits_of q placed) i ≡ Some v → slice_get (visits_of q placed) j ≡ Some w → IsBefore all.level v w
  before_in q i j v w l ev ew =
      let vs = visits_of q placed in
      subst (λ (x : Visit). IsBefore all.level x w) (get_or_from_slice_get vs i v v ev)
      (subst (λ (x : Visit). IsBefore all.level (get_or vs i v) x) (get_or_from_slice_get vs j w v ew)
      (any_two (IsBefore all.level) (before_trans all.level) vs (adjacent_at (IsBefore all.level) vs (all.sorted q).sorted) i j v l (slice_get_within vs j w ew)))

  -- and so do all
  stands_sorted : (v w : Visit) → StandsBefore (map (λ s. s.visit) placed) v w → IsBefore all.level v w
  stands_sorted v w h =
      let d : PlacedVisit = record { visit = v; cell = record { x = 0; y = 0 } } in
      let long : length (map (λ (s : PlacedVisit). s.visit) placed) ≡ length placed = length-map placed (λ (s : PlacedVisit). s.visit) in
      let within = slice_get_within (map (λ (s : PlacedVisit). s.visit) placed) h.later w h.second in
      let ev : (get_or placed h.sooner d).visit ≡ v = sym (visit_at placed h.sooner d) ∙ get_or_from_slice_get (map (λ (s : PlacedVisit). s.visit) placed) h.sooner v v h.first in
      let ew : (get_or placed h.later d).visit ≡ w = sym (visit_at placed h.later d) ∙ get_or_from_slice_get (map (λ (s : PlacedVisit). s.visit) placed) h.later w v h.second in
      subst (λ (x : Visit). IsBefore all.level x w) ev
      (subst (λ (x : Visit). IsBefore all.level (get_or placed h.sooner d).visit x) ew
      (all.in_order h.sooner h.later d h.order (omega arith)))

  -- ---- what is asked

  abbrev pub pairs_of : List OpenPair
  pairs_of = order.pairs.items

  pub are_visits : All (AreVisits p) pairs_of
  are_visits = λ k d l. visits (get_or pairs_of k d) (grouped.each k d l)
    where
      visits : (o : OpenPair) → IsOpenPair p placed o → AreVisits p o
      visits o is = record {
        first = as_visit p (place_of o.cell) o.first (visit_here (place_of o.cell) is.neighbours.at o.first is.neighbours.here);
        second = as_visit p (place_of o.cell) o.second (visit_here (place_of o.cell) (is.neighbours.at + 1) o.second is.neighbours.next);
      }

  -- no two agents begin on one cell, so the second visit of a pair is no start
  not_start : (tasks : List Task) → HasStarts tasks p → IsInstance tasks → (o : OpenPair) → IsOpenPair p placed o → 1 ≤ o.second.position
  not_start tasks starts apart o is = elim (cases_lt 0 o.second.position) [ inl l ↦ l | inr z ↦ absurd (never (omega arith)) ]
    where
      v : Visit
      v = o.first

      w : Visit
      w = o.second

      on_v : IsVisitOf p (place_of o.cell) v
      on_v = visit_here (place_of o.cell) is.neighbours.at v is.neighbours.here

      on_w : IsVisitOf p (place_of o.cell) w
      on_w = visit_here (place_of o.cell) (is.neighbours.at + 1) w is.neighbours.next

      before : IsBefore all.level v w
      before = before_in (place_of o.cell) is.neighbours.at (is.neighbours.at + 1) v w (omega arith) is.neighbours.here is.neighbours.next

      task : (i : ℕ) → i < length p → (d : Task) → (get_or tasks i d).start ≡ start_of p i
      task i l d = same_Some (get_or tasks i d).start (start_of p i) (ap (option_map (λ (t : Task). t.start)) (sym (slice_get-get_or tasks i d (omega (arith, starts.fleet)))) ∙ starts.starts i l)

      shared : v.position ≡ 0 → w.position ≡ 0 → start_of p v.agent ≡ start_of p w.agent
      shared e f = place_of-injective (start_of p v.agent) (start_of p w.agent)
          (ap (path p v.agent) (sym e) ∙ (on_v.place ∙ (sym on_w.place ∙ ap (path p w.agent) f)))

      two : v.position ≡ 0 → w.position ≡ 0 → v.agent < w.agent → ⊥
      two e f l =
          let d : Task = record { start = o.cell; goal = o.cell } in
          apart.apart.starts v.agent w.agent d l (omega (arith, starts.fleet, on_w.agent))
          (task v.agent on_v.agent d ∙ (shared e f ∙ sym (task w.agent on_w.agent d)))

      first : w.position ≡ 0 → v.position ≡ 0
      first f = elim (cases_lt 0 v.position) [
        | inl k ↦ absurd (omega (arith, entry_start all.level w f, entry_later all.level v k, before_rank all.level v w before, numbered.positive (entering v) (record { agent = on_v.agent; first = k; last = on_v.position })))
        | inr k ↦ omega arith
      ]

      never : w.position ≡ 0 → ⊥
      never f = by before
        where
          by : IsBefore all.level v w → ⊥
          by (inl l) = omega (arith, l, entry_start all.level w f)
          by (inr (e, inl l)) = two (first f) f l
          by (inr (e, inr (g, l))) = omega (arith, l, f)

  pub are_questions : (tasks : List Task) → HasStarts tasks p → IsInstance tasks → All (IsQuestion p) (map (question_of p) pairs_of)
  are_questions tasks starts apart = All-map (IsQuestion p) (question_of p) pairs_of (λ k d l. question (get_or pairs_of k d) (are_visits k d l) (grouped.each k d l))
    where
      question : (o : OpenPair) → AreVisits p o → IsOpenPair p placed o → IsQuestion p (question_of p o)
      question o v is = record {
        agent = v.first.agent;
        number = omega arith;
        last = record { agent = v.second.agent; first = not_start tasks starts apart o is; last = v.second.position };
      }

  -- ---- what is told

  next_or : AreInRange p → (c : Cell) → IsCell c → (v w : Visit) → AreConsecutive (visits_of (place_of c) placed) v w → ComesAfterByChain p v w ⊎ Contains pairs_of (record { cell = c; first = v; second = w })
  next_or range c cell v w n = elim ((grouped.cells c cell).next v w n) [
    | inl a ↦ inl (await_chain p range (place_of c) v w (visit_here (place_of c) (n.at + 1) w n.next) a)
    | inr k ↦ inr k
  ]

  -- where it is refuted that there is none, a chain is there
  chain_unless : (o : OpenPair) → (¬ ¬ IsChained p o) → Reaches p (leaving p o.first) (entering o.second)
  chain_unless o n = elim (Reaches-dec p all.level numbered (leaving p o.first) (entering o.second)) [ yes r ↦ r | no m ↦ absurd (n m) ]

  pair_get : (o : OpenPair) (k : ℕ) → k < length pairs_of → get_or pairs_of k o ≡ o → slice_get pairs_of k ≡ Some o
  pair_get o k l e = slice_get-get_or pairs_of k o l ∙ ap (λ (x : OpenPair). Some x) e

  judged_none : AreInRange p → (c : Cell) → IsCell c → AnswersFirstBad (λ _ o. ¬ IsChained p o) pairs_of (length pairs_of) (number_of c) None → IsListJudged (ComesAfter p) (visits_of (place_of c) placed) None
  judged_none range c cell none = adjacent_from (ComesAfterByChain p) vs (λ k d l. pair (get_or vs k d) (get_or vs (suc k) d)
      (record { at = k; here = slice_get-get_or vs k d (omega arith); next = ap (slice_get vs) (add-one k) ∙ slice_get-get_or vs (suc k) d l }))
    where
      vs : List Visit
      vs = visits_of (place_of c) placed

      pair : (v w : Visit) → AreConsecutive (visits_of (place_of c) placed) v w → ComesAfterByChain p v w
      pair v w n = elim (next_or range c cell v w n) [
        | inl a ↦ a
        | inr (k, l, e) ↦ inr (chain_unless (record { cell = c; first = v; second = w }) (λ m. none k (record { cell = c; first = v; second = w }) l (pair_get (record { cell = c; first = v; second = w }) k l e) refl m))
      ]

  judged_some : AreInRange p → (c : Cell) → IsCell c → (first second : Visit) → IsFirstBad (λ _ o. ¬ IsChained p o) pairs_of (length pairs_of) (number_of c) first second → IsFirstBreak (ComesAfter p) (visits_of (place_of c) placed) first second
  judged_some range c cell first second f = record { at = n.at; here = n.here; next = n.next; breaks = breaks; sooner = sooner }
    where
      o : OpenPair
      o = record { cell = f.cell; first = first; second = second }

      is : IsOpenPair p placed o
      is = subst (IsOpenPair p placed) (get_or_from_slice_get pairs_of f.at o o f.here) (grouped.each f.at o f.within)

      n : AreConsecutive (visits_of (place_of c) placed) first second
      n = subst (λ (d : Cell). AreConsecutive (visits_of (place_of d) placed) first second) (same_cell f.cell c is.cell cell f.number) is.neighbours

      breaks : ComesAfterByChain p first second → ⊥
      breaks (inl l) = is.breaks (inl l)
      breaks (inr r) = f.bad r

      -- a pair that is not before this one among the open ones begins no sooner
      late : (k i : ℕ) (v w : Visit) → k < n.at → slice_get (visits_of (place_of c) placed) (k + 1) ≡ Some w → i < length pairs_of → slice_get pairs_of i ≡ Some (record { cell = c; first = v; second = w }) → f.at ≤ i → ⊥
      late k i v w l ew m e h = before_itself all.level second (before_trans all.level second w second (up (cases_eq i f.at)) down)
        where
          x : OpenPair
          x = record { cell = c; first = v; second = w }

          down : IsBefore all.level w second
          down = before_in (place_of c) (k + 1) (n.at + 1) w second (omega arith) ew n.next

          up : (i ≡ f.at) ⊎ (i ≢ f.at) → IsBefore all.level second w
          up (inl g) =
              let one : x ≡ o = same_Some x o (sym e ∙ (ap (slice_get pairs_of) g ∙ f.here)) in
              let two : w ≡ second = ap (λ (y : OpenPair). y.second) one in
              absurd (before_itself all.level second (subst (λ (y : Visit). IsBefore all.level y second) two down))
          up (inr g) =
              let a : get_or pairs_of f.at o ≡ o = get_or_from_slice_get pairs_of f.at o o f.here in
              let b : get_or pairs_of i o ≡ x = get_or_from_slice_get pairs_of i x o e in
              stands_sorted second w
              (subst (λ (y : OpenPair). StandsBefore (map (λ s. s.visit) placed) y.second w) a
              (subst (λ (y : OpenPair). StandsBefore (map (λ s. s.visit) placed) (get_or pairs_of f.at o).second y.second) b
              (grouped.in_order f.at i o (omega arith) m)))

      sooner : (k : ℕ) (v w : Visit) → k < n.at → slice_get (visits_of (place_of c) placed) k ≡ Some v → slice_get (visits_of (place_of c) placed) (k + 1) ≡ Some w → ComesAfterByChain p v w
      sooner k v w l ev ew = elim (next_or range c cell v w (record { at = k; here = ev; next = ew })) [
        | inl a ↦ a
        | inr (i, m, e) ↦
            let g : slice_get pairs_of i ≡ Some (record { cell = c; first = v; second = w }) = pair_get (record { cell = c; first = v; second = w }) i m e in
            elim (cases_lt i f.at) [
              | inl b ↦ inr (chain_unless (record { cell = c; first = v; second = w }) (λ none. f.sooner i (record { cell = c; first = v; second = w }) b g refl none))
              | inr b ↦ absurd (late k i v w l ew m g b)
            ]
      ]

  pub violations_are : AreInRange p → (found : ℕ → Option OrderViolation) → ((n : ℕ) → AnswersFirstBad (λ _ o. ¬ IsChained p o) pairs_of (length pairs_of) n (found n)) → AreViolations p placed (λ c. found (number_of c))
  violations_are range found h c cell = go (found (number_of c)) (h (number_of c))
    where
      go : (m : Option OrderViolation) → AnswersFirstBad (λ _ o. ¬ IsChained p o) pairs_of (length pairs_of) (number_of c) m → IsListJudged (ComesAfter p) (visits_of (place_of c) placed) m
      go None t = judged_none range c cell t
      go (Some b) t = judged_some range c cell b.first b.second t

  -- without open pairs nothing is told
  pub none_open : AreInRange p → pairs_of ≡ [] → AreViolations p placed (λ c. None)
  none_open range e = violations_are range (λ n. None) (λ n k o l g f b. let x : length pairs_of ≡ 0 = ap (λ (os : List OpenPair). length os) e in omega arith)
