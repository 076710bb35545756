-- No way arrives before the paths that the search is looking at.
use Rattle.fleet_search.proofs.Words.{◌≡◌, ℕ, zero, suc, ◌+◌, ◌-◌, ◌<◌, ◌≤◌, Bool, IsTrue, List, length, Option, Some, None, ◌⊎◌, inl, inr, sym, ap, ◌∙◌, subst, arith, add-one, Contains, cases_lt, none-some, same_Some, Cell, Place, place_of, Plan, cell_at, AreNeighbours, Query, Times, Node, is_passable, arrival, StepFits, IsFeasiblePath, IsEarliest, IsInfeasible, bucket_of, IsUnoccupied, IsFreeFrom, IsFreeOn, heuristic_of, IsMeasured, IsStep, IsBucket, IsGoalState, state_in, IsKnown, IsCovered, IsExpanded, IsSuperseded, IsStateSettled, IsFrontier, IsPosed, IsTrail}
use Rattle.fleet_search.proofs.Steps.{each_step, from_each_step}
use Rattle.fleet_search.proofs.FitCode.{fits-free}
use Rattle.fleet_search.proofs.Occupants.{cell_at-late}
use Rattle.fleet_search.proofs.SearchSteps.{near-beside, bucket-below}

-- a way of what is asked
abbrev pub IsFeasiblePathOf : Query → List Cell → Type 0
IsFeasiblePathOf q path = IsFeasiblePath (is_passable q.grid.now) q.reserved.now q.start q.goal path

way-step : (q : Query) (path : List Cell) → IsFeasiblePathOf q path → (t : ℕ) → IsStep q t (cell_at path t) (cell_at path (t + 1))
way-step q path w t = record {
  beside = w.successive t;
  on_ground = w.on_ground (t + 1);
  fits = (each_step q.reserved.now path w.fits).steps t;
}

-- as many steps are left as the distance at least
way-heuristic : (q : Query) → IsMeasured q → (path : List Cell) → IsFeasiblePathOf q path → (k t : ℕ) → t + k ≡ arrival path → t + heuristic_of q (cell_at path t) ≤ arrival path
way-heuristic q m path w zero t e =
    let there : cell_at path t ≡ q.goal = ap (cell_at path) (let z : t ≡ arrival path = omega arith in z) ∙ w.ends in
    let none : heuristic_of q (cell_at path t) ≡ 0 = ap (heuristic_of q) there ∙ m.heuristic.at_goal in
    omega arith
way-heuristic q m path w (suc k) t e =
    let goal_free_from = way-heuristic q m path w k (t + 1) (omega arith) in
    let n = near-beside q m (cell_at path t) (cell_at path (t + 1)) (w.on_ground t) (w.on_ground (t + 1)) (way-step q path w t).beside in
    let a = n.1 in
    omega arith

way-bound : (q : Query) → IsMeasured q → (path : List Cell) → IsFeasiblePathOf q path → (t : ℕ) → t ≤ arrival path → t + heuristic_of q (cell_at path t) ≤ arrival path
way-bound q m path w t h = way-heuristic q m path w (arrival path - t) t (omega arith)

way-least : (q : Query) → IsMeasured q → (path : List Cell) → IsFeasiblePathOf q path → heuristic_of q q.start ≤ arrival path
way-least q m path w = let h = way-bound q m path w 0 (omega arith) in let e = ap (heuristic_of q) w.starts in omega arith

module _ (passable : Place → Bool) (reserved : Plan) (start goal : Cell) (path : List Cell) (w : IsFeasiblePath passable reserved start goal path) where
  way-free_at : (t : ℕ) → IsUnoccupied reserved t (cell_at path t)
  way-free_at t = fits-free reserved path w.fits t

  -- the goal is free from the arrival on
  pub no-way-busy : IsFreeFrom reserved goal (arrival path)
  no-way-busy u h j p e = way-free_at u j p (e ∙ sym w.ends ∙ sym (cell_at-late path u h))

  -- nobody stands on the start
  pub no-way-taken : IsUnoccupied reserved 0 start
  no-way-taken j p e = way-free_at 0 j p (e ∙ sym w.starts)

free-always : (q : Query) (path : List Cell) → IsFeasiblePathOf q path → (t : ℕ) → IsUnoccupied q.reserved.now t (cell_at path t)
free-always q path w t = way-free_at (is_passable q.grid.now) q.reserved.now q.start q.goal path w t

way-free : (q : Query) (path : List Cell) → IsFeasiblePathOf q path → IsFreeFrom q.reserved.now q.goal (arrival path)
way-free q path w = no-way-busy (is_passable q.grid.now) q.reserved.now q.start q.goal path w

-- no way is shorter than the distance
pub no-way-heuristic : (q : Query) → IsMeasured q → (path : List Cell) → IsFeasiblePathOf q path → (horizon : ℕ) → horizon < heuristic_of q q.start → arrival path ≤ horizon → ⊥
no-way-heuristic q m path w horizon l h = let least = way-least q m path w in omega arith

module _ (q : Query) (f : ℕ) (left : Option ℕ) (r : List Node) (labels : Times) (open_list : List (List ℕ)) (fr : IsFrontier q f left r labels open_list) (bound : (i : ℕ) → left ≡ Some i → IsBucket q (state_in r i) f) (ask : IsPosed q) (path : List Cell) (w : IsFeasiblePathOf q path) (in_time : arrival path ≤ q.horizon) (late : q.goal_free_from < f) (sooner : arrival path < f) where
  -- all moves from the cell of the way at time t were noted, from a time since which it is free
  record IsLeftBy (t : ℕ) : Type 0 where
    since : ℕ
    early : since ≤ t
    free : IsFreeOn q.reserved.now (cell_at path t) since t
    expanded : IsExpanded q r (record { time = since; cell = cell_at path t })

  -- a state of the way is on no bucket, and is not just being left
  not-open : (t s k i : ℕ) → t ≤ arrival path → s ≤ t → state_in r i ≡ record { time = s; cell = cell_at path t } → IsBucket q (state_in r i) k → k < f
  not-open t s k i h l e bucket =
      let b = way-bound q fr.measured path w t h in
      bucket-below q (record { time = s; cell = cell_at path t }) k f (subst (λ z. IsBucket q z k) e bucket) (omega arith) late

  -- all moves from the state were noted, or from one that was reached sooner
  left-after : (t : ℕ) → t ≤ arrival path → (cv : IsCovered q r (cell_at path t) t) → ((before : IsCovered q r (cell_at path t) t) → before.since < cv.since → IsLeftBy t) → IsLeftBy t
  left-after t h cv sooner = go (fr.done cv.known.0 cv.known.1)
    where
      go : ((k : ℕ) × Contains (bucket_of open_list k) cv.known.0) ⊎ ((left ≡ Some cv.known.0) ⊎ IsStateSettled q r (state_in r cv.known.0)) → IsLeftBy t
      go (inl x) =
          let l = not-open t cv.since x.0 cv.known.0 h cv.early cv.known.2 (fr.stacked x.0 cv.known.0 x.1) in
          absurd (let z = (subst (λ z. Contains z cv.known.0) (fr.past x.0 l) x.1).1 in omega arith)
      go (inr (inl x)) = absurd (let l = not-open t cv.since f cv.known.0 h cv.early cv.known.2 (bound cv.known.0 x) in omega arith)
      go (inr (inr (inl e))) = record { since = cv.since; early = cv.early; free = cv.free; expanded = subst (IsExpanded q r) cv.known.2 e }
      go (inr (inr (inr x))) =
          let s = subst (IsSuperseded q r) cv.known.2 x in
          let early = cv.early in
          let less = s.sooner in
          sooner
          (record {
            since = s.since;
            early = omega arith;
            known = s.known;
            free = λ u a b. elim (cases_lt cv.since u) [ inl l ↦ cv.free u (omega arith) b | inr l ↦ s.free u a l ];
          })
          less

  left-within : (n t : ℕ) → t ≤ arrival path → (cv : IsCovered q r (cell_at path t) t) → cv.since < n → IsLeftBy t
  left-within zero t h cv low = absurd (omega arith)
  left-within (suc n) t h cv low = left-after t h cv (λ before l. left-within n t h before (omega arith))

  left-by : (t : ℕ) → t ≤ arrival path → IsCovered q r (cell_at path t) t → IsLeftBy t
  left-by t h cv = left-within (cv.since + 1) t h cv (omega arith)

  left-on : (t : ℕ) → t ≤ arrival path → IsLeftBy t
  left-on zero h = left-by 0 h (record {
    since = 0;
    early = omega arith;
    known = subst (λ z. IsKnown r (record { time = 0; cell = z })) (sym w.starts) fr.origin;
    free = λ u x y. subst (λ v. IsUnoccupied q.reserved.now v (cell_at path 0)) (let g : 0 ≡ u = omega arith in g) (free-always q path w 0);
  })
  left-on (suc t) h = subst IsLeftBy (add-one t) (onward (left-on t (omega arith)) (w.successive t))
    where
      onward : IsLeftBy t → (cell_at path t ≡ cell_at path (t + 1)) ⊎ AreNeighbours (cell_at path t) (cell_at path (t + 1)) → IsLeftBy (t + 1)
      onward b (inl same) = record {
        since = b.since;
        early = (let e = b.early in omega arith);
        free = λ u x y. elim (cases_lt t u) [
          | inl l ↦ subst (λ v. IsUnoccupied q.reserved.now v (cell_at path (t + 1))) (let g : t + 1 ≡ u = omega arith in g) (free-always q path w (t + 1))
          | inr l ↦ subst (IsUnoccupied q.reserved.now u) same (b.free u x l)
        ];
        expanded = subst (λ z. IsExpanded q r (record { time = b.since; cell = z })) same b.expanded;
      }
      onward b (inr n) =
          let low = way-bound q fr.measured path w (t + 1) (omega arith) in
          left-by (t + 1) (omega arith) (b.expanded.moves t (cell_at path (t + 1)) n (record { waits = b.early; free = b.free; step = way-step q path w t }) (omega arith))

  none-sooner : ⊥
  none-sooner =
      let T = arrival path in
      let b = left-on T (omega arith) in
      b.expanded.not_end (
        w.ends,
        (ask.goal_free_from b.since).0 (λ u x. elim (cases_lt T u) [
          | inl l ↦ way-free q path w u (omega arith)
          | inr l ↦ subst (IsUnoccupied q.reserved.now u) w.ends (b.free u x l)
        ]),
      )

-- no way arrives before this time
pub at_least : (q : Query) (f : ℕ) (left : Option ℕ) (r : List Node) (labels : Times) (open_list : List (List ℕ)) → IsFrontier q f left r labels open_list → ((i : ℕ) → left ≡ Some i → IsBucket q (state_in r i) f) → IsPosed q → (path : List Cell) → IsFeasiblePathOf q path → arrival path ≤ q.horizon → q.goal_free_from < f → f ≤ arrival path
at_least q f left r labels open_list fr bound ask path w in_time late = elim (cases_lt (arrival path) f) [
  | inl s ↦ absurd (none-sooner q f left r labels open_list fr bound ask path w in_time late s)
  | inr h ↦ h
]

-- no way arrives before the goal is free for good
pub way-goal_free_from : (q : Query) → IsPosed q → (path : List Cell) → IsFeasiblePathOf q path → q.goal_free_from ≤ arrival path
way-goal_free_from q ask path w = (ask.goal_free_from (arrival path)).0 (way-free q path w)

-- ---- a trail that ends at the goal, when it is free for good, is a way

module _ (q : Query) (ask : IsPosed q) (n : ℕ) (path : List Cell) (tr : IsTrail q n q.goal path) (goal_free_from : q.goal_free_from ≤ n) where
  arrives : arrival path ≡ n
  arrives = let l = tr.long in omega arith

  late : (t : ℕ) → n ≤ t → cell_at path t ≡ q.goal
  late t h = cell_at-late path t (let a = arrives in omega arith) ∙ ap (cell_at path) arrives ∙ tr.ends

  ground : (t : ℕ) → t ≤ n → IsTrue (is_passable q.grid.now (place_of (cell_at path t)))
  ground zero h = tr.on_ground
  ground (suc t) h = subst (λ z. IsTrue (is_passable q.grid.now (place_of (cell_at path z)))) (add-one t) ((tr.steps t (omega arith)).on_ground)

  resting : (t : ℕ) → n ≤ t → StepFits q.reserved.now t (cell_at path t) (cell_at path (t + 1))
  resting t h = record {
    vertex = λ j p e. (ask.goal_free_from n).1 goal_free_from (t + 1) (omega arith) j p (e ∙ late (t + 1) (omega arith));
    ring = λ ne. absurd (ne (late t h ∙ sym (late (t + 1) (omega arith))));
  }

  pub trail_is_way : IsFeasiblePathOf q path
  trail_is_way = record {
    some_cells = (let l = tr.long in omega arith);
    starts = tr.starts;
    ends = ap (cell_at path) arrives ∙ tr.ends;
    on_ground = λ t. elim (cases_lt t n) [
      | inl l ↦ ground t (omega arith)
      | inr l ↦ subst (λ z. IsTrue (is_passable q.grid.now (place_of z))) (tr.ends ∙ sym (late t l)) (ground n (omega arith))
    ];
    successive = λ t. elim (cases_lt t n) [
      | inl l ↦ (tr.steps t l).beside
      | inr l ↦ inl (late t l ∙ sym (late (t + 1) (omega arith)))
    ];
    fits = from_each_step q.reserved.now path (record {
      first = λ j p e. ask.free j p (e ∙ tr.starts);
      steps = λ t. elim (cases_lt t n) [ inl l ↦ (tr.steps t l).fits | inr l ↦ resting t l ];
    });
  }

-- the first end that is found is one of an earliest way
pub found_earliest : (q : Query) (f place : ℕ) (r : List Node) (labels : Times) (open_list : List (List ℕ)) (path : List Cell) → IsPosed q → IsFrontier q f (Some place) r labels open_list → place < length r → IsBucket q (state_in r place) f → IsGoalState q (state_in r place) → IsTrail q (state_in r place).time (state_in r place).cell path → IsEarliest (is_passable q.grid.now) q.reserved.now q.start q.goal q.horizon path
found_earliest q f place r labels open_list path ask fr within bucket end tr = record {
  way = trail_is_way q ask (state_in r place).time path (subst (λ z. IsTrail q (state_in r place).time z path) end.0 tr) end.1;
  in_time = (let t = time in let b = (fr.sound place within).in_time in omega arith);
  none_sooner = λ other w. sooner other w bucket;
}
  where
    time : arrival path ≡ (state_in r place).time
    time = let l = tr.long in omega arith

    near : heuristic_of q (state_in r place).cell ≡ 0
    near = ap (heuristic_of q) end.0 ∙ fr.measured.heuristic.at_goal

    sooner : (other : List Cell) → IsFeasiblePathOf q other → IsBucket q (state_in r place) f → arrival path ≤ arrival other
    sooner other w (inl a) = let x = a.0 in let y = way-goal_free_from q ask other w in let t = time in omega arith
    sooner other w (inr a) = elim (cases_lt q.horizon (arrival other)) [
      | inl l ↦ (let t = time in let b = (fr.sound place within).in_time in omega arith)
      | inr l ↦
          let t = time in
          let n = near in
          let x = a.0 in
          let y = a.1 in
          let z = at_least q f (Some place) r labels open_list fr (λ i s. subst (λ z. IsBucket q (state_in r z) f) (same_Some place i s) bucket) ask other w l (omega arith) in
          omega arith
    ]

-- if all buckets up to the horizon are empty there is no way
pub all_looked : (q : Query) (f : ℕ) (r : List Node) (labels : Times) (open_list : List (List ℕ)) → IsPosed q → IsFrontier q f None r labels open_list → q.goal_free_from ≤ q.horizon → q.horizon < f → IsInfeasible (is_passable q.grid.now) q.reserved.now q.start q.goal q.horizon
all_looked q f r labels open_list ask fr goal_free_from h path w in_time =
    let a = at_least q f None r labels open_list fr (λ i s. absurd (none-some i s)) ask path w in_time (omega arith) in
    omega arith
