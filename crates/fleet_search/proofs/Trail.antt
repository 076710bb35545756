-- The path to a state, read backwards from what was noted.
use Rattle.fleet_search.proofs.Words.{◌≡◌, ◌≢◌, ℕ, ◌+◌, ◌-◌, ◌<◌, ◌≤◌, min, IsTrue, List, [], ◌∷◌, ◌++◌, length, get_or, reverse, Option, inl, inr, ◌⊎◌, refl, sym, ap, ◌∙◌, subst, arith, cases_eq, get_or_append_left, get_or_push, length_push, get_or-reverse, length-reverse, Cell, place_of, origin, cell_at, Query, Times, Node, State, is_passable, IsUnoccupied, IsFreeOn, IsStep, state_in, parent_in, IsReachedFrom, IsFrontier, IsTrail}
use Rattle.fleet_search.proofs.Chase.{step_ok-same}

-- one step before the time of a visit the agent is on this one, from which the step leads there
pub record StepsToVisit (q : Query) (nodes : List Node) (time : ℕ) (visit : State) (next : ℕ) : Type 0 where
  pub known : next < length nodes
  pub early : (state_in nodes next).time ≤ time - 1
  pub free : IsFreeOn q.reserved.now (state_in nodes next).cell (state_in nodes next).time (time - 1)
  pub step : IsStep q (time - 1) (state_in nodes next).cell visit.cell

-- the cells from the last one back over so many steps; the agent came to the one that was found last at this state
pub record IsTraced (q : Query) (r : List Node) (n : ℕ) (last : Cell) (xs : List Cell) (back : ℕ) (visit : ℕ) : Type 0 where
  pub long : length xs ≡ back + 1
  pub bound : back ≤ n
  pub front : get_or xs 0 origin ≡ last
  pub end : get_or xs back origin ≡ (state_in r visit).cell
  pub known : visit < length r
  pub early : (state_in r visit).time ≤ n - back
  pub free : IsFreeOn q.reserved.now (state_in r visit).cell (state_in r visit).time (n - back)
  pub steps : (k : ℕ) → k < back → IsStep q (n - (k + 1)) (get_or xs (k + 1) origin) (get_or xs k origin)

steps_to_visit-came : (q : Query) (f : ℕ) (left : Option ℕ) (r : List Node) (labels : Times) (open_list : List (List ℕ)) → IsFrontier q f left r labels open_list → (time visit : ℕ) → visit < length r → (state_in r visit).time ≡ time → 1 ≤ time → StepsToVisit q r time (state_in r visit) (parent_in r visit)
steps_to_visit-came q f left r labels open_list fr time visit k e h = go (fr.sound visit k).reached_from
  where
    go : IsReachedFrom q r (state_in r visit) (parent_in r visit) → StepsToVisit q r time (state_in r visit) (parent_in r visit)
    go (inl p) = absurd (let z = p.0 in omega arith)
    go (inr (u, s, known, move)) =
        let at : u ≡ time - 1 = omega arith in
        let from = state_in r (parent_in r visit) in
        record {
          known = known;
          early = (let w = move.waits in omega arith);
          free = subst (IsFreeOn q.reserved.now from.cell from.time) at move.free;
          step = subst (λ z. IsStep q z from.cell (state_in r visit).cell) at move.step;
        }

steps_to_visit-waits : (q : Query) (f : ℕ) (left : Option ℕ) (r : List Node) (labels : Times) (open_list : List (List ℕ)) → IsFrontier q f left r labels open_list → (time visit : ℕ) → visit < length r → (state_in r visit).time ≢ time → (state_in r visit).time ≤ time → IsFreeOn q.reserved.now (state_in r visit).cell (state_in r visit).time time → StepsToVisit q r time (state_in r visit) visit
steps_to_visit-waits q f left r labels open_list fr time visit k ne h free = record {
  known = k;
  early = omega arith;
  free = λ u x y. free u x (omega arith);
  step = record {
    beside = inl refl;
    on_ground = (fr.sound visit k).on_ground;
    fits = step_ok-same q.reserved.now (time - 1) (state_in r visit).cell (state_in r visit).cell (subst (λ z. IsUnoccupied q.reserved.now z (state_in r visit).cell) (let e : time ≡ time - 1 + 1 = omega arith in e) (free time h (omega arith))) refl;
  };
}

-- the visit at one step before: that from which the agent has just come, or the same
pub steps_to_visit : (q : Query) (f : ℕ) (left : Option ℕ) (r : List Node) (labels : Times) (open_list : List (List ℕ)) → IsFrontier q f left r labels open_list → (n : ℕ) (last : Cell) (xs : List Cell) (back visit next : ℕ) → IsTraced q r n last xs back visit → back < n → (((state_in r visit).time ≡ n - back) × (next ≡ parent_in r visit)) ⊎ (((state_in r visit).time ≢ n - back) × (next ≡ visit)) → StepsToVisit q r (n - back) (state_in r visit) next
steps_to_visit q f left r labels open_list fr n last xs back visit next tr h (inl w) = subst (StepsToVisit q r (n - back) (state_in r visit)) (sym w.1) (steps_to_visit-came q f left r labels open_list fr (n - back) visit tr.known w.0 (omega arith))
steps_to_visit q f left r labels open_list fr n last xs back visit next tr h (inr w) = subst (StepsToVisit q r (n - back) (state_in r visit)) (sym w.1) (steps_to_visit-waits q f left r labels open_list fr (n - back) visit tr.known w.0 tr.early tr.free)

module _ (q : Query) (f : ℕ) (left : Option ℕ) (r : List Node) (labels : Times) (open_list : List (List ℕ)) (fr : IsFrontier q f left r labels open_list) (n : ℕ) (last : Cell) (xs : List Cell) (back : ℕ) (visit : ℕ) (tr : IsTraced q r n last xs back visit) where
  pub traced-more : (next : ℕ) (ys : List Cell) → back < n → StepsToVisit q r (n - back) (state_in r visit) next → ys ≡ xs ++ (state_in r next).cell ∷ [] → IsTraced q r n last ys (back + 1) next
  traced-more next ys h b g = subst (λ z. IsTraced q r n last z (back + 1) next) (sym g) (record {
    long = omega (arith, length_push xs (state_in r next).cell, tr.long);
    bound = omega arith;
    front = get_or_append_left xs ((state_in r next).cell ∷ []) origin 0 (omega (arith, tr.long)) ∙ tr.front;
    end = get_or_push xs (state_in r next).cell origin (back + 1) tr.long;
    known = b.known;
    early = (let e = b.early in omega arith);
    free = λ u x y. b.free u x (omega arith);
    steps = λ k l. elim (cases_eq k back) [
      | inl s ↦
          let a : get_or (xs ++ (state_in r next).cell ∷ []) (k + 1) origin ≡ (state_in r next).cell = ap (λ z. get_or (xs ++ (state_in r next).cell ∷ []) (z + 1) origin) s ∙ get_or_push xs (state_in r next).cell origin (back + 1) tr.long in
          let c : get_or (xs ++ (state_in r next).cell ∷ []) k origin ≡ (state_in r visit).cell = get_or_append_left xs ((state_in r next).cell ∷ []) origin k (omega (arith, tr.long)) ∙ ap (λ z. get_or xs z origin) s ∙ tr.end in
          let t : n - back - 1 ≡ n - (k + 1) = omega arith in
          subst (λ z. IsStep q z (get_or (xs ++ (state_in r next).cell ∷ []) (k + 1) origin) (get_or (xs ++ (state_in r next).cell ∷ []) k origin)) t (subst (λ z. IsStep q (n - back - 1) z (get_or (xs ++ (state_in r next).cell ∷ []) k origin)) (sym a) (subst (IsStep q (n - back - 1) (state_in r next).cell) (sym c) b.step))
      | inr ne ↦
          let a : get_or (xs ++ (state_in r next).cell ∷ []) (k + 1) origin ≡ get_or xs (k + 1) origin = get_or_append_left xs ((state_in r next).cell ∷ []) origin (k + 1) (omega (arith, tr.long)) in
          let c : get_or (xs ++ (state_in r next).cell ∷ []) k origin ≡ get_or xs k origin = get_or_append_left xs ((state_in r next).cell ∷ []) origin k (omega (arith, tr.long)) in
          subst (λ z. IsStep q (n - (k + 1)) z (get_or (xs ++ (state_in r next).cell ∷ []) k origin)) (sym a) (subst (IsStep q (n - (k + 1)) (get_or xs (k + 1) origin)) (sym c) (tr.steps k (omega arith)))
    ];
  })

  -- the start is reached
  at-start : n ≤ back → ((state_in r visit).cell ≡ q.start) × IsTrue (is_passable q.grid.now (place_of (state_in r visit).cell))
  at-start h =
      let s = fr.sound visit tr.known in
      (go s.reached_from, s.on_ground)
    where
      go : IsReachedFrom q r (state_in r visit) (parent_in r visit) → (state_in r visit).cell ≡ q.start
      go (inl p) = p.1
      go (inr (t, e, k, step)) = absurd (let z = tr.early in omega arith)

  turned : (ys : List Cell) → ys ≡ reverse xs → n ≤ back → (t : ℕ) → t ≤ n → cell_at ys t ≡ get_or xs (n - t) origin
  unfolding cell_at
  turned ys e h t l =
      let b = tr.bound in
      let long : length (reverse xs) ≡ n + 1 = omega (arith, length-reverse xs, tr.long) in
      let at : min t (length (reverse xs) - 1) ≡ t = omega arith in
      let there : length xs - 1 - t ≡ n - t = omega (arith, tr.long) in
      ap (λ zs. get_or zs (min t (length zs - 1)) origin) e ∙ ap (λ z. get_or (reverse xs) z origin) at ∙ get_or-reverse xs t origin (omega (arith, tr.long)) ∙ ap (λ z. get_or xs z origin) there

  pub traced-all : (ys : List Cell) → ys ≡ reverse xs → n ≤ back → IsTrail q n last ys
  traced-all ys e h =
      let b = tr.bound in
      let first : cell_at ys 0 ≡ (state_in r visit).cell = turned ys e h 0 (omega arith) ∙ ap (λ z. get_or xs z origin) (let z : n - 0 ≡ back = omega arith in z) ∙ tr.end in
      let s = at-start h in
      record {
        long = ap length e ∙ length-reverse xs ∙ tr.long ∙ (let z : back + 1 ≡ n + 1 = omega arith in z);
        starts = first ∙ s.0;
        ends = turned ys e h n (omega arith) ∙ ap (λ z. get_or xs z origin) (let z : n - n ≡ 0 = omega arith in z) ∙ tr.front;
        on_ground = subst (λ z. IsTrue (is_passable q.grid.now (place_of z))) (sym first) s.1;
        steps = λ t l. step t l;
      }
    where
      step : (t : ℕ) → t < n → IsStep q t (cell_at ys t) (cell_at ys (t + 1))
      step t l =
          let b = tr.bound in
          let k = n - (t + 1) in
          let w = tr.steps k (omega arith) in
          let et : n - (k + 1) ≡ t = omega arith in
          let ea : get_or xs (k + 1) origin ≡ cell_at ys t = ap (λ z. get_or xs z origin) (let z : k + 1 ≡ n - t = omega arith in z) ∙ sym (turned ys e h t (omega arith)) in
          let eb : get_or xs k origin ≡ cell_at ys (t + 1) = sym (turned ys e h (t + 1) (omega arith)) in
          subst (λ z. IsStep q z (cell_at ys t) (cell_at ys (t + 1))) et (subst (λ z. IsStep q (n - (k + 1)) z (cell_at ys (t + 1))) ea (subst (IsStep q (n - (k + 1)) (get_or xs (k + 1) origin)) eb w))
