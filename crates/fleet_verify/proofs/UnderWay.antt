-- Runs without holds that are under way, and the visits that have begun in them.
use Rattle.fleet_verify.proofs.Words.{◌≡◌, ℕ, zero, suc, ◌+◌, ◌<◌, ◌≤◌, Bool, true, false, List, [], ◌∷◌, ◌++◌, length, map, Option, None, Some, refl, ap, sym, ◌∙◌, subst, arith, add-one, rules, IsTrue, inl, inr, ◌≢◌, ◌&&◌, not, get_or, IfNone, IfSome, IsSome, ◌⊎◌, filter, list_any, map-append, append_assoc, filter-append, cases_lt, cases_eq, same_Some, Cell, Step, Place, Visit, place_of, stepped, indices, Configuration, count_at, run, tick, moved_in, is_held, is_moving, is_ready, is_over, is_finished, place_at, IsLeast, IsReached, Program, moves, step_of, path, total_moves, get_or-map-range_with_len, and-true, tick_agree, indices-more, EachAction, StandsRight, positions_of, begun_by, begun_in, moved_to, IsEnded, MachineState, Runs, flag_of, moving_flags}
use Rattle.fleet_machine.proofs.Indices.{some_counted, none_counts}
use Rattle.fleet_verify.proofs.Paths.{path_step}
use Rattle.fleet_machine.proofs.Ready.{rests_if}
use Rattle.fleet_verify.proofs.RunCounts.{finished_all, any_below, held_past, tick_free, run_place, run_ends, some_ready}
use Rattle.fleet_verify.proofs.Finish.{count_within}
use Rattle.fleet_verify.proofs.Waiting.{ready_says}

abbrev visit_of : ℕ → ℕ → Visit
visit_of i n = record { agent = i; position = n }

-- one agent more
pub positions_yes : (moving : ℕ → Bool) (position : ℕ → ℕ) (n : ℕ) → moving n ≡ true → positions_of moving position (n + 1) ≡ positions_of moving position n ++ visit_of n (position n) ∷ []
positions_yes moving position n e = rw (indices-more n, filter-append, map-append, e) refl

pub positions_no : (moving : ℕ → Bool) (position : ℕ → ℕ) (n : ℕ) → moving n ≡ false → positions_of moving position (n + 1) ≡ positions_of moving position n
positions_no moving position n e = rw (indices-more n, filter-append, map-append, e) append-nil
  where
    append-nil : map (λ i. visit_of i (position i)) (filter moving (indices n)) ++ [] ≡ map (λ i. visit_of i (position i)) (filter moving (indices n))
    append-nil = Rattle.std.proofs.lemmas.List.append-nil _

-- if nobody moves from one agent up to another, there are no more positions
pub positions_passed : (moving : ℕ → Bool) (position : ℕ → ℕ) (from n : ℕ) → from ≤ n → ((k : ℕ) → from ≤ k → k < n → moving k ≡ false)
    → positions_of moving position n ≡ positions_of moving position from
positions_passed moving position from zero le none = ap (positions_of moving position) (let e : zero ≡ from = omega (arith, le) in e)
positions_passed moving position from (suc n) le none =
    elim (cases_lt from (suc n)) [
      | inl lt ↦ subst (λ x. positions_of moving position x ≡ positions_of moving position from) (add-one n)
          (positions_no moving position n (none n (omega (arith, lt)) (omega arith))
          ∙ positions_passed moving position from n (omega (arith, lt)) (λ k later below. none k later (omega (arith, below))))
      | inr ge ↦ ap (positions_of moving position) (let e : suc n ≡ from = omega (arith, le, ge) in e)
    ]

pub begun_yes : (moving : ℕ → Bool) (count : ℕ → ℕ) (n : ℕ) → moving n ≡ true → begun_by moving count (n + 1) ≡ begun_by moving count n ++ visit_of n (count n + 1) ∷ []
begun_yes moving count n e = positions_yes moving (λ i. count i + 1) n e

pub begun_no : (moving : ℕ → Bool) (count : ℕ → ℕ) (n : ℕ) → moving n ≡ false → begun_by moving count (n + 1) ≡ begun_by moving count n
begun_no moving count n e = positions_no moving (λ i. count i + 1) n e

-- the positions so far, with one more
pub one_moved : (visits : List Visit) (moving : ℕ → Bool) (position : ℕ → ℕ) (i n : ℕ) → moving i ≡ true → n ≡ position i
    → (visits ++ positions_of moving position i) ++ visit_of i n ∷ [] ≡ visits ++ positions_of moving position (i + 1)
one_moved visits moving position i n flag e =
    append_assoc visits (positions_of moving position i) (visit_of i n ∷ [])
    ∙ ap (λ vs. visits ++ vs) (ap (λ k. positions_of moving position i ++ visit_of i k ∷ []) e ∙ sym (positions_yes moving position i flag))

pub positions_same : (m k : ℕ → Bool) (c d : ℕ → ℕ) (n : ℕ) → ((i : ℕ) → i < n → m i ≡ k i) → ((i : ℕ) → i < n → k i ≡ true → c i ≡ d i) → positions_of m c n ≡ positions_of k d n
positions_same m k c d zero h e = refl
positions_same m k c d (suc n) h e =
    subst (λ x. positions_of m c x ≡ positions_of k d x) (add-one n) (go (m n) refl (positions_same m k c d n (λ i l. h i (omega arith)) (λ i l. e i (omega arith))))
  where
    go : (b : Bool) → m n ≡ b → positions_of m c n ≡ positions_of k d n → positions_of m c (n + 1) ≡ positions_of k d (n + 1)
    go true f rest =
        let g : k n ≡ true = sym (h n (omega arith)) ∙ f in
        positions_yes m c n f ∙ (ap (λ vs. vs ++ visit_of n (c n) ∷ []) rest ∙ (ap (λ x. positions_of k d n ++ visit_of n x ∷ []) (e n (omega arith) g) ∙ sym (positions_yes k d n g)))
    go false f rest = positions_no m c n f ∙ (rest ∙ sym (positions_no k d n (sym (h n (omega arith)) ∙ f)))

-- ---- cells

pub some_there : (r : Option Cell) (b : Bool) → IfNone r (b ≡ false) → b ≡ true → IsSome r
some_there None b h e = absurd (cc (h, e))
some_there (Some c) b h e = search rules

pub some_to : (passable : Place → Bool) (r : Option Cell) (c : Cell) (q : Place) → r ≡ Some c → IfSome r (λ x. (place_of x ≡ q) × IsTrue (passable (place_of x))) → place_of c ≡ q
some_to passable None c q e h = absurd cc
some_to passable (Some x) c q e h = subst (λ (y : Cell). place_of y ≡ q) (same_Some x c e) h.0

-- the cell after an agent's next action
pub next_cell : (passable : Place → Bool) (p : Program) (i n : ℕ) (c next : Cell) (d : Step) (r : Option Cell) → place_of c ≡ path p i n → step_of p i (n + 1) ≡ Some d
    → r ≡ Some next → IfSome r (λ x. (place_of x ≡ stepped (place_of c) d) × IsTrue (passable (place_of x))) → place_of next ≡ path p i (n + 1)
next_cell passable p i n c next d r here dir e to =
    some_to passable r next (stepped (place_of c) d) e to ∙ (ap (λ (q : Place). stepped q d) here ∙ sym (path_step p i n d dir))

pub next_there : (passable : Place → Bool) (p : Program) (i n : ℕ) (c : Cell) (d : Step) (r : Option Cell) → EachAction p (StandsRight passable p) → i < length p → n < moves p i
    → place_of c ≡ path p i n → step_of p i (n + 1) ≡ Some d → IfNone r (passable (stepped (place_of c) d) ≡ false) → IsSome r
next_there passable p i n c d r steps agent left here dir none =
    let e : path p i (n + 1) ≡ stepped (place_of c) d = path_step p i n d dir ∙ ap (λ (q : Place). stepped q d) (sym here) in
    let h : passable (path p i (n + 1)) ≡ true = steps i (n + 1) agent (omega arith) in
    some_there r (passable (stepped (place_of c) d)) none (sym (ap passable e) ∙ h)

-- ---- the start

-- the starts of the first n agents
abbrev pub starts_of : ℕ → List Visit
starts_of n = map (λ i. record { agent = i; position = 0 }) (indices n)

pub starts_more : (n : ℕ) → starts_of n ++ record { agent = n; position = 0 } ∷ [] ≡ starts_of (n + 1)
starts_more n = sym (ap (map (λ i. record { agent = i; position = 0 })) (indices-more n) ∙ map-append (λ (i : ℕ). record { agent = i; position = 0 }) (indices n) (n ∷ []))

-- the starts are the visits that begin before the first tick
pub opened_visits : (p : Program) → starts_of (length p) ≡ begun_in p 0
unfolding begun_in
opened_visits p = refl

-- ---- over or not

pub ready_not_over : (p : Program) (c : Configuration) (i : ℕ) → i < length p → is_ready p c i ≡ true → is_over p c ≡ false
ready_not_over p c i l e = go (is_finished p c) (list_any (is_ready p c) (indices (length p))) refl refl
  where
    go : (f a : Bool) → is_finished p c ≡ f → list_any (is_ready p c) (indices (length p)) ≡ a → is_over p c ≡ false
    go true a g h = absurd (let m = finished_all p c g i l in let k : count_at c i < moves p i = (ready_says p c i e).left in omega arith)
    go false true g h = rw (g, h) refl
    go false false g h = absurd (let k = any_below (is_ready p c) (length p) i l h in cc)

pub none_over : (p : Program) (c : Configuration) → ((i : ℕ) → i < length p → is_ready p c i ≡ false) → is_over p c ≡ true
none_over p c h = go (is_over p c) refl
  where
    go : (b : Bool) → is_over p c ≡ b → is_over p c ≡ true
    go true e = e
    go false e = absurd (let r = some_ready p c e in let f = h r.0 r.1 in let g = r.2 in cc)

-- ---- on the paths

-- in a configuration of a run each agent is where its path is after so many actions
pub on_path : (p : Program) (c : Configuration) → IsReached p c → (i : ℕ) → i < length p → place_at c i ≡ path p i (count_at c i)
on_path p c reached i l = subst (λ d. place_at d i ≡ path p i (count_at d i)) reached.same (run_place p reached.holds reached.ticks i l)

-- and has finished no more actions than it has
pub within_moves : (p : Program) (c : Configuration) → IsReached p c → (i : ℕ) → count_at c i ≤ moves p i
within_moves p c reached i = subst (λ d. count_at d i ≤ moves p i) reached.same (count_within p reached.holds reached.ticks i)

-- ---- under way

-- t ticks without holds, before none of which the run was over
pub record IsUnderWay (p : Program) (m : MachineState) (t : ℕ) : Type 0 where
  pub runs : Runs p m
  pub here : m.configuration ≡ run p [] t
  pub sooner : (s : ℕ) → s < t → is_over p (run p [] s) ≡ false

made_end : (p : Program) (m : MachineState) (t : ℕ) → IsUnderWay p m t → is_over p (run p [] t) ≡ true → IsEnded p m t
made_end p m t h over = record { runs = h.runs; here = h.here; end = record { holds = over; least = least } }
  where
    least : (s : ℕ) → IsTrue (is_over p (run p [] s)) → t ≤ s
    least s e = elim (cases_lt s t) [ inr l ↦ l | inl l ↦ absurd (let f = h.sooner s l in cc) ]

-- so many ticks are enough
pub ends_by : (p : Program) (m : MachineState) (t : ℕ) → IsUnderWay p m t → total_moves p ≤ t → IsEnded p m t
ends_by p m t h enough = made_end p m t h (go (cases_lt r.0 t))
  where
    r : (t : ℕ) × IsLeast (λ t. is_over p (run p [] t)) t × (t ≤ length {A = List ℕ} [] + total_moves p)
    r = run_ends p []

    go : (r.0 < t) ⊎ (t ≤ r.0) → is_over p (run p [] t) ≡ true
    go (inl l) = absurd (let e = h.sooner r.0 l in let f = (r.1).holds in cc)
    go (inr l) = let e : r.0 ≡ t = omega (arith, r.2) in subst (λ s. is_over p (run p [] s) ≡ true) e ((r.1).holds)

-- ---- a tick in which nobody is held

module _ (p : Program) (held : ℕ → Bool) (m : MachineState) (t : ℕ) (h : IsUnderWay p m t) (nobody : (i : ℕ) → i < length p → held i ≡ false)
    (after : MachineState) (runs : Runs p after) (ticked : after.configuration ≡ tick p held m.configuration) where
  one_tick : after.configuration ≡ run p [] (suc t)
  one_tick =
      ticked
      ∙ (tick_agree p held (is_held [] t) m.configuration (λ i l. nobody i l ∙ sym (held_past [] t i (omega arith))) ∙ ap (tick p (is_held [] t)) h.here)

  pub tick_reaches : IsReached p after.configuration
  tick_reaches = record { holds = []; ticks = suc t; same = sym one_tick }

  -- who is ready moves
  ready_moving : (i : ℕ) → i < length p → is_moving p held m.configuration i ≡ is_ready p (run p [] t) i
  ready_moving i l =
      ap (λ b. is_ready p m.configuration i && not b) (nobody i l) ∙ (and-true (is_ready p m.configuration i) ∙ ap (λ c. is_ready p c i) h.here)

  -- somebody moved
  pub goes_on : moved_in p held m.configuration ≢ 0 → IsUnderWay p after (t + 1)
  goes_on some = subst (IsUnderWay p after) (sym (add-one t)) (record {
    runs = runs;
    here = one_tick;
    sooner = λ s l. at s (cases_eq s t) l;
  })
    where
      one : (i : ℕ) × (i < length p) × (is_moving p held m.configuration i ≡ true)
      one = some_counted (is_moving p held m.configuration) (length p) some

      at : (s : ℕ) → (s ≡ t) ⊎ (s ≡ t → ⊥) → s < suc t → is_over p (run p [] s) ≡ false
      at s (inl e) l = ap (λ x. is_over p (run p [] x)) e ∙ ready_not_over p (run p [] t) one.0 one.1 (sym (ready_moving one.0 one.1) ∙ one.2)
      at s (inr ne) l = h.sooner s (omega arith)

  -- nobody moved
  pub stops : moved_in p held m.configuration ≡ 0 → IsEnded p after t
  stops none =
      let still = λ (i : ℕ) (l : i < length p). none_counts (is_moving p held m.configuration) (length p) none i l in
      let rests : after.configuration ≡ run p [] t = ticked ∙ (rests_if p held m.configuration h.runs.agents still ∙ h.here) in
      made_end p after t (record { runs = runs; here = rests; sooner = h.sooner }) (none_over p (run p [] t) (λ i l. sym (ready_moving i l) ∙ still i l))

  -- where it brought who moved
  pub arrived : after.moving ≡ moving_flags p held m.configuration → begun_in p t ++ moved_to after (length p) ≡ begun_in p (t + 1)
  unfolding begun_in
  arrived flags =
      ap (λ vs. begun_in p t ++ vs) (positions_same (flag_of after.moving) (is_ready p (run p [] t)) (count_at after.configuration) (λ i. count_at (run p [] t) i + 1) (length p) flagged counted)
      ∙ sym (ap (begun_in p) (add-one t))
    where
      flagged : (i : ℕ) → i < length p → flag_of after.moving i ≡ is_ready p (run p [] t) i
      flagged i l =
          ap (λ xs. get_or xs i false) flags
          ∙ (get_or-map-range_with_len (is_moving p held m.configuration) 0 (length p) i i false l (omega arith) ∙ ready_moving i l)

      counted : (i : ℕ) → i < length p → is_ready p (run p [] t) i ≡ true → count_at after.configuration i ≡ count_at (run p [] t) i + 1
      counted i l ready = ap (λ c. count_at c i) one_tick ∙ tick_free p (is_held [] t) (run p [] t) i l ready (held_past [] t i (omega arith))
