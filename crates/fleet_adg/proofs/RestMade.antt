-- What is left of a program, made await by await, action by action and agent by agent.
use Rattle.fleet_adg.proofs.Words.{◌≡◌, ℕ, ◌+◌, ◌<◌, ◌≤◌, true, false, not, List, [], ◌∷◌, ◌++◌, length, map, take, drop, refl, sym, ap, subst, ◌∙◌, arith, add-one, inl, inr, ◌⊎◌, slice_get, Option, Some, None, option_map, filter, IsTrue, ℤ, pos, negsuc, option_map_or, cases_lt, ints, take_more, map-append, append-nil, drop-append-le, length-take-le, map-range_with_len_more, filter-append, slice_get_within, get_or_from_slice_get, same_Some, none-some, Place, Step, Await, Action, AgentProgram, MAX_COORDINATE, Task, Program, actions_of, step_of, awaits_of, IsWellFormed, IsCell, Configuration, run, IsReached, place_at, is_met, indices, IsAccepted, Ground, is_passable, IsGround, IsNoNumber, StandOn, cell_at, natural, rest_await, rest_awaits, rest_action, IsOnWay, IsCellNumber}
use Rattle.fleet_model.proofs.Tick.{length-run}
use Rattle.fleet_grid.proofs.StoredLaws.{no_cell}
use Rattle.fleet_verify.proofs.Finish.{count_within}
use Rattle.fleet_verify.proofs.FreeRun.{runs_on_ground}

take_push : {X : Type 0} (xs : List X) (k : ℕ) (x : X) → slice_get xs k ≡ Some x → take (k + 1) xs ≡ take k xs ++ x ∷ []
take_push xs k x at = take_more xs k x (slice_get_within xs k x at) ∙ ap (λ y. take k xs ++ y ∷ []) (get_or_from_slice_get xs k x x at)

-- ---- awaits

kept : (c : Configuration) (ws : List Await) (k : ℕ) (w : Await) → slice_get ws k ≡ Some w → rest_awaits c (take (k + 1) ws) ≡ rest_awaits c (take k ws) ++ rest_awaits c (w ∷ [])
kept c ws k w at =
    ap (rest_awaits c) (take_push ws k w at)
    ∙ (ap (map (rest_await c)) (filter-append (λ v. not (is_met c v)) (take k ws) (w ∷ []))
    ∙ map-append (rest_await c) (filter (λ v. not (is_met c v)) (take k ws)) (filter (λ v. not (is_met c v)) (w ∷ [])))

pub unmet_more : (c : Configuration) (ws : List Await) (k : ℕ) (w : Await) → slice_get ws k ≡ Some w → is_met c w ≡ false → rest_awaits c (take (k + 1) ws) ≡ rest_awaits c (take k ws) ++ rest_await c w ∷ []
unmet_more c ws k w at unmet = kept c ws k w at ∙ ap (λ xs. rest_awaits c (take k ws) ++ xs) (rw unmet refl)

pub met_more : (c : Configuration) (ws : List Await) (k : ℕ) (w : Await) → slice_get ws k ≡ Some w → is_met c w ≡ true → rest_awaits c (take (k + 1) ws) ≡ rest_awaits c (take k ws)
met_more c ws k w at met = kept c ws k w at ∙ (ap (λ xs. rest_awaits c (take k ws) ++ xs) (rw met refl) ∙ append-nil (rest_awaits c (take k ws)))

-- ---- actions

-- the next action with the awaits that are not met yet
pub action_more : (c : Configuration) (p : Program) (i d n : ℕ) → d ≤ n → (s : Step) → step_of p i (n + 1) ≡ Some s → (ws : List Await) → ws ≡ rest_awaits c (awaits_of p i (n + 1))
    → map (rest_action c) (drop d (take (n + 1) (actions_of p i))) ≡ map (rest_action c) (drop d (take n (actions_of p i))) ++ record { step = s; awaits = ws } ∷ []
action_more c p i d n l s at ws is = go (slice_get (actions_of p i) n) refl
  where
    acts : List Action
    acts = actions_of p i

    at_next : option_map (λ (a : Action). a.step) (slice_get acts n) ≡ Some s
    at_next = subst (λ (m : ℕ). step_of p i m ≡ Some s) (add-one n) at

    ws_next : ws ≡ rest_awaits c (option_map_or (λ (a : Action). a.awaits) (slice_get acts n) [])
    ws_next = is ∙ ap (λ (m : ℕ). rest_awaits c (awaits_of p i m)) (add-one n)

    go : (o : Option Action) → slice_get acts n ≡ o
        → map (rest_action c) (drop d (take (n + 1) acts)) ≡ map (rest_action c) (drop d (take n acts)) ++ record { step = s; awaits = ws } ∷ []
    go None e = absurd (none-some s (sym (ap (option_map (λ (a : Action). a.step)) e) ∙ at_next))
    go (Some a) e =
        let within : n < length acts = slice_get_within acts n a e in
        let long : length (take n acts) ≡ n = length-take-le n acts (omega arith) in
        let step : a.step ≡ s = same_Some a.step s (sym (ap (option_map (λ (x : Action). x.step)) e) ∙ at_next) in
        let awaits : ws ≡ rest_awaits c a.awaits = ws_next ∙ ap (λ (o : Option Action). rest_awaits c (option_map_or (λ (x : Action). x.awaits) o [])) e in
        let same : rest_action c a ≡ record { step = s; awaits = ws } = (λ k. record { step = step k; awaits = sym awaits k }) in
        ap (λ xs. map (rest_action c) (drop d xs)) (take_push acts n a e)
        ∙ (ap (map (rest_action c)) (drop-append-le d (take n acts) (a ∷ []) (omega (arith, l, long)))
        ∙ (map-append (rest_action c) (drop d (take n acts)) (a ∷ [])
        ∙ ap (λ (x : Action). map (rest_action c) (drop d (take n acts)) ++ x ∷ []) same))

-- ---- where agents stand

not_passable : (g : Ground) (q : Place) → IsGround g → IsTrue (is_passable g q) → IsNoNumber q.x ⊎ IsNoNumber q.y → ⊥
not_passable g q ground h past = let e = no_cell g q ground past in cc

numbered : (n : ℤ) → (IsNoNumber n → ⊥) → IsCellNumber n
numbered (pos n) h = elim (cases_lt MAX_COORDINATE n) [
  | inl big ↦ absurd (h big)
  | inr few ↦ record { least = omega (arith, ints); most = omega (arith, ints) }
]
numbered (negsuc n) h = absurd (h tt)

pub natural_is : (n : ℤ) → IsCellNumber n → pos (natural n) ≡ n
natural_is (pos n) h = refl
natural_is (negsuc n) h = absurd (let l = h.least in omega (arith, ints))

pub natural_few : (n : ℤ) → IsCellNumber n → natural n ≤ MAX_COORDINATE
natural_few (pos n) h = let m = h.most in omega (arith, ints)
natural_few (negsuc n) h = absurd (let l = h.least in omega (arith, ints))

-- the agents of an accepted program in a configuration of one of its runs
pub on_way : (g : Ground) (tasks : List Task) (p : Program) (c : Configuration) → IsGround g → IsWellFormed p → IsAccepted (is_passable g) tasks p → IsReached p c → IsOnWay p c
on_way g tasks p c ground formed ok r = subst (IsOnWay p) r.same (record {
  formed = formed;
  in_range = ok.right.in_range;
  all = length-run p r.holds r.ticks;
  within = count_within p r.holds r.ticks;
  column = λ i l. numbered (place_at (run p r.holds r.ticks) i).x (λ n. not_passable g (place_at (run p r.holds r.ticks) i) ground (runs_on_ground (is_passable g) p r.holds ok.right.on_ground r.ticks i l) (inl n));
  row = λ i l. numbered (place_at (run p r.holds r.ticks) i).y (λ n. not_passable g (place_at (run p r.holds r.ticks) i) ground (runs_on_ground (is_passable g) p r.holds ok.right.on_ground r.ticks i l) (inr n));
})

-- they stand on the cells
pub stand_on : (p : Program) (c : Configuration) → IsOnWay p c → StandOn p c (cell_at c)
stand_on p c h i l =
    let x = natural_is (place_at c i).x (h.column i l) in
    let y = natural_is (place_at c i).y (h.row i l) in
    λ k. record { x = x k; y = y k }

pub cells_are : (p : Program) (c : Configuration) → IsOnWay p c → (i : ℕ) → i < length p → IsCell (cell_at c i)
cells_are p c h i l = record { x = natural_few (place_at c i).x (h.column i l); y = natural_few (place_at c i).y (h.row i l) }

-- ---- agents

pub agent_more : (f : ℕ → AgentProgram) (i : ℕ) (agents : List AgentProgram) → agents ≡ map f (indices i) → (a : AgentProgram) → a ≡ f i → agents ++ a ∷ [] ≡ map f (indices (i + 1))
agent_more f i agents is a here = cc (is, here, map-range_with_len_more f 0 i i (omega arith))
