-- Programs whose agents stay at the end, and those of plans.
use Rattle.fleet_adg.proofs.Words.{◌≡◌, ℕ, zero, suc, ◌+◌, ◌-◌, ◌*◌, ◌<◌, ◌≤◌, min, Bool, true, false, List, [], ◌∷◌, ◌++◌, length, map, take, drop, All, Contains, Option, Some, None, refl, sym, ap, subst, ◌∙◌, arith, inl, inr, length-append, ◌↔◌, cond, leb, Result, Ok, Err, IfOk, sum_by, replicate, slice_get, option_map, IsTrue, option_map_or, cases_lt, leb-true, le-leb, and_parts, slice_get-map, slice_get_past, slice_get_within, slice_get-get_or, append-nil, length-map, length-replicate, map-append, take-append-le, All-weaker, sum_by-cons, Cell, Place, Step, Dwell, MAX_MOVES, MAX_MOVES_IN_ALL, MAX_MOVES_V1, Await, Action, ActionId, AgentProgram, Visit, Task, place_of, is_move, Program, origin, start_of, goal_of, actions_of, moves, awaits_of, path, walked, total_moves, AreInRange, AreAwaits, IsCell, IsWellFormed, NeverStays, AreShort, IsAction, DirectlyNeeds, ChainFrom, Reaches, IsNumbering, is_entry, stays_before, next_move, IsVisitOf, ListsVisits, Adjacent, ComesAfterByChain, entering, leaving, IsRight, IsAcceptedBy, IsAccepted, stay_path, entry_moves, chain_first, Reaches-first, Reaches-need, Reaches-trans, DiffersInAwaits, HaveSameChains, RunEqually, same_moves, run_over, stay, with_stays, moves_by, compiled, compiled_if_few, compiled_staying, each_has_few, all_have_few, has_few_actions, compiled_staying_if_few, moves_in_all, list_all, range_with_len, Deps, awaits_accepted, Plan, steps, IsConflictFree, IsWithinLimits}
use Rattle.std.proofs.Math.Nat.{min-eq_left, min-eq_right}
use Rattle.fleet_adg.proofs.Short.{short_in_range, short_moves}
use Rattle.fleet_model.specs.Answer.{IsDueUnless}
use Rattle.fleet_adg.specs.declared.fault.CompileFault.{CompileFault}
use Rattle.fleet_adg.specs.declared.fault.CompileFault.TheVariants.{OutOfMemory, TooLong}
use Rattle.fleet_adg.proofs.Moves.{moves_by-le}
use Rattle.fleet_adg.proofs.Programs.{length-compiled, moves-compiled, no_moves-compiled, never_stays-compiled}
use Rattle.fleet_adg.proofs.Limits.{steps_few, total_moves-compiled, compiled-well_formed}
use Rattle.fleet_adg.proofs.Accepted.{compiled-accepted}
use Rattle.fleet_adg.proofs.Alike.{same_chains}

-- ---- lists with stays at their end

no_more : {B : Type 0} (f : Action → B) (d : B) → f stay ≡ d → (n k : ℕ) → option_map_or f (slice_get (replicate n stay) k) d ≡ d
no_more f d e zero k = ap (λ (o : Option Action). option_map_or f o d) (slice_get_past (replicate zero stay) k (omega arith))
no_more f d e (suc n) zero = e
no_more f d e (suc n) (suc k) = no_more f d e n k

-- what is not there is as a stay is
as_before : {B : Type 0} (f : Action → B) (d : B) → f stay ≡ d → (n : ℕ) (xs : List Action) (k : ℕ) → option_map_or f (slice_get (xs ++ replicate n stay) k) d ≡ option_map_or f (slice_get xs k) d
as_before f d e n [] k = no_more f d e n k ∙ sym (ap (λ (o : Option Action). option_map_or f o d) (slice_get_past {X = Action} [] k (omega arith)))
as_before f d e n (x ∷ xs) zero = refl
as_before f d e n (x ∷ xs) (suc k) = as_before f d e n xs k

stay_at : (n : ℕ) (xs : List Action) (k : ℕ) → k < n → slice_get (xs ++ replicate n stay) (length xs + k) ≡ Some stay
stay_at zero [] k lt = absurd (omega arith)
stay_at (suc n) [] zero lt = refl
stay_at (suc n) [] (suc k) lt =
    let e : length {A = Action} [] + suc k ≡ suc (length {A = Action} [] + k) = omega arith in
    ap (slice_get (replicate (suc n) stay)) e ∙ stay_at n [] k (omega arith)
stay_at n (x ∷ xs) k lt =
    let e : length (x ∷ xs) + k ≡ suc (length xs + k) = omega arith in
    ap (slice_get (x ∷ xs ++ replicate n stay)) e ∙ stay_at n xs k lt

-- a move ends the stays before it
stays_front : (xs ys : List Action) → stays_before xs < length xs → stays_before (xs ++ ys) ≡ stays_before xs
stays_front [] ys lt = absurd (omega arith)
stays_front (x ∷ xs) ys lt = go (is_move x.step) refl (stays_front xs ys)
  where
    go : (b : Bool) → is_move x.step ≡ b → (stays_before xs < length xs → stays_before (xs ++ ys) ≡ stays_before xs) → stays_before (x ∷ xs ++ ys) ≡ stays_before (x ∷ xs)
    go true e front = rw e refl
    go false e front =
        let own : stays_before (x ∷ xs) ≡ stays_before xs + 1 = rw e refl in
        let more : stays_before (x ∷ xs ++ ys) ≡ stays_before (xs ++ ys) + 1 = rw e refl in
        more ∙ ap (λ (m : ℕ). m + 1) (front (omega (arith, lt, own))) ∙ sym own

drop_front : (k : ℕ) (xs ys : List Action) → k ≤ length xs → drop k (xs ++ ys) ≡ drop k xs ++ ys
drop_front zero xs ys le = refl
drop_front (suc k) [] ys le = absurd (omega arith)
drop_front (suc k) (x ∷ xs) ys le = drop_front k xs ys (omega arith)

length_drop : (k : ℕ) (xs : List Action) → k ≤ length xs → length (drop k xs) + k ≡ length xs
length_drop zero xs le = omega arith
length_drop (suc k) [] le = absurd (omega arith)
length_drop (suc k) (x ∷ xs) le = let h = length_drop k xs (omega arith) in omega (arith, h)

-- ---- a program whose agents stay at last

abbrev pub added : ℕ → Program → Program
added n p = map (with_stays n) p

pub length-added : (n : ℕ) (p : Program) → length (added n p) ≡ length p
length-added n p = length-map p (with_stays n)

module _ (n : ℕ) (p : Program) where
  start-added : (i : ℕ) → start_of (added n p) i ≡ start_of p i
  start-added i = ap (λ (o : Option AgentProgram). option_map_or (λ a. a.start) o origin) (slice_get-map (with_stays n) p i) ∙ go (slice_get p i)
    where
      go : (o : Option AgentProgram) → option_map_or (λ a. a.start) (option_map (with_stays n) o) origin ≡ option_map_or (λ a. a.start) o origin
      go None = refl
      go (Some a) = refl

  goal-added : (i : ℕ) → goal_of (added n p) i ≡ goal_of p i
  goal-added i = ap (λ (o : Option AgentProgram). option_map_or (λ a. a.goal) o origin) (slice_get-map (with_stays n) p i) ∙ go (slice_get p i)
    where
      go : (o : Option AgentProgram) → option_map_or (λ a. a.goal) (option_map (with_stays n) o) origin ≡ option_map_or (λ a. a.goal) o origin
      go None = refl
      go (Some a) = refl

  pub actions-added : (i : ℕ) → i < length p → actions_of (added n p) i ≡ actions_of p i ++ replicate n stay
  actions-added i lt = ap (λ (o : Option AgentProgram). option_map_or (λ a. a.actions) o []) (slice_get-map (with_stays n) p i) ∙ go (slice_get p i) (slice_get-get_or p i (record { start = origin; goal = origin; actions = [] }) lt)
    where
      go : (o : Option AgentProgram) {a : AgentProgram} → o ≡ Some a → option_map_or (λ a. a.actions) (option_map (with_stays n) o) [] ≡ option_map_or (λ a. a.actions) o [] ++ replicate n stay
      go None e = absurd (let f : ⊥ = cc in f)
      go (Some a) e = refl

  no_actions-added : (i : ℕ) → length p ≤ i → (actions_of (added n p) i ≡ []) × (actions_of p i ≡ [])
  no_actions-added i le = (
    ap (λ (o : Option AgentProgram). option_map_or (λ a. a.actions) o []) (slice_get_past (added n p) i (omega (arith, length-added n p))),
    ap (λ (o : Option AgentProgram). option_map_or (λ a. a.actions) o []) (slice_get_past p i le),
  )

  pub moves-added : (i : ℕ) → i < length p → moves (added n p) i ≡ moves p i + n
  moves-added i lt = ap length (actions-added i lt) ∙ length-append (actions_of p i) (replicate n stay) ∙ ap (λ (m : ℕ). moves p i + m) (length-replicate n stay)

  no_moves-added : (i : ℕ) → length p ≤ i → (moves (added n p) i ≡ 0) × (moves p i ≡ 0)
  no_moves-added i le = (ap length (no_actions-added i le).0, ap length (no_actions-added i le).1)

  no_fewer : (i : ℕ) → moves p i ≤ moves (added n p) i
  no_fewer i = elim (cases_lt i (length p)) [
    | inl lt ↦ omega (arith, moves-added i lt)
    | inr le ↦ omega (arith, (no_moves-added i le).1)
  ]

  at-added : {B : Type 0} (f : Action → B) (d : B) → f stay ≡ d → (i k : ℕ) → option_map_or f (slice_get (actions_of (added n p) i) k) d ≡ option_map_or f (slice_get (actions_of p i) k) d
  at-added f d e i k = elim (cases_lt i (length p)) [
    | inl lt ↦ ap (λ (xs : List Action). option_map_or f (slice_get xs k) d) (actions-added i lt) ∙ as_before f d e n (actions_of p i) k
    | inr le ↦ ap (λ (xs : List Action). option_map_or f (slice_get xs k) d) ((no_actions-added i le).0 ∙ sym (no_actions-added i le).1)
  ]

  pub awaits-added : (i k : ℕ) → awaits_of (added n p) i k ≡ awaits_of p i k
  awaits-added i zero = refl
  awaits-added i (suc k) = at-added (λ a. a.awaits) [] refl i k

  entry-added : (i k : ℕ) → is_entry (added n p) i k ≡ is_entry p i k
  entry-added i zero = refl
  entry-added i (suc k) = at-added (λ a. is_move a.step) false refl i k

  -- ---- paths

  path_before : (i k : ℕ) → i < length p → k ≤ moves p i → path (added n p) i k ≡ path p i k
  path_before i k lt le =
      ap (λ (c : Cell). walked (place_of c) (take k (actions_of (added n p) i))) (start-added i)
      ∙ ap (walked (place_of (start_of p i))) (ap (take k) (actions-added i lt) ∙ take-append-le k (actions_of p i) (replicate n stay) le)

  path_past : (i d : ℕ) → i < length p → d ≤ n → path (added n p) i (moves p i + d) ≡ path p i (moves p i)
  path_past i zero lt le = let e : moves p i + zero ≡ moves p i = omega arith in ap (path (added n p) i) e ∙ path_before i (moves p i) lt (omega arith)
  path_past i (suc d) lt le =
      let e : moves p i + suc d ≡ moves p i + d + 1 = omega arith in
      let here : slice_get (actions_of (added n p) i) (moves p i + d) ≡ Some stay = ap (λ (xs : List Action). slice_get xs (moves p i + d)) (actions-added i lt) ∙ stay_at n (actions_of p i) d (omega arith) in
      ap (path (added n p) i) e ∙ stay_path (added n p) i (moves p i + d) stay here refl ∙ path_past i d lt (omega arith)

  -- ---- what is there is still there

  action_on : (a : ActionId) → IsAction p a → IsAction (added n p) a
  action_on a h = record { agent = omega (arith, h.agent, length-added n p); first = h.first; last = omega (arith, h.last, no_fewer a.agent) }

  need_on : (a b : ActionId) → DirectlyNeeds p a b → DirectlyNeeds (added n p) a b
  need_on a b (inl own) = inl own
  need_on a b (inr c) = inr (subst (λ (ws : List Await). Contains ws (record { agent = b.agent; count = b.number })) (sym (awaits-added a.agent a.number)) c)

  chain_on : (a : ActionId) (cs : List ActionId) (b : ActionId) → ChainFrom p a cs b → ChainFrom (added n p) a cs b
  chain_on a [] b (h, e) = (action_on a h, e)
  chain_on a (c ∷ cs) b (h, needs, r) = (action_on a h, need_on c a needs, chain_on c cs b r)

  reaches_on : (a b : ActionId) → Reaches p a b → Reaches (added n p) a b
  reaches_on a b (cs, r) = (cs, chain_on a cs b r)

  -- who awaits is an action that was there
  awaiting_there : (a : ActionId) (w : Await) → IsAction (added n p) a → Contains (awaits_of p a.agent a.number) w → IsAction p a
  awaiting_there a w h c = elim (cases_lt (moves p a.agent) a.number) [
    | inr le ↦ record { agent = omega (arith, h.agent, length-added n p); first = h.first; last = le }
    | inl past ↦
        let e : a.number ≡ suc (a.number - 1) = let f : 1 ≤ a.number = h.first in omega arith in
        let none : awaits_of p a.agent (suc (a.number - 1)) ≡ [] = ap (λ (o : Option Action). option_map_or (λ a. a.awaits) o []) (slice_get_past (actions_of p a.agent) (a.number - 1) (omega arith)) in
        let z = subst (λ (ws : List Await). Contains ws w) (ap (awaits_of p a.agent) e ∙ none) c in
        absurd (omega (arith, z.1))
  ]

  pub in_range-added : AreInRange p → AreInRange (added n p)
  in_range-added h i k w c =
      let r = h i k w (subst (λ (ws : List Await). Contains ws w) (awaits-added i k) c) in
      record { agent = omega (arith, r.agent, length-added n p); other = r.other; first = r.first; last = omega (arith, r.last, no_fewer w.agent) }

  awaited_there : AreInRange p → (i k : ℕ) (b : ActionId) → Contains (awaits_of p i k) (record { agent = b.agent; count = b.number }) → IsAction p b
  awaited_there h i k b c = let r = h i k (record { agent = b.agent; count = b.number }) c in record { agent = r.agent; first = r.first; last = r.last }

  -- ---- a numbering

  -- the action, or the last one of its agent that was there
  capped : ActionId → ActionId
  capped a = record { agent = a.agent; number = min a.number (moves p a.agent) }

  number_on : (ActionId → ℕ) → ActionId → ℕ
  number_on number a = number (capped a) + (a.number - moves p a.agent)

  number_before : (number : ActionId → ℕ) (a : ActionId) → a.number ≤ moves p a.agent → number_on number a ≡ number a
  unfolding number_on capped
  number_before number a le =
      let same : capped a ≡ a = λ i. record { agent = a.agent; number = min-eq_left le i } in
      let none : a.number - moves p a.agent ≡ 0 = omega arith in
      omega (arith, ap number same, none)

  number_past : (number : ActionId → ℕ) (a : ActionId) → moves p a.agent ≤ a.number → number_on number a ≡ number (record { agent = a.agent; number = moves p a.agent }) + (a.number - moves p a.agent)
  unfolding number_on capped
  number_past number a le =
      let same : capped a ≡ record { agent = a.agent; number = moves p a.agent } = λ i. record { agent = a.agent; number = min-eq_right le i } in
      ap (λ (x : ActionId). number x + (a.number - moves p a.agent)) same

  numbering-added : AreInRange p → (number : ActionId → ℕ) → IsNumbering p number → IsNumbering (added n p) (number_on number)
  numbering-added range number h = record {
    positive = λ a k. elim (cases_lt (moves p a.agent) a.number) [
      | inl past ↦ omega (arith, number_past number a (omega arith), past)
      | inr le ↦ omega (arith, number_before number a le, h.positive a (record { agent = omega (arith, k.agent, length-added n p); first = k.first; last = le }))
    ];
    rising = λ a b k m needs. elim needs [
      | inl own ↦
          let same : moves p a.agent ≡ moves p b.agent = ap (moves p) own.0 in
          let next : a.number ≡ b.number + 1 = own.1 in
          elim (cases_lt (moves p a.agent) a.number) [
            | inl past ↦
                let last : number (record { agent = a.agent; number = moves p a.agent }) ≡ number (record { agent = b.agent; number = moves p b.agent }) = ap (λ (j : ℕ). number (record { agent = j; number = moves p j })) own.0 in
                omega (arith, number_past number a (omega arith), number_past number b (omega (arith, same, next, past)), last, same, next, past)
            | inr le ↦
                let in_a : IsAction p a = record { agent = omega (arith, k.agent, length-added n p); first = k.first; last = le } in
                let in_b : IsAction p b = record { agent = omega (arith, m.agent, length-added n p); first = m.first; last = omega (arith, same, next, le) } in
                omega (arith, number_before number a le, number_before number b in_b.last, h.rising a b in_a in_b (inl own))
          ]
      | inr c ↦
          let d = subst (λ (ws : List Await). Contains ws (record { agent = b.agent; count = b.number })) (awaits-added a.agent a.number) c in
          let in_a = awaiting_there a (record { agent = b.agent; count = b.number }) k d in
          let in_b = awaited_there range a.agent a.number b d in
          omega (arith, number_before number a in_a.last, number_before number b in_b.last, h.rising a b in_a in_b (inr d))
    ];
  }

  -- ---- visits

  visit_on : (q : Place) (v : Visit) → IsVisitOf p q v → IsVisitOf (added n p) q v
  visit_on q v h = record {
    agent = omega (arith, h.agent, length-added n p);
    position = omega (arith, h.position, no_fewer v.agent);
    entered = entry-added v.agent v.position ∙ h.entered;
    place = path_before v.agent v.position h.agent h.position ∙ h.place;
  }

  entry_within : (i k : ℕ) → is_entry p i k ≡ true → k ≤ moves p i
  entry_within i zero e = omega arith
  entry_within i (suc k) e = let a = entry_moves p i k e in let lt = slice_get_within (actions_of p i) k a.0 a.1 in omega (arith, lt)

  visit_off : (q : Place) (v : Visit) → IsVisitOf (added n p) q v → IsVisitOf p q v
  visit_off q v h =
      let agent : v.agent < length p = omega (arith, h.agent, length-added n p) in
      let entered : is_entry p v.agent v.position ≡ true = sym (entry-added v.agent v.position) ∙ h.entered in
      let within = entry_within v.agent v.position entered in
      record { agent = agent; position = within; entered = entered; place = sym (path_before v.agent v.position agent within) ∙ h.place }

  lists_on : (q : Place) (l : List Visit) → ListsVisits p q l → ListsVisits (added n p) q l
  lists_on q l h = record {
    all = λ v k. h.all v (visit_off q v k);
    only = All-weaker (IsVisitOf p q) (IsVisitOf (added n p) q) (visit_on q) l h.only;
    once = h.once;
  }

  -- a visit that was left is left by the same action
  leaving_on : (v : Visit) → v.agent < length p → v.position ≤ moves p v.agent → next_move p v.agent v.position ≤ moves p v.agent → leaving (added n p) v ≡ leaving p v
  leaving_on v lt le left =
      let xs = actions_of p v.agent in
      let long = length_drop v.position xs le in
      let same : stays_before (drop v.position (actions_of (added n p) v.agent)) ≡ stays_before (drop v.position xs) =
      ap (λ (ys : List Action). stays_before (drop v.position ys)) (actions-added v.agent lt)
      ∙ ap stays_before (drop_front v.position xs (replicate n stay) le)
      ∙ stays_front (drop v.position xs) (replicate n stay) (omega (arith, left, long)) in
      λ i. record { agent = v.agent; number = v.position + 1 + same i }

  after_on : (q : Place) (v w : Visit) → IsVisitOf p q v → ComesAfterByChain p v w → ComesAfterByChain (added n p) v w
  after_on q v w h (inl later) = inl later
  after_on q v w h (inr r) =
      let left = Reaches-first p (leaving p v) (entering w) r in
      inr (subst (λ (a : ActionId). Reaches (added n p) a (entering w)) (sym (leaving_on v h.agent h.position left.last)) (reaches_on (leaving p v) (entering w) r))

  adjacent_on : (q : Place) (l : List Visit) → All (IsVisitOf p q) l → Adjacent (ComesAfterByChain p) l → Adjacent (ComesAfterByChain (added n p)) l
  adjacent_on q [] all a = tt
  adjacent_on q (v ∷ []) all a = tt
  adjacent_on q (v ∷ w ∷ vs) all (a, rest) = (after_on q v w (all 0 v (omega arith)) a, adjacent_on q (w ∷ vs) (λ k d lt. all (suc k) d (omega (arith, lt))) rest)

  -- ---- acceptance

  right-added : (passable : Place → Bool) (tasks : List Task) → IsRight passable tasks p → IsRight passable tasks (added n p)
  right-added passable tasks h = record {
    for_tasks = record {
      agents = length-added n p ∙ h.for_tasks.agents;
      ends = λ i t e. (start-added i ∙ (h.for_tasks.ends i t e).0, goal-added i ∙ (h.for_tasks.ends i t e).1);
    };
    on_ground = λ i k lt le.
        let there : i < length p = omega (arith, lt, length-added n p) in
        elim (cases_lt (moves p i) k) [
          | inr before ↦ subst (λ (q : Place). IsTrue (passable q)) (sym (path_before i k there before)) (h.on_ground i k there before)
          | inl past ↦
              let e : moves p i + (k - moves p i) ≡ k = omega (arith, past) in
              let few : k - moves p i ≤ n = omega (arith, le, moves-added i there) in
              subst (λ (q : Place). IsTrue (passable q)) (sym (path_past i (k - moves p i) there few) ∙ ap (path (added n p) i) e) (h.on_ground i (moves p i) there (omega arith))
        ];
    arrives = λ i lt.
        let there : i < length p = omega (arith, lt, length-added n p) in
        ap (path (added n p) i) (moves-added i there) ∙ path_past i n there (omega arith) ∙ h.arrives i there ∙ ap place_of (sym (goal-added i));
    in_range = in_range-added h.in_range;
  }

  pub accepted-added : (passable : Place → Bool) (tasks : List Task) → IsAcceptedBy ComesAfterByChain passable tasks p → IsAcceptedBy ComesAfterByChain passable tasks (added n p)
  accepted-added passable tasks h = record {
    right = right-added passable tasks h.right;
    numbering = (number_on h.numbering.0, numbering-added h.right.in_range h.numbering.0 h.numbering.1);
    orderly = λ q. let o = h.orderly q in (o.0, lists_on q o.0 o.1, adjacent_on q o.0 o.1.only o.2);
  }

  -- ---- limits

  pub fits-added : IsWellFormed p → ((i : ℕ) → i < length p → moves p i + n ≤ MAX_MOVES) → total_moves (added n p) ≤ MAX_MOVES_IN_ALL → IsWellFormed (added n p)
  fits-added h each all = record {
    some_agents = omega (arith, h.some_agents, length-added n p);
    few_agents = omega (arith, h.few_agents, length-added n p);
    starts = λ i. subst IsCell (sym (start-added i)) (h.starts i);
    goals = λ i. subst IsCell (sym (goal-added i)) (h.goals i);
    moves_each = λ i. elim (cases_lt i (length p)) [
      | inl lt ↦ omega (arith, moves-added i lt, each i lt)
      | inr le ↦ omega (arith, (no_moves-added i le).0)
    ];
    moves_in_all = all;
    awaits = λ i k. subst (λ (ws : List Await). AreAwaits (length (added n p)) i ws) (sym (awaits-added i k)) (subst (λ (m : ℕ). AreAwaits m i (awaits_of p i k)) (sym (length-added n p)) (h.awaits i k));
  }

suc_times : (m n : ℕ) → suc m * n ≡ n + m * n
suc_times m n = omega arith

pub total-added : (n : ℕ) (p : Program) → total_moves (added n p) ≡ total_moves p + length p * n
total-added n [] = let none : total_moves [] + length {A = AgentProgram} [] * n ≡ 0 = omega arith in sym none
total-added n (a ∷ p) =
    let f = λ (a : AgentProgram). length a.actions in
    let own : length (a.actions ++ replicate n stay) ≡ length a.actions + n = length-append a.actions (replicate n stay) ∙ ap (λ (m : ℕ). length a.actions + m) (length-replicate n stay) in
    let more = sum_by-cons f (with_stays n a) (added n p) in
    let before = sum_by-cons f a p in
    let times : length (a ∷ p) * n ≡ n + length p * n = suc_times (length p) n in
    omega (arith, own, more, before, total-added n p, times)

-- ---- chains of two programs

map-replicate : {X Y : Type 0} (f : X → Y) (n : ℕ) (x : X) → map f (replicate n x) ≡ replicate n (f x)
map-replicate f zero x = refl
map-replicate f (suc n) x = ap (λ zs. f x ∷ zs) (map-replicate f n x)

steps_added : (n : ℕ) (p : Program) (i : ℕ) → i < length p → map (λ (a : Action). a.step) (actions_of (added n p) i) ≡ map (λ (a : Action). a.step) (actions_of p i) ++ replicate n Dwell
steps_added n p i lt = ap (map (λ (a : Action). a.step)) (actions-added n p i lt) ∙ map-append (λ (a : Action). a.step) (actions_of p i) (replicate n stay) ∙ ap (λ (ys : List Step). map (λ (a : Action). a.step) (actions_of p i) ++ ys) (map-replicate (λ (a : Action). a.step) n stay)

pub alike-added : (n : ℕ) (p q : Program) → DiffersInAwaits p q → DiffersInAwaits (added n p) (added n q)
alike-added n p q h = record {
  agents = length-added n q ∙ h.agents ∙ sym (length-added n p);
  starts = λ i. start-added n q i ∙ h.starts i ∙ sym (start-added n p i);
  goals = λ i. goal-added n q i ∙ h.goals i ∙ sym (goal-added n p i);
  steps = λ i. elim (cases_lt i (length p)) [
    | inl lt ↦ steps_added n q i (omega (arith, lt, h.agents)) ∙ ap (λ (xs : List Step). xs ++ replicate n Dwell) (h.steps i) ∙ sym (steps_added n p i lt)
    | inr le ↦ ap (map (λ (a : Action). a.step)) ((no_actions-added n q i (omega (arith, le, h.agents))).0 ∙ sym (no_actions-added n p i le).0)
  ];
}

module _ (n : ℕ) (p q : Program) (range : AreInRange p) (alike : DiffersInAwaits p q) (over : (a b : ActionId) → Reaches p a b → Reaches q a b) where
  action_over : (a : ActionId) → IsAction (added n p) a → IsAction (added n q) a
  action_over a h = record { agent = omega (arith, h.agent, (alike-added n p q alike).agents); first = h.first; last = omega (arith, h.last, same_moves (added n p) (added n q) (alike-added n p q alike) a.agent) }

  need_over : (a c : ActionId) → IsAction (added n p) a → IsAction (added n p) c → DirectlyNeeds (added n p) c a → Reaches (added n q) a c
  need_over a c h k (inl own) = Reaches-need (added n q) a c (action_over a h) (action_over c k) (inl own)
  need_over a c h k (inr w) =
      let d = subst (λ (ws : List Await). Contains ws (record { agent = a.agent; count = a.number })) (awaits-added n p c.agent c.number) w in
      let in_c = awaiting_there n p c (record { agent = a.agent; count = a.number }) k d in
      let in_a = awaited_there n p range c.agent c.number a d in
      reaches_on n q a c (over a c (Reaches-need p a c in_a in_c (inr d)))

  chain_over : (a : ActionId) (cs : List ActionId) (b : ActionId) → ChainFrom (added n p) a cs b → Reaches (added n q) a b
  chain_over a [] b (h, e) = ([], (action_over a h, e))
  chain_over a (c ∷ cs) b (h, needs, r) = Reaches-trans (added n q) a c b (need_over a c h (chain_first (added n p) c cs b r) needs) (chain_over c cs b r)

pub chains-added : (n : ℕ) (p q : Program) → AreInRange p → AreInRange q → HaveSameChains p q → HaveSameChains (added n p) (added n q)
chains-added n p q in_p in_q h =
    let back : DiffersInAwaits q p = record { agents = sym h.rest.agents; starts = λ i. sym (h.rest.starts i); goals = λ i. sym (h.rest.goals i); steps = λ i. sym (h.rest.steps i) } in
    record {
      rest = alike-added n p q h.rest;
      chains = λ a b. ((λ (cs, r). chain_over n p q in_p h.rest (λ c d. (h.chains c d).0) a cs b r), (λ (cs, r). chain_over n q p in_q back (λ c d. (h.chains c d).1) a cs b r));
    }

-- an agent that is asked to stay no more is as it was
pub none-added : (p : Program) → added 0 p ≡ p
none-added [] = refl
none-added (a ∷ p) = λ i. record { start = a.start; goal = a.goal; actions = append-nil a.actions i } ∷ none-added p i

-- ---- limits

abbrev few_of : Plan → ℕ → ℕ → Bool
few_of plan stays i = leb (moves_by plan i (steps plan) + stays) MAX_MOVES

list_all_below : (f : ℕ → Bool) (m n : ℕ) → ((k : ℕ) → k < n → f (m + k) ≡ true) → list_all f (range_with_len m n) ≡ true
list_all_below f m zero h = refl
list_all_below f m (suc n) h =
    let e : m + 0 ≡ m = omega arith in
    let first : f m ≡ true = ap f (sym e) ∙ h 0 (omega arith) in
    let rest = list_all_below f (m + 1) n (λ k lt. let s : m + 1 + k ≡ m + suc k = omega arith in ap f s ∙ h (suc k) (omega arith)) in
    rw (first, rest) refl

pub each_few : (plan : Plan) (stays : ℕ) → ((i : ℕ) → i < length plan → moves_by plan i (steps plan) + stays ≤ MAX_MOVES) → each_has_few plan stays ≡ true
each_few plan stays h = list_all_below (few_of plan stays) 0 (length plan) (λ k lt. let e : 0 + k ≡ k = omega arith in ap (few_of plan stays) e ∙ le-leb (moves_by plan k (steps plan) + stays) MAX_MOVES (h k lt))

-- none has, if the steps of the plan alone are few enough
pub few_steps : (plan : Plan) (stays : ℕ) → steps plan + stays ≤ MAX_MOVES → each_has_few plan stays ≡ true
few_steps plan stays few = each_few plan stays (λ i lt. omega (arith, moves_by-le plan i (steps plan), few))

sum_below : (f : ℕ → ℕ) → ((i : ℕ) → f i ≤ 4096) → (m n : ℕ) → sum_by f (range_with_len m n) ≤ 4096 * n
sum_below f h m zero = omega arith
sum_below f h m (suc n) = let rest = sum_below f h (m + 1) n in let one = h m in let all = sum_by-cons f m (range_with_len (m + 1) n) in omega (arith, rest, one, all)

-- nor do all together, if there are so few steps
pub few_in_all : (plan : Plan) (stays : ℕ) → IsWithinLimits plan → stays ≡ 0 → steps plan ≤ 4096 → all_have_few plan stays ≡ true
unfolding moves_in_all
few_in_all plan stays limits none few =
    let all : moves_in_all plan ≤ 4096 * length plan = sum_below (λ i. moves_by plan i (steps plan)) (λ i. omega (arith, moves_by-le plan i (steps plan), few)) 0 (length plan) in
    let nothing : length plan * 0 ≡ 0 = omega arith in
    let e : length plan * stays ≡ 0 = ap (λ (n : ℕ). length plan * n) none ∙ nothing in
    le-leb (moves_in_all plan + length plan * stays) MAX_MOVES_IN_ALL (omega (arith, all, e, limits.fleet.few_agents))

all_below : (f : ℕ → Bool) (m n : ℕ) → list_all f (range_with_len m n) ≡ true → (k : ℕ) → k < n → f (m + k) ≡ true
all_below f m zero h k lt = absurd (omega arith)
all_below f m (suc n) h zero lt = let e : m + 0 ≡ m = omega arith in ap f e ∙ (and_parts (f m) (list_all f (range_with_len (m + 1) n)) h).0
all_below f m (suc n) h (suc k) lt = let s : m + suc k ≡ m + 1 + k = omega arith in ap f s ∙ all_below f (m + 1) n ((and_parts (f m) (list_all f (range_with_len (m + 1) n)) h).1) k (omega arith)

pub few_each : (plan : Plan) (stays : ℕ) → each_has_few plan stays ≡ true → (i : ℕ) → i < length plan → moves_by plan i (steps plan) + stays ≤ MAX_MOVES
few_each plan stays h i lt =
    let e : 0 + i ≡ i = omega arith in
    leb-true (moves_by plan i (steps plan) + stays) MAX_MOVES (ap (few_of plan stays) (sym e) ∙ all_below (few_of plan stays) 0 (length plan) h i lt)

-- some agent has too many
pub some_too_long : (plan : Plan) (stays i : ℕ) → i < length plan → MAX_MOVES < moves_by plan i (steps plan) + stays → each_has_few plan stays ≡ false
some_too_long plan stays i lt over = go (each_has_few plan stays) refl
  where
    go : (b : Bool) → each_has_few plan stays ≡ b → each_has_few plan stays ≡ false
    go false e = e
    go true e = absurd (let few = few_each plan stays e i lt in omega (arith, few, over))

pub staying-well_formed : (plan : Plan) (deps : Deps) (stays : ℕ) → IsWithinLimits plan → has_few_actions plan stays ≡ true → IsWellFormed (compiled_staying plan deps stays)
staying-well_formed plan deps stays limits few =
    let parts = and_parts (each_has_few plan stays) (all_have_few plan stays) few in
    let each = parts.0 in
    let all = parts.1 in
    let p = compiled plan deps in
    let long = length-compiled plan deps in
    let within = leb-true (moves_in_all plan + length plan * stays) MAX_MOVES_IN_ALL all in
    let times : length p * stays ≡ length plan * stays = ap (λ (n : ℕ). n * stays) long in
    fits-added stays p (compiled-well_formed plan deps limits (omega (arith, within)))
    (λ i lt. let there : i < length plan = omega (arith, lt, long) in let few = few_each plan stays each i there in omega (arith, few, moves-compiled plan deps i there))
    (omega (arith, total-added stays p, total_moves-compiled plan deps, times, within))

-- ---- acceptance and runs

module _ (passable : Place → Bool) (tasks : List Task) (plan : Plan) (free : IsConflictFree passable tasks plan) (stays : ℕ) where
  before : (deps : Deps) → IsAccepted passable tasks (compiled plan deps)
  before deps = awaits_accepted passable tasks (compiled plan deps) (compiled-accepted passable tasks plan free deps)

  pub staying-accepted : (deps : Deps) → IsAccepted passable tasks (compiled_staying plan deps stays)
  staying-accepted deps = accepted-added stays (compiled plan deps) passable tasks (before deps)

  pub stay_alike : (d e : Deps) → RunEqually (compiled_staying plan d stays) (compiled_staying plan e stays)
  stay_alike d e holds t =
      let in_d = (before d).right.in_range in
      let in_e = (before e).right.in_range in
      run_over (compiled_staying plan d stays) (compiled_staying plan e stays) (in_range-added stays (compiled plan d) in_d) (in_range-added stays (compiled plan e) in_e)
      (chains-added stays (compiled plan d) (compiled plan e) in_d in_e (same_chains passable tasks plan free d e)) holds t

-- ---- without stays

pub staying_none : (plan : Plan) (deps : Deps) → compiled_staying plan deps 0 ≡ compiled plan deps
staying_none plan deps = none-added (compiled plan deps)

pub due_without : (plan : Plan) (deps : Deps) → IsWithinLimits plan → compiled_staying_if_few plan deps 0 ≡ compiled_if_few plan deps
due_without plan deps limits =
    let none : moves_in_all plan + length plan * 0 ≡ moves_in_all plan = omega arith in
    let each : each_has_few plan 0 ≡ true = each_few plan 0 (λ i lt. omega (arith, moves_by-le plan i (steps plan), steps_few plan limits)) in
    rw each (λ t. cond (leb (none t) MAX_MOVES_IN_ALL) (Ok (staying_none plan deps t)) (Err TooLong))

pub due_plainly : (plan : Plan) (deps : Deps) (stays : ℕ) → IsWithinLimits plan → stays ≡ 0 → compiled_staying_if_few plan deps stays ≡ compiled_if_few plan deps
due_plainly plan deps stays limits none = ap (compiled_staying_if_few plan deps) none ∙ due_without plan deps limits

-- what is compiled without stays is the program of the plan
pub plain_is : (plan : Plan) (deps : Deps) (p : Program) → IsWithinLimits plan → compiled_staying_if_few plan deps 0 ≡ Ok p → p ≡ compiled plan deps
plain_is plan deps p limits due = go (leb (moves_in_all plan) MAX_MOVES_IN_ALL) (sym (due_without plan deps limits) ∙ due)
  where
    go : (b : Bool) → cond b (Ok (compiled plan deps)) (Err TooLong) ≡ Ok p → p ≡ compiled plan deps
    go true e = cc
    go false e = absurd cc

pub never_stays-plain : (plan : Plan) (deps : Deps) (p : Program) → p ≡ compiled plan deps → NeverStays p
never_stays-plain plan deps p e = subst NeverStays (sym e) (never_stays-compiled plan deps)

pub equally-plain : (plan : Plan) (p : Program) → ((other : Deps) → RunEqually p (compiled_staying plan other 0)) → (other : Deps) → RunEqually p (compiled plan other)
equally-plain plan p h other = subst (RunEqually p) (staying_none plan other) (h other)

pub due-plain : (plan : Plan) (deps : Deps) (r : Result Program CompileFault) → IsWithinLimits plan → IsDueUnless (λ p. p) r (compiled_staying_if_few plan deps 0) OutOfMemory → IsDueUnless (λ p. p) r (compiled_if_few plan deps) OutOfMemory
due-plain plan deps r limits h = subst (λ (due : Result Program CompileFault). IsDueUnless (λ p. p) r due OutOfMemory) (due_without plan deps limits) h

pub moves-plain : (plan : Plan) (deps : Deps) (r : Result Program CompileFault) → IsWithinLimits plan → IsDueUnless (λ p. p) r (compiled_staying_if_few plan deps 0) OutOfMemory → IfOk r NeverStays
moves-plain plan deps (Ok p) limits h = never_stays-plain plan deps p (plain_is plan deps p limits h)
moves-plain plan deps (Err e) limits h = tt

-- an agent makes at most one move for each step of the plan, and there are few of these
pub few_moves : (plan : Plan) (deps : Deps) → IsWithinLimits plan → (i : ℕ) → moves (compiled plan deps) i ≤ MAX_MOVES_V1
few_moves plan deps limits i =
    elim (cases_lt i (length plan)) [
      | inl lt ↦ omega (arith, moves-compiled plan deps i lt, moves_by-le plan i (steps plan), steps_few plan limits)
      | inr past ↦ omega (arith, no_moves-compiled plan deps i past)
    ]

pub short-plain : (passable : Place → Bool) (tasks : List Task) (plan : Plan) (deps : Deps) (r : Result Program CompileFault) → IsWithinLimits plan
    → IsDueUnless (λ p. p) r (compiled_staying_if_few plan deps 0) OutOfMemory → IfOk r (IsAccepted passable tasks) → IfOk r AreShort
short-plain passable tasks plan deps (Ok p) limits h accepted =
    let is = plain_is plan deps p limits h in
    short_in_range p accepted.right.in_range (λ i. subst (λ (q : Program). moves q i ≤ MAX_MOVES_V1) (sym is) (few_moves plan deps limits i))
short-plain passable tasks plan deps (Err e) limits h accepted = tt

-- an accepted program is short exactly if each agent has few actions
pub short-accepted : (passable : Place → Bool) (tasks : List Task) (p : Program) → IsAccepted passable tasks p → AreShort p ↔ ((i : ℕ) → moves p i ≤ MAX_MOVES_V1)
short-accepted passable tasks p accepted = (short_moves p, short_in_range p accepted.right.in_range)

pub runs-plain : (plan : Plan) (r : Result Program CompileFault) → IfOk r (λ p. (other : Deps) → RunEqually p (compiled_staying plan other 0)) → IfOk r (λ p. (other : Deps) → RunEqually p (compiled plan other))
runs-plain plan (Ok p) h = equally-plain plan p h
runs-plain plan (Err e) h = tt
