-- A program whose implied awaits are gone, made action by action.
use Rattle.fleet_adg.proofs.Words.{◌≡◌, ◌≢◌, ℕ, zero, suc, ◌+◌, ◌<◌, ◌≤◌, List, [], ◌∷◌, ◌++◌, length, get_or, map, take, refl, sym, ap, subst, ◌∙◌, arith, inl, inr, ◌⊎◌, add-one, slice_get, Option, Some, None, Contains, All, option_map, option_map_or, IsStrictlyIncreasing, cases_lt, slice_get-map, slice_get-get_or, slice_get_within, slice_get_past, slice_get_cases, get_or_from_slice_get, same_Some, none-some, take_all, map-append, length-map, ext_get_or, get_or-map, length_push, get_or_push, get_or_append_left, get_or_default, All-push, Contains-push, Contains-push_cases, Contains-append_left, Await, Dwell, Action, ActionId, AgentProgram, Program, actions_of, moves, step_of, awaits_of, total_moves, AreAwaits, IsCell, IsWellFormed, AreShort, AreInRange, MAX_AWAIT, MAX_MOVES_V1, IsImplied, IsThinned, thinned_range, AreUnimplied, IsThinnedAction, AreThinnedActions, IsThinnedAgent, AreThinnedAgents}
use Rattle.fleet_model.proofs.Totals.{moves_more}
use Rattle.fleet_needs.proofs.AwaitOrder.{await_below}
use Rattle.fleet_adg.proofs.Short.{short_in_range, short_moves}
use Rattle.fleet_verify.proofs.SameChains.{same_moves as moves_there}

-- a greater number at the end of a list that rises
push_rises : (xs : List ℕ) (x : ℕ) → IsStrictlyIncreasing xs → ((y : ℕ) → Contains xs y → y < x) → IsStrictlyIncreasing (xs ++ x ∷ [])
push_rises xs x h below k l =
    let n : length (xs ++ x ∷ []) ≡ length xs + 1 = length_push xs x in
    let here : get_or (xs ++ x ∷ []) k 0 ≡ get_or xs k 0 = get_or_append_left xs (x ∷ []) 0 k (omega arith) in
    elim (cases_lt (k + 1) (length xs)) [
      | inl m ↦ (
          let next : get_or (xs ++ x ∷ []) (k + 1) 0 ≡ get_or xs (k + 1) 0 = get_or_append_left xs (x ∷ []) 0 (k + 1) m in
          let low : get_or xs k 0 < get_or xs (k + 1) 0 = h k m in
          omega arith)
      | inr m ↦ (
          let last : get_or (xs ++ x ∷ []) (k + 1) 0 ≡ x = get_or_push xs x 0 (k + 1) (omega arith) in
          let low : get_or xs k 0 < x = below (get_or xs k 0) (k, omega arith, get_or_default xs k (get_or xs k 0) 0 (omega arith)) in
          omega arith)
    ]

-- what stands in a list with one more at its end
push_at : {X : Type 0} (xs : List X) (x : X) (k : ℕ) (y : X) → slice_get (xs ++ x ∷ []) k ≡ Some y → (slice_get xs k ≡ Some y) ⊎ ((k ≡ length xs) × (x ≡ y))
push_at xs x k y e =
    let l : k < length (xs ++ x ∷ []) = slice_get_within (xs ++ x ∷ []) k y e in
    let here : get_or (xs ++ x ∷ []) k y ≡ y = get_or_from_slice_get (xs ++ x ∷ []) k y y e in
    elim (cases_lt k (length xs)) [
      | inl low ↦ inl (slice_get-get_or xs k y low ∙ ap Some (sym (get_or_append_left xs (x ∷ []) y k low) ∙ here))
      | inr high ↦
          let at : k ≡ length xs = omega (arith, length_push xs x) in
          inr (at, sym (get_or_push xs x y k (sym at)) ∙ here)
    ]

-- ---- awaits, one after another

pub none_yet : (p : Program) (a : ActionId) → AreUnimplied p a 0 []
none_yet p a = record {
  formed = record { rising = λ k l. absurd (omega arith); agents = λ k d l. absurd (omega arith); others = λ k d l. absurd (omega arith); counts = λ k d l. absurd (omega arith); few = λ k d l. absurd (omega arith) };
  known = λ w. ((λ c. absurd (let l : c.0 < 0 = c.1 in omega arith)), (λ m. absurd (let l : m.0 < 0 = m.1 in omega arith)));
}

module _ (p : Program) (formed : IsWellFormed p) (a : ActionId) (k : ℕ) (awaits : List Await) (h : AreUnimplied p a k awaits) (w : Await) (at : slice_get (awaits_of p a.agent a.number) k ≡ Some w) where
  whole : AreAwaits (length p) a.agent (awaits_of p a.agent a.number)
  whole = formed.awaits a.agent a.number

  here : (P : Await → Type 0) → All P (awaits_of p a.agent a.number) → P w
  here P all = subst P (get_or_from_slice_get (awaits_of p a.agent a.number) k w w at) (all k w (slice_get_within (awaits_of p a.agent a.number) k w at))

  longer : (v : Await) → (m : ℕ) × (m < k) × (slice_get (awaits_of p a.agent a.number) m ≡ Some v) × (IsImplied p a v → ⊥) → (m : ℕ) × (m < k + 1) × (slice_get (awaits_of p a.agent a.number) m ≡ Some v) × (IsImplied p a v → ⊥)
  longer v (m, l, e, n) = (m, omega arith, e, n)

  pub keep_one : (IsImplied p a w → ⊥) → AreUnimplied p a (k + 1) (awaits ++ w ∷ [])
  keep_one none = record {
    formed = record {
      rising = subst IsStrictlyIncreasing (sym (map-append (λ (v : Await). v.agent) awaits (w ∷ []))) (push_rises (map (λ (v : Await). v.agent) awaits) w.agent h.formed.rising below);
      agents = All-push (λ (v : Await). v.agent < length p) awaits w h.formed.agents (here (λ (v : Await). v.agent < length p) whole.agents);
      others = All-push (λ (v : Await). v.agent ≢ a.agent) awaits w h.formed.others (here (λ (v : Await). v.agent ≢ a.agent) whole.others);
      counts = All-push (λ (v : Await). 1 ≤ v.count) awaits w h.formed.counts (here (λ (v : Await). 1 ≤ v.count) whole.counts);
      few = All-push (λ (v : Await). v.count ≤ MAX_AWAIT) awaits w h.formed.few (here (λ (v : Await). v.count ≤ MAX_AWAIT) whole.few);
    };
    known = λ v. (
      (λ c. elim (Contains-push_cases awaits w v c) [
        | inl old ↦ longer v ((h.known v).0 old)
        | inr e ↦ (k, omega arith, at ∙ ap Some e, (λ i. none (subst (IsImplied p a) (sym e) i)))
      ]),
      (λ (m, l, e, n). elim (cases_lt m k) [
        | inl low ↦ Contains-append_left awaits (w ∷ []) v ((h.known v).1 (m, low, e, n))
        | inr high ↦
            let same : k ≡ m = omega arith in
            subst (Contains (awaits ++ w ∷ [])) (same_Some w v (sym at ∙ ap (slice_get (awaits_of p a.agent a.number)) same ∙ e)) (Contains-push awaits w)
      ]),
    );
  }
    where
      member : (j : ℕ) → Contains (map (λ (v : Await). v.agent) awaits) j → (v : Await) × Contains awaits v × (v.agent ≡ j)
      member j (m, l, e) =
          let within : m < length awaits = omega (arith, l, length-map awaits (λ (v : Await). v.agent)) in
          let v : Await = get_or awaits m w in
          (v, (m, within, get_or_default awaits m v w within), (sym (get_or-map (λ (x : Await). x.agent) awaits m w j within) ∙ e))

      below : (j : ℕ) → Contains (map (λ (v : Await). v.agent) awaits) j → j < w.agent
      below j c =
          let v = member j c in
          let m = (h.known v.0).0 v.1 in
          let l : v.0.agent < w.agent = await_below (awaits_of p a.agent a.number) whole.rising m.0 k v.0 w m.2 at m.1 in
          omega (arith, l, v.2)

  pub drop_one : IsImplied p a w → AreUnimplied p a (k + 1) awaits
  drop_one is = record {
    formed = h.formed;
    known = λ v. (
      (λ c. longer v ((h.known v).0 c)),
      (λ (m, l, e, n). elim (cases_lt m k) [
        | inl low ↦ (h.known v).1 (m, low, e, n)
        | inr high ↦
            let same : k ≡ m = omega arith in
            absurd (n (subst (IsImplied p a) (same_Some w v (sym at ∙ ap (slice_get (awaits_of p a.agent a.number)) same ∙ e)) is))
      ]),
    );
  }

-- one that is implied goes
pub drop_implied : (p : Program) → IsWellFormed p → (a : ActionId) (k : ℕ) (awaits : List Await) → AreUnimplied p a k awaits → k < length (awaits_of p a.agent a.number)
    → ((w : Await) → slice_get (awaits_of p a.agent a.number) k ≡ Some w → IsImplied p a w) → AreUnimplied p a (k + 1) awaits
drop_implied p formed a k awaits h l implied = elim ((slice_get_cases (awaits_of p a.agent a.number) k).1) [
  | inl found ↦ drop_one p formed a k awaits h found.0 found.2 (implied found.0 found.2)
  | inr past ↦ absurd (let g : length (awaits_of p a.agent a.number) ≤ k = past.0 in omega arith)
]

-- ---- actions, one after another

pub action_more : (p : Program) (i n : ℕ) (actions : List Action) (s : Action) → AreThinnedActions p i n actions → IsThinnedAction p (record { agent = i; number = n + 1 }) s → AreThinnedActions p i (n + 1) (actions ++ s ∷ [])
action_more p i n actions s h here = record {
  long = length_push actions s ∙ ap (λ (m : ℕ). m + 1) h.long;
  each = λ k t e. elim (push_at actions s k t e) [
    | inl old ↦ h.each k t old
    | inr (at, same) ↦
        let number : n ≡ k = sym (at ∙ h.long) in
        subst (λ (x : Action). IsThinnedAction p (record { agent = i; number = k + 1 }) x) same (subst (λ (m : ℕ). IsThinnedAction p (record { agent = i; number = m + 1 }) s) number here)
  ];
}

pub agent_more : (p : Program) (n : ℕ) (agents : List AgentProgram) (a : AgentProgram) → AreThinnedAgents p n agents → IsThinnedAgent p n a → AreThinnedAgents p (n + 1) (agents ++ a ∷ [])
agent_more p n agents a h here = record {
  long = length_push agents a ∙ ap (λ (m : ℕ). m + 1) h.long;
  each = λ i b e. elim (push_at agents a i b e) [
    | inl old ↦ h.each i b old
    | inr (at, same) ↦ subst (λ (x : AgentProgram). IsThinnedAgent p i x) same (subst (λ (m : ℕ). IsThinnedAgent p m a) (sym (at ∙ h.long)) here)
  ];
}

-- ---- the whole program

module _ (p q : Program) (h : AreThinnedAgents p (length p) q) where
  -- an agent of the program has come from that of the other
  agent_of : (i : ℕ) → (slice_get q i ≡ None) × (slice_get p i ≡ None) ⊎ ((a : AgentProgram) × (slice_get q i ≡ Some a) × (i < length p))
  agent_of i = elim (cases_lt i (length p)) [
    | inr high ↦ inl (slice_get_past q i (omega (arith, h.long)), slice_get_past p i high)
    | inl low ↦ elim ((slice_get_cases q i).1) [
      | inl found ↦ inr (found.0, found.2, low)
      | inr past ↦ absurd (let l : length q ≤ i = past.0 in omega (arith, h.long))
    ]
  ]

  same_moves : (i : ℕ) → moves q i ≡ moves p i
  same_moves i = elim (agent_of i) [
    | inl (e, f) ↦ rw (e, f) refl
    | inr (a, e, l) ↦ rw e (h.each i a e).actions.long
  ]

  -- action n of agent i, and what is known of it
  action_in : (i k : ℕ) → (slice_get (actions_of q i) k ≡ None) × (slice_get (actions_of p i) k ≡ None) ⊎ ((s : Action) × (slice_get (actions_of q i) k ≡ Some s) × IsThinnedAction p (record { agent = i; number = k + 1 }) s)
  action_in i k = elim (cases_lt k (moves p i)) [
    | inr high ↦ inl (slice_get_past (actions_of q i) k (omega (arith, same_moves i)), slice_get_past (actions_of p i) k high)
    | inl low ↦ elim ((slice_get_cases (actions_of q i) k).1) [
      | inr past ↦ absurd (let l : length (actions_of q i) ≤ k = past.0 in omega (arith, same_moves i))
      | inl found ↦ elim (agent_of i) [
        | inl (e, f) ↦ absurd (let none : moves p i ≡ 0 = rw f refl in omega arith)
        | inr (a, e, l) ↦ inr (found.0, found.2, (h.each i a e).actions.each k found.0 (let same : actions_of q i ≡ a.actions = rw e refl in sym (ap (λ (xs : List Action). slice_get xs k) same) ∙ found.2))
      ]
    ]
  ]

  steps_same : (i : ℕ) → map (λ (s : Action). s.step) (actions_of q i) ≡ map (λ (s : Action). s.step) (actions_of p i)
  steps_same i = ext_get_or Dwell (map (λ (s : Action). s.step) (actions_of q i)) (map (λ (s : Action). s.step) (actions_of p i)) long each
    where
      long : length (map (λ (s : Action). s.step) (actions_of q i)) ≡ length (map (λ (s : Action). s.step) (actions_of p i))
      long = length-map (actions_of q i) (λ (s : Action). s.step) ∙ same_moves i ∙ sym (length-map (actions_of p i) (λ (s : Action). s.step))

      each : (k : ℕ) → k < length (map (λ (s : Action). s.step) (actions_of q i)) → get_or (map (λ (s : Action). s.step) (actions_of q i)) k Dwell ≡ get_or (map (λ (s : Action). s.step) (actions_of p i)) k Dwell
      each k l = elim (action_in i k) [
        | inl (e, f) ↦ absurd (let past : length (actions_of q i) ≤ k = none_there e in omega (arith, length-map (actions_of q i) (λ (s : Action). s.step)))
        | inr (s, e, t) ↦
            let there : step_of p i (suc k) ≡ Some s.step = subst (λ (n : ℕ). step_of p i n ≡ Some s.step) (add-one k) t.step in
            get_or_from_slice_get (map (λ (x : Action). x.step) (actions_of q i)) k s.step Dwell (slice_get-map (λ (x : Action). x.step) (actions_of q i) k ∙ ap (option_map (λ (x : Action). x.step)) e)
            ∙ sym (get_or_from_slice_get (map (λ (x : Action). x.step) (actions_of p i)) k s.step Dwell (slice_get-map (λ (x : Action). x.step) (actions_of p i) k ∙ there))
      ]
        where
          none_there : slice_get (actions_of q i) k ≡ None → length (actions_of q i) ≤ k
          none_there e = elim ((slice_get_cases (actions_of q i) k).1) [
            | inr past ↦ past.0
            | inl found ↦ absurd (none-some found.0 (sym e ∙ found.2))
          ]

  -- the awaits of an action are those of the program that are not implied
  awaits_in : (i n : ℕ) → AreUnimplied p (record { agent = i; number = n }) (length (awaits_of p i n)) (awaits_of q i n)
  awaits_in i zero = none_yet p (record { agent = i; number = 0 })
  awaits_in i (suc k) = elim (action_in i k) [
    | inr (s, e, t) ↦
        let same : awaits_of q i (suc k) ≡ s.awaits = ap (λ (o : Option Action). option_map_or (λ (x : Action). x.awaits) o []) e in
        subst (AreUnimplied p (record { agent = i; number = suc k }) (length (awaits_of p i (suc k)))) (sym same)
        (subst (λ (n : ℕ). AreUnimplied p (record { agent = i; number = n }) (length (awaits_of p i n)) s.awaits) (add-one k) t.awaits)
    | inl (e, f) ↦
        let mine : awaits_of q i (suc k) ≡ [] = ap (λ (o : Option Action). option_map_or (λ (x : Action). x.awaits) o []) e in
        let other : awaits_of p i (suc k) ≡ [] = ap (λ (o : Option Action). option_map_or (λ (x : Action). x.awaits) o []) f in
        subst (AreUnimplied p (record { agent = i; number = suc k }) (length (awaits_of p i (suc k)))) (sym mine)
        (subst (λ (m : ℕ). AreUnimplied p (record { agent = i; number = suc k }) m []) (sym (ap (λ (xs : List Await). length xs) other)) (none_yet p (record { agent = i; number = suc k })))
  ]

  pub thinned_is : IsThinned p q
  thinned_is = record {
    rest = record {
      agents = h.long;
      starts = λ i. elim (agent_of i) [ inl (e, f) ↦ rw (e, f) refl | inr (a, e, l) ↦ rw e (h.each i a e).start ];
      goals = λ i. elim (agent_of i) [ inl (e, f) ↦ rw (e, f) refl | inr (a, e, l) ↦ rw e (h.each i a e).goal ];
      steps = steps_same;
    };
    awaits = λ i n w. (
      (λ c.
          let m = ((awaits_in i n).known w).0 c in
          ((m.0, m.1, get_or_from_slice_get (awaits_of p i n) m.0 w w m.2), m.3)),
      (λ (c, none). ((awaits_in i n).known w).1 (c.0, c.1, slice_get-get_or (awaits_of p i n) c.0 w c.1 ∙ ap Some c.2, none)),
    );
  }

  moves_to : (n : ℕ) → total_moves (take n q) ≡ total_moves (take n p)
  moves_to zero = refl
  moves_to (suc n) =
      let e : suc n ≡ n + 1 = omega arith in
      let before = moves_to n in
      rw e (omega (arith, before, same_moves n, moves_more q n, moves_more p n))

  -- as many moves in all
  pub total_same : total_moves q ≡ total_moves p
  total_same =
      let all : total_moves (take (length q) q) ≡ total_moves q = ap total_moves (take_all (length q) q (omega arith)) in
      let other : total_moves (take (length q) p) ≡ total_moves p = ap total_moves (take_all (length q) p (omega (arith, h.long))) in
      omega (arith, all, other, moves_to (length q))

  pub thinned_formed : IsWellFormed p → IsWellFormed q
  thinned_formed formed = record {
    some_agents = omega (arith, h.long, formed.some_agents);
    few_agents = omega (arith, h.long, formed.few_agents);
    starts = λ i. subst IsCell (sym (thinned_is.rest.starts i)) (formed.starts i);
    goals = λ i. subst IsCell (sym (thinned_is.rest.goals i)) (formed.goals i);
    moves_each = λ i. (let l = formed.moves_each i in omega (arith, same_moves i, l));
    moves_in_all = (let l = formed.moves_in_all in omega (arith, total_same, l));
    awaits = λ i n. subst (λ (m : ℕ). AreAwaits m i (awaits_of q i n)) (sym h.long) (awaits_in i n).formed;
  }

-- ---- what the thinned program is

-- short stays short
pub thinned_short : (p q : Program) → IsThinned p q → AreInRange p → AreShort p → AreShort q
thinned_short p q h range short = short_in_range q (thinned_range p q h range) (λ i. subst (λ (n : ℕ). n ≤ MAX_MOVES_V1) (sym (moves_there p q h.rest i)) (short_moves p short i))
