-- Critical paths: when actions end by their costs, and that something may always be done.
use Rattle.fleet_verify.proofs.Words.{◌≡◌, ◌≢◌, ℕ, zero, suc, ◌+◌, ◌-◌, ◌<◌, ◌≤◌, Bool, true, false, List, [], ◌∷◌, ◌++◌, length, get_or, refl, ap, sym, subst, ◌∙◌, arith, inl, inr, ◌⊎◌, Option, Some, None, cond, map, map-id, sum_by, count_by, nat_lt, IsTrue, ◌↔◌, slice_get, reverse, IfSome, IfNone, Contains, cases_lt, reverse-append, get_or_past, length_push, get_or_push, get_or_append_left, append-nil, same_Some, none-some, slice_get_past, slice_get-get_or, slice_get_within, get_or_from_slice_get, option_map_or, AgentProgram, sum_by-append, sum_by-cons, sum_by_push, map-range_with_len_more, ActionId, Await, Program, moves, awaits_of, AreInRange, IsAction, DirectlyNeeds, ChainFrom, Reaches, Reaches-first, EndsChainOfCost, IsCriticalCost, IsNumbering, awaited, indices, Schedule, IsSchedule, HasBegunBy, HasEndedBy, NeedsNoStalled, but_last, chain_first, chain_last, chain_join, own_reach, Reaches-trans, ends_dearer, need_action, Reaches-need, Reaches-refl, range_with_len, own_cost, critical_cost, level_in, AreEnds, HaveArrivedAt, IsLatest, IsLater, IsAwaitedUntil, IsNeedUntil, LeadsBack, IsWayTo, IsStretchTo, of_agent, IsPathOfCost, IsCriticalPath, EachFits, IsFreeTo, EachFreeTo, AreReached, StopsOthers, is_broken, broken_cost, last_action, first_of, stretch_actions, stretch_between, path_actions, Stretch, LONGEST, IsOwnBefore}
use Rattle.fleet_verify.proofs.Timed.{critical, ends_in_time, needs_unended, by_or_not, one_cost}
use Rattle.fleet_verify.specs.declared.times.Ends.{Ends}
use Rattle.fleet_verify.specs.declared.times.Ends.TheVariants.{Costs, Levels}
use Rattle.fleet_verify.proofs.Members.{same_action}
use Rattle.fleet_verify.proofs.Decide.{IsAction-dec, action-dec, some-dec, before_in, needs_before}

-- what an action reaches ends chains that cost as much or more
pub costs_on : (p : Program) (cost : ActionId → ℕ) (b d : ActionId) (m n : ℕ) → Reaches p b d → EndsChainOfCost p cost m b → IsCriticalCost p cost d n → m ≤ n
costs_on p cost b d m n r h k =
    let longer = k.most (sum_by cost (h.0 ∷ h.1 ++ r.0)) (h.0, h.1 ++ r.0, chain_join p h.0 h.1 b r.0 d h.2 r.1, refl) in
    omega (arith, longer, h.3, sum_by-append cost (h.0 ∷ h.1) r.0)

ends_action : (p : Program) (cost : ActionId → ℕ) (m : ℕ) (b : ActionId) → EndsChainOfCost p cost m b → IsAction p b
ends_action p cost m b h = chain_last p h.0 h.1 b h.2

-- no chain costs more than that of the last action of its agent
pub to_last : (p : Program) (cost : ActionId → ℕ) (b : ActionId) (m n : ℕ) → EndsChainOfCost p cost m b → IsCriticalCost p cost (last_action p b.agent) n → m ≤ n
to_last p cost b m n h k =
    let act = ends_action p cost m b h in
    costs_on p cost b (last_action p b.agent) m n (own_reach p b.agent b.number (moves p b.agent) act.agent act.first act.last (let l : moves p b.agent ≤ moves p b.agent = omega arith in l)) h k

-- each action ends at some time
pub ends_each : (p : Program) (cost : ActionId → ℕ) (ends : Ends) → AreEnds p cost ends → (b : ActionId) → IsAction p b → (m : ℕ) × IsCriticalCost p cost b m
ends_each p cost (Costs m) h b act = (critical_cost m b, h.each b act)
ends_each p cost (Levels rows) h b act = (level_in rows.now b, h.0.each b act)

-- ---- the latest of the first agents

-- nobody has moved so far, or the action ends as late as any
pub record IsLatestOf (p : Program) (cost : ActionId → ℕ) (n : ℕ) (latest : Option ActionId) : Type 0 where
  pub none : latest ≡ None → (j : ℕ) → j < n → moves p j ≡ 0
  pub action : (a : ActionId) → latest ≡ Some a → IsAction p a
  pub most : (a : ActionId) → latest ≡ Some a → (j : ℕ) → j < n → 1 ≤ moves p j → (l m : ℕ) → IsCriticalCost p cost (last_action p j) l → IsCriticalCost p cost a m → l ≤ m

pub latest_stays : (p : Program) (cost : ActionId → ℕ) (n : ℕ) (latest : Option ActionId) → IsLatestOf p cost n latest → moves p n ≡ 0 → IsLatestOf p cost (n + 1) latest
latest_stays p cost n latest h zero_moves = record {
  none = λ e j l. elim (cases_lt j n) [ inl s ↦ h.none e j s | inr s ↦ (let same : n ≡ j = omega (arith, s, l) in subst (λ x. moves p x ≡ 0) same zero_moves) ];
  action = h.action;
  most = λ a e j l some. elim (cases_lt j n) [
    | inl s ↦ h.most a e j s some
    | inr s ↦ absurd (let same : n ≡ j = omega (arith, s, l) in let f : moves p n ≡ moves p j = ap (moves p) same in omega (arith, f, zero_moves, some))
  ];
}

pub latest_more : (p : Program) (cost : ActionId → ℕ) (n : ℕ) (latest : Option ActionId) → IsLatestOf p cost n latest → (cost_of : (b : ActionId) → IsAction p b → (m : ℕ) × IsCriticalCost p cost b m)
    → (a : ActionId) → IsLater p cost latest (last_action p n) a → IsLatestOf p cost (n + 1) (Some a)
latest_more p cost n latest h cost_of a later = record {
  none = λ e. absurd cc;
  action = λ b e. subst (IsAction p) (same_in e) later.action;
  most = λ b e j l some x y cx cy. most b (same_in e) j l some x y cx cy;
}
  where
    same_in : {b : ActionId} → Some a ≡ Some b → a ≡ b
    same_in {b = b} e = same_Some a b e

    most : (b : ActionId) → a ≡ b → (j : ℕ) → j < n + 1 → 1 ≤ moves p j → (x y : ℕ) → IsCriticalCost p cost (last_action p j) x → IsCriticalCost p cost b y → x ≤ y
    most b e j l some x y cx cy = elim (cases_lt j n) [
      | inl s ↦ before j s some x y cx (subst (λ d. IsCriticalCost p cost d y) (sym e) cy) latest refl
      | inr s ↦ (let same : j ≡ n = omega (arith, s, l) in later.after_second x y (subst (λ i. IsCriticalCost p cost (last_action p i) x) same cx) (subst (λ d. IsCriticalCost p cost d y) (sym e) cy))
    ]
      where
        before : (j : ℕ) → j < n → 1 ≤ moves p j → (x y : ℕ) → IsCriticalCost p cost (last_action p j) x → IsCriticalCost p cost a y → (o : Option ActionId) → latest ≡ o → x ≤ y
        before j s some x y cx cy None is = absurd (omega (arith, h.none is j s, some))
        before j s some x y cx cy (Some d) is =
            let k = cost_of d (h.action d is) in
            omega (arith, h.most d is j s some x k.0 cx k.1, later.after_first d k.0 y is k.1 cy)

-- ---- when all have arrived

pub arrived_latest : (p : Program) (cost : ActionId → ℕ) → ((b : ActionId) → IsAction p b → (m : ℕ) × IsCriticalCost p cost b m) → (latest : Option ActionId) → IsLatestOf p cost (length p) latest
    → (a : ActionId) → latest ≡ Some a → IsLatest p cost a
arrived_latest p cost cost_of latest h a e =
    let k = cost_of a (h.action a e) in
    record {
      action = h.action a e;
      end = k.0;
      critical = k.1;
      arrival = record {
        some = inr (a, k.1.some);
        most = λ b m ends.
            let act = ends_action p cost m b ends in
            let some : 1 ≤ moves p b.agent = omega (arith, act.first, act.last) in
            let l = cost_of (last_action p b.agent) (record { agent = act.agent; first = some; last = omega arith }) in
            omega (arith, to_last p cost b m l.0 ends l.1, h.most a e b.agent act.agent some l.0 k.0 l.1 k.1);
      };
    }

pub arrived_none : (p : Program) (cost : ActionId → ℕ) → ((i : ℕ) → moves p i ≡ 0) → HaveArrivedAt p cost 0
arrived_none p cost none = record { some = inl refl; most = λ b m ends. absurd (let act = ends_action p cost m b ends in omega (arith, act.first, act.last, none b.agent)) }

-- agents that are not there have no actions
pub no_moves : (p : Program) (i : ℕ) → length p ≤ i → moves p i ≡ 0
no_moves p i h = ap (λ (o : Option AgentProgram). length (option_map_or (λ a. a.actions) o [])) (slice_get_past p i h)

-- ---- back along a dearest chain

-- an action of which the chain is not of it alone has a need that ends as late as it begins
pub some_before : (p : Program) (cost : ActionId → ℕ) → ((b : ActionId) → IsAction p b → (m : ℕ) × IsCriticalCost p cost b m) → (b : ActionId) (m : ℕ) → IsCriticalCost p cost b m
    → (m ≡ cost b) ⊎ ((a : ActionId) × IsAction p a × DirectlyNeeds p b a × IsCriticalCost p cost a (m - cost b) × (cost b ≤ m))
some_before p cost cost_of b m h = go h.some.0 h.some.1 h.some.2 h.some.3
  where
    go : (x : ActionId) (cs : List ActionId) → ChainFrom p x cs b → m ≡ sum_by cost (x ∷ cs)
        → (m ≡ cost b) ⊎ ((a : ActionId) × IsAction p a × DirectlyNeeds p b a × IsCriticalCost p cost a (m - cost b) × (cost b ≤ m))
    go x [] chain e = let same : cost x ≡ cost b = ap cost chain.1 in inl (omega (arith, e, sum_by-cons cost x [], same))
    go x (c ∷ cs) chain e =
        let r = but_last p x c cs b chain in
        let act : IsAction p r.before = chain_last p x r.others r.before r.chain in
        let y = cost_of r.before act in
        let low = y.1.most (sum_by cost (x ∷ r.others)) (x, r.others, r.chain, refl) in
        let high = h.most (y.0 + cost b) (ends_dearer p cost y.0 r.before b y.1.some (chain_last p x (c ∷ cs) b chain) r.needs) in
        let same : y.0 ≡ m - cost b = omega (arith, e, r.total cost, low, high) in
        inr (r.before, act, r.needs, subst (IsCriticalCost p cost r.before) same y.1, omega (arith, high))

-- ---- what broken actions stop

-- a chain with a broken action costs something
pub broken_costs : (p : Program) (breaks : List ℕ) (a b : ActionId) (m : ℕ) → IsTrue (is_broken breaks a) → Reaches p a b → IsCriticalCost p (broken_cost breaks) b m → 1 ≤ m
broken_costs p breaks a b m broken r h =
    let one : broken_cost breaks a ≡ 1 = rw broken refl in
    omega (arith, h.most (sum_by (broken_cost breaks) (a ∷ r.0)) (a, r.0, r.1, refl), sum_by-cons (broken_cost breaks) a r.0, one)

broken_or_free : (breaks : List ℕ) (a : ActionId) → IsTrue (is_broken breaks a) ⊎ (broken_cost breaks a ≡ 0)
broken_or_free breaks a = go (is_broken breaks a) refl
  where
    go : (t : Bool) → is_broken breaks a ≡ t → IsTrue (is_broken breaks a) ⊎ (broken_cost breaks a ≡ 0)
    go true e = inl e
    go false e = inr (rw e refl)

-- a chain that costs something has a broken action
pub costs_broken : (p : Program) (breaks : List ℕ) (a : ActionId) (cs : List ActionId) (b : ActionId) → ChainFrom p a cs b → 1 ≤ sum_by (broken_cost breaks) (a ∷ cs) → (d : ActionId) × IsTrue (is_broken breaks d) × Reaches p d b
costs_broken p breaks a [] b chain some = elim (broken_or_free breaks a) [
  | inl e ↦ (a, e, ([], chain))
  | inr none ↦ absurd (omega (arith, some, sum_by-cons (broken_cost breaks) a [], none))
]
costs_broken p breaks a (c ∷ cs) b chain some = elim (broken_or_free breaks a) [
  | inl e ↦ (a, e, (c ∷ cs, chain))
  | inr none ↦ costs_broken p breaks c cs b chain.2 (omega (arith, some, sum_by-cons (broken_cost breaks) a (c ∷ cs), none))
]

-- ---- how far each agent comes

-- the first actions of an agent that cost nothing are those that need no broken one
pub free_reached : (p : Program) (breaks : List ℕ) → ((b : ActionId) → IsAction p b → (m : ℕ) × IsCriticalCost p (broken_cost breaks) b m) → (i n : ℕ) → IsFreeTo p (broken_cost breaks) i n
    → (b : ActionId) → IsAction p b → b.agent ≡ i → (b.number ≤ n) ↔ NeedsNoStalled p (is_broken breaks) b
free_reached p breaks cost_of i n h b act same = (into, from)
  where
    here : (k : ℕ) → b.number ≡ k → b ≡ record { agent = i; number = k }
    here k e = λ t. record { agent = same t; number = e t }

    into : b.number ≤ n → NeedsNoStalled p (is_broken breaks) b
    into l a broken r =
        let none = subst (λ x. IsCriticalCost p (broken_cost breaks) x 0) (sym (here b.number refl)) (h.free b.number act.first l) in
        omega (arith, broken_costs p breaks a b 0 broken r none)

    from : NeedsNoStalled p (is_broken breaks) b → b.number ≤ n
    from free = elim (cases_lt n b.number) [
      | inr l ↦ l
      | inl l ↦
          let last : moves p b.agent ≡ moves p i = ap (moves p) same in
          let inside : n < moves p i = omega (arith, l, act.last, last) in
          let k = h.next inside in
          let own = own_reach p i (n + 1) b.number (omega (arith, act.agent, same)) (omega arith) (omega (arith, l)) (omega (arith, act.last, last)) in
          let d = costs_broken p breaks k.2.some.0 k.2.some.1 (record { agent = i; number = n + 1 }) k.2.some.2 (omega (arith, k.1, k.2.some.3)) in
          absurd (free d.0 d.1 (subst (Reaches p d.0) (sym (here b.number refl)) (Reaches-trans p d.0 (record { agent = i; number = n + 1 }) (record { agent = i; number = b.number }) d.2 own)))
    ]

-- ---- the needs of an action one after another

-- none of its first k awaits ends at this time
abbrev pub NoneUntil : Program → (ActionId → ℕ) → ActionId → ℕ → ℕ → Type 0
NoneUntil p cost b t k = (j : ℕ) (w : Await) → j < k → slice_get (awaits_of p b.agent b.number) j ≡ Some w → IsCriticalCost p cost (awaited w) t → ⊥

pub none_more : (p : Program) (cost : ActionId → ℕ) (b : ActionId) (t k : ℕ) → NoneUntil p cost b t k → (w : Await) → slice_get (awaits_of p b.agent b.number) k ≡ Some w
    → (m : ℕ) → IsCriticalCost p cost (awaited w) m → m ≢ t → NoneUntil p cost b t (k + 1)
none_more p cost b t k none w at m critical other j v l there here = elim (cases_lt j k) [
  | inl s ↦ none j v s there here
  | inr s ↦
      let same : j ≡ k = omega (arith, s, l) in
      let e : v ≡ w = same_Some v w (sym there ∙ (ap (slice_get (awaits_of p b.agent b.number)) same ∙ at)) in
      other (one_cost p cost (awaited w) m t critical (subst (λ x. IsCriticalCost p cost (awaited x) t) e here))
]

pub none_all : (p : Program) (cost : ActionId → ℕ) (b : ActionId) (t k : ℕ) → NoneUntil p cost b t k → length (awaits_of p b.agent b.number) ≤ k → (a : ActionId) → IsAwaitedUntil p cost b t a → ⊥
none_all p cost b t k none all a h =
    let w : Await = record { agent = a.agent; count = a.number } in
    let at = slice_get-get_or (awaits_of p b.agent b.number) h.awaits.0 w h.awaits.1 ∙ ap Some h.awaits.2 in
    none h.awaits.0 w (omega (arith, h.awaits.1, all)) at h.critical

pub until_here : (p : Program) (cost : ActionId → ℕ) (b : ActionId) (t k m : ℕ) (w : Await) → slice_get (awaits_of p b.agent b.number) k ≡ Some w → IsCriticalCost p cost (awaited w) m → m ≡ t → IsAwaitedUntil p cost b t (awaited w)
until_here p cost b t k m w at critical e = record {
  awaits = (k, slice_get_within (awaits_of p b.agent b.number) k w at, get_or_from_slice_get (awaits_of p b.agent b.number) k w w at);
  critical = subst (IsCriticalCost p cost (awaited w)) e critical;
}

-- ---- the way back

-- one action
pub way_begins : (p : Program) (cost : ActionId → ℕ) (b : ActionId) (m : ℕ) → IsAction p b → IsCriticalCost p cost b m → (path : List ActionId) → path ≡ b ∷ [] → IsWayTo p cost b m path b m
way_begins p cost b m act critical path is =
    let none : sum_by cost [] ≡ 0 = refl in
    record { rest = []; path_is = is; chain = (act, refl); critical = critical; sum = omega (arith, none) }

-- with actions before its first one
pub way_join : (p : Program) (cost : ActionId → ℕ) (last : ActionId) (total : ℕ) (path : List ActionId) (first : ActionId) (end : ℕ) → IsWayTo p cost last total path first end
    → (before : ActionId) → LeadsBack p cost first before → (e : ℕ) → IsCriticalCost p cost before e → (more : List ActionId) (start : ActionId) (s : ℕ) → IsWayTo p cost before e more start s
    → (path' : List ActionId) → path' ≡ more ++ path → IsWayTo p cost last total path' start s
way_join p cost last total path first end h before l e critical more start s k path' is = record {
  rest = k.rest ++ first ∷ h.rest;
  path_is = is ∙ (ap (λ xs. xs ++ path) k.path_is ∙ ap (λ xs. (start ∷ k.rest) ++ xs) h.path_is);
  chain = chain_join p start k.rest before (first ∷ h.rest) last k.chain (need_joined p first before last h.rest l.action l.needs h.chain);
  critical = k.critical;
  sum = omega (
    arith,
    h.sum,
    k.sum,
    one_cost p cost first end (l.end + cost first) h.critical l.all,
    one_cost p cost before l.end e l.critical critical,
    sum_by-cons cost first h.rest,
    sum_by-append cost k.rest (first ∷ h.rest),
  );
}
  where
    need_joined : (p : Program) (first before last : ActionId) (rest : List ActionId) → IsAction p before → DirectlyNeeds p first before → ChainFrom p first rest last → ChainFrom p before (first ∷ rest) last
    need_joined p first before last rest act needs chain = (act, needs, chain)

-- with one action before its first one
pub way_longer : (p : Program) (cost : ActionId → ℕ) (last : ActionId) (total : ℕ) (path : List ActionId) (first : ActionId) (end : ℕ) → IsWayTo p cost last total path first end
    → (before : ActionId) → LeadsBack p cost first before → (e : ℕ) → IsCriticalCost p cost before e → (path' : List ActionId) → path' ≡ before ∷ path → IsWayTo p cost last total path' before e
way_longer p cost last total path first end h before l e critical path' is =
    way_join p cost last total path first end h before l e critical (before ∷ []) before e (way_begins p cost before e l.action critical (before ∷ []) refl) path' is

-- it begins earlier
pub way_falls : (p : Program) (cost : ActionId → ℕ) (first before : ActionId) (end e : ℕ) → IsCriticalCost p cost first end → LeadsBack p cost first before → IsCriticalCost p cost before e → 1 ≤ cost first
    → (more : List ActionId) (start : ActionId) (s : ℕ) → IsWayTo p cost before e more start s → s < end
way_falls p cost first before end e critical l here some more start s k =
    omega (arith, some, k.sum, one_cost p cost first end (l.end + cost first) critical l.all, one_cost p cost before l.end e l.critical here)

pub way_ends : (p : Program) (cost : ActionId → ℕ) (last : ActionId) (total : ℕ) (path : List ActionId) (first : ActionId) (end : ℕ) → IsWayTo p cost last total path first end
    → IsCriticalCost p cost first (cost first) → IsLatest p cost last → IsCriticalCost p cost last total → IsCriticalPath p cost path
way_ends p cost last total path first end h alone latest critical =
    let same : latest.end ≡ total = one_cost p cost last latest.end total latest.critical critical in
    record {
      total = total;
      arrival = subst (HaveArrivedAt p cost) same latest.arrival;
      path_of_cost = subst (IsPathOfCost p cost total) (sym h.path_is)
          (last, h.chain, omega (arith, h.sum, one_cost p cost first end (cost first) h.critical alone, sum_by-cons cost first h.rest));
    }

-- ---- stretches

-- a stretch with the action before it
pub stretch_longer : (s t : Stretch) → t.agent ≡ s.agent → t.first + 1 ≡ s.first → t.count ≡ s.count + 1 → stretch_actions t ≡ first_of t ∷ stretch_actions s
stretch_longer s t agent first count =
    let more : s.count + 1 ≡ suc s.count = omega arith in
    ap (λ n. map (λ k. here t.agent k) (range_with_len t.first n)) (count ∙ more)
    ∙ ap (λ xs. first_of t ∷ xs) (ap (λ a. map (λ k. here a k) (range_with_len (t.first + 1) s.count)) agent ∙ ap (λ n. map (λ k. here s.agent k) (range_with_len n s.count)) first)
  where
    here : ℕ → ℕ → ActionId
    here a k = record { agent = a; number = k }

-- .. from an action to itself has that one alone
pub stretch_alone : (a : ActionId) → stretch_actions (stretch_between a a) ≡ a ∷ []
stretch_alone a =
    let one : a.number - a.number + 1 ≡ 1 = omega arith in
    ap (λ n. map (λ k. record { agent = a.agent; number = k }) (range_with_len a.number n)) one

-- .. which is a path
pub stretch_begins : (p : Program) (cost : ActionId → ℕ) (b : ActionId) (m : ℕ) → IsAction p b → IsCriticalCost p cost b m → IsStretchTo p cost b m b.number m
stretch_begins p cost b m act critical = record { within = omega arith; few = omega arith; way = way_begins p cost b m act critical _ (stretch_alone b) }

-- .. and a path with the action before it
pub stretch_on : (p : Program) (cost : ActionId → ℕ) (last : ActionId) (total first end : ℕ) → IsStretchTo p cost last total first end → last.number + 1 < first + LONGEST
    → (before : ActionId) (e : ℕ) → IsOwnBefore p cost (of_agent last first) before e → IsStretchTo p cost last total before.number e
stretch_on p cost last total first end h room before e own =
    let here : ActionId = of_agent last before.number in
    let same : before ≡ here = same_action before here own.agent refl in
    let number : before.number + 1 ≡ first = own.number in
    let count : last.number - before.number + 1 ≡ last.number - first + 1 + 1 = omega (arith, number, h.within) in
    record {
      within = omega (arith, number, h.within);
      few = omega (arith, number, room);
      way = way_longer p cost last total (stretch_actions (stretch_between (of_agent last first) last)) (of_agent last first) end h.way here (subst (LeadsBack p cost (of_agent last first)) same own.before) e
          (subst (λ x. IsCriticalCost p cost x e) same own.end) (stretch_actions (stretch_between here last))
          (stretch_longer (stretch_between (of_agent last first) last) (stretch_between here last) refl number count);
    }

-- the actions of stretches that were found one before the other
pub path_before : (path : List Stretch) (s : Stretch) (path' : List Stretch) → path' ≡ path ++ s ∷ [] → path_actions (reverse path') ≡ stretch_actions s ++ path_actions (reverse path)
path_before path s path' is = ap (λ xs. path_actions (reverse xs)) is ∙ ap path_actions (reverse-append path (s ∷ []))

-- the first stretch that is found is the last one of the path
pub way_first : (p : Program) (cost : ActionId → ℕ) (last : ActionId) (total : ℕ) (s : Stretch) (first : ActionId) (end : ℕ) → IsWayTo p cost last total (stretch_actions s) first end
    → (path path' : List Stretch) → path ≡ [] → path' ≡ path ++ s ∷ [] → IsWayTo p cost last total (path_actions (reverse path')) first end
way_first p cost last total s first end h path path' none is =
    subst (λ xs. IsWayTo p cost last total xs first end)
    (sym (path_before path s path' is ∙ (ap (λ xs. stretch_actions s ++ path_actions (reverse xs)) none ∙ append-nil (stretch_actions s)))) h

-- its first action is one of the program
pub way_action : (p : Program) (cost : ActionId → ℕ) (last : ActionId) (total : ℕ) (path : List ActionId) (first : ActionId) (end : ℕ) → IsWayTo p cost last total path first end → IsAction p first
way_action p cost last total path first end h = chain_first p first h.rest last h.chain

-- the counts of free first actions are those that are reached
pub reached_of : (p : Program) → AreInRange p → (number : ActionId → ℕ) → IsNumbering p number → (breaks counts : List ℕ) → EachFreeTo p (broken_cost breaks) counts → AreReached p breaks counts
reached_of p range number numbered breaks counts free = record {
  all = free.all;
  within = λ i. elim (cases_lt i (length p)) [
    | inl l ↦ (free.each i l).within
    | inr l ↦ (let none : get_or counts i 0 ≡ 0 = get_or_past counts i 0 (omega (arith, l, free.all)) in omega (arith, none))
  ];
  each = λ b act. free_reached p breaks (critical p (broken_cost breaks) range number numbered) b.agent (get_or counts b.agent 0) (free.each b.agent act.agent) b act refl;
}

-- one entry more
pub each_more : (Fits : ℕ → ℕ → Type 0) (entries : List ℕ) (i r : ℕ) → EachFits Fits i entries → Fits i r → (more : List ℕ) → more ≡ entries ++ r ∷ [] → EachFits Fits (i + 1) more
each_more Fits entries i r h here more is = record {
  all = ap (λ (xs : List ℕ). length xs) is ∙ length_push entries r ∙ ap (λ n. n + 1) h.all;
  each = λ j l. elim (cases_lt j i) [
    | inl s ↦
        let e : get_or entries j 0 ≡ get_or more j 0 = sym (ap (λ (xs : List ℕ). get_or xs j 0) is ∙ get_or_append_left entries (r ∷ []) 0 j (omega (arith, s, h.all))) in
        subst (Fits j) e (h.each j s)
    | inr s ↦
        let same : i ≡ j = omega (arith, s, l) in
        let e : r ≡ get_or more j 0 = sym (ap (λ (xs : List ℕ). get_or xs j 0) is ∙ get_or_push entries r 0 j (omega (arith, s, l, h.all))) in
        subst (Fits j) e (subst (λ n. Fits n r) same here)
  ];
}

-- ---- how many agents do not arrive

-- agent i does not get as far as it has to
abbrev pub misses : Program → List ℕ → ℕ → Bool
misses p counts i = nat_lt (get_or counts i 0) (moves p i)

pub one_at_most : (b : Bool) → cond b 1 0 ≤ 1
one_at_most true = let l : 1 ≤ 1 = omega arith in l
one_at_most false = let l : 0 ≤ 1 = omega arith in l

pub one_stopped : (p : Program) (counts : List ℕ) (i m : ℕ) → m ≡ count_by (misses p counts) (indices i) → (n : ℕ) → n ≡ cond (misses p counts i) 1 0 → m + n ≡ count_by (misses p counts) (indices (i + 1))
one_stopped p counts i m e n is =
    (λ t. e t + is t) ∙ sym (sum_by_push (λ j. cond (misses p counts j) 1 0) (indices i) i)
    ∙ ap (sum_by (λ j. cond (misses p counts j) 1 0)) (sym (sym (map-id _) ∙ map-range_with_len_more (λ x. x) 0 i i (omega arith) ∙ ap (λ k. k ++ i ∷ []) (map-id _)))

-- what the counts say of schedules
pub stops_of : (p : Program) → AreInRange p → (number : ActionId → ℕ) → IsNumbering p number → (breaks counts : List ℕ) → AreReached p breaks counts → StopsOthers p breaks counts
stops_of p range number numbered breaks counts h = record {
  in_time = λ s is cost in_time b m act l critical. ends_in_time p cost range number numbered s (is_broken breaks) in_time b m act ((h.each b act).0 l) critical;
  never_ends = λ s is never b act l t ended. beyond b act l (λ a broken r. elim (action-dec a b) [
    | yes e ↦ never a (Reaches-first p a b r) broken t (subst (HasEndedBy s t) (sym e) ended)
    | no apart ↦ needs_unended p s is t a b r apart (never a (Reaches-first p a b r) broken) (begun s is b act t ended)
  ]);
  never_begins = λ s is never b act l whole t begun. beyond b act l (λ a broken r. needs_unended p s is t a b r (λ e. whole (subst (λ x. IsTrue (is_broken breaks x)) e broken)) (never a (Reaches-first p a b r) broken) begun);
}
  where
    beyond : (b : ActionId) → IsAction p b → get_or counts b.agent 0 < b.number → NeedsNoStalled p (is_broken breaks) b → ⊥
    beyond b act l free = omega (arith, l, (h.each b act).1 free)

    begun : (s : Schedule) → IsSchedule p s → (b : ActionId) → IsAction p b → (t : ℕ) → HasEndedBy s t b → HasBegunBy s t b
    begun s is b act t ended =
        let first = is.begins_first b ended.0 act ended.1 in
        (first.0, first.1, omega (arith, first.2, ended.2))

-- ---- one step back

module _ (p : Program) (cost : ActionId → ℕ) (b : ActionId) (m own t : ℕ) (h : IsCriticalCost p cost b m) (is : own ≡ cost b) (from : t ≡ m - own) where
  pub before_some : AreInRange p → IsAction p b → (a : ActionId) → IsNeedUntil p cost b t a → LeadsBack p cost b a
  before_some range act a need =
      let low = own_cost p cost b m act h in
      let all : m ≡ t + cost b = omega (arith, is, from, low) in
      record { action = need_action p range b a act need.needs; needs = need.needs; end = t; critical = need.critical; all = subst (IsCriticalCost p cost b) all h }

  pub before_none : ((d : ActionId) → IsAction p d → (n : ℕ) × IsCriticalCost p cost d n) → ((a : ActionId) → IsNeedUntil p cost b t a → ⊥) → IsCriticalCost p cost b (cost b)
  before_none cost_of none = elim (some_before p cost cost_of b m h) [
    | inl e ↦ subst (IsCriticalCost p cost b) e h
    | inr a ↦ absurd (let same : m - cost b ≡ t = omega (arith, is, from) in none a.0 (record { needs = a.2; critical = subst (IsCriticalCost p cost a.0) same a.3 }))
  ]

-- ---- answers that may be none

pub some_of : {X : Type 0} (P : X → Type 0) (o : Option X) → ((x : X) → o ≡ Some x → P x) → IfSome o P
some_of P None h = tt
some_of P (Some x) h = h x refl

pub some_from : {X : Type 0} (P : X → Type 0) (o : Option X) → IfSome o P → (x : X) → o ≡ Some x → P x
some_from P None h x is = absurd (none-some x is)
some_from P (Some y) h x is = subst P (same_Some y x is) h

pub none_of : {X : Type 0} (P : Type 0) (o : Option X) → (o ≡ None → P) → IfNone o P
none_of P None h = h refl
none_of P (Some x) h = tt

pub none_from : {X : Type 0} (P : Type 0) (o : Option X) → IfNone o P → o ≡ None → P
none_from P None h is = h
none_from P (Some x) h is = absurd (none-some x (sym is))

module _ (p : Program) (s : Schedule) (x : ℕ) where
  abbrev Ended : ActionId → Type 0
  Ended a = HasEndedBy s x a

  -- an action that b needs, and that may be carried out now
  abbrev pub Free : ActionId → Type 0
  Free b = (a : ActionId) × IsAction p a × (Ended a → ⊥) × ((d : ActionId) → DirectlyNeeds p a d → Ended d) × Reaches p a b

  unended-dec : (a : ActionId) → Dec (Ended a → ⊥)
  unended-dec a = elim (by_or_not (s.ends a) x) [ inl h ↦ no (λ n. n h) | inr n ↦ yes n ]

  ended_unless : (a : ActionId) → ((Ended a → ⊥) → ⊥) → Ended a
  ended_unless a h = elim (by_or_not (s.ends a) x) [ inl e ↦ e | inr n ↦ absurd (h n) ]

  free_on : (b d : ActionId) → IsAction p b → IsAction p d → DirectlyNeeds p b d → Free d → Free b
  free_on b d act also need (a, is, not, needs, r) = (a, is, not, needs, Reaches-trans p a d b r (Reaches-need p d b also act need))

  free_step : AreInRange p → (b : ActionId) → IsAction p b → (Ended b → ⊥) → ((d : ActionId) → IsAction p d → DirectlyNeeds p b d → (Ended d → ⊥) → Free d) → Free b
  free_step in_range b act open' rest = own (IsAction-dec p (before_in b))
    where
      awaits : ((d : ActionId) → IsAction p d → d ≡ before_in b → Ended d) → Free b
      awaits first = elim (some-dec (λ w. Ended (awaited w) → ⊥) (awaits_of p b.agent b.number) (λ w h. unended-dec (awaited w))) [
        | yes (w, h, not) ↦ (let also = need_action p in_range b (awaited w) act (inr h) in free_on b (awaited w) act also (inr h) (rest (awaited w) also (inr h) not))
        | no none ↦ (b, act, open', needs none, Reaches-refl p b act)
      ]
        where
          needs : ((w : Await) × Contains (awaits_of p b.agent b.number) w × (Ended (awaited w) → ⊥) → ⊥) → (d : ActionId) → DirectlyNeeds p b d → Ended d
          needs none d (inl h) = first d (need_action p in_range b d act (inl h)) (same_action d (before_in b) (sym h.0) (omega (arith, h.1)))
          needs none d (inr h) = ended_unless d (λ not. none (record { agent = d.agent; count = d.number }, h, not))

      own : Dec (IsAction p (before_in b)) → Free b
      own (no not) = awaits (λ d is e. absurd (not (subst (IsAction p) e is)))
      own (yes k) = elim (by_or_not (s.ends (before_in b)) x) [
        | inl h ↦ awaits (λ d is e. subst Ended (sym e) h)
        | inr not ↦ free_on b (before_in b) act k (needs_before p b k) (rest (before_in b) k (needs_before p b k) not)
      ]

  free_fuel : AreInRange p → (number : ActionId → ℕ) → IsNumbering p number → (n : ℕ) (b : ActionId) → IsAction p b → number b ≤ n → (Ended b → ⊥) → Free b
  free_fuel in_range number numbered zero b act l not = absurd (omega (arith, numbered.positive b act))
  free_fuel in_range number numbered (suc n) b act l not =
      free_step in_range b act not (λ d also need.
      let lt : number d < number b = numbered.rising b d act also need in free_fuel in_range number numbered n d also (omega arith))

  pub never_stuck : AreInRange p → (number : ActionId → ℕ) → IsNumbering p number → (b : ActionId) → IsAction p b → (Ended b → ⊥) → Free b
  never_stuck in_range number numbered b act = free_fuel in_range number numbered (number b) b act (omega arith)
