-- Schedules, when they end by the costs of actions, and orders that are given ahead.
use Rattle.fleet_verify.proofs.Words.{◌≡◌, ◌≢◌, ℕ, zero, suc, ◌+◌, ◌<◌, ◌≤◌, List, [], ◌∷◌, length, Option, Some, None, refl, ap, sym, ◌∙◌, subst, arith, inl, inr, ◌⊎◌, Bool, true, false, ◌-◌, ◌++◌, sum_by, ◌↔◌, Contains, option_map, cases_lt, cases_order, sum_by-cons, same_Some, Place, ActionId, Program, moves, path, AreInRange, awaits_of, IsAction, DirectlyNeeds, ChainFrom, Reaches, awaited, IsCriticalCost, IsNumbering, IsVisitOf, ComesAfterByChain, IsOrderly, entering, leaving, next_move, chain_first, Reaches-first, Reaches-last, own_reach, IsIn, is_in, need_action, chain_last, Reaches-need, Reaches-refl, Reaches-trans, ends_alone, ends_dearer, chain_push, chain_cost_push, Schedule, IsBy, HasBegunBy, HasEndedBy, IsSchedule, MayBeOnAt, TakeAtLeast, EndInTime, Dispatch, OrdersAwait, IsCarriedOut, IsPrompt, Await, IsBound, bound_of, bound_on, own_cost}
use Rattle.fleet_verify.proofs.Listing.{two_ordered}
use Rattle.fleet_verify.proofs.Members.{same_action, contains_head, contains_later, contains_none, contains_cases}
use Rattle.fleet_verify.proofs.Decide.{IsAction-dec, before_in, needs_before}

-- ---- times

pub by_later : (time : Option ℕ) (x y : ℕ) → x ≤ y → IsBy time x → IsBy time y
by_later time x y l h = (h.0, h.1, omega (arith, h.2))

-- either it is by then, or it is not
pub by_or_not : (time : Option ℕ) (x : ℕ) → IsBy time x ⊎ (IsBy time x → ⊥)
by_or_not None x = inr (λ h. let e : ◌≡◌ {A = Option ℕ} None (Some h.0) = h.1 in absurd cc)
by_or_not (Some t) x = elim (cases_lt x t) [
  | inl later ↦ inr (λ h. omega (arith, h.2, same_Some t h.0 h.1))
  | inr by ↦ inl (t, refl, by)
]

-- an action has one critical cost
pub one_cost : (p : Program) (cost : ActionId → ℕ) (b : ActionId) (m n : ℕ) → IsCriticalCost p cost b m → IsCriticalCost p cost b n → m ≡ n
one_cost p cost b m n c d = omega (arith, c.most n d.some, d.most m c.some)

-- ---- chains

module _ (p : Program) (s : Schedule) (is : IsSchedule p s) (x : ℕ) where
  pub ended_begun : (a : ActionId) → IsAction p a → HasEndedBy s x a → HasBegunBy s x a
  ended_begun a act h = by_later (s.begins a) h.0 x h.2 (is.begins_first a h.0 act h.1)

  -- what an action that has begun directly needs has ended
  pub needs_ended : (a b : ActionId) → IsAction p a → DirectlyNeeds p a b → HasBegunBy s x a → HasEndedBy s x b
  needs_ended a b act n h = by_later (s.ends b) h.0 x h.2 (is.needs_end a b h.0 act n h.1)

  -- of a chain whose last action has begun, each other action has ended
  pub chain_ended : (a : ActionId) (cs : List ActionId) (b : ActionId) → ChainFrom p a cs b → HasBegunBy s x b → (a ≡ b) ⊎ HasEndedBy s x a
  chain_ended a [] b h begun = inl h.1
  chain_ended a (c ∷ cs) b h begun =
      let act : IsAction p c = chain_first p c cs b h.2 in
      elim (chain_ended c cs b h.2 begun) [
        | inl e ↦ inr (needs_ended c a act h.1 (subst (HasBegunBy s x) (sym e) begun))
        | inr ended ↦ inr (needs_ended c a act h.1 (ended_begun c act ended))
      ]

  pub reaches_begun : (a b : ActionId) → Reaches p a b → HasBegunBy s x b → HasBegunBy s x a
  reaches_begun a b r begun = elim (chain_ended a r.0 b r.1 begun) [
    | inl e ↦ subst (HasBegunBy s x) (sym e) begun
    | inr ended ↦ ended_begun a (Reaches-first p a b r) ended
  ]

  pub reaches_ended : (a b : ActionId) → Reaches p a b → HasEndedBy s x b → HasEndedBy s x a
  reaches_ended a b r ended = elim (chain_ended a r.0 b r.1 (ended_begun b (Reaches-last p a b r) ended)) [
    | inl e ↦ subst (HasEndedBy s x) (sym e) ended
    | inr h ↦ h
  ]

  -- what needs an action that never ends has not begun
  pub needs_unended : (a b : ActionId) → Reaches p a b → a ≢ b → ((t : ℕ) → HasEndedBy s t a → ⊥) → HasBegunBy s x b → ⊥
  needs_unended a b r apart never begun = elim (chain_ended a r.0 b r.1 begun) [ inl e ↦ apart e | inr ended ↦ never x ended ]

  -- ---- visits

  -- the visit of q that the agent may be in begins at position first
  record InVisit (q : Place) (i : ℕ) : Type 0 where
    first : ℕ
    visit : IsVisitOf p q (record { agent = i; position = first })
    begun : IsAction p (record { agent = i; number = first }) → HasBegunBy s x (record { agent = i; number = first })
    here : IsAction p (record { agent = i; number = next_move p i first }) → HasEndedBy s x (record { agent = i; number = next_move p i first }) → ⊥

  in_visit : (q : Place) (i : ℕ) → i < length p → MayBeOnAt p s x i q → InVisit q i
  in_visit q i agent m = go (is_in p i m.position m.within)
    where
      go : (k : ℕ) × IsIn p i m.position k → InVisit q i
      go (k, r) = record {
        first = k;
        visit = record { agent = agent; position = omega (arith, r.within, m.within); entered = r.entered; place = r.place ∙ m.place };
        begun = λ act. reaches_begun (record { agent = i; number = k }) (record { agent = i; number = m.position })
            (own_reach p i k m.position agent act.first r.within m.within) (m.entered (omega (arith, act.first, r.within)));
        here = λ act h.
            let last : next_move p i k ≤ moves p i = act.last in
            m.not_left (omega (arith, r.staying))
            (reaches_ended (record { agent = i; number = m.position + 1 }) (record { agent = i; number = next_move p i k })
            (own_reach p i (m.position + 1) (next_move p i k) agent (omega arith) (omega (arith, r.staying)) last) h);
      }

  -- before another agent begins to enter a place, the visit before has ended
  in_turn : (q : Place) (i j : ℕ) → i ≢ j → (v : InVisit q i) (w : InVisit q j) → Reaches p (leaving p (record { agent = i; position = v.first })) (entering (record { agent = j; position = w.first })) → ⊥
  in_turn q i j apart v w r = elim (chain_ended a r.0 b r.1 (w.begun (Reaches-last p a b r))) [
    | inl e ↦ apart (ap (λ (c : ActionId). c.agent) e)
    | inr ended ↦ v.here (Reaches-first p a b r) ended
  ]
    where
      a : ActionId
      a = leaving p (record { agent = i; position = v.first })

      b : ActionId
      b = entering (record { agent = j; position = w.first })

  pub no_two_on : IsOrderly ComesAfterByChain p → (i j : ℕ) (q : Place) → i < length p → j < length p → i ≢ j → MayBeOnAt p s x i q → MayBeOnAt p s x j q → ⊥
  no_two_on orderly i j q hi hj apart m n = go (in_visit q i hi m) (in_visit q j hj n)
    where
      go : InVisit q i → InVisit q j → ⊥
      go v w =
          elim (two_ordered p q (record { agent = i; position = v.first }) (record { agent = j; position = w.first }) v.visit w.visit apart (orderly q).0 (orderly q).1 (orderly q).2) [
            | inl r ↦ in_turn q i j apart v w r
            | inr r ↦ in_turn q j i (λ e. apart (sym e)) w v r
          ]

  -- ---- each agent is on one place, or between two

  -- all actions up to some number have ended, and the next has not
  record Ended (i n : ℕ) : Type 0 where
    within : n ≤ moves p i
    all : 1 ≤ n → HasEndedBy s x (record { agent = i; number = n })
    no_more : n < moves p i → HasEndedBy s x (record { agent = i; number = n + 1 }) → ⊥

  how_many : (i : ℕ) → (n : ℕ) × Ended i n
  how_many i = go (moves p i) 0 (omega arith) (λ f. absurd (omega (arith, f)))
    where
      go : (left n : ℕ) → n + left ≡ moves p i → (1 ≤ n → HasEndedBy s x (record { agent = i; number = n })) → (n : ℕ) × Ended i n
      go zero n e all = (n, record { within = omega (arith, e); all = all; no_more = λ l. absurd (omega (arith, l, e)) })
      go (suc left) n e all = elim (by_or_not (s.ends (record { agent = i; number = n + 1 })) x) [
        | inl ended ↦ go left (n + 1) (omega (arith, e)) (λ f. ended)
        | inr not ↦ (n, record { within = omega (arith, e); all = all; no_more = λ l. not })
      ]

  -- where the first n actions lead, or where the next one does
  abbrev IsEither : ℕ → ℕ → Place → Type 0
  IsEither i n q = (q ≡ path p i n) ⊎ ((n < moves p i) × HasBegunBy s x (record { agent = i; number = n + 1 }) × (q ≡ path p i (n + 1)))

  module _ (i : ℕ) (agent : i < length p) (n : ℕ) (ended : Ended i n) where
    act : (m : ℕ) → 1 ≤ m → m ≤ moves p i → IsAction p (record { agent = i; number = m })
    act m f l = record { agent = agent; first = f; last = l }

    -- an earlier action has ended, and a later one has not begun
    earlier : (m : ℕ) → 1 ≤ m → m ≤ n → HasEndedBy s x (record { agent = i; number = m })
    earlier m f l = reaches_ended (record { agent = i; number = m }) (record { agent = i; number = n }) (own_reach p i m n agent f l ended.within) (ended.all (omega arith))

    later : (m : ℕ) → n + 1 < m → m ≤ moves p i → HasBegunBy s x (record { agent = i; number = m }) → ⊥
    later m f l begun =
        let a : ActionId = record { agent = i; number = n + 1 } in
        let b : ActionId = record { agent = i; number = m } in
        let r = own_reach p i (n + 1) m agent (omega arith) (omega arith) l in
        elim (chain_ended a r.0 b r.1 begun) [
          | inl e ↦ (let same : n + 1 ≡ m = ap (λ (c : ActionId). c.number) e in omega arith)
          | inr h ↦ ended.no_more (omega arith) h
        ]

    on_either : (q : Place) → MayBeOnAt p s x i q → IsEither i n q
    on_either q m = elim (cases_order m.position n) [
      | inl e ↦ inl (sym m.place ∙ ap (path p i) e)
      | inr (inl l) ↦ absurd (m.not_left (omega (arith, l, ended.within)) (earlier (m.position + 1) (omega arith) (omega (arith, l))))
      | inr (inr l) ↦ (elim (cases_lt (n + 1) m.position) [
        | inl far ↦ absurd (later m.position far m.within (m.entered (omega (arith, far))))
        | inr near ↦ (let e : m.position ≡ n + 1 = omega (arith, l, near) in inr (omega (arith, l, m.within), subst (λ k. HasBegunBy s x (record { agent = i; number = k })) e (m.entered (omega (arith, l))), sym m.place ∙ ap (path p i) e))
      ])
    ]

    either_on : (q : Place) → IsEither i n q → MayBeOnAt p s x i q
    either_on q (inl e) = record { position = n; within = ended.within; place = sym e; entered = λ f. ended_begun (record { agent = i; number = n }) (act n f ended.within) (ended.all f); not_left = ended.no_more }
    either_on q (inr (l, begun, e)) = record {
      position = n + 1;
      within = omega (arith, l);
      place = sym e;
      entered = λ f. begun;
      not_left = λ more h. ended.no_more l (reaches_ended (record { agent = i; number = n + 1 }) (record { agent = i; number = n + 1 + 1 }) (own_reach p i (n + 1) (n + 1 + 1) agent (omega arith) (omega arith) (omega (arith, more))) h);
    }

  pub places_on : (i : ℕ) → i < length p → (n : ℕ) × (n ≤ moves p i) × ((q : Place) → MayBeOnAt p s x i q ↔ IsEither i n q)
  places_on i agent = let e = how_many i in (e.0, e.1.within, λ q. (on_either i agent e.0 e.1 q, either_on i agent e.0 e.1 q))

  -- ---- an agent whose actions have all ended is on its goal

  pub at_end : (i : ℕ) (q : Place) → i < length p → ((a : ActionId) → IsAction p a → a.agent ≡ i → HasEndedBy s x a) → MayBeOnAt p s x i q → path p i (moves p i) ≡ q
  at_end i q agent ended m = elim (cases_lt m.position (moves p i)) [
    | inl l ↦ absurd (m.not_left l (ended (record { agent = i; number = m.position + 1 }) (record { agent = agent; first = omega arith; last = omega arith }) refl))
    | inr l ↦ (let e : moves p i ≡ m.position = omega (arith, m.within) in ap (path p i) e ∙ m.place)
  ]

  -- ---- no sooner

  -- of a chain whose last action has ended by now, the first ended so much sooner as the others take
  chain_takes : (cost : ActionId → ℕ) → TakeAtLeast p s cost → (a : ActionId) (cs : List ActionId) (b : ActionId) → ChainFrom p a cs b → HasEndedBy s x b → (t : ℕ) × HasEndedBy s t a × (t + sum_by cost cs ≤ x)
  chain_takes cost least a [] b h ended = (x, subst (HasEndedBy s x) (sym h.1) ended, omega arith)
  chain_takes cost least a (c ∷ cs) b h ended =
      let act : IsAction p c = chain_first p c cs b h.2 in
      let r = chain_takes cost least c cs b h.2 ended in
      let u = r.1 in
      let begun = is.begins_first c u.0 act u.1 in
      let took : begun.0 + cost c ≤ u.0 = least c begun.0 u.0 act begun.1 u.1 in
      (begun.0, is.needs_end c a begun.0 act h.1 begun.1, omega (arith, took, u.2, r.2, sum_by-cons cost c cs))

  pub no_sooner : (cost : ActionId → ℕ) → TakeAtLeast p s cost → (a : ActionId) (cs : List ActionId) (b : ActionId) → ChainFrom p a cs b → HasEndedBy s x b → sum_by cost (a ∷ cs) ≤ x
  no_sooner cost least a cs b h ended =
      let act : IsAction p a = chain_first p a cs b h in
      let r = chain_takes cost least a cs b h ended in
      let u = r.1 in
      let begun = is.begins_first a u.0 act u.1 in
      let took : begun.0 + cost a ≤ u.0 = least a begun.0 u.0 act begun.1 u.1 in
      omega (arith, took, u.2, r.2, sum_by-cons cost a cs)

module _ (p : Program) (in_range : AreInRange p) (d : Dispatch) (s : Schedule) where
  pub ahead_schedule : OrdersAwait p d → IsCarriedOut p d s → IsSchedule p s
  ahead_schedule await carried = record {
    needs_end = needs;
    begins_first = carried.begins_first;
  }
    where
      needs : (a b : ActionId) (t : ℕ) → IsAction p a → DirectlyNeeds p a b → s.begins a ≡ Some t → HasEndedBy s t b
      needs a b t act (inl h) e = carried.in_turn a b t act (need_action p in_range a b act (inl h)) h.0 h.1 e
      needs a b t act (inr h) e =
          let order = carried.ordered_first a t act e in
          let report = await a (record { agent = b.agent; count = b.number }) order.0 act h order.1 in
          by_later (s.ends b) report.0 t (omega (arith, report.2, order.2)) (carried.ends_first b report.0 (need_action p in_range a b act (inr h)) report.1)

  pub ahead_in_time : (stalls : ActionId → Bool) (report_lag order_lag : ℕ) (takes : ActionId → ℕ) → IsPrompt p d s stalls report_lag order_lag takes → EndInTime p s stalls (λ a. report_lag + order_lag + takes a)
  ahead_in_time stalls report_lag order_lag takes prompt a t act goes ended =
      let order = prompt.orders a (t + report_lag) act goes (λ b need.
      prompt.timely.reports b t (need_action p in_range a b act need) (ended b need)) in
      by_later (s.ends a) (t + report_lag + order_lag + takes a) (t + (report_lag + order_lag + takes a)) (omega arith)
      (prompt.timely.ends a (t + report_lag + order_lag) act goes order (λ b also e f.
      by_later (s.ends b) t (t + report_lag + order_lag) (omega arith) (ended b (inl (e, f, also.first)))))

module _ (p : Program) (cost : ActionId → ℕ) where
  -- ---- the greatest of several

  greatest : {X : Type 0} (P : X → ℕ → Type 0) (xs : List X) → ((x : X) → Contains xs x → (m : ℕ) × P x m)
      → (m : ℕ) × ((m ≡ 0) ⊎ ((x : X) × Contains xs x × P x m)) × ((x : X) → Contains xs x → (k : ℕ) × P x k × (k ≤ m))
  greatest {X = X} P [] h = (0, inl refl, λ x c. absurd (contains_none x c))
  greatest {X = X} P (y ∷ ys) h = go (h y (contains_head y ys)) (greatest P ys (λ x c. h x (contains_later y ys x c)))
    where
      go : (m : ℕ) × P y m → (m : ℕ) × ((m ≡ 0) ⊎ ((x : X) × Contains ys x × P x m)) × ((x : X) → Contains ys x → (k : ℕ) × P x k × (k ≤ m))
          → (m : ℕ) × ((m ≡ 0) ⊎ ((x : X) × Contains (y ∷ ys) x × P x m)) × ((x : X) → Contains (y ∷ ys) x → (k : ℕ) × P x k × (k ≤ m))
      go h r = elim (cases_lt r.0 h.0) [
        | inl l ↦ (
          h.0,
          inr (y, contains_head y ys, h.1),
          λ x c. elim (contains_cases y ys x c) [
            | inl e ↦ (h.0, subst (λ z. P z h.0) e h.1, omega arith)
            | inr d ↦ (let k = r.2 x d in (k.0, k.1, omega (arith, k.2)))
          ],
        )
        | inr l ↦ (
          r.0,
          elim r.1 [ inl e ↦ inl e | inr f ↦ inr (f.0, contains_later y ys f.0 f.1, f.2) ],
          λ x c. elim (contains_cases y ys x c) [ inl e ↦ (h.0, subst (λ z. P z h.0) e h.1, l) | inr d ↦ r.2 x d ],
        )
      ]

  module _ (in_range : AreInRange p) (number : ActionId → ℕ) (numbered : IsNumbering p number) where
    below : (n : ℕ) (b d : ActionId) → IsAction p b → DirectlyNeeds p b d → number b ≤ suc n → number d ≤ n
    below n b d act need l = let lt : number d < number b = numbered.rising b d act (need_action p in_range b d act need) need in omega arith

    -- ---- in time

    module _ (s : Schedule) (stalls : ActionId → Bool) (in_time : EndInTime p s stalls cost) where
      ends_by : (n : ℕ) (b : ActionId) → IsAction p b → number b ≤ n → ((a : ActionId) → stalls a ≡ true → Reaches p a b → ⊥) → (m : ℕ) → IsBound p cost b m → HasEndedBy s m b
      ends_by zero b act l free m bound = absurd (omega (arith, numbered.positive b act))
      ends_by (suc n) b act l free m bound =
          let own : cost b ≤ m = omega (arith, bound b [] (act, refl), sum_by-cons cost b []) in
          by_later (s.ends b) (m - cost b + cost b) m (omega arith) (in_time b (m - cost b) act (moves_on (stalls b) refl) (λ d need.
          let also : IsAction p d = need_action p in_range b d act need in
          ends_by n d also (below n b d act need l) (λ a h r. free a h (Reaches-trans p a d b r (Reaches-need p d b also act need))) (m - cost b)
          (λ a cs chain. omega (arith, bound a (cs ++ b ∷ []) (chain_push p a cs d b chain act need), chain_cost_push cost a cs b))))
        where
          moves_on : (t : Bool) → stalls b ≡ t → stalls b ≡ false
          moves_on false e = e
          moves_on true e = absurd (free b e (Reaches-refl p b act))

    -- ---- the critical path

    abbrev Critical : ActionId → ℕ → Type 0
    Critical b m = IsCriticalCost p cost b m

    -- one chain more, and the bound
    critical_on : (b d : ActionId) (m : ℕ) → IsAction p b → DirectlyNeeds p b d → Critical d m
        → ((x : ActionId) → DirectlyNeeds p b x → (a : ActionId) (cs : List ActionId) → ChainFrom p a cs x → sum_by cost (a ∷ cs) ≤ m) → Critical b (m + cost b)
    critical_on b d m act need c each = record {
      some = ends_dearer p cost m d b c.some act need;
      most = λ n h. omega (arith, h.3, bound_on p cost b m each h.0 h.1 h.2);
    }

    critical_alone : (b : ActionId) → IsAction p b
        → ((x : ActionId) → DirectlyNeeds p b x → (a : ActionId) (cs : List ActionId) → ChainFrom p a cs x → sum_by cost (a ∷ cs) ≤ 0) → Critical b (cost b)
    critical_alone b act each = record { some = ends_alone p cost b act; most = λ n h. omega (arith, h.3, bound_on p cost b 0 each h.0 h.1 h.2) }

    -- the costs of what an action awaits
    abbrev OfAwaited : Await → ℕ → Type 0
    OfAwaited w m = Critical (awaited w) m

    -- the greatest of these
    abbrev MostOfAwaited : ActionId → Type 0
    MostOfAwaited b = (m : ℕ) × ((m ≡ 0) ⊎ ((w : Await) × Contains (awaits_of p b.agent b.number) w × OfAwaited w m)) × ((w : Await) → Contains (awaits_of p b.agent b.number) w → (k : ℕ) × OfAwaited w k × (k ≤ m))

    critical_step : (b : ActionId) → IsAction p b → ((d : ActionId) → IsAction p d → DirectlyNeeds p b d → (m : ℕ) × Critical d m) → (m : ℕ) × Critical b m
    critical_step b act rest = own (IsAction-dec p (before_in b)) (greatest OfAwaited (awaits_of p b.agent b.number) (λ w h. rest (awaited w) (need_action p in_range b (awaited w) act (inr h)) (inr h)))
      where
        -- a bound of what is awaited and of the action before
        both : (r : MostOfAwaited b) (m : ℕ) → r.0 ≤ m → ((a : ActionId) (cs : List ActionId) → ChainFrom p a cs (before_in b) → sum_by cost (a ∷ cs) ≤ m)
            → (x : ActionId) → DirectlyNeeds p b x → (a : ActionId) (cs : List ActionId) → ChainFrom p a cs x → sum_by cost (a ∷ cs) ≤ m
        both r m le first x (inl h) a cs chain = first a cs (subst (ChainFrom p a cs) (same_action x (before_in b) (sym h.0) (omega (arith, h.1))) chain)
        both r m le first x (inr h) a cs chain = let k = r.2 (record { agent = x.agent; count = x.number }) h in omega (arith, k.2, bound_of p cost x k.0 k.1 a cs chain, le)

        by_await : (r : MostOfAwaited b) → ((a : ActionId) (cs : List ActionId) → ChainFrom p a cs (before_in b) → sum_by cost (a ∷ cs) ≤ r.0) → (m : ℕ) × Critical b m
        by_await r first = elim r.1 [
          | inl none ↦ (cost b, critical_alone b act (both r 0 (omega (arith, none)) (λ a cs chain. omega (arith, none, first a cs chain))))
          | inr w ↦ (r.0 + cost b, critical_on b (awaited w.0) r.0 act (inr w.1) w.2 (both r r.0 (omega arith) first))
        ]

        own_cases : (k : IsAction p (before_in b)) → (m : ℕ) × Critical (before_in b) m → MostOfAwaited b → (m : ℕ) × Critical b m
        own_cases k h r = elim (cases_lt h.0 r.0) [
          | inl less ↦ by_await r (λ a cs chain. omega (arith, bound_of p cost (before_in b) h.0 h.1 a cs chain))
          | inr more ↦ (h.0 + cost b, critical_on b (before_in b) h.0 act (needs_before p b k) h.1 (both r h.0 more (bound_of p cost (before_in b) h.0 h.1)))
        ]

        own : Dec (IsAction p (before_in b)) → MostOfAwaited b → (m : ℕ) × Critical b m
        own (no not) r = by_await r (λ a cs chain. absurd (not (chain_last p a cs (before_in b) chain)))
        own (yes k) r = own_cases k (rest (before_in b) k (needs_before p b k)) r

    critical_fuel : (n : ℕ) (b : ActionId) → IsAction p b → number b ≤ n → (m : ℕ) × Critical b m
    critical_fuel zero b act l = absurd (omega (arith, numbered.positive b act))
    critical_fuel (suc n) b act l = critical_step b act (λ d also need. critical_fuel n d also (below n b d act need l))

    pub critical : (b : ActionId) → IsAction p b → (m : ℕ) × IsCriticalCost p cost b m
    critical b act = critical_fuel (number b) b act (omega arith)

    pub ends_in_time : (s : Schedule) (stalls : ActionId → Bool) → EndInTime p s stalls cost → (b : ActionId) (m : ℕ) → IsAction p b → ((a : ActionId) → stalls a ≡ true → Reaches p a b → ⊥) → IsCriticalCost p cost b m → HasEndedBy s m b
    ends_in_time s stalls in_time b m act free c = ends_by s stalls in_time (number b) b act (omega arith) free m (bound_of p cost b m c)

    -- ---- the schedule in which each action ends when its critical path does

    end_of : (a : ActionId) → Dec (IsAction p a) → Option ℕ
    end_of a (yes act) = Some (critical a act).0
    end_of a (no not) = None

    soonest : Schedule
    soonest = record { begins = λ a. option_map (λ m. m - cost a) (end_of a (IsAction-dec p a)); ends = λ a. end_of a (IsAction-dec p a) }

    ends_critical : (a : ActionId) → IsAction p a → (m : ℕ) × (soonest.ends a ≡ Some m) × IsCriticalCost p cost a m
    unfolding soonest end_of
    ends_critical a act = go (IsAction-dec p a)
      where
        go : (d : Dec (IsAction p a)) → (m : ℕ) × (end_of a d ≡ Some m) × IsCriticalCost p cost a m
        go (yes k) = ((critical a k).0, refl, (critical a k).1)
        go (no not) = absurd (not act)

    -- it begins so much sooner as it costs
    begins_critical : (a : ActionId) (t : ℕ) → IsAction p a → soonest.begins a ≡ Some t → (m : ℕ) × (soonest.ends a ≡ Some m) × IsCriticalCost p cost a m × (t ≡ m - cost a)
    unfolding soonest
    begins_critical a t act e = let c = ends_critical a act in (c.0, c.1, c.2, same_Some t (c.0 - cost a) (sym e ∙ ap (option_map (λ m. m - cost a)) c.1))

    begins_at : (a : ActionId) (m : ℕ) → soonest.ends a ≡ Some m → soonest.begins a ≡ Some (m - cost a)
    unfolding soonest
    begins_at a m e = ap (option_map (λ n. n - cost a)) e

    -- what an action needs costs so much less
    need_sooner : (a b : ActionId) (m n : ℕ) → IsAction p a → DirectlyNeeds p a b → IsCriticalCost p cost a m → IsCriticalCost p cost b n → n + cost a ≤ m
    need_sooner a b m n act need c d = c.most (n + cost a) (ends_dearer p cost n b a d.some act need)

    pub soonest_is : (s : Schedule) × IsSchedule p s × EndInTime p s (λ _. false) cost × TakeAtLeast p s cost
    soonest_is = (
      soonest,
      record {
        needs_end = λ a b t act need e.
            let x = begins_critical a t act e in
            let y = ends_critical b (need_action p in_range a b act need) in
            (y.0, y.1, omega (arith, need_sooner a b x.0 y.0 act need x.2 y.2, x.3));
        begins_first = λ a t act e. (t - cost a, begins_at a t e, omega arith);
      },
      (λ a t act goes needs.
          let x = ends_critical a act in
          let bound = bound_on p cost a t (λ d need b cs chain.
          let ended = needs d need in
          let y = ends_critical d (need_action p in_range a d act need) in
          let same : ended.0 ≡ y.0 = same_Some ended.0 y.0 (sym ended.1 ∙ y.1) in
          omega (arith, bound_of p cost d y.0 y.2 b cs chain, ended.2, same)) in
          (x.0, x.1, omega (arith, x.2.some.3, bound x.2.some.0 x.2.some.1 x.2.some.2))),
      (λ a t u act begins ends.
          let x = begins_critical a t act begins in
          let same : x.0 ≡ u = same_Some x.0 u (sym x.1 ∙ ends) in
          omega (arith, x.3, same, own_cost p cost a x.0 act x.2)),
    )
