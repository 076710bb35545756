-- The costs of critical paths, and agents that go on as far as their awaits allow: each step is right, to the end.
use Rattle.fleet_needs.proofs.Words.{◌≡◌, ℕ, ◌+◌, ◌≤◌, List, [], ◌∷◌, refl, ap, arith, sum_by, ActionId, Program, IsAction, DirectlyNeeds, ChainFrom, IsCriticalCost, but_last, ends_alone, suc, ◌-◌, ◌*◌, ◌<◌, ◌++◌, length, max, set, get_or, sym, subst, ◌∙◌, inl, inr, ◌⊎◌, slice_get, slice_get-get_or, same_Some, Some, cases_lt, cases_eq, mul-le, get_or-set_same, get_or-set_other, length-set, slice_get_within, get_or_from_slice_get, get_or_append_left, get_or_push, length_push, sum_by-cons, sum_by-set, AgentProgram, Await, moves, awaits_of, total_moves, AreInRange, awaited, ends_dearer, need_action, own_reach, Reaches-rises, Finished, IsNumberedTo, IsNotedCost, critical_cost, no_row, noted_in, row_in, after, CostsUpTo, IsGreatestTo, IsRun, IsCostWalk, HasGoneOn, IsUnmet, IsOpen, MAX_COST, MAX_LEVEL}
use Rattle.fleet_model.specs.Chain.{EndsChainOfCost}

module _ (p : Program) (cost : ActionId → ℕ) where
  -- no chain that ends with the action costs more
  abbrev pub IsBound : ActionId → ℕ → Type 0
  IsBound b m = (a : ActionId) (cs : List ActionId) → ChainFrom p a cs b → sum_by cost (a ∷ cs) ≤ m

  pub bound_of : (b : ActionId) (m : ℕ) → IsCriticalCost p cost b m → IsBound b m
  bound_of b m c a cs h = c.most (sum_by cost (a ∷ cs)) (a, cs, h, refl)

  -- what bounds the chains of all that the action directly needs, bounds its own with its cost
  pub bound_on : (b : ActionId) (m : ℕ) → ((d : ActionId) → DirectlyNeeds p b d → (a : ActionId) (cs : List ActionId) → ChainFrom p a cs d → sum_by cost (a ∷ cs) ≤ m)
      → (a : ActionId) (cs : List ActionId) → ChainFrom p a cs b → sum_by cost (a ∷ cs) ≤ m + cost b
  bound_on b m each a [] h = let e : cost a ≡ cost b = ap cost h.1 in omega arith
  bound_on b m each a (c ∷ cs) h =
      let r = but_last p a c cs b h in omega (arith, r.total cost, each r.before r.needs a r.others r.chain)

  -- what an action costs in all is no less than its own cost
  pub own_cost : (b : ActionId) (m : ℕ) → IsAction p b → IsCriticalCost p cost b m → cost b ≤ m
  own_cost b m act c = c.most (cost b) (ends_alone p cost b act)

-- ---- how far an agent has come

module _ (p : Program) (cost : ActionId → ℕ) where
  -- before the awaits of an agent's next action
  pub greatest_own : (i n m : ℕ) → ((m ≡ 0) × (n ≡ 0)) ⊎ ((1 ≤ n) × IsNotedCost p cost (record { agent = i; number = n }) m) → IsGreatestTo p cost (after i n) 0 m
  greatest_own i n m (inl first) = record { some = inl first.0; before = λ b own. absurd (omega (arith, own.1, own.2, first.1)); awaits = λ j w l. absurd (omega (arith, l)) }
  greatest_own i n m (inr here) = record {
    some = inr (record { agent = i; number = n }, inl (refl, refl, here.0), here.1);
    before = λ b own. (let number : n ≡ b.number = omega (arith, own.1) in (m, omega arith, subst (λ (x : ActionId). IsNotedCost p cost x m) (λ t. record { agent = own.0 t; number = number t }) here.1));
    awaits = λ j w l. absurd (omega (arith, l));
  }

  -- past one await more
  pub greatest_more : (a : ActionId) (k m : ℕ) (w : Await) (v n : ℕ) → IsGreatestTo p cost a k m → slice_get (awaits_of p a.agent a.number) k ≡ Some w → IsNotedCost p cost (awaited w) v → n ≡ max m v
      → IsGreatestTo p cost a (k + 1) n
  greatest_more a k m w v n h at here is = record {
    some = elim (cases_lt m v) [
      | inl l ↦ (let e : v ≡ n = omega arith in subst IsSome e (inr (awaited w, inr (k, slice_get_within awaits k w at, get_or_from_slice_get awaits k w w at), here)))
      | inr l ↦ (let e : m ≡ n = omega arith in subst IsSome e h.some)
    ];
    before = λ b own. wider b (h.before b own);
    awaits = λ j x l there. elim (cases_lt j k) [
      | inl s ↦ wider _ (h.awaits j x s there)
      | inr s ↦ (let same : w ≡ x = same_Some w x (sym at ∙ ap (slice_get awaits) (let e : k ≡ j = omega arith in e) ∙ there) in (v, omega arith, subst (λ (y : Await). IsNotedCost p cost (awaited y) v) same here))
    ];
  }
    where
      awaits : List Await
      awaits = awaits_of p a.agent a.number

      IsSome : ℕ → Type 0
      IsSome x = (x ≡ 0) ⊎ ((b : ActionId) × DirectlyNeeds p a b × IsNotedCost p cost b x)

      wider : (b : ActionId) → CostsUpTo p cost m b → CostsUpTo p cost n b
      wider b (y, le, noted) = (y, omega arith, noted)

  -- what an action costs, by the greatest cost of what it needs
  module _ (range : AreInRange p) (a : ActionId) (act : IsAction p a) (k m : ℕ) (all : k ≡ length (awaits_of p a.agent a.number)) (first : IsGreatestTo p cost a k m) where
    h : IsGreatestTo p cost a (length (awaits_of p a.agent a.number)) m
    h = subst (λ (j : ℕ). IsGreatestTo p cost a j m) all first

    needs : (b : ActionId) → DirectlyNeeds p a b → CostsUpTo p cost m b
    needs b (inl own) = h.before b own
    needs b (inr w) = h.awaits w.0 (record { agent = b.agent; count = b.number }) w.1 (slice_get-get_or _ _ _ w.1 ∙ ap Some w.2)

    pub costs_here : (own : ℕ) → own ≡ cost a → own ≤ MAX_COST → IsNotedCost p cost a (m + own)
    costs_here own is most = record {
      critical = subst (λ (k : ℕ). IsCriticalCost p cost a (m + k)) (sym is) (record {
        some = elim h.some [
          | inl e ↦ let alone : cost a ≡ m + cost a = omega (arith, e) in subst (λ (k : ℕ). EndsChainOfCost p cost k a) alone (ends_alone p cost a act)
          | inr d ↦ ends_dearer p cost m d.0 a d.2.critical.some act d.1
        ];
        most = λ k c. omega (arith, c.3, bound_on p cost a m (λ d need b cs chain. (let known = needs d need in omega (arith, known.1, bound_of p cost d known.0 known.2.critical b cs chain))) c.0 c.1 c.2);
      });
      few = λ number rising.
          let times : (k : ℕ) → k < number a → (k + 1) * MAX_COST ≤ number a * MAX_COST = λ k l. mul-le (k + 1) MAX_COST (number a) MAX_COST (omega (arith, l)) (omega arith) in
          elim h.some [
            | inl e ↦ omega (arith, e, most, times 0 (rising.positive a act))
            | inr d ↦ omega (arith, d.2.few number rising, most, times (number d.0) (rising.rising a d.0 act (need_action p range a d.0 act d.1) d.1))
          ];
    }

  module _ (offset : (i finished k : ℕ) → ℕ) where
    -- it finishes an action more
    pub run_more : (i : ℕ) (row : Finished) → IsRun p cost offset i row → length row.costs < moves p i → (m x : ℕ) → IsNotedCost p cost (after i (length row.costs)) m → x ≡ offset i (length row.costs + 1) 0
        → IsRun p cost offset i (record { costs = row.costs ++ m ∷ []; stage = record { met = 0; at = x; greatest = m } })
    run_more i row h left m x here at = record {
      few = omega (arith, left, count);
      noted = λ n l. elim (cases_lt n (length row.costs)) [
        | inl low ↦ subst (IsNotedCost p cost (after i n)) (sym (get_or_append_left row.costs (m ∷ []) 0 n low)) (h.noted n low)
        | inr high ↦
            let same : length row.costs ≡ n = omega (arith, l, high, count) in
            subst (IsNotedCost p cost (after i n)) (sym (get_or_push row.costs m 0 n same)) (subst (λ (k : ℕ). IsNotedCost p cost (after i k) m) same here)
      ];
      next = record {
        within = omega arith;
        at = at ∙ ap (λ (n : ℕ). offset i n 0) (sym count);
        greatest = subst (λ (n : ℕ). IsGreatestTo p cost (after i n) 0 m) (sym count) (greatest_own i (length row.costs + 1) m (inr (omega arith, here)));
      };
    }
      where
        count : length (row.costs ++ m ∷ []) ≡ length row.costs + 1
        count = length_push row.costs m

    module _ (rows : List Finished) (h : IsCostWalk p cost offset rows) where
      -- the cost of a finished action is noted
      pub noted_of : (a : ActionId) → IsAction p a → a.number ≤ noted_in rows a.agent → IsNotedCost p cost a (critical_cost rows a)
      noted_of a act done =
          let e : a.number - 1 + 1 ≡ a.number = omega (arith, act.first) in
          subst (λ (n : ℕ). IsNotedCost p cost (record { agent = a.agent; number = n }) (critical_cost rows a)) e ((h.each a.agent act.agent).noted (a.number - 1) (omega (arith, done, act.first)))

      -- an agent has gone on
      pub gone_on : (i : ℕ) → i < length p → (row : Finished) → IsRun p cost offset i row → IsCostWalk p cost offset (set rows i row)
      gone_on i agent row run = record {
        numbered = h.numbered;
        rows = length-set rows i row ∙ h.rows;
        each = λ j l. elim (cases_eq j i) [
          | inl e ↦ subst (λ (k : ℕ). IsRun p cost offset k (row_in (set rows i row) k)) (sym e) (subst (IsRun p cost offset i) (sym (get_or-set_same rows i row no_row (omega (arith, agent, h.rows)))) run)
          | inr ne ↦ subst (IsRun p cost offset j) (sym (get_or-set_other rows i j row no_row ne)) (h.each j l)
        ];
      }

-- ---- that agents come to the end

-- a goal after n others, of which the first is this one, and each waits for the next: its number is by as much below
-- the greatest
pub record IsDeep (p : Program) (goal : Await) (n : ℕ) (w : Await) : Type 0 where
  pub first : n ≡ 0 → w ≡ goal
  pub action : IsAction p (awaited w)
  pub deep : (f : IsNumberedTo p MAX_LEVEL) → n + f.number (awaited w) ≤ MAX_LEVEL

abbrev pub AreDeep : Program → Await → List Await → Type 0
AreDeep p goal goals = (k : ℕ) (d : Await) → k < length goals → IsDeep p goal k (get_or goals k d)

module _ (p : Program) (goal : Await) (goals : List Await) (last : Await) where
  -- one goal more
  pub deep_push : AreDeep p goal goals → IsDeep p goal (length goals) last → AreDeep p goal (goals ++ last ∷ [])
  deep_push h here k d l = elim (cases_lt k (length goals)) [
    | inl low ↦ subst (IsDeep p goal k) (sym (get_or_append_left goals (last ∷ []) d k low)) (h k d low)
    | inr high ↦
        let same : length goals ≡ k = omega (arith, l, high, length_push goals last) in
        subst (IsDeep p goal k) (sym (get_or_push goals last d k same)) (subst (λ (n : ℕ). IsDeep p goal n last) same here)
  ]

  -- one goal less
  pub deep_pop : AreDeep p goal (goals ++ last ∷ []) → AreDeep p goal goals × IsDeep p goal (length goals) last
  deep_pop h = (
    (λ k d l. subst (IsDeep p goal k) (get_or_append_left goals (last ∷ []) d k l) (h k d (omega (arith, l, length_push goals last)))),
    subst (IsDeep p goal (length goals)) (get_or_push goals last last (length goals) refl) (h (length goals) last (omega (arith, length_push goals last))),
  )

  -- what the agent of the last one waits for
  pub deep_next : AreInRange p → (rows : List Finished) (next : Await) → IsDeep p goal (length goals) last → IsOpen rows last → IsUnmet p rows last.agent next → (n : ℕ) → n ≡ length goals + 1 → IsDeep p goal n next
  deep_next range rows next was still unmet n is = record {
    first = λ none. absurd (omega (arith, none, is));
    action = needed;
    deep = λ f.
        let up : f.number here ≤ f.number (awaited last) = Reaches-rises p f.number f.rising here (awaited last) (own_reach p last.agent here.number last.count was.action.agent (omega arith) (omega (arith, still)) was.action.last) in
        omega (arith, was.deep f, is, up, f.rising.rising here (awaited next) act needed (inr unmet.await));
  }
    where
      here : ActionId
      here = after last.agent (noted_in rows last.agent)

      act : IsAction p here
      act = record { agent = was.action.agent; first = omega arith; last = omega (arith, still, was.action.last) }

      needed : IsAction p (awaited next)
      needed = need_action p range here (awaited next) act (inr unmet.await)

-- how many actions are finished, by all rows
finished : List Finished → ℕ
finished rows = sum_by (λ (row : Finished). length row.costs) rows

-- no more than there are
finished_fit : (p : Program) (rows : List Finished) → length rows ≡ length p → ((i : ℕ) → i < length p → noted_in rows i ≤ moves p i) → finished rows ≤ total_moves p
unfolding finished
finished_fit p [] same each = omega arith
finished_fit [] (row ∷ rows) same each = absurd (omega (arith, same))
finished_fit (a ∷ p) (row ∷ rows) same each =
    omega (arith, sum_by-cons (λ (r : Finished). length r.costs) row rows, sum_by-cons (λ (b : AgentProgram). length b.actions) a p, (let l : length row.costs ≤ length a.actions = each 0 (omega arith) in l), finished_fit p rows (omega (arith, same)) (λ i l. each (suc i) (omega (arith, l))))

-- what is left, and how many turns there are before more is finished: one for each goal that can still come after n
-- others and the last one, or, once that one is reached, after all n others
pub to_go : Program → List Finished → Await → ℕ → ℕ
to_go p rows last n = (total_moves p - finished rows) * (2 * MAX_LEVEL + 2) + max (MAX_LEVEL - n) (MAX_LEVEL + 1 + n - (last.count - noted_in rows last.agent) * (2 * MAX_LEVEL + 2))

-- agent i has finished so many actions more
module _ (rows new : List Finished) (i more : ℕ) (agent : i < length rows) (h : HasGoneOn rows new i more) where
  pub grown : (j : ℕ) → (noted_in rows j ≤ noted_in new j) × (noted_in new j ≤ noted_in rows j + more)
  grown j = elim (cases_eq j i) [
    | inl e ↦ (let own = ap (λ (rs : List Finished). noted_in rs i) h.is ∙ ap (λ (r : Finished). length r.costs) (get_or-set_same rows i h.row no_row agent) in (omega (arith, own, h.more, ap (noted_in new) e, ap (noted_in rows) e), omega (arith, own, h.more, ap (noted_in new) e, ap (noted_in rows) e)))
    | inr ne ↦ (let other = ap (λ (rs : List Finished). noted_in rs j) h.is ∙ ap (λ (r : Finished). length r.costs) (get_or-set_other rows i j h.row no_row ne) in (omega (arith, other), omega (arith, other)))
  ]

  total : finished new ≡ finished rows + more
  unfolding finished
  total = omega (arith, ap (sum_by (λ (r : Finished). length r.costs)) h.is, sum_by-set (λ (r : Finished). length r.costs) rows i h.row no_row agent, h.more)

  module _ (p : Program) (last : Await) (n : ℕ) where
    -- less is to go if that is one
    pub less_more : more ≡ 1 → n ≤ MAX_LEVEL → length new ≡ length p → ((j : ℕ) → j < length p → noted_in new j ≤ moves p j) → to_go p new last n < to_go p rows last n
    unfolding to_go
    less_more one few same each = omega (arith, one, few, finished_fit p new same each, total)

    -- .. or none, and the agent of the last goal waits for another
    pub less_waiting : more ≡ 0 → n < MAX_LEVEL → IsOpen rows last → (next : Await) → IsOpen rows next → (m : ℕ) → m ≡ n + 1 → to_go p new next m < to_go p rows last n
    unfolding to_go
    less_waiting none few still next waits m is = omega (arith, none, few, is, still, waits, (grown next.agent).1, total)

-- .. and where the last one is reached, and the one before it is next
pub less_reached : (p : Program) (rows : List Finished) (last before : Await) (n m : ℕ) → last.count ≤ noted_in rows last.agent → n ≡ m + 1 → to_go p rows before m < to_go p rows last n
unfolding to_go
less_reached p rows last before n m over fewer = omega (arith, fewer, over)
