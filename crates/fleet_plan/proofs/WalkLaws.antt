-- A walk ahead from one agent after another.
use Rattle.fleet_plan.proofs.Words.{◌≡◌, ◌≢◌, ℕ, ◌+◌, ◌<◌, ◌≤◌, List, [], ◌∷◌, length, get_or, slice_index, set, Option, Some, None, IfSome, ◌⊎◌, inl, inr, refl, sym, ap, ◌∙◌, subst, arith, sum_by, cases_eq, get_or-set_same, get_or-set_other, length-set, sum_by-set, NamesAgents, ahead_of, Leads, LeadsTo, IsOnRing, IsLeastOnRing, walk_of, IsWalked, AreClosed, IsSoForOthers}
use Rattle.std.specs.Prelude.{MatchOption}
use Rattle.fleet_plan.specs.Rings.{IsBlank, HasWalked}
use Rattle.fleet_plan.proofs.RowLaws.{IsSoBut, but_more, but_ends}
use Rattle.fleet_plan.proofs.RingLaws.{some_is, none_is_not, ahead_within, reaches-on, reaches-next, ring-reaches}

-- how many agents were not met
abbrev pub unmet_agents : Option ℕ → ℕ
unmet_agents None = 1
unmet_agents (Some w) = 0

pub fewer : (walks : List (Option ℕ)) (k i : ℕ) → k < length walks → walk_of walks k ≡ None → sum_by unmet_agents (set walks k (Some i)) < sum_by unmet_agents walks
fewer walks k i l e =
    let s : sum_by unmet_agents (set walks k (Some i)) + unmet_agents (get_or walks k None) ≡ sum_by unmet_agents walks + 0 = sum_by-set unmet_agents walks k (Some i) None l in
    let one : unmet_agents (get_or walks k None) ≡ 1 = ap unmet_agents e in
    omega arith

-- walk i, from a first agent on, has come to an agent; old are the walks before it
pub record IsWalk (ahead old walks : List (Option ℕ)) (i first agent : ℕ) : Type 0 where
  pub all : length walks ≡ length ahead
  pub within : agent < length ahead
  pub old_or_new : (k w : ℕ) → walk_of walks k ≡ Some w → (walk_of old k ≡ Some w) ⊎ (w ≡ i)
  pub kept : (k w : ℕ) → walk_of old k ≡ Some w → walk_of walks k ≡ Some w
  pub ahead_too : (k j : ℕ) → walk_of walks k ≡ Some i → ahead_of ahead k ≡ Some j → IsWalked walks j ⊎ (j ≡ agent)
  pub leads : (k : ℕ) → walk_of walks k ≡ Some i → (j : ℕ) × (ahead_of ahead k ≡ Some j) × LeadsTo ahead j agent
  pub started : (agent ≡ first) ⊎ IsWalked walks first

pub walk_begins : (ahead old : List (Option ℕ)) (i first : ℕ) → AreClosed ahead old i → first < length ahead → IsWalk ahead old old i first first
walk_begins ahead old i first c l = record {
  all = c.all;
  within = l;
  old_or_new = λ k w e. inl e;
  kept = λ k w e. e;
  ahead_too = λ k j e f. absurd (let h : i < i = c.below k i e in omega arith);
  leads = λ k e. absurd (let h : i < i = c.below k i e in omega arith);
  started = inl refl;
}

module _ (ahead old walks : List (Option ℕ)) (i first agent : ℕ) (w : IsWalk ahead old walks i first agent) where
  -- the agent is met
  module _ (new : walk_of walks agent ≡ None) where
    abbrev after : List (Option ℕ)
    after = set walks agent (Some i)

    here : walk_of after agent ≡ Some i
    here = get_or-set_same walks agent (Some i) None (omega (arith, w.all, w.within))

    other : (k : ℕ) → k ≢ agent → walk_of after k ≡ walk_of walks k
    other k ne = get_or-set_other walks agent k (Some i) None ne

    kept_on : (k : ℕ) (v : ℕ) → walk_of walks k ≡ Some v → walk_of after k ≡ Some v
    kept_on k v e = elim (cases_eq k agent) [
      | inl s ↦ none_is_not v (walk_of walks k) e (ap (walk_of walks) s ∙ new)
      | inr ne ↦ other k ne ∙ e
    ]

    still : (k : ℕ) → IsWalked walks k → IsWalked after k
    still k h = (h.0, kept_on k h.0 h.1)

    met : IsWalked after agent
    met = (i, here)

    old_or : (k v : ℕ) → walk_of after k ≡ Some v → (walk_of old k ≡ Some v) ⊎ (v ≡ i)
    old_or k v e = elim (cases_eq k agent) [
      | inl s ↦ inr (some_is v i (walk_of after k) e (ap (walk_of after) s ∙ here))
      | inr ne ↦ w.old_or_new k v (sym (other k ne) ∙ e)
    ]

    start : IsWalked after first
    start = elim w.started [
      | inl s ↦ subst (IsWalked after) s met
      | inr h ↦ still first h
    ]

    too : (k j : ℕ) → k ≢ agent → walk_of after k ≡ Some i → ahead_of ahead k ≡ Some j → IsWalked after j
    too k j ne e f = elim (w.ahead_too k j (sym (other k ne) ∙ e) f) [
      | inl h ↦ still j h
      | inr s ↦ subst (IsWalked after) (sym s) met
    ]

    pub walk-more : NamesAgents ahead → (next : ℕ) → ahead_of ahead agent ≡ Some next → IsWalk ahead old after i first next
    walk-more agents next e = record {
      all = length-set walks agent (Some i) ∙ w.all;
      within = agents agent next e;
      old_or_new = old_or;
      kept = λ k v f. kept_on k v (w.kept k v f);
      ahead_too = λ k j f g. elim (cases_eq k agent) [
        | inl s ↦ inr (some_is j next (ahead_of ahead k) g (ap (ahead_of ahead) s ∙ e))
        | inr ne ↦ inl (too k j ne f g)
      ];
      leads = λ k f. elim (cases_eq k agent) [
        | inl s ↦ (next, ap (ahead_of ahead) s ∙ e, ([], refl))
        | inr ne ↦ let l = w.leads k (sym (other k ne) ∙ f) in (l.0, l.1, reaches-on ahead l.0 agent next l.2 (reaches-next ahead agent next e))
      ];
      started = inr start;
    }

  -- the walk ends
  module _ (closed : AreClosed ahead old i) where
    -- somebody is ahead of each one that this walk has met, or that was met before
    live_on : (k : ℕ) → IsWalked walks k → (j : ℕ) × (ahead_of ahead k ≡ Some j)
    live_on k h = elim (w.old_or_new k h.0 h.1) [
      | inl g ↦ closed.live k (h.0, g)
      | inr g ↦ let l = w.leads k (h.1 ∙ ap (λ (z : ℕ). Some z) g) in (l.0, l.1)
    ]

    kept_now : (k : ℕ) → IsWalked old k → IsWalked walks k
    kept_now k h = (h.0, w.kept k h.0 h.1)

    -- at an agent that was met before, or that nobody is ahead of
    module _ (here : IsWalked walks agent ⊎ (ahead_of ahead agent ≡ None)) where
      closed_now : AreClosed ahead walks (i + 1)
      closed_now = record {
        all = w.all;
        live = live_on;
        ahead_too = λ k j h f. elim (w.old_or_new k h.0 h.1) [
          | inl g ↦ elim (closed.ahead_too k j (h.0, g) f) [ inl o ↦ inl (kept_now j o) | inr e ↦ inr e ]
          | inr g ↦ elim (w.ahead_too k j (h.1 ∙ ap (λ (z : ℕ). Some z) g) f) [
            | inl o ↦ inl o
            | inr s ↦ subst (λ z. IsWalked walks z ⊎ (ahead_of ahead z ≡ None)) (sym s) here
          ]
        ];
        below = λ k v f. elim (w.old_or_new k v f) [ inl g ↦ let l : v < i = closed.below k v g in omega arith | inr g ↦ omega arith ];
      }

      walked_now : IsWalked walks first ⊎ (ahead_of ahead first ≡ None)
      walked_now = elim w.started [ inl s ↦ subst (λ z. IsWalked walks z ⊎ (ahead_of ahead z ≡ None)) s here | inr h ↦ inl h ]

    pub walk_ends : ahead_of ahead agent ≡ None → HasWalked ahead old walks i first None
    walk_ends ends = record {
      closed = closed_now (inr ends);
      walked = walked_now (inr ends);
      kept = kept_now;
      rings = λ k h r. elim (w.old_or_new k h.0 h.1) [
        | inl g ↦ (h.0, g)
        | inr g ↦
            let l = w.leads k (h.1 ∙ ap (λ (z : ℕ). Some z) g) in
            let on = ring-reaches ahead k (l.0 ∷ l.2.0) agent r (l.1, l.2.1) in
            none_is_not on.0.next (ahead_of ahead agent) on.0.ahead_is ends
      ];
    }

    old_or_there : (k : ℕ) → IsWalked walks k → IsOnRing ahead k → IsWalked old k ⊎ LeadsTo ahead agent k
    old_or_there k h r = elim (w.old_or_new k h.0 h.1) [
      | inl g ↦ inl (h.0, g)
      | inr g ↦
          let l = w.leads k (h.1 ∙ ap (λ (z : ℕ). Some z) g) in
          inr ((ring-reaches ahead k (l.0 ∷ l.2.0) agent r (l.1, l.2.1)).1)
    ]

    pub walk_meets_itself : walk_of walks agent ≡ Some i → HasWalked ahead old walks i first (Some agent)
    walk_meets_itself e = let l = w.leads agent e in record {
      closed = closed_now (inl (i, e));
      walked = walked_now (inl (i, e));
      kept = kept_now;
      rings = (record { next = l.0; ahead_is = l.1; back = l.2 }, old_or_there);
    }

    -- who is on a ring ahead of one that was met before was met before
    closed_on : (k : ℕ) (js : List ℕ) (e : ℕ) → IsOnRing ahead e → IsWalked old k → Leads ahead k js e → IsWalked old e
    closed_on k [] e r h f = subst (IsWalked old) f h
    closed_on k (j ∷ js) e r h f = elim (closed.ahead_too k j h f.0) [
      | inl o ↦ closed_on j js e r o f.1
      | inr none ↦ ended js f.1 none
    ]
      where
        ended : (js : List ℕ) → Leads ahead j js e → ahead_of ahead j ≡ None → IsWalked old e
        ended [] g none = none_is_not r.next (ahead_of ahead e) r.ahead_is (ap (ahead_of ahead) (sym g) ∙ none)
        ended (m ∷ ms) g none = none_is_not m (ahead_of ahead j) g.0 none

    pub walk_meets_another : IsWalked walks agent → walk_of walks agent ≢ Some i → HasWalked ahead old walks i first None
    walk_meets_another before ne = record {
      closed = closed_now (inl before);
      walked = walked_now (inl before);
      kept = kept_now;
      rings = λ k h r. elim (old_or_there k h r) [ inl o ↦ o | inr f ↦ closed_on agent f.0 k r was f.1 ];
    }
      where
        was : IsWalked old agent
        was = elim (w.old_or_new agent before.0 before.1) [
          | inl g ↦ (before.0, g)
          | inr g ↦ absurd (ne (before.1 ∙ ap (λ (z : ℕ). Some z) g))
        ]

-- ---- from one walk to the next

-- the least agent on a ring of those that were met, where there is one
abbrev pub IsLeastMet : List (Option ℕ) → List (Option ℕ) → Option ℕ → Type 0
IsLeastMet ahead walks None = (k : ℕ) → IsWalked walks k → IsOnRing ahead k → ⊥
IsLeastMet ahead walks (Some m) = IsOnRing ahead m × ((k : ℕ) → IsWalked walks k → IsOnRing ahead k → m ≤ k)

-- the agents of the row below place i were met, but for those that nobody is ahead of
pub record AreWalked (row : List ℕ) (ahead walks : List (Option ℕ)) (least : Option ℕ) (i : ℕ) : Type 0 where
  pub closed : AreClosed ahead walks i
  pub walked : IsSoBut row i (length ahead) (λ k. IsWalked walks k ⊎ (ahead_of ahead k ≡ None))
  pub least_met : IsLeastMet ahead walks least

pub walked_begins : (row : List ℕ) (ahead walks : List (Option ℕ)) → IsBlank (length ahead) walks → IsSoForOthers row (length ahead) (λ k. ahead_of ahead k ≡ None) → AreWalked row ahead walks None 0
walked_begins row ahead walks blank others = record {
  closed = record {
    all = blank.all;
    live = λ k h. none_is_not h.0 (walk_of walks k) h.1 (blank.none k);
    ahead_too = λ k j h f. none_is_not h.0 (walk_of walks k) h.1 (blank.none k);
    below = λ k w h. none_is_not w (walk_of walks k) h (blank.none k);
  };
  walked = record { each = λ k l. elim (others k l) [ inl c ↦ inl c | inr e ↦ inr (inr e) ] };
  least_met = λ k h r. none_is_not h.0 (walk_of walks k) h.1 (blank.none k);
}

-- who was not met, where nobody is ahead of it
pub walked_none : (row : List ℕ) (ahead walks : List (Option ℕ)) (least : Option ℕ) (i : ℕ) → AreWalked row ahead walks least i → (k : ℕ) → ahead_of ahead k ≡ None → walk_of walks k ≡ None
walked_none row ahead walks least i a k e = go (walk_of walks k) refl
  where
    go : (o : Option ℕ) → walk_of walks k ≡ o → walk_of walks k ≡ None
    go None h = h
    go (Some w) h = let j = a.closed.live k (w, h) in none_is_not j.0 (ahead_of ahead k) j.1 e

module _ (row : List ℕ) (ahead old walks : List (Option ℕ)) (least : Option ℕ) (i : ℕ) (a : AreWalked row ahead old least i) where
  walked_on : (own : Option ℕ) → HasWalked ahead old walks i (slice_index row i) own → IsSoBut row (i + 1) (length ahead) (λ k. IsWalked walks k ⊎ (ahead_of ahead k ≡ None))
  walked_on own w = but_more row i (length ahead) (λ k. IsWalked old k ⊎ (ahead_of ahead k ≡ None)) (λ k. IsWalked walks k ⊎ (ahead_of ahead k ≡ None)) a.walked w.walked
      (λ k l ne h. elim h [ inl o ↦ inl (w.kept k o) | inr e ↦ inr e ])

  pub walked-more_none : HasWalked ahead old walks i (slice_index row i) None → AreWalked row ahead walks least (i + 1)
  walked-more_none w = record { closed = w.closed; walked = walked_on None w; least_met = go least a.least_met }
    where
      go : (m : Option ℕ) → IsLeastMet ahead old m → IsLeastMet ahead walks m
      go None h = λ k v r. h k (w.rings k v r) r
      go (Some m) h = (h.0, λ k v r. h.1 k (w.rings k v r) r)

  pub walked-more_some : (agent m m' : ℕ) → HasWalked ahead old walks i (slice_index row i) (Some agent) → IsOnRing ahead m → ((k : ℕ) → LeadsTo ahead agent k → m ≤ k) → m' ≤ m → IfSome least (λ b. m' ≤ b) → (m' ≡ m) ⊎ (Some m' ≡ least) → AreWalked row ahead walks (Some m') (i + 1)
  walked-more_some agent m m' w ring round le below which = record { closed = w.closed; walked = walked_on (Some agent) w; least_met = go least a.least_met below which }
    where
      go : (b : Option ℕ) → IsLeastMet ahead old b → IfSome b (λ b. m' ≤ b) → (m' ≡ m) ⊎ (Some m' ≡ b) → IsLeastMet ahead walks (Some m')
      go None h l (inl e) = (subst (IsOnRing ahead) (sym e) ring, λ k v r. elim (w.rings.1 k v r) [ inl o ↦ absurd (h k o r) | inr f ↦ let g : m ≤ k = round k f in omega arith ])
      go None h l (inr e) = absurd (cc)
      go (Some b) h l which = (
        elim which [ inl e ↦ subst (IsOnRing ahead) (sym e) ring | inr e ↦ subst (IsOnRing ahead) (let s : m' ≡ b = cc in sym s) h.0 ],
        λ k v r. elim (w.rings.1 k v r) [ inl o ↦ let g : b ≤ k = h.1 k o r in omega arith | inr f ↦ let g : m ≤ k = round k f in omega arith ],
      )

-- at the end each agent on a ring was met
module _ (row : List ℕ) (ahead walks : List (Option ℕ)) (i : ℕ) (l : length row ≤ i) where
  all_met : (least : Option ℕ) → AreWalked row ahead walks least i → (k : ℕ) → IsOnRing ahead k → IsWalked walks k
  all_met least a k r = elim (but_ends row i (length ahead) (λ k. IsWalked walks k ⊎ (ahead_of ahead k ≡ None)) a.walked l k (ahead_within ahead k r.next r.ahead_is)) [
    | inl h ↦ h
    | inr e ↦ none_is_not r.next (ahead_of ahead k) r.ahead_is e
  ]

  pub walked_all : (o : Option ℕ) → AreWalked row ahead walks o i → MatchOption o ((k : ℕ) → IsOnRing ahead k → ⊥) (IsLeastOnRing ahead)
  walked_all None a = λ k r. a.least_met k (all_met None a k r) r
  walked_all (Some m) a = record { ring = a.least_met.0; least = λ k r. a.least_met.1 k (all_met (Some m) a k r) r }
