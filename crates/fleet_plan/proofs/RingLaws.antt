-- Rings along those who are ahead.
use Rattle.fleet_plan.proofs.Words.{◌≡◌, ℕ, zero, suc, ◌+◌, ◌-◌, ◌<◌, ◌≤◌, true, false, List, [], ◌∷◌, ◌++◌, length, get_or, Option, Some, None, Contains, ◌⊎◌, inl, inr, refl, sym, ap, ◌∙◌, subst, arith, ◌==◌, eqb, AllByRecursion, list_any, cases_eq, cases_lt, ne_eqb, eqb-true, or_cases, get_or_past, get_or_default, IsDistinct-tail, length-le_from_distinct_below, after_in, NamesAgents, ahead_of, Leads, LeadsTo, IsOnRing}
use Rattle.std.specs.List.{IsDistinct}

pub some_is : (j k : ℕ) (o : Option ℕ) → o ≡ Some j → o ≡ Some k → j ≡ k
some_is j k o a b = let e : Some j ≡ Some k = sym a ∙ b in cc

pub none_is_not : {P : Type 0} (j : ℕ) (o : Option ℕ) → o ≡ Some j → o ≡ None → P
none_is_not j o a b = let e : Some j ≡ None = sym a ∙ b in absurd (cc)

-- nobody is ahead of one that is no agent
pub ahead_within : (ahead : List (Option ℕ)) (i j : ℕ) → ahead_of ahead i ≡ Some j → i < length ahead
ahead_within ahead i j e = elim (cases_lt i (length ahead)) [
  | inl l ↦ l
  | inr l ↦ none_is_not j (ahead_of ahead i) e (get_or_past ahead i None l)
]

module _ (ahead : List (Option ℕ)) where
  pub leads-append : (i : ℕ) (js : List ℕ) (m : ℕ) (ks : List ℕ) (e : ℕ) → Leads ahead i js m → Leads ahead m ks e → Leads ahead i (js ++ ks) e
  leads-append i [] m ks e f g = subst (λ z. Leads ahead z ks e) (sym f) g
  leads-append i (j ∷ js) m ks e f g = (f.0, leads-append j js m ks e f.1 g)

  pub reaches-on : (i m e : ℕ) → LeadsTo ahead i m → LeadsTo ahead m e → LeadsTo ahead i e
  reaches-on i m e f g = (f.0 ++ g.0, leads-append i f.0 m g.0 e f.1 g.1)

  pub reaches-itself : (i : ℕ) → LeadsTo ahead i i
  reaches-itself i = ([], refl)

  pub reaches-next : (i j : ℕ) → ahead_of ahead i ≡ Some j → LeadsTo ahead i j
  reaches-next i j e = (j ∷ [], (e, refl))

  -- who is ahead of an agent on a ring is on the ring
  pub ring-next : (i j : ℕ) → IsOnRing ahead i → ahead_of ahead i ≡ Some j → IsOnRing ahead j × LeadsTo ahead j i
  ring-next i j r e =
      let same : r.next ≡ j = some_is r.next j (ahead_of ahead i) r.ahead_is e in
      let back : LeadsTo ahead j i = subst (λ z. LeadsTo ahead z i) same r.back in
      (on back.0 back.1, back)
    where
      on : (js : List ℕ) → Leads ahead j js i → IsOnRing ahead j
      on [] f = subst (IsOnRing ahead) (sym f) r
      on (k ∷ ks) f = record { next = k; ahead_is = f.0; back = reaches-on k i j (ks, f.1) (reaches-next i j e) }

  pub ring-reaches : (i : ℕ) (js : List ℕ) (e : ℕ) → IsOnRing ahead i → Leads ahead i js e → IsOnRing ahead e × LeadsTo ahead e i
  ring-reaches i [] e r f = (subst (IsOnRing ahead) f r, ([], sym f))
  ring-reaches i (j ∷ js) e r f =
      let one = ring-next i j r f.0 in
      let more = ring-reaches j js e one.0 f.1 in
      (more.0, reaches-on e j i more.1 one.1)

  -- ---- lists without an agent twice

  -- from the agent on, or it is none of them
  abbrev FromOn : List ℕ → ℕ → ℕ → Type 0
  FromOn ks e j = ((ls : List ℕ) × Leads ahead j ls e × IsDistinct ◌==◌ (j ∷ ls)) ⊎ AllByRecursion (λ k. (j == k) ≡ false) ks

  from_on : (i : ℕ) (ks : List ℕ) (e j : ℕ) → Leads ahead i ks e → IsDistinct ◌==◌ ks → FromOn ks e j
  from_on i [] e j f u = inr tt
  from_on i (k ∷ ks) e j f u = elim (cases_eq j k) [
    | inl s ↦ inl (ks, subst (λ z. Leads ahead z ks e) (sym s) f.1, subst (λ z. IsDistinct ◌==◌ (z ∷ ks)) (sym s) u)
    | inr ne ↦ elim (from_on k ks e j f.1 (IsDistinct-tail ◌==◌ k ks u)) [
      | inl w ↦ inl w
      | inr w ↦ inr (ne_eqb j k ne, w)
    ]
  ]

  abbrev pub Shortened : ℕ → ℕ → Type 0
  Shortened i e = (j : ℕ) × (js : List ℕ) × Leads ahead i (j ∷ js) e × IsDistinct ◌==◌ (j ∷ js)

  pub shortened : (i j : ℕ) (js : List ℕ) (e : ℕ) → Leads ahead i (j ∷ js) e → Shortened i e
  unfolding IsDistinct
  shortened i j [] e f = (j, [], f, (tt, tt))
  shortened i j (k ∷ js) e f =
      let s = shortened j k js e f.1 in
      elim (from_on j (s.0 ∷ s.1) e j s.2 s.3) [
        | inl w ↦ (j, w.0, (f.0, w.1), w.2)
        | inr w ↦ (j, s.0 ∷ s.1, (f.0, s.2), (w, s.3))
      ]

  pub leads-below : NamesAgents ahead → (i : ℕ) (js : List ℕ) (e : ℕ) → Leads ahead i js e → (q : ℕ) → list_any (eqb q) js ≡ true → q < length ahead
  leads-below agents i [] e f q h = absurd (cc)
  leads-below agents i (j ∷ js) e f q h = elim (or_cases (eqb q j) (list_any (eqb q) js) h) [
    | inl s ↦ subst (λ z. z < length ahead) (sym (eqb-true q j s)) (agents i j f.0)
    | inr r ↦ leads-below agents j js e f.1 q r
  ]

  -- a way back to an agent on a ring that is not too long
  pub short_way : NamesAgents ahead → (i : ℕ) → IsOnRing ahead i → (j : ℕ) × (js : List ℕ) × Leads ahead i (j ∷ js) i × (length js + 1 ≤ length ahead)
  short_way agents i r =
      let s = shortened i r.next r.back.0 i (r.ahead_is, r.back.1) in
      let few : length (s.0 ∷ s.1) ≤ length ahead = length-le_from_distinct_below (s.0 ∷ s.1) (length ahead) s.3 (leads-below agents i (s.0 ∷ s.1) i s.2) in
      (s.0, s.1, s.2, omega arith)

  -- ---- all the way round

  -- what holds of a first agent, of a list of agents that leads on from it, and the last of which has the first one
  -- ahead of it, holds of each agent that the first one reaches
  pub all_round : (P : ℕ → Type 0) (first : ℕ) (js : List ℕ) (last : ℕ) → Leads ahead first js last → ahead_of ahead last ≡ Some first → P first → AllByRecursion P js → (e : ℕ) → LeadsTo ahead first e → P e
  all_round P first js last f back here all e g = go g.0 first js f here all g.1
    where
      go : (bs : List ℕ) (i : ℕ) (ks : List ℕ) → Leads ahead i ks last → P i → AllByRecursion P ks → Leads ahead i bs e → P e
      go [] i ks l p a r = subst P r p
      go (b ∷ bs) i [] l p a r =
          let same : first ≡ b = some_is first b (ahead_of ahead i) (ap (ahead_of ahead) l ∙ back) r.0 in
          go bs first js f here all (subst (λ z. Leads ahead z bs e) (sym same) r.1)
      go (b ∷ bs) i (k ∷ ks) l p a r =
          let same : k ≡ b = some_is k b (ahead_of ahead i) l.0 r.0 in
          go bs k ks l.1 a.0 a.1 (subst (λ z. Leads ahead z bs e) (sym same) r.1)

  -- ---- rings as lists

  -- each agent of a list that leads on has the next one ahead of it
  pub each_ahead : (i : ℕ) (js : List ℕ) (e d : ℕ) → Leads ahead i js e → ahead_of ahead e ≡ Some d → (k : ℕ) → k < length js → ahead_of ahead (get_or js k 0) ≡ Some (get_or js (suc k) d)
  each_ahead i [] e d f back k l = absurd (omega arith)
  each_ahead i (j ∷ []) e d f back zero l = ap (ahead_of ahead) f.1 ∙ back
  each_ahead i (j ∷ []) e d f back (suc k) l = absurd (omega arith)
  each_ahead i (j ∷ m ∷ js) e d f back zero l = f.1.0
  each_ahead i (j ∷ m ∷ js) e d f back (suc k) l = each_ahead j (m ∷ js) e d f.1 back k (omega arith)

  pub each_reached : (i : ℕ) (js : List ℕ) (e : ℕ) → Leads ahead i js e → (k d : ℕ) → k < length js → LeadsTo ahead i (get_or js k d)
  each_reached i [] e f k d l = absurd (omega arith)
  each_reached i (j ∷ js) e f zero d l = reaches-next i j f.0
  each_reached i (j ∷ js) e f (suc k) d l = reaches-on i j (get_or js k d) (reaches-next i j f.0) (each_reached j js e f.1 k d (omega arith))

  pub ends_with : (i j : ℕ) (js : List ℕ) (e : ℕ) → Leads ahead i (j ∷ js) e → Contains (j ∷ js) e
  ends_with i j [] e f = (0, omega arith, f.1)
  ends_with i j (k ∷ js) e f = let c = ends_with j k js e f.1 in (suc c.0, (let h : c.0 < length (k ∷ js) = c.1 in omega arith), c.2)

  -- ahead of each agent of a list is the next one, and of the last the first
  module _ (ring : List ℕ) (next : (k : ℕ) → k < length ring → ahead_of ahead (get_or ring k 0) ≡ Some (after_in ring k)) where
    on : (m k : ℕ) → k + m < length ring → LeadsTo ahead (get_or ring k 0) (get_or ring (k + m) 0)
    on zero k l = subst (λ z. LeadsTo ahead (get_or ring k 0) (get_or ring z 0)) (let e : k ≡ k + 0 = omega arith in e) (reaches-itself (get_or ring k 0))
    on (suc m) k l =
        let one : LeadsTo ahead (get_or ring k 0) (after_in ring k) = reaches-next (get_or ring k 0) (after_in ring k) (next k (omega arith)) in
        let same : after_in ring k ≡ get_or ring (k + 1) 0 = get_or_default ring (k + 1) (get_or ring 0 0) 0 (omega arith) in
        let e : k + 1 + m ≡ k + suc m = omega arith in
        reaches-on (get_or ring k 0) (get_or ring (k + 1) 0) (get_or ring (k + suc m) 0)
        (subst (LeadsTo ahead (get_or ring k 0)) same one)
        (subst (λ z. LeadsTo ahead (get_or ring (k + 1) 0) (get_or ring z 0)) e (on m (k + 1) (omega arith)))

    -- from the first agent, and on to it
    from_first : (k : ℕ) → k < length ring → LeadsTo ahead (get_or ring 0 0) (get_or ring k 0)
    from_first k l = subst (λ z. LeadsTo ahead (get_or ring 0 0) (get_or ring z 0)) (let e : 0 + k ≡ k = omega arith in e) (on k 0 (omega arith))

    to_first : (k : ℕ) → k < length ring → LeadsTo ahead (after_in ring k) (get_or ring 0 0)
    to_first k l = elim (cases_lt (k + 1) (length ring)) [
      | inl g ↦
          let m = length ring - 1 - (k + 1) in
          let e : k + 1 + m ≡ length ring - 1 = omega arith in
          let same : get_or ring (k + 1) 0 ≡ after_in ring k = get_or_default ring (k + 1) 0 (get_or ring 0 0) g in
          let last = get_or ring (length ring - 1) 0 in
          let there : LeadsTo ahead (get_or ring (k + 1) 0) last = subst (λ z. LeadsTo ahead (get_or ring (k + 1) 0) (get_or ring z 0)) e (on m (k + 1) (omega arith)) in
          let back : after_in ring (length ring - 1) ≡ get_or ring 0 0 = get_or_past ring (length ring - 1 + 1) (get_or ring 0 0) (omega arith) in
          let step : ahead_of ahead last ≡ Some (get_or ring 0 0) = next (length ring - 1) (omega arith) ∙ ap (λ (n : ℕ). Some n) back in
          reaches-on (after_in ring k) last (get_or ring 0 0) (subst (λ z. LeadsTo ahead z last) same there) (reaches-next last (get_or ring 0 0) step)
      | inr g ↦
          let back : get_or ring 0 0 ≡ after_in ring k = sym (get_or_past ring (k + 1) (get_or ring 0 0) g) in
          subst (λ z. LeadsTo ahead z (get_or ring 0 0)) back (reaches-itself (get_or ring 0 0))
    ]

    pub each_on_ring : (k : ℕ) → k < length ring → IsOnRing ahead (get_or ring k 0)
    each_on_ring k l = record {
      next = after_in ring k;
      ahead_is = next k l;
      back = reaches-on (after_in ring k) (get_or ring 0 0) (get_or ring k 0) (to_first k l) (from_first k l);
    }
