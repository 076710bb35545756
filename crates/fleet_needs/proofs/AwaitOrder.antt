-- The order of awaits, among those of an action and among all.
use Rattle.fleet_needs.proofs.Words.{◌≡◌, ◌≢◌, ℕ, ◌+◌, ◌-◌, ◌<◌, ◌≤◌, Bool, false, List, length, take, get_or, set, map, sym, ap, ◌∙◌, arith, inl, inr, ◌⊎◌, slice_get, Some, sum_by, cases_eq, cases_order, slice_get_within, get_or_from_slice_get, get_or-map, length-map, get_or-set_same, get_or-set_other, sum_by-take-le, same_Some, length-set, true, ActionId, Action, Await, AgentProgram, Program, awaits_of, total_awaits, IsAction, first_await, AreFlagsBut, IsImplied, IsImpliedFlag, ImpliedAwaits, flags_of, refl, subst, Contains, nat_le, leb-true, le-leb, slice_get-get_or, AreInRange, AreAwaits, Reaches, awaited, Reaches-last, action_before, ByBeforeOr, IsJoined, OfOthers}
use Rattle.std.specs.List.Sorted.{IsStrictlyIncreasing}
use Rattle.std.proofs.lemmas.List.Kept.{AllPairs-from_increasing}
use Rattle.fleet_needs.proofs.JoinLaws.{before_with, before_rises, row_end, totals_rise}

-- in a list in strictly rising order of agent each await is of a lower agent than all later ones
pub await_below : (awaits : List Await) → IsStrictlyIncreasing (map (λ w. w.agent) awaits) → (k m : ℕ) (v w : Await) → slice_get awaits k ≡ Some v → slice_get awaits m ≡ Some w → k < m → v.agent < w.agent
await_below awaits rising k m v w at there l =
    let agents : List ℕ = map (λ (z : Await). z.agent) awaits in
    let within : m < length awaits = slice_get_within awaits m w there in
    let less : get_or agents k 0 < get_or agents m 0 = AllPairs-from_increasing agents rising k m 0 l (omega (arith, within, length-map awaits (λ (z : Await). z.agent))) in
    omega (arith, less, agent_at k v at, agent_at m w there)
  where
    agent_at : (m : ℕ) (x : Await) → slice_get awaits m ≡ Some x → get_or (map (λ (y : Await). y.agent) awaits) m 0 ≡ x.agent
    agent_at m x e = get_or-map (λ (y : Await). y.agent) awaits m x 0 (slice_get_within awaits m x e) ∙ ap (λ (y : Await). y.agent) (get_or_from_slice_get awaits m x x e)

-- so no two are of one agent
pub other_agent : (awaits : List Await) → IsStrictlyIncreasing (map (λ w. w.agent) awaits) → (k m : ℕ) (v w : Await) → slice_get awaits k ≡ Some v → slice_get awaits m ≡ Some w → k ≢ m → v.agent ≢ w.agent
other_agent awaits rising k m v w at there ne same = elim (cases_order k m) [
  | inl e ↦ ne e
  | inr (inl l) ↦ (let less : v.agent < w.agent = await_below awaits rising k m v w at there l in omega arith)
  | inr (inr l) ↦ (let less : w.agent < v.agent = await_below awaits rising m k w v there at l in omega arith)
]

-- ---- the awaits of one action stand beside those of another

module _ (p : Program) where
  agent_end : (a : ActionId) → IsAction p a → first_await p a + length (awaits_of p a.agent a.number) ≤ total_awaits (take (a.agent + 1) p)
  agent_end a k = omega (arith, row_end p a, before_with p a.agent a.number k.first)

  pub flag_within : (a : ActionId) → IsAction p a → first_await p a + length (awaits_of p a.agent a.number) ≤ total_awaits p
  flag_within a k = omega (arith, agent_end a k, sum_by-take-le (λ (x : AgentProgram). sum_by (λ (s : Action). length s.awaits) x.actions) p (a.agent + 1))

  before : (a b : ActionId) → IsAction p a → IsAction p b → (a.agent < b.agent) ⊎ ((a.agent ≡ b.agent) × (a.number < b.number)) → first_await p a + length (awaits_of p a.agent a.number) ≤ first_await p b
  before a b k m (inl l) = omega (arith, agent_end a k, totals_rise p (a.agent + 1) b.agent (omega arith))
  before a b k m (inr (e, l)) =
      let same : first_await p (record { agent = a.agent; number = b.number }) ≡ first_await p b = (λ t. first_await p (record { agent = e t; number = b.number })) in
      omega (arith, before_with p a.agent a.number k.first, before_rises p a.agent a.number (b.number - 1) (omega arith), same)

  -- no two awaits stand at one place
  pub flag_other : (b a : ActionId) → IsAction p b → IsAction p a → (j k : ℕ) → j < length (awaits_of p b.agent b.number) → k < length (awaits_of p a.agent a.number) → ((b ≡ a) × (j ≡ k)) ⊎ (first_await p b + j ≢ first_await p a + k)
  flag_other b a kb ka j k l m = elim (cases_order b.agent a.agent) [
    | inr (inl less) ↦ (let s = before b a kb ka (inl less) in inr (λ e. omega (arith, s, e, l)))
    | inr (inr more) ↦ (let s = before a b ka kb (inl more) in inr (λ e. omega (arith, s, e, m)))
    | inl same ↦ elim (cases_order b.number a.number) [
      | inr (inl less) ↦ (let s = before b a kb ka (inr (same, less)) in inr (λ e. omega (arith, s, e, l)))
      | inr (inr more) ↦ (let s = before a b ka kb (inr (sym same, more)) in inr (λ e. omega (arith, s, e, m)))
      | inl f ↦
          let is : b ≡ a = (λ t. record { agent = same t; number = f t }) in
          elim (cases_eq j k) [ inl e ↦ inl (is, e) | inr ne ↦ inr (λ e. ne (omega (arith, e, ap (first_await p) is))) ]
    ]
  ]

-- ---- flags, one after another

module _ (p : Program) (Open Next : ActionId → ℕ → Await → Type 0) where
  -- fewer are left
  pub known_on : (m : ImpliedAwaits) → ((a : ActionId) → IsAction p a → (k : ℕ) (w : Await) → slice_get (awaits_of p a.agent a.number) k ≡ Some w → Open a k w → Next a k w) → AreFlagsBut p Open m → AreFlagsBut p Next m
  known_on m on h = record {
    places = h.places;
    all = h.all;
    known = λ a is k w at. elim (h.known a is k w at) [ inl left ↦ inl (on a is k w at left.0, left.1) | inr known ↦ inr known ];
  }

  -- a flag is set
  pub known_put : (a : ActionId) → IsAction p a → (k : ℕ) (w : Await) → slice_get (awaits_of p a.agent a.number) k ≡ Some w → (old new : ImpliedAwaits) (flag : Bool) → new.places ≡ old.places → flags_of new ≡ set (flags_of old) (first_await p a + k) flag
      → ((b : ActionId) (j : ℕ) (v : Await) → slice_get (awaits_of p b.agent b.number) j ≡ Some v → first_await p b + j ≢ first_await p a + k → Open b j v → Next b j v)
      → (Next a k w × (flag ≡ true → IsImplied p a w)) ⊎ IsImpliedFlag p a w flag → AreFlagsBut p Open old → AreFlagsBut p Next new
  known_put a is k w at old new flag places put on here h = record {
    places = rw places h.places;
    all = ap (λ (xs : List Bool). length xs) put ∙ length-set (flags_of old) (first_await p a + k) flag ∙ h.all;
    known = λ b kb j v there. elim (flag_other p b a kb is j k (slice_get_within _ j v there) l) [
      | inl (e, f) ↦
          let same : v ≡ w = same_Some v w (sym there ∙ ap (slice_get (awaits_of p b.agent b.number)) f ∙ ap (λ (x : ActionId). slice_get (awaits_of p x.agent x.number) k) e ∙ at) in
          let read : get_or (flags_of new) (first_await p b + j) false ≡ flag =
          ap (λ (x : ℕ). get_or (flags_of new) x false) (ap (λ (x : ActionId). first_await p x + j) e ∙ ap (λ (x : ℕ). first_await p a + x) f)
          ∙ ap (λ (xs : List Bool). get_or xs (first_await p a + k) false) put ∙ get_or-set_same (flags_of old) (first_await p a + k) flag false (omega (arith, l, flag_within p a is, h.all)) in
          rw read (rw same (rw e (rw f here)))
      | inr ne ↦
          let read : get_or (flags_of new) (first_await p b + j) false ≡ get_or (flags_of old) (first_await p b + j) false =
          ap (λ (xs : List Bool). get_or xs (first_await p b + j) false) put ∙ get_or-set_other (flags_of old) (first_await p a + k) (first_await p b + j) flag false ne in
          rw read (elim (h.known b kb j v there) [ inl left ↦ inl (on b j v there ne left.0, left.1) | inr known ↦ inr known ])
    ];
  }
    where
      l : k < length (awaits_of p a.agent a.number)
      l = slice_get_within (awaits_of p a.agent a.number) k w at

-- ---- an await is implied if its count is no more than that of all that the action needs beside it

-- an await of an action is implied if what it awaits is reached through the action before, or through another await
module _ (p : Program) (range : AreInRange p) (a : ActionId) (w : Await) (known : Contains (awaits_of p a.agent a.number) w) (rising : AreAwaits (length p) a.agent (awaits_of p a.agent a.number)) where
  pub implied_by : 1 ≤ a.number → ByBeforeOr (OfOthers w.agent (length (awaits_of p a.agent a.number))) p (awaited w) a → IsImplied p a w
  implied_by some (inl r) =
      let next : a.number ≡ a.number - 1 + 1 = omega arith in
      (action_before a, (λ e. (range a.agent a.number w known).other (sym (ap (λ (x : ActionId). x.agent) e))), inl (refl, next, (Reaches-last p (awaited w) (action_before a) r).first), r)
  implied_by some (inr by) = (
    awaited by.await,
    (λ e. by.this.1 (ap (λ (x : ActionId). x.agent) e)),
    inr (by.place, by.this.0, get_or_from_slice_get (awaits_of p a.agent a.number) by.place by.await by.await by.at),
    by.reaches,
  )

  pub implied_back : IsImplied p a w → ByBeforeOr (OfOthers w.agent (length (awaits_of p a.agent a.number))) p (awaited w) a
  implied_back (x, apart, inl (same, number, some), r) =
      inl (subst (Reaches p (awaited w)) (λ t. record { agent = sym same t; number = (let e : x.number ≡ a.number - 1 = omega arith in e) t }) r)
  implied_back (x, apart, inr (m, l, e), r) =
      let v : Await = record { agent = x.agent; count = x.number } in
      let at : slice_get (awaits_of p a.agent a.number) m ≡ Some v = slice_get-get_or (awaits_of p a.agent a.number) m v l ∙ ap Some e in
      let there : slice_get (awaits_of p a.agent a.number) known.0 ≡ Some w = slice_get-get_or (awaits_of p a.agent a.number) known.0 w known.1 ∙ ap Some known.2 in
      let other : v.agent ≢ w.agent = elim (cases_eq m known.0) [
        | inl same ↦ absurd (apart (ap awaited (same_Some v w (sym at ∙ ap (slice_get (awaits_of p a.agent a.number)) same ∙ there))))
        | inr ne ↦ other_agent (awaits_of p a.agent a.number) rising.rising m known.0 v w at there ne
      ] in
      inr (record { place = m; await = v; this = (l, other); at = at; reaches = r })

  pub flagged : (n : ℕ) → IsJoined (OfOthers w.agent (length (awaits_of p a.agent a.number))) p a w.agent n → 1 ≤ a.number → IsImpliedFlag p a w (nat_le w.count n)
  flagged n h some = (
    (λ e. implied_by some ((h w.count).1 ((range a.agent a.number w known).first, leb-true w.count n e))),
    (λ s. le-leb w.count n ((h w.count).0 (implied_back s)).1),
  )
