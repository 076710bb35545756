-- What is reached, and what is not, by the levels of actions and by what they directly need.
use Rattle.fleet_needs.proofs.Words.{◌≡◌, ◌≢◌, ℕ, ◌+◌, ◌-◌, ◌<◌, ◌≤◌, Bool, true, false, List, length, get_or, refl, sym, ap, subst, ◌∙◌, arith, inl, inr, ◌⊎◌, Contains, slice_get, Some, None, Option, unwrap_or, cases_lt, cases_eq, leb, le-leb, leb-true, false≢true, slice_get_within, get_or_from_slice_get, same_Some, ActionId, Await, Program, awaits_before, awaits_of, moves, AreInRange, IsWellFormed, IsAction, Reaches, IsNumbering, awaited, chain_ends_by_step, Reaches-rises, Reaches-last, first_await, IsImplied, IsImpliedFlag, IsUnsettled, AreSettledBy, Vec, Global, ImpliedAwaits, ReachesNeed, IsUpTo, action_before, ByBeforeOr, OfFirst, OfOthers}
use Rattle.fleet_needs.specs.Settled.{HasOpenNeed, IsKnown, IsOpenTo}
use Rattle.fleet_needs.proofs.{AwaitOrder.other_agent, AwaitOrder.known_on, AwaitOrder.implied_by, AwaitOrder.implied_back, Joining.one_of, Joining.own_first, Joining.awaited_action, Joining.step_back, Joining.step_on, JoinLaws.before_with}

-- the await of an action
abbrev pub await_of : ActionId → Await
await_of a = record { agent = a.agent; count = a.number }

-- ---- by numbers that rise

module _ (p : Program) (number : ActionId → ℕ) (rising : IsNumbering p number) where
  -- what another action reaches has a greater number
  rises : (a b : ActionId) → a ≢ b → Reaches p a b → number a < number b
  rises a b apart (cs, h) = elim (chain_ends_by_step p a cs b h) [
    | inl e ↦ absurd (apart e)
    | inr l ↦
        let up : number a ≤ number l.before = Reaches-rises p number rising a l.before l.reaches in
        let more : number l.before < number b = rising.rising b l.before (Reaches-last p a b (cs, h)) (Reaches-last p a l.before l.reaches) l.needs in
        omega arith
  ]

  pub none_if_low : (a b : ActionId) → (b.agent ≡ a.agent → ⊥) → number b ≤ number a → Reaches p a b → ⊥
  none_if_low a b apart low r = let up : number a < number b = rises a b (λ e. apart (ap (λ (x : ActionId). x.agent) (sym e))) r in omega arith

  -- an agent's later action does not reach its earlier one
  pub own_only : (a b : ActionId) → IsAction p a → IsAction p b → b.agent ≡ a.agent → Reaches p a b → a.number ≤ b.number
  own_only a b k m same r = elim (cases_lt b.number a.number) [
    | inr le ↦ le
    | inl lt ↦
        let ne : a ≢ b = (λ e. omega (arith, lt, ap (λ (x : ActionId). x.number) e)) in
        absurd (omega (arith, rises a b ne r, rises b a (λ e. ne (sym e)) (own_first p b a m.first k (sym same) (omega arith))))
  ]

  -- which by their numbers is known
  pub own_known : (a b : ActionId) → IsAction p a → IsAction p b → b.agent ≡ a.agent → (x : Bool) → leb a.number b.number ≡ x → IsKnown (Reaches p a b) (IsOpenTo number a b) (Some x)
  own_known a b k m same true is = own_first p a b k.first m same (leb-true a.number b.number is)
  own_known a b k m same false is = λ r. grind (arith, is, le-leb a.number b.number (own_only a b k m same r))

-- ---- by what the last action directly needs

-- no action is reached that one of the first n awaits names, but for this one
abbrev pub NoneIsReached : Program → ActionId → ActionId → ℕ → ℕ → Type 0
NoneIsReached p first a but n = (m : ℕ) (w : Await) → m < n → m ≢ but → slice_get (awaits_of p a.agent a.number) m ≡ Some w → Reaches p first (awaited w) → ⊥

-- one more is not
pub none_next : (p : Program) (first a : ActionId) (but n : ℕ) (v : Await) → slice_get (awaits_of p a.agent a.number) n ≡ Some v → (n ≢ but → Reaches p first (awaited v) → ⊥) → NoneIsReached p first a but n → NoneIsReached p first a but (n + 1)
none_next p first a but n v at none before m w l other there r = elim (cases_lt m n) [
  | inl less ↦ before m w less other there r
  | inr more ↦
      let e : m ≡ n = omega (arith, l, more) in
      none (λ f. other (e ∙ f)) (subst (λ (x : Await). Reaches p first (awaited x)) (same_Some w v (sym there ∙ ap (slice_get (awaits_of p a.agent a.number)) e ∙ at)) r)
]

-- nothing reaches the action before the first one
pub none_before : (p : Program) (x a : ActionId) → a.number ≤ 1 → Reaches p x (action_before a) → ⊥
none_before p x a first r = let f : 1 ≤ a.number - 1 = (Reaches-last p x (action_before a) r).first in omega arith

-- if none of the awaits and not the action before is reached, nothing is
pub none_need : (p : Program) (first a : ActionId) (but n : ℕ) → n ≡ length (awaits_of p a.agent a.number) → NoneIsReached p first a but n → (Reaches p first (action_before a) → ⊥) → ReachesNeed p first a but → ⊥
none_need p first a but n all awaits own (inl r) = own r
none_need p first a but n all awaits own (inr by) = awaits by.place by.await (omega (arith, all, slice_get_within (awaits_of p a.agent a.number) by.place by.await by.at)) by.this by.at by.reaches

-- an await but that one gives it
pub need_by : (p : Program) (x a : ActionId) (but k : ℕ) (w : Await) → k ≢ but → slice_get (awaits_of p a.agent a.number) k ≡ Some w → Reaches p x (awaited w) → ReachesNeed p x a but
need_by p x a but k w apart at r = inr (record { place = k; await = w; this = apart; at = at; reaches = r })

-- what one of these awaits gives, one of more gives
by_more : (p : Program) (x a : ActionId) (These More : ℕ → Await → Type 0) → ((k : ℕ) (w : Await) → slice_get (awaits_of p a.agent a.number) k ≡ Some w → These k w → More k w) → ByBeforeOr These p x a → ByBeforeOr More p x a
by_more p x a These More more (inl r) = inl r
by_more p x a These More more (inr by) = inr (one_of These More p x a by (more by.place by.await by.at by.this))

-- what reaches one of those that the action directly needs reaches the action
pub need_on : (p : Program) (x a : ActionId) (but : ℕ) → IsAction p a → ReachesNeed p x a but → Reaches p x a
need_on p x a but is need = step_on p x a is (by_more p x a (λ k w. k ≢ but) (OfFirst (length (awaits_of p a.agent a.number))) (λ k w at apart. slice_get_within (awaits_of p a.agent a.number) k w at) need)

-- .. and the other way round, if no await is left out
pub need_back : (p : Program) (x a : ActionId) (but : ℕ) → (a.agent ≡ x.agent → ⊥) → length (awaits_of p a.agent a.number) ≤ but → Reaches p x a → ReachesNeed p x a but
need_back p x a but other all r = by_more p x a (OfFirst (length (awaits_of p a.agent a.number))) (λ k w. k ≢ but) (λ k w at l e. omega (arith, l, e, all)) (step_back p x a (λ e. other (sym e)) r)

-- what is known of it is known of the action
pub need_known : (p : Program) (level : ActionId → ℕ) (x a : ActionId) (but : ℕ) → IsAction p a → length (awaits_of p a.agent a.number) ≤ but → IsOpenTo level x a
    → (known : Option Bool) → IsKnown (ReachesNeed p x a but) (HasOpenNeed p level x a but) known → IsKnown (Reaches p x a) (IsOpenTo level x a) known
need_known p level x a but act all other None is = other
need_known p level x a but act all other (Some true) is = need_on p x a but act is
need_known p level x a but act all other (Some false) is = λ r. is (need_back p x a but (λ s. other.0 (sym s)) all r)

-- ---- another action that an action directly needs

module _ (p : Program) (formed : IsWellFormed p) (range : AreInRange p) (a : ActionId) (k : ℕ) (w : Await) (at : slice_get (awaits_of p a.agent a.number) k ≡ Some w) where
  abbrev Others : ℕ → Await → Type 0
  Others = OfOthers w.agent (length (awaits_of p a.agent a.number))

  known : Contains (awaits_of p a.agent a.number) w
  known = (k, slice_get_within (awaits_of p a.agent a.number) k w at, get_or_from_slice_get (awaits_of p a.agent a.number) k w w at)

  -- an await is implied if another such action is reached
  pub need_implied : 1 ≤ a.number → ReachesNeed p (awaited w) a k → IsImplied p a w
  need_implied some need = implied_by p range a w known (formed.awaits a.agent a.number) some (by_more p (awaited w) a (λ m v. m ≢ k) Others
      (λ m v there apart. (slice_get_within (awaits_of p a.agent a.number) m v there, other_agent (awaits_of p a.agent a.number) (formed.awaits a.agent a.number).rising m k v w there at apart)) need)

  pub implied_need : IsImplied p a w → ReachesNeed p (awaited w) a k
  implied_need implied = by_more p (awaited w) a Others (λ m v. m ≢ k)
      (λ m v there other same. other.1 (ap (λ (x : Await). x.agent) (same_Some v w (sym there ∙ ap (slice_get (awaits_of p a.agent a.number)) same ∙ at)))) (implied_back p range a w known (formed.awaits a.agent a.number) implied)

-- ---- awaits settled one after another

-- fewer awaits are said to be settled
pub settled_on : (p : Program) (asked : Vec Bool Global) (n many : ℕ) (m : ImpliedAwaits) → many ≤ n → AreSettledBy p asked n m → AreSettledBy p asked many m
settled_on p asked n many m le h = record {
  agents = h.agents;
  settled = known_on p _ _ m (λ a is k w at left. elim left [ inl past ↦ inl (omega (arith, past, le)) | inr set ↦ inr set ]) h.settled;
}

-- after the awaits of an action come those of the next one
pub first_next : (p : Program) (a : ActionId) → 1 ≤ a.number → first_await p (record { agent = a.agent; number = a.number + 1 }) ≡ first_await p a + length (awaits_of p a.agent a.number)
first_next p a some = (let e : a.number + 1 - 1 ≡ a.number = omega arith in omega (arith, before_with p a.agent a.number some, ap (awaits_before p a.agent) e))

-- an await, by what is known of it
pub settled_by : (p : Program) → IsWellFormed p → AreInRange p → (a : ActionId) → 1 ≤ a.number → (k : ℕ) (x : ActionId) → slice_get (awaits_of p a.agent a.number) k ≡ Some (await_of x) → (asked : List Bool) (n : ℕ) (known : Option Bool) → (known ≡ None → get_or asked x.agent false ≡ true)
    → (level : ActionId → ℕ) → IsKnown (ReachesNeed p x a k) (HasOpenNeed p level x a k) known → (IsUnsettled p asked n a k (await_of x) × (unwrap_or known false ≡ true → IsImplied p a (await_of x))) ⊎ IsImpliedFlag p a (await_of x) (unwrap_or known false)
settled_by p formed range a first k x at asked n None left level is = inl (inr (left refl), (λ f. absurd (false≢true f)))
settled_by p formed range a first k x at asked n (Some true) left level is = inr ((λ f. need_implied p formed range a k (await_of x) at first is), (λ i. refl))
settled_by p formed range a first k x at asked n (Some false) left level is = inr ((λ f. absurd (false≢true f)), (λ i. absurd (is (implied_need p formed range a k (await_of x) at i))))

-- all actions that come before those of the next agent
pub upto_next : (p : Program) (i : ℕ) (a : ActionId) → IsAction p a → IsUpTo (i + 1) 0 a → IsUpTo i (moves p i) a
upto_next p i a is (inr (same, none)) = absurd (omega (arith, none, is.first))
upto_next p i a is (inl low) = elim (cases_eq a.agent i) [ inr ne ↦ inl (omega (arith, low, ne)) | inl e ↦ inr (e, subst (λ (j : ℕ). a.number ≤ moves p j) e is.last) ]

-- an action that awaits the first one, or a later one of its agent
pub needed_by : (p : Program) (range : AreInRange p) (first a : ActionId) (k : ℕ) (w : Await) → IsAction p first → IsAction p a → slice_get (awaits_of p a.agent a.number) k ≡ Some w
    → w.agent ≡ first.agent → first.number ≤ w.count → Reaches p first a
needed_by p range first a k w is last at same more =
    need_on p first a (k + 1) last (need_by p first a (k + 1) k w (λ e. omega (arith, e)) at (own_first p first (awaited w) is.first (awaited_action p range a.agent a.number k w at) same more))
