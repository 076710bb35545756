-- The column of an action is made of those of the actions that it directly needs.
use Rattle.fleet_needs.proofs.Words.{◌≡◌, ◌≢◌, ℕ, zero, suc, ◌+◌, ◌-◌, ◌<◌, ◌≤◌, length, max, refl, sym, ap, subst, ◌∙◌, arith, inl, inr, ◌⊎◌, Contains, slice_get, Some, cases_lt, cases_eq, slice_get-get_or, slice_get_within, get_or_from_slice_get, same_Some, ActionId, Await, Program, moves, awaits_of, AreInRange, IsAction, Reaches, awaited, IsImplied, AddsNone, AreQuiet, IsColumn, IsMost, action_before, ByBeforeOr, ByOneOf, OfFirst, OfOthers, OfOwn, OfThese, own_reach, chain_ends_by_step, Reaches-trans, Reaches-first, Reaches-last, Reaches-need}

abbrev act : ℕ → ℕ → ActionId
act j c = record { agent = j; number = c }

pub same_action : (x y : ActionId) → x.agent ≡ y.agent → x.number ≡ y.number → x ≡ y
same_action x y e g = λ t. record { agent = e t; number = g t }

-- before its first action nothing reaches an agent
pub column_none : (p : Program) (i j : ℕ) → IsColumn p (record { agent = i; number = 0 }) j 0
column_none p i j c = (
  (λ r. absurd (let f = (Reaches-last p (act j c) (act i 0) r).first in omega arith)),
  (λ b. absurd (let f : 1 ≤ c = b.0 in let l : c ≤ 0 = b.1 in omega arith)),
)

-- ---- joined awaits

-- an await that gives it, if it is also one of those
pub one_of : (S T : ℕ → Await → Type 0) (p : Program) (x a : ActionId) → (by : ByOneOf S p x a) → T by.place by.await → ByOneOf T p x a
one_of S T p x a by this = record { place = by.place; await = by.await; this = this; at = by.at; reaches = by.reaches }

-- what is so by the first k of these awaits, or else
module _ (p : Program) (a : ActionId) (j : ℕ) (Else : ℕ → Type 0) (These : Await → Type 0) where
  abbrev pub BySome : ℕ → ℕ → Type 0
  BySome k c = Else c ⊎ ByOneOf (OfThese These k) p (act j c) a

  pub some_first : (n : ℕ) → IsMost Else n → IsMost (BySome 0) n
  some_first n h c = (
    (λ s. elim s [ inl r ↦ (h c).0 r | inr by ↦ absurd (let l : by.place < 0 = by.this.0 in omega arith) ]),
    (λ b. inl ((h c).1 b)),
  )

  module _ (k : ℕ) (w : Await) (at : slice_get (awaits_of p a.agent a.number) k ≡ Some w) where
    some_still : (c : ℕ) → BySome k c → BySome (k + 1) c
    some_still c (inl r) = inl r
    some_still c (inr by) = inr (one_of (OfThese These k) (OfThese These (k + 1)) p (act j c) a by ((let l : by.place < k = by.this.0 in omega arith), by.this.1))

    some_back : (c : ℕ) → BySome (k + 1) c → BySome k c ⊎ (These w × Reaches p (act j c) (awaited w))
    some_back c (inl r) = inl (inl r)
    some_back c (inr by) = elim (cases_lt by.place k) [
      | inl less ↦ inl (inr (one_of (OfThese These (k + 1)) (OfThese These k) p (act j c) a by (less, by.this.1)))
      | inr more ↦
          let e : by.place ≡ k = (let l : by.place < k + 1 = by.this.0 in omega arith) in
          let same : by.await ≡ w = same_Some _ _ (sym by.at ∙ ap (slice_get (awaits_of p a.agent a.number)) e ∙ at) in
          inr (subst These same by.this.1, subst (λ (v : Await). Reaches p (act j c) (awaited v)) same by.reaches)
    ]

    -- one await more that is one of these
    pub some_more : (n u : ℕ) → These w → IsColumn p (awaited w) j u → IsMost (BySome k) n → IsMost (BySome (k + 1)) (max n u)
    some_more n u this col h c = (
      (λ s. elim (some_back c s) [
        | inl was ↦ (let b = (h c).0 was in (b.0, (let l : c ≤ n = b.1 in omega arith)))
        | inr by ↦ (let b = (col c).0 by.1 in (b.0, (let l : c ≤ u = b.1 in omega arith)))
      ]),
      (λ b. elim (cases_lt n c) [
        | inr le ↦ some_still c ((h c).1 (b.0, le))
        | inl lt ↦ inr (record { place = k; await = w; this = (omega arith, this); at = at; reaches = (col c).1 (b.0, (let l : c ≤ max n u = b.1 in omega arith)) })
      ]),
    )

    -- .. or is not
    pub some_same : (n : ℕ) → (These w → ⊥) → IsMost (BySome k) n → IsMost (BySome (k + 1)) n
    some_same n none h c = (
      (λ s. elim (some_back c s) [ inl was ↦ (h c).0 was | inr by ↦ absurd (none by.0) ]),
      (λ b. some_still c ((h c).1 b)),
    )

-- ---- the last step of a chain

-- from another agent an action is reached through the action before or through one of its awaits
pub step_back : (p : Program) (x a : ActionId) → x.agent ≢ a.agent → Reaches p x a → ByBeforeOr (OfFirst (length (awaits_of p a.agent a.number))) p x a
step_back p x a apart (cs, h) = elim (chain_ends_by_step p x cs a h) [
  | inl e ↦ absurd (apart (ap (λ (y : ActionId). y.agent) e))
  | inr l ↦ elim l.needs [
    | inl (same, number, some) ↦ inl (subst (Reaches p x) (same_action l.before (action_before a) (sym same) (omega arith)) l.reaches)
    | inr w ↦ inr (record { place = w.0; await = record { agent = l.before.agent; count = l.before.number }; this = w.1; at = slice_get-get_or _ _ _ w.1 ∙ ap Some w.2; reaches = l.reaches })
  ]
]

-- .. and so it is
pub step_on : (p : Program) (x a : ActionId) → IsAction p a → ByBeforeOr (OfFirst (length (awaits_of p a.agent a.number))) p x a → Reaches p x a
step_on p x a is (inl r) =
    let m = Reaches-last p x (action_before a) r in
    let next : a.number ≡ a.number - 1 + 1 = (let some : 1 ≤ a.number = is.first in omega arith) in
    Reaches-trans p x (action_before a) a r (Reaches-need p (action_before a) a m is (inl (refl, next, m.first)))
step_on p x a is (inr r) =
    let m = Reaches-last p x (awaited r.await) r.reaches in
    let known : Contains (awaits_of p a.agent a.number) r.await = (r.place, r.this, get_or_from_slice_get (awaits_of p a.agent a.number) r.place r.await r.await r.at) in
    Reaches-trans p x (awaited r.await) a r.reaches (Reaches-need p (awaited r.await) a m is (inr known))

-- n is the greatest number of an action of agent j that reaches the action before, or one of the awaits of others, or
-- one of the first k of those of agent j
abbrev pub IsOwnTo : Program → ActionId → ℕ → ℕ → ℕ → Type 0
IsOwnTo p a j k n = IsMost (BySome p a j (λ c. ByBeforeOr (OfOthers j (length (awaits_of p a.agent a.number))) p (act j c) a) (λ w. w.agent ≡ j) k) n

-- with all of them it is the column
pub part_all : (p : Program) (a : ActionId) (j n : ℕ) → IsAction p a → j ≢ a.agent → IsOwnTo p a j (length (awaits_of p a.agent a.number)) n → IsColumn p a j n
part_all p a j n is other h c = (
  (λ r. (h c).0 (elim (step_back p (act j c) a other r) [
    | inl own ↦ inl (inl own)
    | inr by ↦ elim (cases_eq by.await.agent j) [
      | inl e ↦ inr (one_of (OfFirst all) (OfOwn j all) p (act j c) a by (by.this, e))
      | inr ne ↦ inl (inr (one_of (OfFirst all) (OfOthers j all) p (act j c) a by (by.this, ne)))
    ]
  ])),
  (λ b. step_on p (act j c) a is (elim ((h c).1 b) [
    | inr by ↦ inr (one_of (OfOwn j all) (OfFirst all) p (act j c) a by by.this.0)
    | inl else ↦ elim else [ inl own ↦ inl own | inr by ↦ inr (one_of (OfOthers j all) (OfFirst all) p (act j c) a by by.this.0) ]
  ])),
)
  where
    all : ℕ
    all = length (awaits_of p a.agent a.number)

-- and for its own, whose later actions do not reach it
pub own_column : (p : Program) (i n : ℕ) → IsAction p (record { agent = i; number = n }) → ((c : ℕ) → Reaches p (record { agent = i; number = c }) (record { agent = i; number = n }) → c ≤ n)
    → IsColumn p (record { agent = i; number = n }) i n
own_column p i n k later c = (
  (λ r. ((Reaches-first p (act i c) (act i n) r).first, later c r)),
  (λ b. own_reach p i c n k.agent b.0 b.1 k.last),
)

-- ---- actions that add no chain

-- if all that it awaits is needed by the action before, too
pub adds_none : (p : Program) (i n : ℕ) → ((w : Await) → Contains (awaits_of p i n) w → Reaches p (awaited w) (record { agent = i; number = n - 1 })) → AddsNone p i n
adds_none p i n awaits j c ne r = elim (step_back p (act j c) (act i n) ne r) [
  | inl own ↦ own
  | inr by ↦ Reaches-trans p (act j c) (awaited by.await) (act i (n - 1)) by.reaches (awaits by.await (by.place, by.this, get_or_from_slice_get (awaits_of p i n) by.place by.await by.await by.at))
]

-- if it awaits nothing
pub adds_none_if_quiet : (p : Program) (i n : ℕ) → length (awaits_of p i n) ≡ 0 → AddsNone p i n
adds_none_if_quiet p i n none = adds_none p i n (λ w at. absurd (let l : at.0 < length (awaits_of p i n) = at.1 in omega (arith, l, none)))

-- if it has one await, which others imply: only the action before can do so
pub adds_none_if_implied : (p : Program) (a : ActionId) (w : Await) → length (awaits_of p a.agent a.number) ≡ 1 → slice_get (awaits_of p a.agent a.number) 0 ≡ Some w → IsImplied p a w → AddsNone p a.agent a.number
adds_none_if_implied p a w one at (b, apart, needs, reaches) = adds_none p a.agent a.number (λ v c. subst (λ (x : Await). Reaches p (awaited x) (action_before a)) (sym (only v c)) before)
  where
    only : (v : Await) → Contains (awaits_of p a.agent a.number) v → v ≡ w
    only v (k, l, e) =
        let first : k ≡ 0 = omega (arith, l, one) in
        same_Some v w (sym (slice_get-get_or (awaits_of p a.agent a.number) k v l ∙ ap Some e) ∙ ap (slice_get (awaits_of p a.agent a.number)) first ∙ at)

    before : Reaches p (awaited w) (action_before a)
    before = elim needs [
      | inl own ↦ subst (Reaches p (awaited w)) (same_action b (action_before a) (sym own.0) (omega (arith, own.1))) reaches
      | inr await ↦ absurd (apart (ap awaited (only (record { agent = b.agent; count = b.number }) await)))
    ]

-- the counts of other agents stay where none is added
pub column_stays : (p : Program) (i b j v : ℕ) → IsAction p (record { agent = i; number = b + 1 }) → j ≢ i → AddsNone p i (b + 1) → IsColumn p (record { agent = i; number = b }) j v → IsColumn p (record { agent = i; number = b + 1 }) j v
column_stays p i b j v is ne none h c = (
  (λ r. (h c).0 (subst (λ (n : ℕ). Reaches p (act j c) (act i n)) less (none j c ne r))),
  (λ l.
      let r = (h c).1 l in
      let m = Reaches-last p (act j c) (act i b) r in
      Reaches-trans p (act j c) (act i b) (act i (b + 1)) r (Reaches-need p (act i b) (act i (b + 1)) m is (inl (refl, refl, m.first)))),
)
  where
    less : b + 1 - 1 ≡ b
    less = omega arith

-- where none is added, what holds of an action's chains holds of later ones
pub quiet_on : (p : Program) (i : ℕ) (P : ℕ → Type 0) → ((n : ℕ) → n + 1 ≤ moves p i → AddsNone p i (n + 1) → P n → P (n + 1)) → (q n : ℕ) → q ≤ n → n ≤ moves p i → AreQuiet p i q n → P q → P n
quiet_on p i P step q zero upto last quiet h = let e : q ≡ zero = omega arith in subst P e h
quiet_on p i P step q (suc n) upto last quiet h = elim (cases_lt n q) [
  | inl past ↦ (let e : q ≡ suc n = omega arith in subst P e h)
  | inr le ↦ (let e : n + 1 ≡ suc n = omega arith in subst P e (step n (omega arith) (quiet (n + 1) (omega arith) (omega arith)) (quiet_on p i P step q n le (omega arith) (λ m from to. quiet m from (omega arith)) h)))
]

-- an awaited action is one of the program
pub awaited_action : (p : Program) → AreInRange p → (i n k : ℕ) (w : Await) → slice_get (awaits_of p i n) k ≡ Some w → IsAction p (awaited w)
awaited_action p range i n k w e =
    let known = range i n w (k, slice_get_within (awaits_of p i n) k w e, get_or_from_slice_get (awaits_of p i n) k w w e) in
    record { agent = known.agent; first = known.first; last = known.last }

-- ---- chains found from their ends

pub own_first : (p : Program) (first last : ActionId) → 1 ≤ first.number → IsAction p last → last.agent ≡ first.agent → first.number ≤ last.number → Reaches p first last
own_first p first last some k same l =
    let e : record { agent = last.agent; number = first.number } ≡ first = (λ t. record { agent = same t; number = first.number }) in
    subst (λ (x : ActionId). Reaches p x last) e (own_reach p last.agent first.number last.number k.agent some l k.last)
