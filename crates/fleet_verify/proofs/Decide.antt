-- Whether a chain leads from one action to another can be computed if there is a numbering.
use Rattle.fleet_verify.proofs.Words.{◌≡◌, ℕ, zero, suc, ◌-◌, ◌<◌, ◌≤◌, List, [], ◌∷◌, length, refl, sym, ap, subst, arith, inl, inr, Contains, ◌⊎◌, cases_lt, cases_eq, Await, ActionId, Program, moves, awaits_of, IsAction, DirectlyNeeds, ChainFrom, Reaches, IsNumbering, awaited, chain_last, Reaches-need, Reaches-trans, LastStep, chain_ends_by_step}
use Rattle.fleet_verify.proofs.Members.{same_action, contains_head, contains_later, contains_none, contains_cases}

pub IsAction-dec : (p : Program) (a : ActionId) → Dec (IsAction p a)
IsAction-dec p a =
    elim (cases_lt a.agent (length p)) [
      | inr l ↦ no (λ h. let g : a.agent < length p = h.agent in omega arith)
      | inl l ↦ (elim (cases_lt a.number 1) [
        | inl g ↦ no (λ h. let f : 1 ≤ a.number = h.first in omega arith)
        | inr g ↦ (elim (cases_lt (moves p a.agent) a.number) [
          | inl k ↦ no (λ h. let f : a.number ≤ moves p a.agent = h.last in omega arith)
          | inr k ↦ yes (record { agent = l; first = g; last = k })
        ])
      ])
    ]

pub action-dec : (a b : ActionId) → Dec (a ≡ b)
action-dec a b =
    elim (cases_eq a.agent b.agent) [
      | inr n ↦ no (λ e. n (ap (λ x. x.agent) e))
      | inl e ↦ (elim (cases_eq a.number b.number) [
        | inr n ↦ no (λ g. n (ap (λ x. x.number) g))
        | inl g ↦ yes (same_action a b e g)
      ])
    ]

-- some element of the list is so
pub some-dec : {X : Type 0} (P : X → Type 0) (xs : List X) → ((x : X) → Contains xs x → Dec (P x)) → Dec ((x : X) × Contains xs x × P x)
some-dec P [] h = no (λ (x, c, q). contains_none x c)
some-dec P (y ∷ ys) h =
    elim (h y (contains_head y ys)) [
      | yes q ↦ yes (y, contains_head y ys, q)
      | no n ↦ (elim (some-dec P ys (λ x c. h x (contains_later y ys x c))) [
        | yes r ↦ yes (r.0, contains_later y ys r.0 r.1, r.2)
        | no m ↦ no (λ (x, c, q). elim (contains_cases y ys x c) [ inl e ↦ n (subst P (sym e) q) | inr d ↦ m (x, d, q) ])
      ])
    ]

abbrev pub before_in : ActionId → ActionId
before_in b = record { agent = b.agent; number = b.number - 1 }

try_at : (p : Program) (a b : ActionId) → ((x : ActionId) → IsAction p x → DirectlyNeeds p b x → Dec (Reaches p a x)) → (x : ActionId) → (IsAction p x → DirectlyNeeds p b x) → Dec (Reaches p a x)
try_at p a b try x n =
    elim (IsAction-dec p x) [
      | yes k ↦ try x k (n k)
      | no m ↦ no (λ (cs, r). m (chain_last p a cs x r))
    ]

pub needs_before : (p : Program) (b : ActionId) → IsAction p (before_in b) → DirectlyNeeds p b (before_in b)
needs_before p b k = let f : 1 ≤ b.number - 1 = k.first in inl (refl, omega arith, f)

-- no chain leads to an action that is another one if none leads to what it directly needs
none_leads : (p : Program) (a b : ActionId) → (a ≡ b → ⊥) → (Reaches p a (before_in b) → ⊥) → ((w : Await) × Contains (awaits_of p b.agent b.number) w × Reaches p a (awaited w) → ⊥) → (cs : List ActionId) → ChainFrom p a cs b → ⊥
none_leads p a b apart own other cs r = go (chain_ends_by_step p a cs b r)
  where
    split : (l : LastStep p a b) → DirectlyNeeds p b l.before → ⊥
    split l (inl (e, n, f)) = own (subst (Reaches p a) (same_action l.before (before_in b) (sym e) (omega arith)) l.reaches)
    split l (inr c) = other (record { agent = l.before.agent; count = l.before.number }, c, l.reaches)

    go : (a ≡ b) ⊎ LastStep p a b → ⊥
    go (inl e) = apart e
    go (inr l) = split l l.needs

-- whether a chain leads to an action can be computed if it can for all that it directly needs
step-dec : (p : Program) (a b : ActionId) → IsAction p b → ((x : ActionId) → IsAction p x → DirectlyNeeds p b x → Dec (Reaches p a x)) → Dec (Reaches p a b)
step-dec p a b h try =
    elim (action-dec a b) [
      | yes e ↦ yes ([], (subst (IsAction p) (sym e) h, e))
      | no apart ↦ (elim (try_at p a b try (before_in b) (needs_before p b)) [
        | yes r ↦ yes (Reaches-trans p a (before_in b) b r (Reaches-need p (before_in b) b (chain_last p a r.0 (before_in b) r.1) h (needs_before p b (chain_last p a r.0 (before_in b) r.1))))
        | no own ↦ (elim (some-dec (λ w. Reaches p a (awaited w)) (awaits_of p b.agent b.number) (λ w c. try_at p a b try (awaited w) (λ k. inr c))) [
          | yes q ↦ yes (Reaches-trans p a (awaited q.0) b q.2 (Reaches-need p (awaited q.0) b (chain_last p a q.2.0 (awaited q.0) q.2.1) h (inr q.1)))
          | no other ↦ no (λ (cs, r). none_leads p a b apart own other cs r)
        ])
      ])
    ]

fuel-dec : (p : Program) (number : ActionId → ℕ) → IsNumbering p number → (fuel : ℕ) (a b : ActionId) → IsAction p b → number b ≤ fuel → Dec (Reaches p a b)
fuel-dec p number s zero a b h l = absurd (let f : 1 ≤ number b = s.positive b h in omega arith)
fuel-dec p number s (suc fuel) a b h l =
    step-dec p a b h (λ x k n. fuel-dec p number s fuel a x k (let d : number x < number b = s.rising b x h k n in omega arith))

pub Reaches-dec : (p : Program) (number : ActionId → ℕ) → IsNumbering p number → (a b : ActionId) → Dec (Reaches p a b)
Reaches-dec p number s a b =
    elim (IsAction-dec p b) [
      | yes h ↦ fuel-dec p number s (number b) a b h (omega arith)
      | no m ↦ no (λ (cs, r). m (chain_last p a cs b r))
    ]
