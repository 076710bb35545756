-- A walk once round a ring.
use Rattle.fleet_plan.proofs.Words.{◌≡◌, ◌≢◌, ℕ, ◌+◌, ◌≤◌, List, [], ◌∷◌, ◌++◌, length, Option, Some, ◌⊎◌, inl, inr, refl, sym, ◌∙◌, subst, arith, AllByRecursion, NamesAgents, ahead_of, Leads, LeadsTo, IsOnRing}
use Rattle.fleet_plan.proofs.RingLaws.{some_is, leads-append, reaches-itself, short_way, all_round}

-- after so many steps ahead from the first agent, of which least is the least so far
pub record IsAround (ahead : List (Option ℕ)) (first agent least steps : ℕ) : Type 0 where
  pub passed : List ℕ
  pub led : Leads ahead first passed agent
  pub least_passed : AllByRecursion (λ m. least ≤ m) passed
  pub least_first : least ≤ first
  pub among : LeadsTo ahead first least
  pub next : ℕ
  pub rest : List ℕ
  pub left : Leads ahead agent (next ∷ rest) first
  pub few : length rest + 1 + steps ≤ length ahead

weaker : (a b : ℕ) (js : List ℕ) → a ≤ b → AllByRecursion (λ m. b ≤ m) js → AllByRecursion (λ m. a ≤ m) js
weaker a b [] l h = tt
weaker a b (j ∷ js) l h = (let g : b ≤ j = h.0 in omega arith, weaker a b js l h.1)

push : (a k : ℕ) (js : List ℕ) → a ≤ k → AllByRecursion (λ m. a ≤ m) js → AllByRecursion (λ m. a ≤ m) (js ++ k ∷ [])
push a k [] l h = (l, tt)
push a k (j ∷ js) l h = (h.0, push a k js l h.1)

pub around-none : (ahead : List (Option ℕ)) (first : ℕ) → NamesAgents ahead → IsOnRing ahead first → IsAround ahead first first first 0
around-none ahead first agents ring =
    let s = short_way ahead agents first ring in
    record { passed = []; led = refl; least_passed = tt; least_first = omega arith; among = reaches-itself ahead first; next = s.0; rest = s.1; left = s.2; few = omega (arith, s.3) }

module _ (ahead : List (Option ℕ)) (first agent least steps : ℕ) (w : IsAround ahead first agent least steps) where
  pub around-back : ahead_of ahead agent ≡ Some first → (j : ℕ) → LeadsTo ahead first j → least ≤ j
  around-back back = all_round ahead (λ m. least ≤ m) first w.passed agent w.led back w.least_first w.least_passed

  pub around-more : (next least' : ℕ) → ahead_of ahead agent ≡ Some next → next ≢ first → least' ≤ least → least' ≤ next → (least' ≡ least) ⊎ (least' ≡ next) → IsAround ahead first next least' (steps + 1)
  around-more next least' e ne below here which = go w.rest w.left.1 w.few
    where
      same : w.next ≡ next
      same = some_is w.next next (ahead_of ahead agent) w.left.0 e

      led : Leads ahead first (w.passed ++ next ∷ []) next
      led = leads-append ahead first w.passed agent (next ∷ []) next w.led (e, refl)

      among : LeadsTo ahead first least'
      among = elim which [
        | inl s ↦ subst (LeadsTo ahead first) (sym s) w.among
        | inr s ↦ subst (LeadsTo ahead first) (sym s) (w.passed ++ next ∷ [], led)
      ]

      go : (rest : List ℕ) → Leads ahead w.next rest first → length rest + 1 + steps ≤ length ahead → IsAround ahead first next least' (steps + 1)
      go [] f l = absurd (ne (sym same ∙ f))
      go (k ∷ rest) f l = record {
        passed = w.passed ++ next ∷ [];
        led = led;
        least_passed = push least' next w.passed here (weaker least' least w.passed below w.least_passed);
        least_first = omega (arith, w.least_first);
        among = among;
        next = k;
        rest = rest;
        left = subst (λ z. Leads ahead z (k ∷ rest) first) same f;
        few = omega arith;
      }
