-- Schedules of one program that are found by computation.
use Rattle.std.proofs.Common.{◌≡◌, ℕ, ◌+◌, ◌-◌, ◌<◌, ◌≤◌, Bool, true, false, not, nat_le, ◌&&◌, ◌||◌, List, Option, Some, None, refl, ap, sym, ◌∙◌, subst, arith, inl, inr}
use Rattle.std.specs.List.{list_all, list_any}
use Rattle.std.specs.Option.{option_map_or}
use Rattle.std.specs.Prelude.{IsFalse, ◌≢◌, ◌==◌}
use Rattle.std.proofs.lemmas.Bool.{and_parts, or_cases, and_from, leb-true, leb-false, not-true, eq-eqb, both_ways}
use Rattle.std.proofs.lemmas.Option.{same_Some}
use Rattle.std.proofs.lemmas.List.Sums.{AllPass-from_list_all}
use Rattle.std.proofs.lemmas.List.Elements.{All-contains}
use Rattle.std.proofs.lemmas.List.Folds.{Any-from_list_any}
use Rattle.fleet_model.specs.declared.program.Await.{Await}
use Rattle.fleet_model.specs.declared.program.ActionId.{ActionId}
use Rattle.fleet_model.specs.Program.{Program, awaits_of}
use Rattle.fleet_model.specs.Chain.{IsAction, DirectlyNeeds, awaited}
use Rattle.fleet_model.specs.Schedule.{Schedule, IsBy, HasEndedBy}
use Rattle.fleet_verify.proofs.Members.{same_action}
use Rattle.fleet_verify.proofs.Timed.{needs_unended}
use Rattle.fleet_example.specs.Schedules.{IsSoonest, Stops}
use Rattle.fleet_example.proofs.Computed.{at_all_positions, at_position, is_chain, chain_is}

-- ---- tests of what an action directly needs

abbrev before : ℕ → ℕ → ActionId
before i n = record { agent = i; number = n - 1 }

abbrev all_needs : (ActionId → Bool) → Program → ℕ → ℕ → Bool
all_needs test p i n = (nat_le n 1 || test (before i n)) && list_all (λ w. test (awaited w)) (awaits_of p i n)

abbrev any_need : (ActionId → Bool) → Program → ℕ → ℕ → Bool
any_need test p i n = (not (nat_le n 1) && test (before i n)) || list_any (λ w. test (awaited w)) (awaits_of p i n)

each_need : (test : ActionId → Bool) (p : Program) (a b : ActionId) → all_needs test p a.agent a.number ≡ true → DirectlyNeeds p a b → test b ≡ true
each_need test p a b e (inl h) =
    let parts = and_parts (nat_le a.number 1 || test (before a.agent a.number)) _ e in
    elim (or_cases (nat_le a.number 1) (test (before a.agent a.number)) parts.0) [
      | inl low ↦ absurd (omega (arith, leb-true _ _ low, h.1, h.2))
      | inr passes ↦ subst (λ c. test c ≡ true) (same_action (before a.agent a.number) b h.0 (omega (arith, h.1))) passes
    ]
each_need test p a b e (inr h) =
    let parts = and_parts (nat_le a.number 1 || test (before a.agent a.number)) _ e in
    All-contains (λ (w : Await). test (awaited w) ≡ true) (awaits_of p a.agent a.number) (record { agent = b.agent; count = b.number })
    (AllPass-from_list_all (λ (w : Await). test (awaited w)) (awaits_of p a.agent a.number) parts.1) h

some_need : (test : ActionId → Bool) (p : Program) (a : ActionId) → any_need test p a.agent a.number ≡ true → (b : ActionId) × DirectlyNeeds p a b × (test b ≡ true)
some_need test p a e =
    elim (or_cases (not (nat_le a.number 1) && test (before a.agent a.number)) _ e) [
      | inl own ↦ (
          let parts = and_parts (not (nat_le a.number 1)) (test (before a.agent a.number)) own in
          let more : 1 < a.number = leb-false _ _ (unnot (nat_le a.number 1) parts.0) in
          (before a.agent a.number, inl (refl, omega arith, omega arith), parts.1)
          )
      | inr listed ↦ (
          let r = Any-from_list_any (λ (w : Await). test (awaited w)) (awaits_of p a.agent a.number) listed in
          (awaited r.1, inr (r.0, r.2, r.3), r.4)
          )
    ]
  where
    unnot : (b : Bool) → not b ≡ true → b ≡ false
    unnot true e = absurd cc
    unnot false e = refl

-- ---- the tests of a schedule

abbrev by : Option ℕ → ℕ → Bool
by time x = option_map_or (λ t. nat_le t x) time false

by_is : (time : Option ℕ) (x : ℕ) → by time x ≡ true → IsBy time x
by_is None x e = absurd cc
by_is (Some t) x e = (t, refl, leb-true _ _ e)

-- if it is some time that is passed to the test, the test passes
abbrev if_some : Option ℕ → (ℕ → Bool) → Bool
if_some time test = option_map_or test time true

some_passes : (time : Option ℕ) (test : ℕ → Bool) (t : ℕ) → if_some time test ≡ true → time ≡ Some t → test t ≡ true
some_passes time test t e is = sym (ap (λ o. if_some o test) is) ∙ e

abbrev is_none : Option ℕ → Bool
is_none None = true
is_none (Some t) = false

none_never : (time : Option ℕ) (x : ℕ) → is_none time ≡ true → IsBy time x → ⊥
none_never None x e h = absurd (let f : ⊥ = (let g = h.1 in cc) in f)
none_never (Some t) x e h = absurd cc

-- it begins after what it needs has ended
abbrev needs_end : Program → Schedule → ActionId → Bool
needs_end p s a = if_some (s.begins a) (λ t. all_needs (λ b. by (s.ends b) t) p a.agent a.number)

-- it ends after it has begun
abbrev begins_first : Schedule → ActionId → Bool
begins_first s a = if_some (s.ends a) (λ t. by (s.begins a) t)

-- it takes its cost
abbrev takes : (ActionId → ℕ) → Schedule → ActionId → Bool
takes cost s a = if_some (s.begins a) (λ t. if_some (s.ends a) (λ u. nat_le (t + cost a) u))

-- it ends by its cost after some need
abbrev ends_after : Program → (ActionId → ℕ) → Schedule → ActionId → Bool
ends_after p cost s a = any_need (λ b. option_map_or (λ v. by (s.ends a) (v + cost a)) (s.ends b) false) p a.agent a.number

-- some need of it never ends
abbrev is_stopped : Program → Schedule → ActionId → Bool
is_stopped p s a = any_need (λ b. is_none (s.ends b)) p a.agent a.number

abbrev is_in_time : Program → (ActionId → Bool) → (ActionId → ℕ) → Schedule → ActionId → Bool
is_in_time p stalls cost s a = stalls a || (is_stopped p s a || (by (s.ends a) (cost a) || ends_after p cost s a))

abbrev is_soonest : Program → (ActionId → Bool) → (ActionId → ℕ) → Schedule → ActionId → Bool
is_soonest p stalls cost s a = (needs_end p s a && begins_first s a) && (takes cost s a && is_in_time p stalls cost s a)

abbrev all_soonest : Program → (ActionId → Bool) → (ActionId → ℕ) → Schedule → ℕ → ℕ → Bool
all_soonest p stalls cost s i n = nat_le n 0 || is_soonest p stalls cost s (record { agent = i; number = n })

pub soonest_by : (p : Program) (stalls : ActionId → Bool) (cost : ActionId → ℕ) (s : Schedule) → at_all_positions (all_soonest p stalls cost s) p ≡ true → IsSoonest p stalls cost s
soonest_by p stalls cost s e = record {
  schedule = record {
    needs_end = λ a b t act need is. by_is (s.ends b) t (each_need (λ b. by (s.ends b) t) p a b (some_passes (s.begins a) (λ t. all_needs (λ b. by (s.ends b) t) p a.agent a.number) t (front a act).0 is) need);
    begins_first = λ a t act is. by_is (s.begins a) t (some_passes (s.ends a) (λ t. by (s.begins a) t) t (front a act).1 is);
  };
  in_time = λ a t act goes needs. in_time a t act goes needs;
  at_least = λ a t u act is end. leb-true (t + cost a) u (some_passes (s.ends a) (λ u. nat_le (t + cost a) u) u (some_passes (s.begins a) (λ t. if_some (s.ends a) (λ u. nat_le (t + cost a) u)) t (back a act).0 is) end);
}
  where
    at : (a : ActionId) → IsAction p a → is_soonest p stalls cost s a ≡ true
    at a act =
        elim (or_cases (nat_le a.number 0) (is_soonest p stalls cost s a) (at_position (all_soonest p stalls cost s) p e a.agent a.number act.agent act.last)) [
          | inl none ↦ absurd (omega (arith, leb-true a.number 0 none, act.first))
          | inr passes ↦ passes
        ]

    front : (a : ActionId) → IsAction p a → (needs_end p s a ≡ true) × (begins_first s a ≡ true)
    front a act = and_parts (needs_end p s a) (begins_first s a) (and_parts (needs_end p s a && begins_first s a) (takes cost s a && is_in_time p stalls cost s a) (at a act)).0

    back : (a : ActionId) → IsAction p a → (takes cost s a ≡ true) × (is_in_time p stalls cost s a ≡ true)
    back a act = and_parts (takes cost s a) (is_in_time p stalls cost s a) (and_parts (needs_end p s a && begins_first s a) (takes cost s a && is_in_time p stalls cost s a) (at a act)).1

    later : (a : ActionId) (x y : ℕ) → x ≤ y → IsBy (s.ends a) x → HasEndedBy s y a
    later a x y l h = (h.0, h.1, omega (arith, l, h.2))

    after_need : (a b : ActionId) (o : Option ℕ) (t : ℕ) → s.ends b ≡ o → option_map_or (λ v. by (s.ends a) (v + cost a)) o false ≡ true → HasEndedBy s t b → HasEndedBy s (t + cost a) a
    after_need a b None t is e h = absurd cc
    after_need a b (Some v) t is e h =
        let same : v ≡ h.0 = same_Some v h.0 (sym is ∙ h.1) in
        later a (v + cost a) (t + cost a) (omega (arith, same, h.2)) (by_is (s.ends a) (v + cost a) e)

    in_time : (a : ActionId) (t : ℕ) → IsAction p a → IsFalse (stalls a) → ((b : ActionId) → DirectlyNeeds p a b → HasEndedBy s t b) → HasEndedBy s (t + cost a) a
    in_time a t act goes needs =
        elim (or_cases (stalls a) (is_stopped p s a || (by (s.ends a) (cost a) || ends_after p cost s a)) (back a act).1) [
          | inl stalled ↦ absurd (both_ways (stalls a) goes stalled)
          | inr rest ↦ (elim (or_cases (is_stopped p s a) (by (s.ends a) (cost a) || ends_after p cost s a) rest) [
            | inl unended ↦ (let b = some_need (λ b. is_none (s.ends b)) p a unended in absurd (none_never (s.ends b.0) t b.2 (needs b.0 b.1)))
            | inr ends ↦ (elim (or_cases (by (s.ends a) (cost a)) (ends_after p cost s a) ends) [
              | inl soon ↦ later a (cost a) (t + cost a) (omega arith) (by_is (s.ends a) (cost a) soon)
              | inr after ↦ (let b = some_need (λ b. option_map_or (λ v. by (s.ends a) (v + cost a)) (s.ends b) false) p a after in after_need a b.0 (s.ends b.0) t refl b.2 (needs b.0 b.1))
            ])
          ])
        ]

-- ---- who is stopped

pub stops_by : (p : Program) (a : ActionId) (cs : List ActionId) (b : ActionId) → (is_chain p a cs b && not (a.agent == b.agent && a.number == b.number)) ≡ true → Stops p a b
stops_by p a cs b e s is never t begun = needs_unended p s is t a b (cs, chain_is p a cs b parts.0) apart never begun
  where
    parts : (is_chain p a cs b ≡ true) × (not (a.agent == b.agent && a.number == b.number) ≡ true)
    parts = and_parts (is_chain p a cs b) (not (a.agent == b.agent && a.number == b.number)) e

    apart : a ≢ b
    apart same =
        both_ways (a.agent == b.agent && a.number == b.number) (not-true (a.agent == b.agent && a.number == b.number) parts.1)
        (and_from (a.agent == b.agent) (a.number == b.number) (eq-eqb _ _ (ap (λ (c : ActionId). c.agent) same)) (eq-eqb _ _ (ap (λ (c : ActionId). c.number) same)))
