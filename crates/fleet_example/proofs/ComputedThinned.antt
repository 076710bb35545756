-- Programs without their implied awaits, by computation.
use Rattle.std.proofs.Common.{◌≡◌, ◌≢◌, ℕ, ◌+◌, ◌-◌, ◌≤◌, Bool, ◌&&◌, ◌||◌, ◌==◌, nat_le, not, true, List, [], ◌∷◌, length, map, Option, Some, None, slice_get, option_map, refl, ap, sym, ◌∙◌, subst, arith, inl, inr}
use Rattle.std.specs.Prelude.{Contains, ◌⊎◌}
use Rattle.std.specs.List.{list_all, list_any}
use Rattle.std.specs.Option.{option_map_or}
use Rattle.std.proofs.lemmas.Bool.{and_parts, and_from, or_cases, leb-true, eqb-true, eq-eqb, not-true, both_ways}
use Rattle.std.proofs.lemmas.List.Sums.{AllPass-from_list_all}
use Rattle.std.proofs.lemmas.List.Elements.{All-contains}
use Rattle.std.proofs.lemmas.List.{length-map}
use Rattle.std.proofs.lemmas.Option.{slice_get-map}
use Rattle.std.proofs.lemmas.Map.Views.{Contains-from_any}
use Rattle.fleet_model.specs.declared.geometry.Cell.{Cell}
use Rattle.fleet_model.specs.declared.geometry.Step.{Step}
use Rattle.fleet_model.specs.declared.program.AgentProgram.{AgentProgram}
use Rattle.fleet_model.specs.declared.program.Await.{Await}
use Rattle.fleet_model.specs.declared.program.ActionId.{ActionId}
use Rattle.fleet_model.specs.Program.{Program, origin, awaits_of}
use Rattle.fleet_model.specs.Chain.{DirectlyNeeds, Reaches, IsNumbering, awaited}
use Rattle.fleet_example.proofs.Computed.{at_all_awaits, at_await, weighed, is_numbered, numbered_is, is_same_await, same_await, is_chain, chain_is}
use Rattle.fleet_model.proofs.Chains.{chain_rises}
use Rattle.fleet_verify.proofs.Members.{same_action}
use Rattle.fleet_needs.specs.Implied.{IsImplied}
use Rattle.fleet_verify.specs.Reduced.{DiffersInAwaits, IsThinned}

-- the await is in the list
abbrev is_in : List Await → Await → Bool
is_in ws w = list_any (is_same_await w) ws

in_is : (ws : List Await) (w : Await) → is_in ws w ≡ true → Contains ws w
in_is ws w e = Contains-from_any same_await w ws e

-- b is the awaited action, or has no greater number, so that no chain leads from that to b
abbrev is_low : (ActionId → ℕ) → Await → ActionId → Bool
is_low number w b = (b.agent == w.agent && b.number == w.count) || nat_le (number b) (number (awaited w))

-- so it is with all that action n of agent i directly needs
abbrev is_kept : Program → (ActionId → ℕ) → ℕ → ℕ → Await → Bool
is_kept p number i n w =
    (nat_le n 1 || is_low number w (record { agent = i; number = n - 1 }))
    && list_all (λ v. is_low number w (awaited v)) (awaits_of p i n)

low_unreached : (p : Program) (number : ActionId → ℕ) → IsNumbering p number → (w : Await) (b : ActionId) → is_low number w b ≡ true → b ≢ awaited w → Reaches p (awaited w) b → ⊥
low_unreached p number s w b e apart ([], (k, same)) = apart (sym same)
low_unreached p number s w b e apart (c ∷ cs, r) =
    elim (or_cases (b.agent == w.agent && b.number == w.count) (nat_le (number b) (number (awaited w))) e) [
      | inl is ↦ (let parts = and_parts (b.agent == w.agent) (b.number == w.count) is in apart (same_action b (awaited w) (eqb-true _ _ parts.0) (eqb-true _ _ parts.1)))
      | inr low ↦ omega (arith, leb-true _ _ low, chain_rises p number s (awaited w) (c ∷ cs) b r)
    ]

kept_unimplied : (p : Program) (number : ActionId → ℕ) → IsNumbering p number → (i n : ℕ) (w : Await) → is_kept p number i n w ≡ true → IsImplied p (record { agent = i; number = n }) w → ⊥
kept_unimplied p number s i n w e (b, apart, d, r) = go d
  where
    parts : ((nat_le n 1 || is_low number w (record { agent = i; number = n - 1 })) ≡ true) × (list_all (λ v. is_low number w (awaited v)) (awaits_of p i n) ≡ true)
    parts = and_parts _ _ e

    before : i ≡ b.agent → n ≡ b.number + 1 → 1 ≤ b.number → (nat_le n 1 ≡ true) ⊎ (is_low number w (record { agent = i; number = n - 1 }) ≡ true) → ⊥
    before ea en f (inl first) = omega (arith, leb-true _ _ first)
    before ea en f (inr low) =
        let same : record { agent = i; number = n - 1 } ≡ b = same_action (record { agent = i; number = n - 1 }) b ea (omega arith) in
        low_unreached p number s w b (subst (λ x. is_low number w x ≡ true) same low) apart r

    go : DirectlyNeeds p (record { agent = i; number = n }) b → ⊥
    go (inl (ea, en, f)) = before ea en f (or_cases _ _ parts.0)
    go (inr c) =
        low_unreached p number s w b
        (All-contains (λ (v : Await). is_low number w (awaited v) ≡ true) (awaits_of p i n) (record { agent = b.agent; count = b.number })
        (AllPass-from_list_all (λ v. is_low number w (awaited v)) (awaits_of p i n) parts.1) c)
        apart r

-- through the action b
abbrev is_implied_by : Program → ActionId → List ActionId → ℕ → ℕ → Await → Bool
is_implied_by p b cs i n w =
    not (b.agent == w.agent && b.number == w.count)
    && (is_chain p b (record { agent = i; number = n } ∷ []) (record { agent = i; number = n }) && is_chain p (awaited w) cs b)

implied_is : (p : Program) (b : ActionId) (cs : List ActionId) (i n : ℕ) (w : Await) → is_implied_by p b cs i n w ≡ true → IsImplied p (record { agent = i; number = n }) w
implied_is p b cs i n w e =
    let parts = and_parts _ _ e in
    let chains = and_parts _ _ parts.1 in
    let a : ActionId = record { agent = i; number = n } in (
      b,
      (λ same. both_ways (b.agent == w.agent && b.number == w.count) (not-true _ parts.0) (and_from _ _ (eq-eqb _ _ (ap (λ x. x.agent) same)) (eq-eqb _ _ (ap (λ x. x.number) same)))),
      (chain_is p b (a ∷ []) a chains.0).1,
      (cs, chain_is p (awaited w) cs b chains.1),
    )

-- ---- what stays

-- an agent without its awaits
pub record Outline : Type 0 where
  pub start : Cell
  pub goal : Cell
  pub steps : List Step

abbrev pub outline : AgentProgram → Outline
outline a = record { start = a.start; goal = a.goal; steps = map (λ s. s.step) a.actions }

-- if the agents are the same without their awaits, the programs differ in awaits alone
differs_is : (p q : Program) → map outline q ≡ map outline p → DiffersInAwaits p q
differs_is p q e = record {
  agents = sym (length-map q outline) ∙ ap length e ∙ length-map p outline;
  starts = λ i. start (slice_get q i) ∙ ap (λ o. option_map_or (λ (l : Outline). l.start) o origin) (same i) ∙ sym (start (slice_get p i));
  goals = λ i. goal (slice_get q i) ∙ ap (λ o. option_map_or (λ (l : Outline). l.goal) o origin) (same i) ∙ sym (goal (slice_get p i));
  steps = λ i. steps (slice_get q i) ∙ ap (λ o. option_map_or (λ (l : Outline). l.steps) o []) (same i) ∙ sym (steps (slice_get p i));
}
  where
    same : (i : ℕ) → option_map outline (slice_get q i) ≡ option_map outline (slice_get p i)
    same i = sym (slice_get-map outline q i) ∙ ap (λ ls. slice_get ls i) e ∙ slice_get-map outline p i

    start : (o : Option AgentProgram) → option_map_or (λ a. a.start) o origin ≡ option_map_or (λ (l : Outline). l.start) (option_map outline o) origin
    start None = refl
    start (Some a) = refl

    goal : (o : Option AgentProgram) → option_map_or (λ a. a.goal) o origin ≡ option_map_or (λ (l : Outline). l.goal) (option_map outline o) origin
    goal None = refl
    goal (Some a) = refl

    steps : (o : Option AgentProgram) → map (λ s. s.step) (option_map_or (λ a. a.actions) o []) ≡ option_map_or (λ (l : Outline). l.steps) (option_map outline o) []
    steps None = refl
    steps (Some a) = refl

-- ---- what goes

-- what q awaits p awaits too, and no other need of the action implies it
abbrev are_kept : (ActionId → ℕ) → Program → Program → Bool
are_kept number p q = at_all_awaits (λ i n w. is_in (awaits_of p i n) w && is_kept p number i n w) q

-- what p awaits q awaits too, or it is implied through b
abbrev are_implied : ActionId → List ActionId → Program → Program → Bool
are_implied b cs p q = at_all_awaits (λ i n w. is_in (awaits_of q i n) w || is_implied_by p b cs i n w) p

pub thinned_by : (p q : Program) (k : ℕ) (b : ActionId) (cs : List ActionId) → map outline q ≡ map outline p
    → (is_numbered k p && (are_kept (weighed k) p q && are_implied b cs p q)) ≡ true → IsThinned p q
thinned_by p q k b cs same e = record {
  rest = differs_is p q same;
  awaits = λ i n w. (into i n w, (λ (c, free). out i n w c free));
}
  where
    parts : (is_numbered k p ≡ true) × ((are_kept (weighed k) p q && are_implied b cs p q) ≡ true)
    parts = and_parts _ _ e

    rest : (are_kept (weighed k) p q ≡ true) × (are_implied b cs p q ≡ true)
    rest = and_parts _ _ parts.1

    into : (i n : ℕ) (w : Await) → Contains (awaits_of q i n) w → Contains (awaits_of p i n) w × (IsImplied p (record { agent = i; number = n }) w → ⊥)
    into i n w c =
        let both = and_parts _ _ (at_await (λ i n w. is_in (awaits_of p i n) w && is_kept p (weighed k) i n w) q rest.0 i n w c) in
        (in_is (awaits_of p i n) w both.0, kept_unimplied p (weighed k) (numbered_is k p parts.0) i n w both.1)

    out : (i n : ℕ) (w : Await) → Contains (awaits_of p i n) w → (IsImplied p (record { agent = i; number = n }) w → ⊥) → Contains (awaits_of q i n) w
    out i n w c free =
        elim (or_cases _ _ (at_await (λ i n w. is_in (awaits_of q i n) w || is_implied_by p b cs i n w) p rest.1 i n w c)) [
          | inl there ↦ in_is (awaits_of q i n) w there
          | inr implied ↦ absurd (free (implied_is p b cs i n w implied))
        ]
