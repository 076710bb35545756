-- Lists that are linked.
use Rattle.std.proofs.Common.{◌≡◌, ◌≢◌, ℕ, suc, ◌<◌, ◌≤◌, List, [], ◌∷◌, length, get_or, set, replicate, Option, Some, None, refl, sym, ap, ◌∙◌, subst, arith, inl, inr}
use Rattle.std.specs.Prelude.{Contains}
use Rattle.std.proofs.lemmas.Bool.{cases_eq, cases_lt}
use Rattle.std.proofs.lemmas.List.{get_or-replicate, length-replicate, get_or_past, get_or-set_same, get_or-set_other, length-set}
use Rattle.std.proofs.lemmas.Option.{same_Some, none-some}
use Rattle.fleet_model.proofs.Members.{contains_head, contains_later, contains_none, contains_cases}
use Rattle.fleet_machine.specs.WaitLists.{home_of, IsLinked, IsChain, AreChains}

-- ---- links

-- what stands in no link's way
linked_kept : (next : List (Option ℕ)) (i : ℕ) (v first : Option ℕ) (agents : List ℕ) → ((k : ℕ) → Contains agents k → k ≢ i) → IsLinked next first agents → IsLinked (set next i v) first agents
linked_kept next i v None [] apart h = h
linked_kept next i v (Some k) [] apart h = absurd h
linked_kept next i v None (x ∷ agents) apart h = absurd h
linked_kept next i v (Some k) (x ∷ agents) apart h =
    let other : k ≢ i = λ e. apart x (contains_head x agents) (h.0 ∙ e) in (
      h.0,
      rw (length-set next i v) h.1,
      rw (get_or-set_other next i k v None other) (linked_kept next i v (get_or next k None) agents (λ m there. apart m (contains_later x agents m there)) h.2),
    )

-- the links from one place on are one list
linked_once : (next : List (Option ℕ)) (first : Option ℕ) (xs ys : List ℕ) → IsLinked next first xs → IsLinked next first ys → length xs ≡ length ys
linked_once next None [] [] h g = refl
linked_once next None (x ∷ xs) ys h g = absurd h
linked_once next None [] (y ∷ ys) h g = absurd g
linked_once next (Some i) [] ys h g = absurd h
linked_once next (Some i) (x ∷ xs) [] h g = absurd g
linked_once next (Some i) (x ∷ xs) (y ∷ ys) h g = ap suc (linked_once next (get_or next i None) xs ys h.2 g.2)

linked_from : (next : List (Option ℕ)) (first : Option ℕ) (agents : List ℕ) (i : ℕ) → IsLinked next first agents → Contains agents i → (rest : List ℕ) × IsLinked next (Some i) rest × (length rest ≤ length agents)
linked_from next None [] i h there = absurd (contains_none i there)
linked_from next (Some k) [] i h there = absurd h
linked_from next None (x ∷ agents) i h there = absurd h
linked_from next (Some k) (x ∷ agents) i h there =
    elim (contains_cases x agents i there) [
      | inl e ↦ (x ∷ agents, subst (λ m. IsLinked next (Some m) (x ∷ agents)) (sym h.0 ∙ e) h, omega arith)
      | inr more ↦ (let rest = linked_from next (get_or next k None) agents i h.2 more in (rest.0, rest.1, let le = rest.2 in omega (arith, le)))
    ]

-- an agent comes once
comes_once : (next : List (Option ℕ)) (i x : ℕ) (agents : List ℕ) → IsLinked next (Some i) (x ∷ agents) → Contains agents i → ⊥
comes_once next i x agents h there =
    let rest = linked_from next (get_or next i None) agents i h.2 there in
    let same = linked_once next (Some i) rest.0 (x ∷ agents) rest.1 h in
    let short = rest.2 in
    omega (arith, same, short)

-- ---- chains

pub no_chains : (lists agents : ℕ) → AreChains (replicate lists None) (replicate agents None) (replicate agents None)
no_chains lists agents = record {
  links = refl;
  chains = λ j lt. record {
    agents = [];
    linked = rw (get_or-replicate {A = Option ℕ} lists j None None (rw length-replicate at lt)) tt;
    home = λ i there. absurd (contains_none i there);
    all = λ i e. absurd (nobody i e);
  };
}
  where
    nobody : {j : ℕ} (i : ℕ) → home_of (replicate agents None) i ≡ Some j → ⊥
    nobody i e =
        elim (cases_lt i agents) [
          | inl lt ↦ absurd (none-some _ (sym (get_or-replicate {A = Option ℕ} agents i None None lt) ∙ e))
          | inr le ↦ absurd (none-some _ (sym (get_or_past (replicate agents None) i None (rw length-replicate le)) ∙ e))
        ]

module _ {first next homes : List (Option ℕ)} (c : AreChains first next homes) (list : ℕ) (within : list < length first) where
  -- the first of a list stands in it
  pub first_in_chain : (i : ℕ) → get_or first list None ≡ Some i → (i < length homes) × (home_of homes i ≡ Some list)
  first_in_chain i e =
      let chain = c.chains list within in
      front chain.agents (rw e at chain.linked) chain.home
    where
      front : (agents : List ℕ) → IsLinked next (Some i) agents → ((k : ℕ) → Contains agents k → home_of homes k ≡ Some list) → (i < length homes) × (home_of homes i ≡ Some list)
      front [] h home = absurd h
      front (x ∷ agents) h home = (rw c.links at h.1, home i (rw (sym h.0) (contains_head x agents)))

  module _ (i : ℕ) (there : i < length homes) (nowhere : home_of homes i ≡ None) where
    -- agents of lists are others
    apart : {j : ℕ} (k : ℕ) → home_of homes k ≡ Some j → k ≢ i
    apart k home same = none-some _ (sym nowhere ∙ ap (home_of homes) (sym same) ∙ home)

    with_this : IsChain (set next i (get_or first list None)) (set homes i (Some list)) (Some i) list
    with_this =
        let chain = c.chains list within in
        let linked : i < length next = rw c.links there in
        record {
          agents = i ∷ chain.agents;
          linked = (
            refl,
            rw (length-set next i (get_or first list None)) linked,
            rw (get_or-set_same next i (get_or first list None) None linked) (linked_kept next i (get_or first list None) (get_or first list None) chain.agents (λ k h. apart k (chain.home k h)) chain.linked),
          );
          home = λ k h.
              elim (contains_cases i chain.agents k h) [
                | inl same ↦ rw (sym same) (get_or-set_same homes i (Some list) None there)
                | inr more ↦ get_or-set_other homes i k (Some list) None (apart k (chain.home k more)) ∙ chain.home k more
              ];
          all = λ k e.
              elim (cases_eq k i) [
                | inl same ↦ rw same (contains_head i chain.agents)
                | inr other ↦ contains_later i chain.agents k (chain.all k (sym (get_or-set_other homes i k (Some list) None other) ∙ e))
              ];
        }

    with_others : (j : ℕ) → j < length first → j ≢ list → IsChain (set next i (get_or first list None)) (set homes i (Some list)) (get_or first j None) j
    with_others j lt not_this =
        let chain = c.chains j lt in
        record {
          agents = chain.agents;
          linked = linked_kept next i (get_or first list None) (get_or first j None) chain.agents (λ k h. apart k (chain.home k h)) chain.linked;
          home = λ k h. get_or-set_other homes i k (Some list) None (apart k (chain.home k h)) ∙ chain.home k h;
          all = λ k e.
              elim (cases_eq k i) [
                | inl same ↦ absurd (not_this (same_Some j list (sym e ∙ ap (home_of (set homes i (Some list))) same ∙ get_or-set_same homes i (Some list) None there)))
                | inr other ↦ chain.all k (sym (get_or-set_other homes i k (Some list) None other) ∙ e)
              ];
        }

    pub chains_with : AreChains (set first list (Some i)) (set next i (get_or first list None)) (set homes i (Some list))
    chains_with = record {
      links = rw (length-set next i (get_or first list None), length-set homes i (Some list)) c.links;
      chains = λ j lt.
          elim (cases_eq j list) [
            | inl same ↦ rw (same, get_or-set_same first list (Some i) None within) with_this
            | inr other ↦ rw (get_or-set_other first list j (Some i) None other) (with_others j (rw (length-set first list (Some i)) at lt) other)
          ];
    }

  module _ (i : ℕ) (e : get_or first list None ≡ Some i) where
    without_this : IsChain next (set homes i None) (get_or next i None) list
    without_this =
        let chain = c.chains list within in
        cut chain.agents (rw e at chain.linked) chain.home chain.all
      where
        cut : (agents : List ℕ) → IsLinked next (Some i) agents → ((k : ℕ) → Contains agents k → home_of homes k ≡ Some list) → ((k : ℕ) → home_of homes k ≡ Some list → Contains agents k)
            → IsChain next (set homes i None) (get_or next i None) list
        cut [] linked home all = absurd linked
        cut (x ∷ agents) linked home all =
            let here_only : (k : ℕ) → Contains agents k → k ≢ i = λ k h same. comes_once next i x agents linked (subst (Contains agents) same h) in
            record {
              agents = agents;
              linked = linked.2;
              home = λ k h. get_or-set_other homes i k None None (here_only k h) ∙ home k (contains_later x agents k h);
              all = λ k at.
                  elim (cases_eq k i) [
                    | inl same ↦ absurd (none-some _ (sym (get_or-set_same homes i None None (first_in_chain i e).0) ∙ ap (home_of (set homes i None)) (sym same) ∙ at))
                    | inr other ↦ elim (contains_cases x agents k (all k (sym (get_or-set_other homes i k None None other) ∙ at))) [
                      | inl first ↦ absurd (other (sym first ∙ linked.0))
                      | inr more ↦ more
                    ]
                  ];
            }

    without_others : (j : ℕ) → j < length first → j ≢ list → IsChain next (set homes i None) (get_or first j None) j
    without_others j lt not_this =
        let chain = c.chains j lt in
        let at_list = (first_in_chain i e).1 in
        let apart : (k : ℕ) → home_of homes k ≡ Some j → k ≢ i = λ k home same. not_this (same_Some j list (sym home ∙ ap (home_of homes) same ∙ at_list)) in
        record {
          agents = chain.agents;
          linked = chain.linked;
          home = λ k h. get_or-set_other homes i k None None (apart k (chain.home k h)) ∙ chain.home k h;
          all = λ k at.
              elim (cases_eq k i) [
                | inl same ↦ absurd (none-some _ (sym (get_or-set_same homes i None None (first_in_chain i e).0) ∙ ap (home_of (set homes i None)) (sym same) ∙ at))
                | inr other ↦ chain.all k (sym (get_or-set_other homes i k None None other) ∙ at)
              ];
        }

    pub chains_without : AreChains (set first list (get_or next i None)) next (set homes i None)
    chains_without = record {
      links = rw (length-set homes i None) c.links;
      chains = λ j lt.
          elim (cases_eq j list) [
            | inl same ↦ rw (same, get_or-set_same first list (get_or next i None) None within) without_this
            | inr other ↦ rw (get_or-set_other first list j (get_or next i None) None other) (without_others j (rw (length-set first list (get_or next i None)) at lt) other)
          ];
    }
