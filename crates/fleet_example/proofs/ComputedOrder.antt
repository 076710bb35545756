-- The order of the visits of one program, and whether it is accepted, by computation.
use Rattle.std.proofs.Common.{◌≡◌, ℕ, ◌+◌, Bool, true, false, not, nat_lt, nat_le, ◌&&◌, ◌||◌, ◌==◌, List, [], ◌∷◌, length, map, get_or, sym, ◌∙◌, subst, inl, inr}
use Rattle.std.specs.List.{list_all, list_any, flat_map, filter}
use Rattle.std.proofs.lemmas.Bool.{and_parts, and_from, or_cases, or_parts, cases_Bool, eqb-true, eq-eqb, ltb-true, lt-ltb, leb-true, le-leb, not-true, both_ways}
use Rattle.std.proofs.lemmas.List.Sums.{AllPass-from_list_all}
use Rattle.std.proofs.lemmas.List.Folds.{Any-from_list_any, list_any-from_Any}
use Rattle.std.proofs.lemmas.List.Elements.{All-nil}
use Rattle.fleet_model.specs.declared.geometry.Place.{Place}
use Rattle.fleet_model.specs.declared.program.Await.{Await}
use Rattle.fleet_model.specs.declared.program.ActionId.{ActionId}
use Rattle.fleet_model.specs.declared.program.Visit.{Visit}
use Rattle.fleet_model.specs.Geometry.{is_same_place}
use Rattle.fleet_model.specs.Program.{Program, moves, awaits_of, path, AreInRange}
use Rattle.fleet_model.specs.Machine.{indices}
use Rattle.fleet_model.specs.Visit.{IsVisitOf, ListsVisits, Adjacent, ComesAfterByAwait, ComesAfterByChain, IsOrderly, entering, leaving}
use Rattle.fleet_model.specs.Accepted.{IsRight, IsAcceptedBy}
use Rattle.fleet_model.proofs.Cells.{is_same_place-true}
use Rattle.fleet_verify.specs.Listing.{entry_level}
use Rattle.fleet_verify.proofs.Listing.{awaits_accepted, after_reaches, await_chain, adjacent_chains, sorted_passes, unordered_refuses}
use Rattle.fleet_model.specs.Visit.{AreUnordered}
use Rattle.fleet_example.specs.Programs.{HasNoOrder, IsRefusedAt}
use Rattle.fleet_example.proofs.Computed.{at_all_positions, at_position, weighed, is_numbered, numbered_is, is_chain, chain_is, task_of, is_right, right_is}
use Rattle.fleet_example.proofs.ComputedVisits.{is_visit_of, lists_visits, visits_are}

-- ---- which visit may come after which

abbrev is_later : Visit → Visit → Bool
is_later v w = v.agent == w.agent && nat_lt v.position w.position

abbrev is_of_leaving : Program → Visit → Await → Bool
is_of_leaving p v a = a.agent == v.agent && nat_le (leaving p v).number a.count

-- w is a later visit by the same agent, or an await of the action that enters it is of the leaving of v
abbrev pub comes_by_await : Program → Visit → Visit → Bool
comes_by_await p v w = is_later v w || list_any (is_of_leaving p v) (awaits_of p w.agent w.position)

comes_is : (p : Program) (v w : Visit) → comes_by_await p v w ≡ true → ComesAfterByAwait p v w
comes_is p v w e =
    elim (or_cases (is_later v w) (list_any (is_of_leaving p v) (awaits_of p w.agent w.position)) e) [
      | inl later ↦ (let parts = and_parts (v.agent == w.agent) (nat_lt v.position w.position) later in inl (eqb-true _ _ parts.0, ltb-true _ _ parts.1))
      | inr some ↦ (
          let a = Any-from_list_any (is_of_leaving p v) (awaits_of p w.agent w.position) some in
          let parts = and_parts (a.1.agent == v.agent) (nat_le (leaving p v).number a.1.count) a.4 in
          inr (a.1, (a.0, a.2, a.3), eqb-true _ _ parts.0, leb-true _ _ parts.1))
    ]

comes_not : (p : Program) (v w : Visit) → comes_by_await p v w ≡ false → ComesAfterByAwait p v w → ⊥
comes_not p v w e (inl (same, before)) = both_ways (is_later v w) (or_parts _ _ e).0 (and_from _ _ (eq-eqb _ _ same) (lt-ltb _ _ before))
comes_not p v w e (inr (a, (k, lt, at), same, enough)) =
    both_ways (list_any (is_of_leaving p v) (awaits_of p w.agent w.position)) (or_parts _ _ e).1
    (list_any-from_Any (is_of_leaving p v) (awaits_of p w.agent w.position) (k, a, lt, at, and_from _ _ (eq-eqb _ _ same) (le-leb _ _ enough)))

-- these actions are a chain from the leaving of v to the entering of w
abbrev pub comes_by_chain : List ActionId → Program → Visit → Visit → Bool
comes_by_chain cs p v w = is_chain p (leaving p v) cs (entering w)

-- each visit of the list passes with the one before it
abbrev pub are_adjacent : (Visit → Visit → Bool) → List Visit → Bool
are_adjacent after [] = true
are_adjacent after (v ∷ []) = true
are_adjacent after (v ∷ w ∷ vs) = after v w && are_adjacent after (w ∷ vs)

adjacent_are : (after : Visit → Visit → Bool) (After : Visit → Visit → Type 0) → ((v w : Visit) → after v w ≡ true → After v w) → (vs : List Visit) → are_adjacent after vs ≡ true → Adjacent After vs
adjacent_are after After is [] e = tt
adjacent_are after After is (v ∷ []) e = tt
adjacent_are after After is (v ∷ w ∷ vs) e = let parts = and_parts (after v w) (are_adjacent after (w ∷ vs)) e in (is v w parts.0, adjacent_are after After is (w ∷ vs) parts.1)

-- ---- order at all places

-- each agent at each position
abbrev pub positions : Program → List Visit
positions p = flat_map (λ i. map (λ n. record { agent = i; position = n }) (indices (moves p i + 1))) (indices (length p))

-- the places on which agents are
abbrev pub places : Program → List Place
places p = map (λ v. path p v.agent v.position) (positions p)

-- the visits of a place, by agent, then by position
abbrev pub visits_of : Program → Place → List Visit
visits_of p q = filter (is_visit_of p q) (positions p)

-- they are all, and each may come directly after the one before it
abbrev pub is_in_order : (Visit → Visit → Bool) → Program → Place → Bool
is_in_order after p q = lists_visits p q (visits_of p q) && are_adjacent after (visits_of p q)

-- it is so at each of the places, and there are no others
abbrev pub is_orderly : (Visit → Visit → Bool) → Program → Bool
is_orderly after p = list_all (is_in_order after p) (places p) && at_all_positions (λ i n. list_any (is_same_place (path p i n)) (places p)) p

orderly_is : (After : Program → Visit → Visit → Type 0) (p : Program) (after : Visit → Visit → Bool) → ((v w : Visit) → after v w ≡ true → After p v w) → is_orderly after p ≡ true → IsOrderly After p
orderly_is After p after is e q =
    elim (cases_Bool (list_any (is_same_place q) (places p))) [
      | inl some ↦ (
          let a = Any-from_list_any (is_same_place q) (places p) some in
          let here : get_or (places p) a.0 a.1 ≡ q = a.3 ∙ sym (is_same_place-true q a.1 a.4) in
          let order = and_parts _ _ (subst (λ r. is_in_order after p r ≡ true) here (AllPass-from_list_all (is_in_order after p) (places p) parts.0 a.0 a.1 a.2)) in
          (visits_of p q, visits_are p q (visits_of p q) order.0, adjacent_are after (After p) is (visits_of p q) order.1))
      | inr none ↦ ([], record { all = λ v h. absurd (both_ways (list_any (is_same_place q) (places p)) none (visited v h)); only = All-nil (IsVisitOf p q); once = λ j k v at at'. absurd cc }, tt)
    ]
  where
    parts : (list_all (is_in_order after p) (places p) ≡ true) × (at_all_positions (λ i n. list_any (is_same_place (path p i n)) (places p)) p ≡ true)
    parts = and_parts _ _ e

    visited : (v : Visit) → IsVisitOf p q v → list_any (is_same_place q) (places p) ≡ true
    visited v h = subst (λ r. list_any (is_same_place r) (places p) ≡ true) h.place (at_position (λ i n. list_any (is_same_place (path p i n)) (places p)) p parts.1 v.agent v.position h.agent h.position)

-- ---- what is accepted

abbrev is_accepted : (Place → Bool) → ℕ → (Visit → Visit → Bool) → Program → Bool
is_accepted passable k after p = is_right passable p && (is_numbered k p && is_orderly after p)

accepted_is : (After : Program → Visit → Visit → Type 0) (passable : Place → Bool) (k : ℕ) (after : Visit → Visit → Bool) (p : Program) → ((v w : Visit) → after v w ≡ true → After p v w)
    → is_accepted passable k after p ≡ true → IsAcceptedBy After passable (map task_of p) p
accepted_is After passable k after p is e =
    let parts = and_parts (is_right passable p) (is_numbered k p && is_orderly after p) e in
    let rest = and_parts (is_numbered k p) (is_orderly after p) parts.1 in
    record { right = right_is passable p parts.0; numbering = (weighed k, numbered_is k p rest.0); orderly = orderly_is After p after is rest.1 }

pub accepted_by_await : (passable : Place → Bool) (k : ℕ) (p : Program) → is_accepted passable k (comes_by_await p) p ≡ true → IsAcceptedBy ComesAfterByAwait passable (map task_of p) p
accepted_by_await passable k p e = accepted_is ComesAfterByAwait passable k (comes_by_await p) p (comes_is p) e

-- and so is it accepted
pub accepted_if_awaited : (passable : Place → Bool) (k : ℕ) (p : Program) → is_accepted passable k (comes_by_await p) p ≡ true → IsAcceptedBy ComesAfterByChain passable (map task_of p) p
accepted_if_awaited passable k p e = awaits_accepted passable (map task_of p) p (accepted_by_await passable k p e)

-- if one chain orders all visits that follow one another
pub accepted_by_chain : (passable : Place → Bool) (k : ℕ) (cs : List ActionId) (p : Program) → is_accepted passable k (comes_by_chain cs p) p ≡ true → IsAcceptedBy ComesAfterByChain passable (map task_of p) p
accepted_by_chain passable k cs p e = accepted_is ComesAfterByChain passable k (comes_by_chain cs p) p (λ v w is. inr (cs, chain_is p (leaving p v) cs (entering w) is)) e

-- ---- what is refused

-- of the two visits of a place the second, which is entered later by a numbering, may not come after the first by an
-- await
pub unawaited : (passable : Place → Bool) (k : ℕ) (p : Program) (q : Place) (v w : Visit)
    → (is_right passable p && (is_numbered k p && (lists_visits p q (v ∷ w ∷ []) && (nat_lt (entry_level (weighed k) v) (entry_level (weighed k) w) && not (comes_by_await p v w))))) ≡ true
    → HasNoOrder ComesAfterByAwait p q
unawaited passable k p q v w e l lists adjacent =
    let parts = and_parts _ _ e in
    let more = and_parts _ _ parts.1 in
    let order = and_parts _ _ more.1 in
    let last = and_parts _ _ order.1 in
    let range : AreInRange p = (right_is passable p parts.0).in_range in
    let both : ListsVisits p q (v ∷ w ∷ []) = visits_are p q (v ∷ w ∷ []) order.0 in
    let sorted = sorted_passes p (weighed k) (numbered_is k p more.0) q (ComesAfterByAwait p) (λ x y is after. after_reaches p q x y is (await_chain p range q x y is after))
    l lists adjacent (v ∷ w ∷ []) (record { lists = both; sorted = (inl (ltb-true _ _ last.0), tt) }) in
    comes_not p v w (not-true _ last.1) sorted.0

-- a right and numbered program with two visits without an order
pub refused_at : (passable : Place → Bool) (k : ℕ) (p : Program) (q : Place) (v w : Visit) → AreUnordered p q v w → (is_right passable p && is_numbered k p) ≡ true → IsRefusedAt passable (map task_of p) p q
refused_at passable k p q v w apart e = record {
  right = right;
  numbered = (weighed k, numbered_is k p parts.1);
  not_by_await = by_await;
  not_by_chain = by_chain;
  refused = record {
    by_await = λ passable tasks a. (let l = a.orderly q in by_await l.0 l.1 l.2);
    by_chain = λ passable tasks a. (let l = a.orderly q in by_chain l.0 l.1 l.2);
  };
}
  where
    parts : (is_right passable p ≡ true) × (is_numbered k p ≡ true)
    parts = and_parts _ _ e

    right : IsRight passable (map task_of p) p
    right = right_is passable p parts.0

    by_chain : HasNoOrder ComesAfterByChain p q
    by_chain = unordered_refuses p q v w apart

    by_await : HasNoOrder ComesAfterByAwait p q
    by_await l lists adjacent = by_chain l lists (adjacent_chains p right.in_range q l lists.only adjacent)
