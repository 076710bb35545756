-- The visits of one program, by computation.
use Rattle.std.proofs.Common.{◌≡◌, ℕ, zero, suc, Bool, true, not, nat_lt, nat_le, ◌&&◌, ◌||◌, ◌==◌, List, [], ◌∷◌, length, get_or, Some, slice_get, refl, ap, sym, ◌∙◌, inl, inr, ◌⊎◌}
use Rattle.std.specs.List.{list_all, list_any}
use Rattle.std.proofs.lemmas.Bool.{and_parts, and_from, or_cases, or_left, or_right, eqb-true, eq-eqb, ltb-true, leb-true, not-true, both_ways}
use Rattle.std.proofs.lemmas.List.Sums.{AllPass-from_list_all}
use Rattle.std.proofs.lemmas.Map.Views.{Contains-from_any}
use Rattle.std.proofs.lemmas.Option.{same_Some}
use Rattle.fleet_model.specs.declared.geometry.Place.{Place}
use Rattle.fleet_model.specs.declared.program.Visit.{Visit}
use Rattle.fleet_model.specs.Program.{Program, moves, path}
use Rattle.fleet_model.specs.Visit.{is_entry, IsVisitOf, ListsVisits}
use Rattle.fleet_model.specs.Geometry.{is_same_place}
use Rattle.fleet_model.proofs.Cells.{is_same_place-true, is_same_place-eq}
use Rattle.fleet_example.proofs.Computed.{at_all_positions, at_position}

abbrev is_same_visit : Visit → Visit → Bool
is_same_visit v w = v.agent == w.agent && v.position == w.position

same_visit : (v w : Visit) → is_same_visit v w ≡ true → v ≡ w
same_visit v w e =
    let parts = and_parts (v.agent == w.agent) (v.position == w.position) e in
    let ea : v.agent ≡ w.agent = eqb-true _ _ parts.0 in
    let ep : v.position ≡ w.position = eqb-true _ _ parts.1 in
    λ i. record { agent = ea i; position = ep i }

visit_same : (v w : Visit) → v ≡ w → is_same_visit v w ≡ true
visit_same v w e =
    and_from (v.agent == w.agent) (v.position == w.position)
    (eq-eqb v.agent w.agent (ap (λ (x : Visit). x.agent) e)) (eq-eqb v.position w.position (ap (λ (x : Visit). x.position) e))

abbrev is_listed : List Visit → Visit → Bool
is_listed vs v = list_any (is_same_visit v) vs

-- what stands in a list passes
listed_at : (vs : List Visit) (k : ℕ) (v : Visit) → slice_get vs k ≡ Some v → is_listed vs v ≡ true
listed_at [] k v e = absurd cc
listed_at (w ∷ vs) zero v e = or_left (is_same_visit v w) (is_listed vs v) (visit_same v w (sym (same_Some w v e)))
listed_at (w ∷ vs) (suc k) v e = or_right (is_same_visit v w) (is_listed vs v) (listed_at vs k v e)

abbrev are_once : List Visit → Bool
are_once [] = true
are_once (v ∷ vs) = not (is_listed vs v) && are_once vs

not_twice : (w : Visit) (vs : List Visit) → not (is_listed vs w) ≡ true → (k : ℕ) (v : Visit) → Some w ≡ Some v → slice_get vs k ≡ Some v → ⊥
not_twice w vs e k v at at' = both_ways (is_listed vs w) (not-true (is_listed vs w) e) (listed_at vs k w (at' ∙ sym at))

once : (vs : List Visit) → are_once vs ≡ true → (j k : ℕ) (v : Visit) → slice_get vs j ≡ Some v → slice_get vs k ≡ Some v → j ≡ k
once [] e j k v at at' = absurd cc
once (w ∷ vs) e zero zero v at at' = refl
once (w ∷ vs) e zero (suc k) v at at' = absurd (not_twice w vs (and_parts (not (is_listed vs w)) (are_once vs) e).0 k v at at')
once (w ∷ vs) e (suc j) zero v at at' = absurd (not_twice w vs (and_parts (not (is_listed vs w)) (are_once vs) e).0 j v at' at)
once (w ∷ vs) e (suc j) (suc k) v at at' = ap suc (once vs (and_parts (not (is_listed vs w)) (are_once vs) e).1 j k v at at')

-- the visit is one of the place
abbrev pub is_visit_of : Program → Place → Visit → Bool
is_visit_of p q v = nat_lt v.agent (length p) && (nat_le v.position (moves p v.agent) && (is_entry p v.agent v.position && is_same_place (path p v.agent v.position) q))

pub visit_is : (p : Program) (q : Place) (v : Visit) → is_visit_of p q v ≡ true → IsVisitOf p q v
visit_is p q v e =
    let parts = and_parts (nat_lt v.agent (length p)) (nat_le v.position (moves p v.agent) && (is_entry p v.agent v.position && is_same_place (path p v.agent v.position) q)) e in
    let more = and_parts (nat_le v.position (moves p v.agent)) (is_entry p v.agent v.position && is_same_place (path p v.agent v.position) q) parts.1 in
    let last = and_parts (is_entry p v.agent v.position) (is_same_place (path p v.agent v.position) q) more.1 in
    record { agent = ltb-true _ _ parts.0; position = leb-true _ _ more.0; entered = last.0; place = is_same_place-true (path p v.agent v.position) q last.1 }

-- agent i does not enter the place by action n, or the visit is listed
abbrev is_accounted : Program → Place → List Visit → ℕ → ℕ → Bool
is_accounted p q vs i n = not (is_entry p i n && is_same_place (path p i n) q) || is_listed vs (record { agent = i; position = n })

-- the list has each visit of the place once, and nothing else
abbrev pub lists_visits : Program → Place → List Visit → Bool
lists_visits p q vs = at_all_positions (is_accounted p q vs) p && (list_all (is_visit_of p q) vs && are_once vs)

pub visits_are : (p : Program) (q : Place) (vs : List Visit) → lists_visits p q vs ≡ true → ListsVisits p q vs
visits_are p q vs e = record {
  all = λ v h. Contains-from_any same_visit v vs (listed v h (or_cases (not (is_entry p v.agent v.position && is_same_place (path p v.agent v.position) q)) (is_listed vs v) (at_position (is_accounted p q vs) p all v.agent v.position h.agent h.position)));
  only = λ k d lt. visit_is p q (get_or vs k d) (AllPass-from_list_all (is_visit_of p q) vs rest.0 k d lt);
  once = once vs rest.1;
}
  where
    all : at_all_positions (is_accounted p q vs) p ≡ true
    all = (and_parts (at_all_positions (is_accounted p q vs) p) (list_all (is_visit_of p q) vs && are_once vs) e).0

    rest : (list_all (is_visit_of p q) vs ≡ true) × (are_once vs ≡ true)
    rest = and_parts (list_all (is_visit_of p q) vs) (are_once vs) (and_parts (at_all_positions (is_accounted p q vs) p) (list_all (is_visit_of p q) vs && are_once vs) e).1

    listed : (v : Visit) → IsVisitOf p q v → (not (is_entry p v.agent v.position && is_same_place (path p v.agent v.position) q) ≡ true) ⊎ (is_listed vs v ≡ true) → is_listed vs v ≡ true
    listed v h (inl away) =
        let here : Bool = is_entry p v.agent v.position && is_same_place (path p v.agent v.position) q in
        absurd (both_ways here (not-true here away) (and_from (is_entry p v.agent v.position) (is_same_place (path p v.agent v.position) q) h.entered (is_same_place-eq (path p v.agent v.position) q h.place)))
    listed v h (inr here) = here
