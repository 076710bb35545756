-- Neighbours among sorted visits without a chain have no order either way.
use Rattle.fleet_verify.proofs.Words.{◌≡◌, ℕ, suc, ◌+◌, ◌<◌, ◌≤◌, List, length, get_or, Some, sym, ap, ◌∙◌, subst, arith, inl, inr, slice_get, cases_order, slice_get_within, get_or_from_slice_get, Place, ActionId, Visit, Program, IsNumbering, IsVisitOf, ComesAfterByChain, AreUnordered, entry_level, IsBefore, IsSortedListing}
use Rattle.fleet_verify.proofs.Listing.{after_reaches, before_rank, rank_rises}
use Rattle.fleet_verify.proofs.Neighbours.{adjacent_at}

-- neighbours in the sorted listing of which the second may not come after the first have no order either way
pub neighbours_unordered : (p : Program) (number : ActionId → ℕ) → IsNumbering p number → (q : Place) (sorted : List Visit) → IsSortedListing p number q sorted → (k : ℕ) (v w : Visit) → slice_get sorted k ≡ Some v → slice_get sorted (k + 1) ≡ Some w → (ComesAfterByChain p v w → ⊥) → AreUnordered p q v w
neighbours_unordered p number s q sorted g k v w ev ew n = record {
  first = first;
  second = second;
  apart = apart;
  forth = λ r. n (inr r);
  back = λ r. (let up : entry_level number w < entry_level number v = rank_rises p number s w v r in let down : entry_level number v ≤ entry_level number w = before_rank number v w before in omega arith);
}
  where
    here : get_or sorted k v ≡ v
    here = get_or_from_slice_get sorted k v v ev

    next : get_or sorted (suc k) v ≡ w
    next = let e : suc k ≡ k + 1 = omega arith in ap (λ i. get_or sorted i v) e ∙ get_or_from_slice_get sorted (k + 1) w v ew

    within : suc k < length sorted
    within = let l : k + 1 < length sorted = slice_get_within sorted (k + 1) w ew in omega arith

    first : IsVisitOf p q v
    first = subst (IsVisitOf p q) here (g.lists.only k v (let l : suc k < length sorted = within in omega arith))

    second : IsVisitOf p q w
    second = subst (IsVisitOf p q) next (g.lists.only (suc k) v within)

    before : IsBefore number v w
    before = subst (λ x. IsBefore number x w) here (subst (λ x. IsBefore number (get_or sorted k v) x) next (adjacent_at (IsBefore number) sorted g.sorted k v within))

    later : v.agent ≡ w.agent → IsBefore number v w → v.position < w.position
    later e (inr (f, inl l)) = absurd (omega arith)
    later e (inr (f, inr (h, l))) = l
    later e (inl l) =
        elim (cases_order v.position w.position) [
          | inl same ↦ (
              let e : v ≡ w = (λ i. record { agent = e i; position = same i }) in
              let f : entry_level number v ≡ entry_level number w = ap (entry_level number) e in
              absurd (omega arith))
          | inr (inl m) ↦ m
          | inr (inr m) ↦ (
              let up : entry_level number w < entry_level number v = rank_rises p number s w v (after_reaches p q w v first (inl (sym e, m))) in
              absurd (omega arith))
        ]

    apart : v.agent ≡ w.agent → ⊥
    apart e = n (inl (e, later e before))
