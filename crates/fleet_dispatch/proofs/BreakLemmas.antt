-- The breaks that words name.
use Rattle.fleet_dispatch.proofs.Cited.{◌≡◌, ℕ, ◌+◌, ◌<◌, List, [], ◌∷◌, ◌++◌, length, take, set, Some, refl, sym, ap, subst, ◌∙◌, arith, inl, inr, slice_get, cases_lt, take_more, same_Some, slice_get_within, get_or_from_slice_get, Program, IsAction, Words, Reported, named_action, breaks_from, NameActions}

breaks_push : (breaks : List ℕ) (ws : Words) (w : Reported) → breaks_from breaks (ws ++ w ∷ []) ≡ set (breaks_from breaks ws) w.agent (named_action w).number
breaks_push breaks [] w = refl
breaks_push breaks (x ∷ ws) w = breaks_push (set breaks x.agent (named_action x).number) ws w

-- one word more
pub breaks_more : (old : List ℕ) (ws : Words) (k : ℕ) (w : Reported) → slice_get ws k ≡ Some w → (now : List ℕ) → now ≡ breaks_from old (take k ws)
    → (new : List ℕ) → new ≡ set now w.agent (named_action w).number → new ≡ breaks_from old (take (k + 1) ws)
breaks_more old ws k w at now so_far new is =
    let front : take (k + 1) ws ≡ take k ws ++ w ∷ [] = take_more ws k w (slice_get_within ws k w at) ∙ ap (λ y. take k ws ++ y ∷ []) (get_or_from_slice_get ws k w w at) in
    is ∙ (ap (λ xs. set xs w.agent (named_action w).number) so_far ∙ (sym (breaks_push old (take k ws) w) ∙ ap (breaks_from old) (sym front)))

-- the first k words name actions
abbrev pub NameFirst : Program → Words → ℕ → Type 0
NameFirst p words k = (j : ℕ) (w : Reported) → j < k → slice_get words j ≡ Some w → IsAction p (named_action w)

pub name_more : (p : Program) (words : Words) (k : ℕ) (w : Reported) → NameFirst p words k → slice_get words k ≡ Some w → IsAction p (named_action w) → NameFirst p words (k + 1)
name_more p words k w first at act j v l there = elim (cases_lt j k) [
  | inl s ↦ first j v s there
  | inr s ↦
      let same : j ≡ k = omega (arith, s, l) in
      let e : w ≡ v = same_Some w v (sym at ∙ (ap (slice_get words) (sym same) ∙ there)) in
      subst (λ x. IsAction p (named_action x)) e act
]

pub name_all : (p : Program) (words : Words) (k : ℕ) → NameFirst p words k → length words ≡ k → NameActions p words
name_all p words k first all j w at = first j w (omega (arith, all, slice_get_within words j w at)) at
