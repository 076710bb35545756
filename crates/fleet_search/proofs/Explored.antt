-- What a search has come to: its open list holds places of nodes.
use Rattle.fleet_search.proofs.Words.{◌≡◌, ◌≢◌, ℕ, ◌+◌, ◌==◌, cond, List, [], ◌∷◌, ◌++◌, length, Contains, Option, Some, None, IfSome, IfNone, inl, inr, refl, sym, ap, ◌∙◌, subst, arith, Vec, Global, cases_eq, eqb-true, eq-eqb, false_from_ne_true, Contains-append_left, Contains-push, Contains-push_cases, Node, bucket_of, lists_of, Exploration, AreNodePlaces, IsNodeTaken, items-past}
use Rattle.fleet_search.specs.Rows.{IsPut}

pub no-places : (nodes : List Node) (rows : List (Vec ℕ Global)) → rows ≡ [] → AreNodePlaces nodes (lists_of rows)
no-places nodes rows e k i h = absurd (let l = (subst (λ z. Contains z i) (items-past rows k (let none = ap length e in omega arith)) h).1 in omega arith)

-- the place of a new node is put on a bucket
pub put-places : (nodes more : List Node) (old new : List (List ℕ)) (key : ℕ) → AreNodePlaces nodes old → length more ≡ length nodes + 1 → IsPut old new key (length nodes) → AreNodePlaces more new
put-places nodes more old new key places long put k i h = elim (cases_eq k key) [
  | inl s ↦ elim (Contains-push_cases (bucket_of old k) (length nodes) i (subst (λ z. Contains z i) (put k ∙ ap (λ b. cond b (bucket_of old k ++ length nodes ∷ []) (bucket_of old k)) (eq-eqb k key s)) h)) [
    | inl o ↦ (let l = places k i o in omega arith)
    | inr n ↦ (omega arith)
  ]
  | inr ne ↦ (let l = places k i (subst (λ z. Contains z i) (put k ∙ ap (λ b. cond b (bucket_of old k ++ length nodes ∷ []) (bucket_of old k)) (false_from_ne_true (k == key) (λ s. ne (eqb-true k key s)))) h) in omega arith)
]

-- a place is taken off a bucket
pub taken-places : (nodes : List Node) (old new : List (List ℕ)) (key : ℕ) (taken : Option ℕ) → AreNodePlaces nodes old → IfSome taken (λ place. bucket_of old key ≡ bucket_of new key ++ place ∷ []) → IfNone taken (bucket_of new key ≡ []) → ((k : ℕ) → k ≢ key → bucket_of new k ≡ bucket_of old k) → AreNodePlaces nodes new
taken-places nodes old new key None places some none others k i h = elim (cases_eq k key) [
  | inl s ↦ absurd (let l = (subst (λ z. Contains z i) none (subst (λ z. Contains (bucket_of new z) i) s h)).1 in omega arith)
  | inr ne ↦ places k i (subst (λ z. Contains z i) (others k ne) h)
]
taken-places nodes old new key (Some place) places some none others k i h = elim (cases_eq k key) [
  | inl s ↦ places key i (subst (λ z. Contains z i) (sym some) (Contains-append_left (bucket_of new key) (place ∷ []) i (subst (λ z. Contains (bucket_of new z) i) s h)))
  | inr ne ↦ places k i (subst (λ z. Contains z i) (others k ne) h)
]

pub is_taken : (s : Exploration) (new : List (List ℕ)) (key : ℕ) (taken : Option ℕ) → AreNodePlaces s.nodes s.open_list → IfSome taken (λ place. bucket_of s.open_list key ≡ bucket_of new key ++ place ∷ []) → ((k : ℕ) → k ≢ key → bucket_of new k ≡ bucket_of s.open_list k) → IfSome taken (IsNodeTaken s (record s { open_list = new }) key)
is_taken s new key None places some others = tt
is_taken s new key (Some place) places some others = record {
  within = places key place (subst (λ z. Contains z place) (sym some) (Contains-push (bucket_of new key) place));
  last = some;
  others = others;
  rest = refl;
}
