-- Members of lists, and actions and visits that are the same.
use Rattle.fleet_verify.proofs.Words.{◌≡◌, Bool, true, false, List, [], ◌∷◌, map, refl, sym, ap, ◌∙◌, subst, inl, inr, Contains, ◌⊎◌, filter, Visit}
pub use Rattle.fleet_model.proofs.Members.{contains_head, contains_later, contains_none, contains_cases}
pub use Rattle.fleet_needs.proofs.Joining.{same_action}

pub same_visit : (v w : Visit) → v.agent ≡ w.agent → v.position ≡ w.position → v ≡ w
same_visit v w e g = λ i. record { agent = e i; position = g i }

pub contains_map : {X Y : Type 0} (f : X → Y) (xs : List X) (x : X) → Contains xs x → Contains (map f xs) (f x)
contains_map f [] x h = absurd (contains_none x h)
contains_map f (y ∷ xs) x h = elim (contains_cases y xs x h) [
  | inl e ↦ subst (λ z. Contains (f y ∷ map f xs) (f z)) e (contains_head (f y) (map f xs))
  | inr k ↦ contains_later (f y) (map f xs) (f x) (contains_map f xs x k)
]

pub filter_has : {X : Type 0} (test : X → Bool) (xs : List X) (x : X) → Contains xs x → test x ≡ true → Contains (filter test xs) x
filter_has test [] x h t = h
filter_has test (y ∷ xs) x h t = go (test y) refl (contains_cases y xs x h) (filter_has test xs x)
  where
    go : (b : Bool) → test y ≡ b → (y ≡ x) ⊎ Contains xs x → (Contains xs x → test x ≡ true → Contains (filter test xs) x) → Contains (filter test (y ∷ xs)) x
    go true e (inl g) rest = rw e (subst (Contains (y ∷ filter test xs)) g (contains_head y (filter test xs)))
    go true e (inr k) rest = rw e (contains_later y (filter test xs) x (rest k t))
    go false e (inl g) rest = absurd (let f : test y ≡ test x = ap test g in cc)
    go false e (inr k) rest = rw e (rest k t)

pub filter_from : {X : Type 0} (test : X → Bool) (xs : List X) (x : X) → Contains (filter test xs) x → Contains xs x × (test x ≡ true)
filter_from test [] x h = absurd (contains_none x h)
filter_from test (y ∷ xs) x h = go (test y) refl h (filter_from test xs x)
  where
    go : (b : Bool) → test y ≡ b → Contains (filter test (y ∷ xs)) x → (Contains (filter test xs) x → Contains xs x × (test x ≡ true)) → Contains (y ∷ xs) x × (test x ≡ true)
    go true e h rest = elim (contains_cases y (filter test xs) x (rw e at h)) [
      | inl g ↦ (subst (Contains (y ∷ xs)) g (contains_head y xs), ap test (sym g) ∙ e)
      | inr k ↦ let r = rest k in (contains_later y xs x r.0, r.1)
    ]
    go false e h rest = let r = rest (rw e at h) in (contains_later y xs x r.0, r.1)
