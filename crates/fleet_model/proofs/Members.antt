-- Members of lists that begin with an element.
use Rattle.std.proofs.Common.{◌≡◌, ◌⊎◌, zero, suc, List, [], ◌∷◌, Contains, refl, inl, inr, arith}

pub contains_head : {X : Type 0} (y : X) (ys : List X) → Contains (y ∷ ys) y
contains_head y ys = (zero, omega arith, refl)

pub contains_later : {X : Type 0} (y : X) (ys : List X) (x : X) → Contains ys x → Contains (y ∷ ys) x
contains_later y ys x (k, l, e) = (suc k, omega arith, e)

pub contains_none : {X : Type 0} (x : X) → Contains [] x → ⊥
contains_none x (k, l, e) = omega arith

pub contains_cases : {X : Type 0} (y : X) (ys : List X) (x : X) → Contains (y ∷ ys) x → (y ≡ x) ⊎ Contains ys x
contains_cases y ys x (zero, l, e) = inl e
contains_cases y ys x (suc k, l, e) = inr (k, omega arith, e)
