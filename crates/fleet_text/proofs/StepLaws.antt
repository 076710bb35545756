-- Steps of reading: what follows if they gave a value or a fault, and if a reader answers what a text stands for or its
-- first fault.
use Rattle.std.proofs.Common.{◌≡◌, ℕ, Bool, true, false, Option, Some, None, Result, Ok, Err, refl, ap, inl, inr, zero, suc, List, [], ◌∷◌, drop, sym, ◌∙◌}
use Rattle.std.specs.Prelude.{◌⊎◌, slice_get}
use Rattle.fleet_text.specs.Steps.{◌>>=◌, ◌>>◌, right_or, fault_if, some_or, none_or}
use Rattle.std.proofs.lemmas.Option.{same_Some}
use Rattle.fleet_text.specs.Verdict.{HasOneVerdict}

-- ---- a value

pub bind_ok : {A B E : Type 0} (r : Result A E) (f : A → Result B E) (y : B) → (r >>= f) ≡ Ok y → (x : A) × (r ≡ Ok x) × (f x ≡ Ok y)
bind_ok (Ok x) f y e = (x, refl, e)
bind_ok (Err d) f y e = absurd cc

pub right_ok : {A E : Type 0} (b : Bool) (d : E) (r : Result A E) (y : A) → (right_or b d >> r) ≡ Ok y → (b ≡ true) × (r ≡ Ok y)
right_ok true d r y e = (refl, e)
right_ok false d r y e = absurd cc

pub passed : {A E : Type 0} (b : Bool) (d : E) (r : Result A E) (y : A) → (fault_if b d >> r) ≡ Ok y → (b ≡ false) × (r ≡ Ok y)
passed true d r y e = absurd cc
passed false d r y e = (refl, e)

pub then_ok : {A E : Type 0} (r : Result (Unit {0}) E) (s : Result A E) (y : A) → (r >> s) ≡ Ok y → (r ≡ Ok tt) × (s ≡ Ok y)
then_ok (Ok u) s y e = (refl, e)
then_ok (Err d) s y e = absurd cc

abbrev done : {A E : Type 0} → A → Result A E
done x = Ok x

pub some_ok : {A E : Type 0} (o : Option A) (d : E) (x : A) → some_or o d ≡ Ok x → o ≡ Some x
some_ok None d x e = absurd cc
some_ok {A = A} {E = E} (Some y) d x e = let f : done {A = A} {E = E} y ≡ done x = e in let g : y ≡ x = cc in ap (λ (z : A). Some z) g

pub none_ok : {E : Type 0} (o : Option ℕ) (f : ℕ → E) → none_or o f ≡ Ok tt → o ≡ None
none_ok None f e = refl
none_ok (Some k) f e = absurd cc

pub ok_is : {A E : Type 0} (x y : A) → done {A = A} {E = E} x ≡ done y → x ≡ y
ok_is x y e = cc

-- ---- a fault

abbrev failed : {A E : Type 0} → E → Result A E
failed e = Err e

pub err_is : {A E : Type 0} (d e : E) → failed {A = A} {E = E} d ≡ failed e → d ≡ e
err_is d e h = cc

-- the first step failed, or it gave a value and the others failed
pub bind_err : {A B E : Type 0} (r : Result A E) (f : A → Result B E) (e : E) → (r >>= f) ≡ Err e → (r ≡ Err e) ⊎ ((x : A) × (r ≡ Ok x) × (f x ≡ Err e))
bind_err (Ok x) f e h = inr (x, refl, h)
bind_err {B = B} {E = E} (Err d) f e h = let g : failed {A = B} {E = E} d ≡ failed e = h in let same : d ≡ e = cc in inl (ap (λ (x : E). Err x) same)

pub then_err : {A E : Type 0} (r : Result (Unit {0}) E) (s : Result A E) (e : E) → (r >> s) ≡ Err e → (r ≡ Err e) ⊎ ((r ≡ Ok tt) × (s ≡ Err e))
then_err (Ok u) s e h = inr (refl, h)
then_err {A = A} {E = E} (Err d) s e h = let g : failed {A = A} {E = E} d ≡ failed e = h in let same : d ≡ e = cc in inl (ap (λ (x : E). Err x) same)

pub right_err : {A E : Type 0} (b : Bool) (d : E) (r : Result A E) (e : E) → (right_or b d >> r) ≡ Err e → ((b ≡ false) × (d ≡ e)) ⊎ ((b ≡ true) × (r ≡ Err e))
right_err true d r e h = inr (refl, h)
right_err {A = A} {E = E} false d r e h = let g : failed {A = A} {E = E} d ≡ failed e = h in inl (refl, cc)

pub test_err : {A E : Type 0} (b : Bool) (d : E) (r : Result A E) (e : E) → (fault_if b d >> r) ≡ Err e → ((b ≡ true) × (d ≡ e)) ⊎ ((b ≡ false) × (r ≡ Err e))
test_err {A = A} {E = E} true d r e h = let g : failed {A = A} {E = E} d ≡ failed e = h in inl (refl, cc)
test_err false d r e h = inr (refl, h)

pub some_err : {A E : Type 0} (o : Option A) (d e : E) → some_or o d ≡ Err e → (o ≡ None) × (d ≡ e)
some_err {A = A} {E = E} None d e h = let g : failed {A = A} {E = E} d ≡ failed e = h in (refl, cc)
some_err (Some x) d e h = absurd cc

pub ok_err : {A E : Type 0} (x : A) (e : E) → done {A = A} {E = E} x ≡ failed e → ⊥
ok_err x e h = cc

pub result_cases : {A E : Type 0} (r : Result A E) → ((x : A) × (r ≡ Ok x)) ⊎ ((e : E) × (r ≡ Err e))
result_cases (Ok x) = inl (x, refl)
result_cases (Err e) = inr (e, refl)

-- ---- no value

pub none_some : {A : Type 0} (o : Option A) (x : A) → o ≡ None → o ≡ Some x → ⊥
none_some o x e f = cc

pub option_cases : {A : Type 0} (o : Option A) → (o ≡ None) ⊎ ((x : A) × (o ≡ Some x))
option_cases None = inl refl
option_cases (Some x) = inr (x, refl)

-- the answer is the value for which a text stands, or the text's first fault
pub record Tells {V F : Type 0} (StandsFor : V → Type 0) (IsFirst : F → Type 0) (answer : Result V F) : Type 0 where
  pub found : (v : V) → answer ≡ Ok v → StandsFor v
  pub read : (v : V) → StandsFor v → answer ≡ Ok v
  pub fault : (f : F) → answer ≡ Err f → IsFirst f
  pub told : (f : F) → IsFirst f → answer ≡ Err f

pub one_value : {V F : Type 0} {StandsFor : V → Type 0} {IsFirst : F → Type 0} {answer : Result V F} → Tells StandsFor IsFirst answer → (v w : V) → StandsFor v → StandsFor w → v ≡ w
one_value {F = F} tells v w a b = ok_is {E = F} v w (sym (tells.read v a) ∙ tells.read w b)

pub one_verdict : {V F : Type 0} {StandsFor : V → Type 0} {IsFirst : F → Type 0} {answer : Result V F} → Tells StandsFor IsFirst answer → HasOneVerdict StandsFor IsFirst
one_verdict {V = V} {answer = answer} tells = record {
  either = elim (result_cases answer) [
    | inl v ↦ inl (v.0, tells.found v.0 v.1)
    | inr f ↦ inr (f.0, tells.fault f.0 f.1)
  ];
  not_both = λ v f a b. ok_err v f (sym (tells.read v a) ∙ tells.told f b);
  one = λ e f a b. err_is {A = V} e f (sym (tells.told e a) ∙ tells.told f b);
}

-- ---- the line at which a reader stops

pub heads_are : {A : Type 0} (x y : A) (xs ys : List A) → x ∷ xs ≡ y ∷ ys → x ≡ y
heads_are x y xs ys e = cc

pub next_is : {A : Type 0} (n : ℕ) (lines : List A) (line : A) (more : List A) → drop n lines ≡ line ∷ more → slice_get lines n ≡ Some line
next_is zero [] line more e = absurd cc
next_is zero (l ∷ lines) line more e = ap (λ x. Some x) (heads_are l line lines more e)
next_is (suc n) [] line more e = absurd cc
next_is (suc n) (l ∷ lines) line more e = next_is n lines line more e

pub next_again : {A : Type 0} (n : ℕ) (lines : List A) (line : A) → slice_get lines n ≡ Some line → (more : List A) × (drop n lines ≡ line ∷ more)
next_again n [] line e = absurd cc
next_again zero (l ∷ lines) line e = (lines, ap (λ x. x ∷ lines) (same_Some l line e))
next_again (suc n) (l ∷ lines) line e = next_again n lines line e
