-- Steps of reading, of which the first that fails gives the fault.
use Rattle.std.specs.Prelude.{ℕ, Bool, true, false, Option, Some, None, Result, Ok, Err}

-- the step, and then the next one with what it gave, unless it failed
infixl 10 ◌>>=◌
abbrev pub ◌>>=◌ : {A B E : Type 0} → Result A E → (A → Result B E) → Result B E
(Ok x) >>= f = f x
(Err e) >>= f = Err e

-- the fault, unless the test says that all is right
abbrev pub right_or : {E : Type 0} → Bool → E → Result (Unit {0}) E
right_or true e = Ok tt
right_or false e = Err e

-- the fault, if the test says so
abbrev pub fault_if : {E : Type 0} → Bool → E → Result (Unit {0}) E
fault_if true e = Err e
fault_if false e = Ok tt

-- the step, and then the next one, unless it failed
infixl 10 ◌>>◌
abbrev pub ◌>>◌ : {B E : Type 0} → Result (Unit {0}) E → Result B E → Result B E
(Ok x) >> r = r
(Err e) >> r = Err e

-- what is there, or the fault if nothing is
abbrev pub some_or : {A E : Type 0} → Option A → E → Result A E
some_or None e = Err e
some_or (Some x) e = Ok x

-- the fault at a place, if there is one
abbrev pub none_or : {E : Type 0} → Option ℕ → (ℕ → E) → Result (Unit {0}) E
none_or None fault = Ok tt
none_or (Some place) fault = Err (fault place)
