-- What a call answers that may run out of memory.
use Rattle.std.specs.Prelude.{◌≡◌, ◌≢◌, Result, Ok, Err}

-- the result, seen by view, is the one that is due, unless it is this error
abbrev pub IsDueUnless : {X Y E : Type 0} → (X → Y) → Result X E → Result Y E → E → Type 0
IsDueUnless view (Ok x) due memory = due ≡ Ok (view x)
IsDueUnless view (Err e) due memory = e ≢ memory → due ≡ Err e
