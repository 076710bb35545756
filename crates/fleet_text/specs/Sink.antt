-- What is known of a sink of bytes, and what it takes.
use Rattle.std.specs.Prelude.{◌≡◌, ℕ, ◌<◌, ◌≤◌, Bool, true, false, List, length, take, Option, Result, Ok, Err, MatchBool}
use Rattle.std.specs.Io.KnownBytes.{Keeps, Appends}

-- a sink at one time
pub record SinkState : Type 0 where
  pub taken : Option (List ℕ)  -- the bytes that it took, if it says which
  pub has_failed : Bool
  pub is_flushed : Bool  -- whether it has handed on all that it took

-- it has not failed
abbrev pub IsWorking : SinkState → Type 0
IsWorking out = out.has_failed ≡ false

-- it has failed, and does not say why
abbrev pub HasFailed : SinkState → Type 0
HasFailed out = out.has_failed ≡ true

-- it took these bytes, and works
pub record Takes (out out' : SinkState) (bytes : List ℕ) : Type 0 where
  pub taken : Appends out.taken out'.taken bytes
  pub working : IsWorking out'

-- it took a proper prefix of the bytes, and then failed
pub record StopsWithin (out out' : SinkState) (bytes : List ℕ) : Type 0 where
  pub taken : (k : ℕ) × (k < length bytes) × Appends out.taken out'.taken (take k bytes)
  pub failed : HasFailed out'

-- it took a front of the bytes, and then failed: at what follows, or, after all of them, at handing them on
pub record FailsAfter (out out' : SinkState) (bytes : List ℕ) : Type 0 where
  pub taken : (k : ℕ) × (k ≤ length bytes) × Appends out.taken out'.taken (take k bytes)
  pub failed : HasFailed out'

-- nothing was written to it
pub record IsUnwritten (out out' : SinkState) : Type 0 where
  pub kept : Keeps out.taken out'.taken
  pub working : IsWorking out'

-- it took these bytes and handed on all that it took
pub record IsDelivered (out out' : SinkState) (bytes : List ℕ) : Type 0 where
  pub written : Takes out out' bytes
  pub flushed : out'.is_flushed ≡ true

-- One call of `put`: some front of the piece was taken, which may still be kept back; at a fault nothing was, and the
-- sink has failed.
abbrev pub TakesPiece : {E : Type 0} → (out out' : SinkState) → Result ℕ E → List ℕ → Type 0
TakesPiece out out' (Ok n) piece =
    (0 < n) × (n ≤ length piece) × Takes out out' (take n piece) × (out'.is_flushed ≡ false)
TakesPiece out out' (Err _) piece = Keeps out.taken out'.taken × HasFailed out'

-- One call of `flush`: at Ok the sink has handed on all that it took, and at a fault it has failed.
abbrev pub HandsOn : {T E : Type 0} → (out out' : SinkState) → Result T E → Type 0
HandsOn out out' (Ok _) = Keeps out.taken out'.taken × IsWorking out' × (out'.is_flushed ≡ true)
HandsOn out out' (Err _) = Keeps out.taken out'.taken × HasFailed out'

-- All of the bytes were taken, or the sink failed after a proper prefix of them.
abbrev pub TakesAll : {T E : Type 0} → (out out' : SinkState) → Result T E → List ℕ → Type 0
TakesAll out out' (Ok _) bytes = Takes out out' bytes
TakesAll out out' (Err _) bytes = StopsWithin out out' bytes

-- All of the bytes were taken and handed on, or the sink failed after a front of them.
abbrev pub Delivers : {T E : Type 0} → (out out' : SinkState) → Result T E → List ℕ → Type 0
Delivers out out' (Ok _) bytes = IsDelivered out out' bytes
Delivers out out' (Err _) bytes = FailsAfter out out' bytes

-- A sink that has not failed took all of the bytes, and one that has failed a proper prefix.
abbrev pub Receives : (out out' : SinkState) → List ℕ → Type 0
Receives out out' bytes =
    MatchBool out'.has_failed ((k : ℕ) × (k < length bytes) × Appends out.taken out'.taken (take k bytes)) (Appends out.taken out'.taken bytes)
