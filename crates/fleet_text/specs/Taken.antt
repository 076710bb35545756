-- A sink over memory.
use Rattle.std.specs.Prelude.{ℕ, ◌+◌, ◌<◌, Bool, List, length, Some}
use Rattle.fleet_text.specs.Sink.{SinkState}

-- the bytes that it took, and for how many it has room without a growth
pub record Taken : Type 0 where
  pub bytes : List ℕ
  pub room : ℕ
  pub has_failed : Bool
  pub is_flushed : Bool

-- what is known of it as a sink
abbrev pub state_of : Taken → SinkState
state_of t = record { taken = Some t.bytes; has_failed = t.has_failed; is_flushed = t.is_flushed }

-- it has no room for the piece: it has to grow
abbrev pub HasNoRoom : Taken → List ℕ → Type 0
HasNoRoom t piece = t.room < length t.bytes + length piece
