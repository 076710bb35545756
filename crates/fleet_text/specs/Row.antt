-- What a row of bytes does to the sink to which it hands on what is put into it.
use Rattle.std.specs.Prelude.{◌≡◌, ℕ, List, ◌++◌, Result, Ok, Err}
use Rattle.fleet_text.specs.Sink.{SinkState, Takes, StopsWithin}

-- what was in the row, and the bytes after it, went to the sink in this order, but for what is in the row now
pub record PassesOn (out out' : SinkState) (row left bytes : List ℕ) : Type 0 where
  pub handed : List ℕ
  pub taken : Takes out out' handed
  pub in_order : row ++ bytes ≡ handed ++ left

-- the bytes were put into the row, from which some may have been handed on; or the sink failed before it had taken all
-- of them
abbrev pub Gathers : {T E : Type 0} → (out out' : SinkState) → Result T E → (row left bytes : List ℕ) → Type 0
Gathers out out' (Ok _) row left bytes = PassesOn out out' row left bytes
Gathers out out' (Err _) row left bytes = StopsWithin out out' (row ++ bytes)
