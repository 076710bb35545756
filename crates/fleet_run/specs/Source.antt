-- The ticks that a source can still give, what comes after them, and how it has failed.
use Rattle.std.specs.Prelude.{◌≡◌, ℕ, ◌<◌, Bool, true, false, List, [], ◌∷◌, length, None, Some, Option, Result, Ok, Err}
use Rattle.fleet_model.specs.Machine.{Holds, is_among}
use Rattle.fleet_machine.specs.Machine.{flag_of}
use Rattle.fleet_run.specs.declared.source.SourceFault.{SourceFault}

-- flag i says whether the tick has the number i
abbrev pub AreFlagsOf : List ℕ → List Bool → Type 0
AreFlagsOf tick flags = (i : ℕ) → i < length flags → flag_of flags i ≡ is_among tick i

-- a source at one time
pub record SourceState : Type 0 where
  pub ticks : Holds  -- what it can still give, each tick by the numbers of the agents that it holds
  pub last : Option SourceFault  -- what comes after them: nothing, or the failure
  pub fault : Option SourceFault  -- how it has failed, if it has

-- a source that gives these ticks, and then ends
abbrev pub list_source : Holds → SourceState
list_source ticks = record { ticks = ticks; last = None; fault = None }

-- it has not failed
abbrev pub HasNotFailed : SourceState → Type 0
HasNotFailed source = source.fault ≡ None

-- it can be asked for its next tick: it has not failed, and if it has ended nothing is left, and no flag is set
pub record CanBeAsked (ended : Bool) (source : SourceState) (flags : List Bool) : Type 0 where
  pub working : HasNotFailed source
  pub nothing_left : ended ≡ true → source.ticks ≡ []
  pub unset : ended ≡ true → AreFlagsOf [] flags

-- One call of `next`: the first tick is set and taken off; or no tick was left and nothing came after them; or no tick
-- was left and the source fails as its last says. Nothing is said of what comes after a source that has ended.
abbrev pub GivesTick : (source source' : SourceState) → Result Bool SourceFault → List Bool → Type 0
GivesTick source source' (Ok true) flags =
    ((tick : List ℕ) × (source.ticks ≡ tick ∷ source'.ticks) × AreFlagsOf tick flags) × (source'.last ≡ source.last) × HasNotFailed source'
GivesTick source source' (Ok false) flags = (source.ticks ≡ []) × (source'.ticks ≡ []) × (source.last ≡ None) × HasNotFailed source'
GivesTick source source' (Err e) flags =
    (source.ticks ≡ []) × (source'.ticks ≡ []) × (source.last ≡ Some e) × (source'.last ≡ source.last) × (source'.fault ≡ Some e)

-- the agents held in the first tick, or nobody if there is none
abbrev pub first_of : Holds → List ℕ
first_of [] = []
first_of (tick ∷ ticks) = tick

-- the ticks after the first
abbrev pub rest_of : Holds → Holds
rest_of [] = []
rest_of (tick ∷ ticks) = ticks

-- A source is asked, unless it has ended: the flags are set to the first tick, which is taken off, or to nobody if
-- there is none, and the answer says whether there was one; or the source has failed
abbrev pub AsksTick : (ended : Bool) (source source' : SourceState) → Result Bool SourceFault → List Bool → Type 0
AsksTick ended source source' (Ok true) flags =
    (0 < length source.ticks) × (source'.ticks ≡ rest_of source.ticks) × AreFlagsOf (first_of source.ticks) flags × HasNotFailed source' × (source'.last ≡ source.last)
AsksTick ended source source' (Ok false) flags =
    (source.ticks ≡ []) × (source'.ticks ≡ rest_of source.ticks) × AreFlagsOf (first_of source.ticks) flags × HasNotFailed source' × (ended ≡ false → source.last ≡ None)
AsksTick ended source source' (Err e) flags =
    (ended ≡ false) × (source.ticks ≡ []) × (source'.ticks ≡ []) × (source.last ≡ Some e) × (source'.last ≡ source.last) × (source'.fault ≡ Some e)
