-- Laws of the spelling, of all programs and all bytes.
use Rattle.std.specs.Prelude.{◌≡◌, ◌≢◌, ◌↔◌, ◌≤◌, List, [], ◌++◌, length, ℕ, Result, Ok, Err}
use Rattle.fleet_model.specs.Program.{Program, IsWellFormed}
use Rattle.fleet_code.specs.declared.fault.LoadFault.{LoadFault}
use Rattle.fleet_code.specs.declared.fault.LoadFault.TheVariants.{OutOfMemory, Truncated}
use Rattle.fleet_code.specs.declared.format.Version.{Version}
use Rattle.fleet_code.specs.Spelling.{spelling, CanSpell, SpellsIn, Spells}
use Rattle.fleet_code.specs.LoadFaults.{IsFirstLoadFault}
use Rattle.fleet_code.specs.Offsets.{Viewed}

-- if a spelling begins another, of either version, nothing follows it and both spell one program
abbrev pub NoneBeginsAnother : Type 0
NoneBeginsAnother = (front rest : List ℕ) (p q : Program) → Spells front p → Spells (front ++ rest) q → (rest ≡ []) × (p ≡ q)

-- two spellings of one version are the same exactly if their programs are
abbrev pub OneSpellingEach : Type 0
OneSpellingEach = (v : Version) (a b : List ℕ) (p q : Program) → SpellsIn v a p → SpellsIn v b q → (a ≡ b) ↔ (p ≡ q)

-- bytes are a spelling of one program, in one version
abbrev pub OneProgramEach : Type 0
OneProgramEach = (bytes : List ℕ) (v w : Version) (p q : Program) → SpellsIn v bytes p → SpellsIn w bytes q → (v ≡ w) × (p ≡ q)

-- a spelling that is cut off, wherever it is, has the first fault that the bytes end within the program
abbrev pub BeginningsAreTruncated : Type 0
BeginningsAreTruncated = (v : Version) (p : Program) (front rest : List ℕ) → IsWellFormed p → CanSpell v p → spelling v p ≡ front ++ rest → 1 ≤ length rest → IsFirstLoadFault front Truncated

-- two answers to the same bytes: one program, or one fault. OutOfMemory may stand in place of either
abbrev pub Agree : Result Viewed LoadFault → Result Program LoadFault → Type 0
Agree (Ok p) (Ok q) = p.program ≡ q
Agree (Err e) (Err f) = e ≢ OutOfMemory → f ≢ OutOfMemory → e ≡ f
Agree (Ok p) (Err f) = f ≢ OutOfMemory → ⊥
Agree (Err e) (Ok q) = e ≢ OutOfMemory → ⊥

-- a first fault other than missing bytes stays, whatever follows
abbrev pub FaultsStay : Type 0
FaultsStay = (bytes more : List ℕ) (f : LoadFault) → IsFirstLoadFault bytes f → f ≢ Truncated → IsFirstLoadFault (bytes ++ more) f
