-- Why a program that is refused for its order runs badly.
use Rattle.std.specs.Prelude.{ℕ, ◌<◌, List, Contains}
use Rattle.fleet_model.specs.declared.geometry.Place.{Place}
use Rattle.fleet_model.specs.declared.program.ActionId.{ActionId}
use Rattle.fleet_model.specs.declared.program.Visit.{Visit}
use Rattle.fleet_model.specs.Geometry.{place_of}
use Rattle.fleet_model.specs.Program.{Program, AreInRange}
use Rattle.fleet_model.specs.Machine.{Holds, run, count_at}
use Rattle.fleet_model.specs.Chain.{IsNumbering}
use Rattle.fleet_model.specs.Visit.{AreUnordered}
use Rattle.fleet_model.specs.Breaking.{AreBreakingHolds, MeetOn}
use Rattle.fleet_verify.specs.declared.fault.VerifyFault.{VerifyFault}
use Rattle.fleet_verify.specs.declared.fault.VerifyFault.TheVariants.{Cyclic, Unordered}

-- no list of holds ever finishes an action of the ring
abbrev pub IsNeverFinished : Program → List ActionId → Type 0
IsNeverFinished p ring =
    (holds : Holds) (t : ℕ) (a : ActionId) → Contains ring a → count_at (run p holds t) a.agent < a.number

-- no chain orders the two visits of the place, and after their breaking holds both agents stand on it
pub record MeetUnordered (p : Program) (q : Place) (v w : Visit) : Type 0 where
  pub in_range : AreInRange p
  pub number : ActionId → ℕ
  pub numbering : IsNumbering p number
  pub unordered : AreUnordered p q v w
  pub holds : Holds
  pub breaking : AreBreakingHolds p v w holds
  pub meet : MeetOn p q v w holds

-- the runs of a program that is refused for its order: a ring is never finished, and the agents of unordered visits
-- meet
abbrev pub IsBrokenBy : Program → VerifyFault → Type 0
IsBrokenBy p (Cyclic ring) = IsNeverFinished p ring.items
IsBrokenBy p (Unordered cell first second) = MeetUnordered p (place_of cell) first second
IsBrokenBy p _ = Unit {0}
