-- Small programs, worked out by hand: visits without an order, and awaits that others imply.
use Rattle.std.specs.Prelude.{[], ◌∷◌}
use Rattle.fleet_model.specs.declared.geometry.Place.{Place}
use Rattle.fleet_model.specs.declared.geometry.Dir.TheVariants.{East}
use Rattle.fleet_model.specs.declared.program.Visit.{Visit}
use Rattle.fleet_model.specs.Program.{Program}
use Rattle.fleet_model.specs.Machine.{Holds}
use Rattle.fleet_example.specs.Programs.{cell_xy, await_on, go, agent_with}
use Rattle.fleet_model.specs.Visit.{AreUnordered}
use Rattle.fleet_model.specs.Breaking.{AreBreakingHolds, MeetOn}

-- agent 2 enters 1,0 and awaits agent 1 alone, which awaits nobody. So no await says that agent 0 has left it
abbrev pub loose_relay : Program
loose_relay =
    agent_with (cell_xy 1 0) (cell_xy 2 0) (go East [] ∷ [])
    ∷ agent_with (cell_xy 0 2) (cell_xy 1 2) (go East [] ∷ [])
    ∷ agent_with (cell_xy 0 0) (cell_xy 1 0) (go East (await_on 1 1 ∷ []) ∷ [])
    ∷ []

-- the relay, but that agent 2 awaits agent 0 too
abbrev pub tight_relay : Program
tight_relay =
    agent_with (cell_xy 1 0) (cell_xy 2 0) (go East [] ∷ [])
    ∷ agent_with (cell_xy 0 2) (cell_xy 1 2) (go East (await_on 0 1 ∷ []) ∷ [])
    ∷ agent_with (cell_xy 0 0) (cell_xy 1 0) (go East (await_on 0 1 ∷ await_on 1 1 ∷ []) ∷ [])
    ∷ []

-- the visits have no order, these are their breaking holds, and after them both agents stand on the place
pub record MeetBy (p : Program) (q : Place) (v w : Visit) (holds : Holds) : Type 0 where
  pub unordered : AreUnordered p q v w
  pub breaking : AreBreakingHolds p v w holds
  pub meet : MeetOn p q v w holds
