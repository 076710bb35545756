-- The programs that the small plans compile to.
use Rattle.std.specs.Prelude.{List, [], ◌∷◌}
use Rattle.fleet_model.specs.declared.geometry.Dir.TheVariants.{North, East, West}
use Rattle.fleet_model.specs.declared.program.Await.{Await}
use Rattle.fleet_model.specs.Program.{Program}
use Rattle.fleet_example.specs.Programs.{cell_xy, await_on, go, agent_with}

-- the last agent's last action has these awaits
abbrev pub corridor_program : List Await → Program
corridor_program awaits =
    agent_with (cell_xy 2 0) (cell_xy 4 0) (go East [] ∷ go East [] ∷ [])
    ∷ agent_with (cell_xy 1 0) (cell_xy 3 0) (go East (await_on 0 1 ∷ []) ∷ go East (await_on 0 2 ∷ []) ∷ [])
    ∷ agent_with (cell_xy 0 0) (cell_xy 2 0) (go East (await_on 1 1 ∷ []) ∷ go East awaits ∷ [])
    ∷ []

abbrev pub there_and_back_program : Program
there_and_back_program = agent_with (cell_xy 0 0) (cell_xy 0 0) (go East [] ∷ go West [] ∷ []) ∷ []

abbrev pub pass_program : Program
pass_program =
    agent_with (cell_xy 0 0) (cell_xy 2 0) (go East [] ∷ go East [] ∷ [])
    ∷ agent_with (cell_xy 1 1) (cell_xy 0 0) (go North (await_on 0 2 ∷ []) ∷ go West (await_on 0 1 ∷ []) ∷ [])
    ∷ []
