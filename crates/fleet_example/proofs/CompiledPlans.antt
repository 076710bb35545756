-- The programs of the small plans, by computation.
use Rattle.std.proofs.Common.{◌≡◌, refl, [], ◌∷◌}
use Rattle.fleet_model.specs.declared.deps.Deps.{Deps}
use Rattle.fleet_model.specs.Program.{Program}
use Rattle.fleet_example.specs.Plans.{base_plan, corridor, there_and_back_plan, pass_plan}
use Rattle.fleet_example.specs.Programs.{await_on, pair}
use Rattle.fleet_example.specs.Compiled.{corridor_program, there_and_back_program, pass_program}
use Rattle.fleet_plan.specs.Plan.{Plan, cell_at, cell_of, steps}
use Rattle.fleet_adg.specs.Compiled.{direction, changes_in, changes, moves_by, leaves, await_of, last_below, leaver, last_leaving_by, last_leaving, leavings, entry_awaits, action_in, agent_program, compiled}

-- opens all that a program is computed with
computed : Plan → Deps → Program
unfolding cell_at cell_of steps direction changes_in changes moves_by leaves await_of last_below leaver last_leaving_by last_leaving leavings entry_awaits action_in agent_program compiled
computed plan deps = compiled plan deps

pub base : (deps : Deps) → compiled base_plan deps ≡ pair
unfolding computed
base Deps.All = refl
base Deps.Last = refl

pub corridor_all : compiled corridor Deps.All ≡ corridor_program (await_on 0 1 ∷ await_on 1 2 ∷ [])
unfolding computed
corridor_all = refl

pub corridor_last : compiled corridor Deps.Last ≡ corridor_program (await_on 1 2 ∷ [])
unfolding computed
corridor_last = refl

pub there_and_back : (deps : Deps) → compiled there_and_back_plan deps ≡ there_and_back_program
unfolding computed
there_and_back Deps.All = refl
there_and_back Deps.Last = refl

pub pass : (deps : Deps) → compiled pass_plan deps ≡ pass_program
unfolding computed
pass Deps.All = refl
pass Deps.Last = refl
