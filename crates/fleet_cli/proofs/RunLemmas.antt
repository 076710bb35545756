-- A sink to which nothing was written, and the program that was made.
use Rattle.std.proofs.Common.{◌≡◌, ℕ, List, subst}
use Rattle.std.proofs.KnownBytes.{Keeps-refl}
use Rattle.fleet_model.specs.{declared.deps.Deps.Deps, declared.task.Task.Task, Program.Program}
use Rattle.fleet_text.specs.Sink.{SinkState, IsWorking, IsUnwritten}
use Rattle.fleet_grid.specs.Ground.{Ground}
use Rattle.fleet_code.specs.{declared.format.Version.TheVariants.One, Spelling.Spells}
use Rattle.fleet_args.specs.declared.commands.Tries.{Tries}
use Rattle.fleet_cli.specs.{Steps.IsMadeFor, Steps.SpellsMade, declared.steps.PlanNumbers.PlanNumbers}

-- nothing was written to a sink that is as before
pub nothing_written : (out : SinkState) → IsWorking out → IsUnwritten out out
nothing_written out working = record { kept = Keeps-refl out.taken; working = working }

-- bytes were made that spell one program alone: so it was made
pub made : {g : Ground} {tasks : List Task} {horizon : ℕ} {tries : Tries} {deps : Deps} {numbers : PlanNumbers} {bytes : List ℕ} {q : Program} → SpellsMade g tasks horizon tries deps numbers bytes
    → ((p : Program) → Spells bytes p → p ≡ q) → IsMadeFor g tasks horizon tries deps numbers q
made {g} {tasks} {horizon} {tries} {deps} {numbers} plan only = subst (IsMadeFor g tasks horizon tries deps numbers) (only plan.program (record { version = One; spelling = plan.spelled })) plan.made
