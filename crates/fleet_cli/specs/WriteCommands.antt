-- What the commands `compile`, `thin`, `migrate` and `rest` write and print.
use Rattle.std.specs.Prelude.{◌≡◌, ◌≢◌, ℕ, List, [], ◌∷◌, ◌⊎◌, length, Option, None, Some, IfSome, Ok, Err, codes, Result, ⊤}
use Rattle.std.specs.{Borrow.Bor, List.remove}
use Rattle.fleet_model.specs.declared.{geometry.Cell.Cell, task.Task.Task}
use Rattle.fleet_model.specs.{Program.Program, Program.total_moves, Program.total_awaits, Machine.Configuration, Accepted.IsAccepted}
use Rattle.fleet_grid.specs.{Ground.Ground, Ground.is_passable, MapWriting.map_text, MapWriting.ground_without}
use Rattle.fleet_plan.specs.Plan.{Plan}
use Rattle.fleet_adg.specs.{Compiled.compiled_staying_if_few, ProgramBytes.AreBytesOf, Thinned.IsThinnedFor, Remaining.tasks_of}
use Rattle.fleet_adg.specs.declared.compiler.ProgramBytes.{ProgramBytes}
use Rattle.fleet_adg.specs.declared.fault.CompileFault.TheVariants as c
use Rattle.fleet_code.specs.{Spelling.SpellsShortest, Spelling.SpellsIn, Spelling.Spells, declared.format.Version.TheVariants.Two}
use Rattle.fleet_text.specs.Sink.{SinkState}
use Rattle.fleet_cli.specs.{Files.Store, Output.count_lines, Output.AnswersOut, Steps.AcceptsProgram, Steps.IsAcceptRefusal, Steps.IsLoadRefusal}
use Rattle.fleet_args.specs.declared.{commands.CompileRequest.CompileRequest, commands.ThinRequest.ThinRequest, commands.MigrateRequest.MigrateRequest, commands.RestRequest.RestRequest}
use Rattle.fleet_cli.specs.declared.{files.FileTexts.FileTexts, fault.Fault.Fault, steps.Problem.Problem, write_commands.RestTexts.RestTexts}
use Rattle.fleet_cli.specs.PrintCommands.{IsFreePlan, IsPlanRefusal}
use Rattle.fleet_cli.specs.declared.fault.Fault.TheVariants as f
use Rattle.fleet_scen.specs.{ScenText.IsScenText, ScenWriting.scen_text}
use Rattle.fleet_verify.specs.Rest.{StandOn, RunsOn, cell_at, rest, rest_tasks}
use Rattle.fleet_dispatch.specs.{Standing.StandsAfter, Standing.IsLogRefusal, DeadRobot.dead_robot_of}
use Rattle.fleet_dispatch.specs.declared.{dead_robot.DeadRobot.DeadRobot, times_fault.TimesFault.TheVariants.Dead}

-- the problem's plan is free of conflict; the program is that of the plan with so many stays after the moves of each
-- agent, and is accepted; and these are its bytes and its numbers
abbrev pub CompilesPlan : Problem → CompileRequest → ProgramBytes → Type 0
CompilesPlan problem r made =
    (paths : Plan) × (program : Program) × IsFreePlan problem paths × (compiled_staying_if_few paths r.deps r.dwell ≡ Ok program)
    × IsAccepted (is_passable problem.grid) problem.instance program × AreBytesOf program made

-- the first fault, judged in this order: plan text, plan, program; or memory ran out
abbrev pub IsCompileFault : Problem → CompileRequest → Fault → Type 0
IsCompileFault problem r (f.Compile fault) = (paths : Plan) × IsFreePlan problem paths × (fault ≢ c.OutOfMemory → compiled_staying_if_few paths r.deps r.dwell ≡ Err fault)
IsCompileFault problem r fault = IsPlanRefusal problem fault

-- the agents, the moves and the awaits of a program, and its bytes, each with its number
abbrev pub numbers_text : (agents moves awaits : ℕ) → List ℕ → List ℕ
numbers_text agents moves awaits bytes =
    count_lines ((codes "agents", agents) ∷ (codes "moves", moves) ∷ (codes "awaits", awaits) ∷ (codes "bytes", length bytes) ∷ [])

-- what `compile` answers: the file OUT holds the program's bytes, and the program's numbers are printed
abbrev pub AnswersCompile : (files after : Option Store) → CompileRequest → Problem → (out out' : SinkState) → Result ℕ Fault → Type 0
AnswersCompile files after r problem =
    AnswersOut files after (CompilesPlan problem r) (IsCompileFault problem r) (λ made. (Some r.out, made.bytes.items) ∷ [])
    (λ made. numbers_text made.agents made.moves made.awaits made.bytes.items)

-- the program had so many awaits before, and these are the bytes of the one without its implied awaits, which is
-- accepted for the same map and tasks, has the same longest chain and runs equally
abbrev pub ThinsProgram : Problem → Program → (chain before : ℕ) → ProgramBytes → Type 0
ThinsProgram problem p chain before made =
    (before ≡ total_awaits p) × (thinned : Program) × IsThinnedFor (is_passable problem.grid) problem.instance p chain thinned × AreBytesOf thinned made

-- what `thin` answers: the file OUT holds the bytes, and the numbers of awaits before and after are printed
abbrev pub AnswersThin : (files after : Option Store) → ThinRequest → Problem → (out out' : SinkState) → Result ℕ Fault → Type 0
AnswersThin files after r problem =
    AnswersOut {A = ℕ × ProgramBytes} files after (λ made. AcceptsProgram problem (λ p chain. ThinsProgram problem p chain made.0 made.1)) (IsAcceptRefusal problem)
    (λ made. (Some r.out, made.1.bytes.items) ∷ []) (λ made. count_lines ((codes "awaits", made.0) ∷ (codes "awaits", made.1.awaits) ∷ []))

-- what `migrate` answers for the bytes of its file, which spell a program, in either version: OUT holds those of the
-- program in version 2, and how many they are is printed
abbrev pub AnswersMigrate : (files after : Option Store) → MigrateRequest → FileTexts → (out out' : SinkState) → Result ℕ Fault → Type 0
AnswersMigrate files after r texts =
    AnswersOut files after (λ migrated. (p : Program) × Spells texts.subject.items p × SpellsIn Two migrated p) (IsLoadRefusal texts.subject.items)
    (λ migrated. (Some r.out, migrated) ∷ []) (λ migrated. count_lines ((codes "bytes", length migrated) ∷ []))

-- ---- `rest`

-- q is the rest of the program where the reports of the log have led its agents, and its runs are the rests of the
-- program's runs
pub record IsRestOf (p : Program) (log : List ℕ) (q : Program) : Type 0 where
  pub standings : Configuration
  pub after : StandsAfter p log standings
  pub cells : StandOn p standings (cell_at standings)
  pub is : q ≡ rest (cell_at standings) p standings
  pub runs_on : RunsOn p standings q

-- the log could not be taken, or memory ran out
abbrev pub IsRestFault : Program → List ℕ → Fault → Type 0
IsRestFault p log (f.Dispatch fault) = IsLogRefusal p log fault
IsRestFault p log f.Memory = ⊤
IsRestFault p log _ = ⊥

-- the dead robot that is named is this one, or none is named
abbrev pub IsDead : Ground → (agents : ℕ) → Option (Bor (List ℕ)) → Option DeadRobot → Type 0
IsDead g agents None dead = dead ≡ None
IsDead g agents (Some text) dead = (d : DeadRobot) × (dead ≡ Some d) × (dead_robot_of agents g.width g.height text.now ≡ Some d)

-- what is named is none
abbrev pub IsDeadRefusal : Ground → (agents : ℕ) → Option (Bor (List ℕ)) → Fault → Type 0
IsDeadRefusal g agents (Some text) (f.Times Dead) = dead_robot_of agents g.width g.height text.now ≡ None
IsDeadRefusal g agents without fault = ⊥

-- the cells of the dead robot
abbrev pub dead_cells : Option DeadRobot → List Cell
dead_cells None = []
dead_cells (Some d) = d.first ∷ d.second ∷ []

-- the tasks of the others
abbrev pub tasks_without : Option DeadRobot → List Task → List Task
tasks_without None tasks = tasks
tasks_without (Some d) tasks = remove tasks d.agent

-- the text of the map in which the cells of the dead robot are blocked, if it is asked for
abbrev pub IsMapAround : Ground → Option DeadRobot → Option (Bor (List ℕ)) → List ℕ → Type 0
IsMapAround g dead name text = IfSome name (λ _. text ≡ map_text (ground_without g (dead_cells dead)))

-- the text of the tasks of the others, if it is asked for
abbrev pub AreOthers : Ground → List Task → Option DeadRobot → Option (Bor (List ℕ)) → List ℕ → Type 0
AreOthers g tasks dead name text = IfSome name (λ _. text ≡ scen_text g.width g.height (tasks_without dead tasks))

-- what is left of the program is its rest after the log, from where the agents stand to the same goals, which is
-- accepted for that
pub record LeavesRest (g : Ground) (p : Program) (log : List ℕ) (q : Program) : Type 0 where
  pub left : IsRestOf p log q
  pub tasks : tasks_of q ≡ rest_tasks (cell_at left.standings) p
  pub accepted : IsAccepted (is_passable g) (tasks_of q) q

-- so of the program that is accepted for the problem
abbrev pub LeavesProgram : Problem → Program → Type 0
LeavesProgram problem q = AcceptsProgram problem (λ p chain. LeavesRest problem.grid p problem.texts.log.items q)

-- the bytes of the problem are refused; or the log is, for the program that is accepted; or memory ran out
abbrev pub IsLeavingRefusal : Problem → Fault → Type 0
IsLeavingRefusal problem fault = IsAcceptRefusal problem fault ⊎ AcceptsProgram problem (λ p chain. IsRestFault p problem.texts.log.items fault)

-- the one text stands for the tasks of what is left, and the bytes spell it, in version 1 if that has bytes for it.
-- Around a dead robot there are the map in which its cells are blocked and the tasks of the others
pub record AreRestTexts (g : Ground) (q : Program) (robot : Option DeadRobot) (r : RestRequest) (texts : RestTexts) : Type 0 where
  pub written : texts.scen.items ≡ scen_text g.width g.height (tasks_of q)
  pub stands : IsScenText texts.scen.items g None (tasks_of q)
  pub spelled : SpellsShortest texts.bytes.items q
  pub around : IsMapAround g robot r.map_out texts.map.items
  pub rest_of_them : AreOthers g (tasks_of q) robot r.others_out texts.others.items

-- this is left of the problem's program, with these texts, around the dead robot that is named
abbrev pub LeavesTexts : Problem → RestRequest → Program × RestTexts → Type 0
LeavesTexts problem r made =
    LeavesProgram problem made.0 × ((robot : Option DeadRobot) × IsDead problem.grid (length made.0) r.without robot × AreRestTexts problem.grid made.0 robot r made.1)

-- no program is left, or memory ran out; or what is named as dead is no robot of the program that is left
abbrev pub IsRestRefusal : Problem → RestRequest → Fault → Type 0
IsRestRefusal problem r fault =
    IsLeavingRefusal problem fault ⊎ ((q : Program) × LeavesProgram problem q × IsDeadRefusal problem.grid (length q) r.without fault)

-- What `rest` answers. The rest was made, and the files were written so; or there was a refusal before anything is
-- written, and every file is as before
abbrev pub AnswersRest : (files after : Option Store) → RestRequest → Problem → (out out' : SinkState) → Result ℕ Fault → Type 0
AnswersRest files after r problem =
    AnswersOut {A = Program × RestTexts} files after (LeavesTexts problem r) (IsRestRefusal problem r)
    (λ made. (Some r.scen_out, made.1.scen.items) ∷ (r.map_out, made.1.map.items) ∷ (r.others_out, made.1.others.items) ∷ (Some r.program_out, made.1.bytes.items) ∷ [])
    (λ made. numbers_text (length made.0) (total_moves made.0) (total_awaits made.0) made.1.bytes.items)
