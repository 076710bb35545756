-- What the commands print that write neither a file nor a run.
use Rattle.std.specs.Prelude.{◌≡◌, ℕ, List, [], ◌∷◌, ◌++◌, length, slice_get, option_map, unwrap_or, Option, codes, decimal, Result, Err, ◌≢◌, Bool, true, false, IsTrue, ◌↔◌, Some, None, ◌⊎◌, ⊤}
use Rattle.fleet_model.specs.declared.{geometry.Cell.Cell, task.Task.Task, program.Visit.Visit, program.ActionId.ActionId}
use Rattle.fleet_model.specs.{Program.origin, Program.Program, Program.total_moves, Program.total_awaits, Machine.Holds, Breaking.AreBreakingHolds}
use Rattle.fleet_grid.specs.Ground.{Ground, passable_cells, is_passable}
use Rattle.fleet_cli.specs.Steps.{IsPlannedFor, IsPlanningRefusal, AcceptsProgram, IsAcceptRefusal, IsLoadRefusal}
use Rattle.fleet_text.specs.{Sink.FailsAfter, Sink.SinkState, Sink.IsUnwritten, Sink.IsDelivered, Words.pair_text, Words.line_text}
use Rattle.fleet_args.specs.declared.{commands.CheckRequest.CheckRequest, commands.PlanRequest.PlanRequest, commands.TimesRequest.TimesRequest}
use Rattle.fleet_cli.specs.declared.{files.FileTexts.FileTexts, fault.Fault.Fault, steps.Problem.Problem, print_commands.Asked.Asked}
use Rattle.fleet_cli.specs.declared.fault.Fault.TheVariants as f
use Rattle.fleet_plan.specs.{Plan.Plan, Plan.steps, Plan.IsConflictFree, Apart.IsApart, Checked.CheckedParts, Numbers.sum_of_costs, Numbers.moves_in_plan, Numbers.waits_in_plan}
use Rattle.fleet_search.specs.Bound.{IsBound}
use Rattle.fleet_plan.specs.{PlanText.IsPlanText, PlanText.IsFirstTextFault, PlanText.plan_text, FirstFault.IsFirstPlanFault}
use Rattle.fleet_plan.specs.declared.text_fault.TextFault.TheVariants as t
use Rattle.fleet_plan.specs.declared.plan_fault.PlanFault.TheVariants as p
use Rattle.fleet_cli.specs.Output.{count_lines, report, Prints, Refuses}
use Rattle.fleet_code.specs.Spelling.{Spells}
use Rattle.fleet_verify.specs.{Faults.IsFault, Broken.IsBrokenBy}
use Rattle.fleet_verify.specs.declared.fault.VerifyFault.{VerifyFault}
use Rattle.fleet_verify.specs.declared.fault.VerifyFault.TheVariants as v
use Rattle.fleet_run.specs.{HoldText.holds_text, Listing.program_text, Listing.texts_below, TimesText.times_text, TimesText.reached_text}
use Rattle.std.specs.Borrow.{Bor}
use Rattle.fleet_verify.specs.Times.{EachArrivesAt, HaveArrivedAt, IsCriticalPath, AreReached, StopsOthers, stopped_agents}
use Rattle.fleet_dispatch.specs.{Breaks.AreBreaksOf, Breaks.IsBreaksFault, Costs.AreCostsOf, Costs.IsCostsFault}

-- the line of an agent: `i: x,y x,y`, its start and its goal
unfoldable pub task_line : ℕ → Cell → Cell → List ℕ
task_line i start goal = line_text ((decimal i ++ 58 ∷ []) ∷ pair_text start.x start.y ∷ pair_text goal.x goal.y ∷ [])

-- .. of agent i of these tasks
abbrev pub task_at : List Task → ℕ → List ℕ
task_at tasks i = task_line i (unwrap_or (option_map (λ t. t.start) (slice_get tasks i)) origin) (unwrap_or (option_map (λ t. t.goal) (slice_get tasks i)) origin)

-- the lines of all agents
abbrev pub task_lines : List Task → List ℕ
task_lines tasks = texts_below (task_at tasks) (length tasks)

-- `map W H`, `ground N`, `agents K`, and the lines of the agents
unfoldable pub instance_text : Ground → List Task → List ℕ
instance_text g tasks =
    line_text (codes "map" ∷ decimal g.width ∷ decimal g.height ∷ [])
    ++ (count_lines ((codes "ground", passable_cells g) ∷ (codes "agents", length tasks) ∷ []) ++ task_lines tasks)

-- `apart yes` or `apart no`
abbrev pub apart_line : Bool → List ℕ
apart_line true = line_text (codes "apart" ∷ codes "yes" ∷ [])
apart_line false = line_text (codes "apart" ∷ codes "no" ∷ [])

-- `conflict-free`, then the agents, the steps, the sum of costs, the bound, the moves and the waits, each with its
-- number, and whether no agent follows another
abbrev pub numbers_text : Plan → Asked → List ℕ
numbers_text plan asked =
    report (codes "conflict-free") ((codes "agents", length plan) ∷ (codes "steps", steps plan) ∷ (codes "cost", sum_of_costs plan) ∷ (codes "bound", asked.bound)
    ∷ (codes "moves", moves_in_plan plan) ∷ (codes "waits", waits_in_plan plan) ∷ []) ++ apart_line asked.apart

-- `conflict-free`, then the agents and the steps, each with its number; if more is asked for, then also the others
abbrev pub check_text : Plan → Option Asked → List ℕ
check_text plan None = report (codes "conflict-free") ((codes "agents", length plan) ∷ (codes "steps", steps plan) ∷ [])
check_text plan (Some asked) = numbers_text plan asked

-- the bound and whether the plan is apart, if the numbers are asked for: the bound is the sum of the distances from the
-- starts to the goals
abbrev pub AreAsked : CheckedParts → Bool → Option Asked → Type 0
AreAsked checked numbers None = numbers ≡ false
AreAsked checked numbers (Some asked) =
    (numbers ≡ true) × IsBound (is_passable checked.grid) checked.instance asked.bound × (IsTrue asked.apart ↔ IsApart checked.plan)

-- the bytes of the problem stand for this plan, and it is free of conflict for it
abbrev pub IsFreePlan : Problem → Plan → Type 0
IsFreePlan problem paths = IsPlanText problem.texts.subject.items paths × IsConflictFree (is_passable problem.grid) problem.instance paths

-- the first fault of the plan's text, or of the plan for which it stands; or memory ran out
abbrev pub IsPlanRefusal : Problem → Fault → Type 0
IsPlanRefusal problem (f.Text fault) = fault ≢ t.OutOfMemory → IsFirstTextFault problem.texts.subject.items fault
IsPlanRefusal problem (f.Check fault) =
    (paths : Plan) × IsPlanText problem.texts.subject.items paths × (fault ≢ p.OutOfMemory → IsFirstPlanFault (is_passable problem.grid) problem.instance paths fault)
IsPlanRefusal problem f.Memory = ⊤
IsPlanRefusal problem _ = ⊥

-- What `check` answers. The plan is free of conflict; this is printed with its numbers, and with what else is asked for
abbrev pub AnswersCheck : CheckRequest → Problem → (out out' : SinkState) → Result ℕ Fault → Type 0
AnswersCheck r problem out out' result =
    ((paths : Plan) × (asked : Option Asked) × IsFreePlan problem paths × AreAsked (record { plan = paths; grid = problem.grid; instance = problem.instance }) r.numbers asked
    × Prints (check_text paths asked) out out' result)
    ⊎ Refuses (IsPlanRefusal problem) out out' result

-- what `plan` answers: a plan that is made agent by agent and is free of conflict
abbrev pub AnswersPlan : PlanRequest → Problem → (out out' : SinkState) → Result ℕ Fault → Type 0
AnswersPlan r problem out out' result =
    ((plan : Plan) × (tried : ℕ) × IsPlannedFor problem.grid problem.instance r.horizon r.tries tried plan × Prints (plan_text plan) out out' result)
    ⊎ Refuses (IsPlanningRefusal problem.grid problem.instance r.horizon r.tries) out out' result

-- the bytes are the text of the breaking holds of two visits
abbrev pub SpellsBreakingHolds : Program → (first second : Visit) → (text : List ℕ) → Type 0
SpellsBreakingHolds p first second text = (holds : Holds) × AreBreakingHolds p first second holds × (text ≡ holds_text holds)

-- how a refused program is reported. Of two visits of a cell that no chain orders the breaking holds were printed and
-- handed on before, or the output failed; of every other refusal nothing was printed
abbrev pub ReportsRefused : Program → VerifyFault → (out out' : SinkState) → Fault → Type 0
ReportsRefused p fault out out' f.Memory = IsUnwritten out out'
ReportsRefused p fault out out' (f.Verify (v.Unordered cell first second)) =
    (fault ≡ v.Unordered cell first second) × (text : List ℕ) × SpellsBreakingHolds p first second text × IsDelivered out out' text
ReportsRefused p fault out out' (f.Verify reported) = (fault ≡ reported) × IsUnwritten out out'
ReportsRefused p fault out out' (f.File name) =
    (name.now ≡ codes "-") × (cell : Cell) × (first second : Visit) × (fault ≡ v.Unordered cell first second)
    × (text : List ℕ) × SpellsBreakingHolds p first second text × FailsAfter out out' text
ReportsRefused p fault out out' _ = ⊥

-- what `verify` answers: `accepted`, then the agents, the moves, the awaits and the longest chain, each with its
-- number; or the bytes are refused, or the program that they spell, which is reported
abbrev pub AnswersVerify : Problem → (out out' : SinkState) → Result ℕ Fault → Type 0
AnswersVerify problem out out' result =
    AcceptsProgram problem
    (λ p chain. Prints (report (codes "accepted") ((codes "agents", length p) ∷ (codes "moves", total_moves p) ∷ (codes "awaits", total_awaits p) ∷ (codes "chain", chain) ∷ [])) out out' result)
    ⊎ Refuses (IsLoadRefusal problem.texts.subject.items) out out' result
    ⊎ ((reported : Fault) × (result ≡ Err reported) × (p : Program) × (fault : VerifyFault) × Spells problem.texts.subject.items p
    × IsFault (is_passable problem.grid) problem.instance p fault × IsBrokenBy p fault × ReportsRefused p fault out out' reported)

-- what `list` answers for the texts of its files
abbrev pub AnswersList : FileTexts → (out out' : SinkState) → Result ℕ Fault → Type 0
AnswersList texts out out' result = ((p : Program) × Spells texts.subject.items p × Prints (program_text p) out out' result) ⊎ Refuses (IsLoadRefusal texts.subject.items) out out' result

-- ---- `times`

-- what actions cost: one each, or as the text says if one is given
abbrev pub AreCosts : Program → Option (Bor (List ℕ)) → List ℕ → (ActionId → ℕ) → Type 0
AreCosts p None text cost = (a : ActionId) → cost a ≡ 1
AreCosts p (Some name) text cost = AreCostsOf p text cost

-- memory ran out; or a text is given that says no costs of the program
abbrev pub IsCostsRefusal : Program → Option (Bor (List ℕ)) → List ℕ → Fault → Type 0
IsCostsRefusal p costs text f.Memory = ⊤
IsCostsRefusal p (Some name) text (f.Times fault) = IsCostsFault p text fault
IsCostsRefusal p costs text _ = ⊥

-- memory ran out, or the line names no actions of the program
abbrev pub IsBreaksRefusal : Program → List ℕ → Fault → Type 0
IsBreaksRefusal p line f.Memory = ⊤
IsBreaksRefusal p line (f.Times fault) = IsBreaksFault p line fault
IsBreaksRefusal p line _ = ⊥

-- when each agent arrives at the soonest, when all have arrived, and a chain that takes so long, is printed; or memory
-- ran out
abbrev pub TellsTimetable : Program → (ActionId → ℕ) → (moves : ℕ) → (out out' : SinkState) → Result ℕ Fault → Type 0
TellsTimetable p cost moves out out' result =
    ((arrivals : List ℕ) × (last : ℕ) × (path : List ActionId) × EachArrivesAt p cost arrivals × HaveArrivedAt p cost last × IsCriticalPath p cost path
    × Prints (times_text arrivals moves last path) out out' result)
    ⊎ Refuses (λ fault. fault ≡ f.Memory) out out' result

-- .. of the program, by such costs
abbrev pub TellsTimes : Program → Option (Bor (List ℕ)) → (text : List ℕ) → (out out' : SinkState) → Result ℕ Fault → Type 0
TellsTimes p costs text out out' result =
    ((cost : ActionId → ℕ) × AreCosts p costs text cost × TellsTimetable p cost (total_moves p) out out' result) ⊎ Refuses (IsCostsRefusal p costs text) out out' result

-- how far each agent comes, and no further, if the actions that the line names are never ended, which every schedule
-- bears out, is printed
abbrev pub TellsReached : Program → (line : List ℕ) → (out out' : SinkState) → Result ℕ Fault → Type 0
TellsReached p line out out' result =
    ((breaks counts : List ℕ) × AreBreaksOf p line breaks × AreReached p breaks counts × StopsOthers p breaks counts
    × Prints (reached_text counts (total_moves p) (stopped_agents p counts)) out out' result)
    ⊎ Refuses (IsBreaksRefusal p line) out out' result

-- the one or the other
abbrev pub Tells : TimesRequest → Program → (text : List ℕ) → Option (Bor (List ℕ)) → (out out' : SinkState) → Result ℕ Fault → Type 0
Tells r p text None = TellsTimes p r.costs text
Tells r p text (Some line) = TellsReached p line.now

-- what `times` answers
abbrev pub AnswersTimes : TimesRequest → Problem → (out out' : SinkState) → Result ℕ Fault → Type 0
AnswersTimes r problem out out' result =
    AcceptsProgram problem (λ p chain. Tells r p problem.texts.holds.items r.broken out out' result) ⊎ Refuses (IsAcceptRefusal problem) out out' result
