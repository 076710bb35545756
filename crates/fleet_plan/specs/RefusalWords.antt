-- The lines of the faults of a plan, and of its text.
use Rattle.std.specs.Prelude.{ℕ, Bool, true, false, List, [], ◌∷◌, codes, decimal}
use Rattle.fleet_text.specs.Refusals.{memory_words, named, named_at, named_by}
use Rattle.fleet_plan.specs.declared.plan_fault.Conflict.{Conflict}
use Rattle.fleet_plan.specs.declared.plan_fault.Conflict.TheVariants.{Vertex, Swapping, Cycle}
use Rattle.fleet_plan.specs.declared.text_fault.TextFault.{TextFault}
use Rattle.fleet_plan.specs.declared.text_fault.TextFault.TheVariants as t
use Rattle.fleet_plan.specs.declared.plan_fault.PlanFault.{PlanFault}
use Rattle.fleet_plan.specs.declared.plan_fault.PlanFault.TheVariants as p

-- the words of the line of a fault of a plan text
abbrev pub text_words : TextFault → List (List ℕ)
text_words t.OutOfMemory = memory_words
text_words (t.Form line) = named_at (codes "text") 2 (codes "Form") (codes "line") line
text_words (t.Length line) = named_at (codes "text") 3 (codes "Length") (codes "line") line
text_words t.AgentCount = named (codes "text") 4 (codes "AgentCount")

-- whether memory failed
abbrev pub is_text_failure : TextFault → Bool
is_text_failure t.OutOfMemory = true
is_text_failure _ = false

-- a conflict of two agents of a plan: its kind, its time and the agents
abbrev pub pair_words : List ℕ → ℕ → ℕ → ℕ → List (List ℕ)
pair_words kind time i j =
    codes "check" ∷ decimal 6 ∷ codes "Conflict" ∷ kind ∷ codes "time" ∷ decimal time ∷ codes "i" ∷ decimal i ∷ codes "j" ∷ decimal j ∷ []

-- a cycle of agents of a plan: its time, and the least of them
abbrev pub cycle_words : ℕ → ℕ → List (List ℕ)
cycle_words time least = codes "check" ∷ decimal 6 ∷ codes "Conflict" ∷ codes "Cycle" ∷ codes "time" ∷ decimal time ∷ codes "least" ∷ decimal least ∷ []

-- a conflict of agents of a plan
abbrev pub conflict_words : Conflict → List (List ℕ)
conflict_words (Vertex time i j) = pair_words (codes "Vertex") time i j
conflict_words (Swapping time i j) = pair_words (codes "Swapping") time i j
conflict_words (Cycle time least) = cycle_words time least

-- the words of the line of a fault of a plan
abbrev pub check_words : PlanFault → List (List ℕ)
check_words p.OutOfMemory = memory_words
check_words p.Agents = named (codes "check") 2 (codes "Agents")
check_words (p.Start agent) = named_at (codes "check") 3 (codes "Start") (codes "agent") agent
check_words (p.Goal agent) = named_at (codes "check") 4 (codes "Goal") (codes "agent") agent
check_words (p.Step agent time) = named_by (codes "check") 5 (codes "Step") (codes "agent") agent (codes "time") time
check_words (p.Conflict conflict) = conflict_words conflict

-- whether memory failed
abbrev pub is_check_failure : PlanFault → Bool
is_check_failure p.OutOfMemory = true
is_check_failure _ = false
