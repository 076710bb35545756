-- A refusal as a plain struct: its part, its number and the values that its line has.
use Rattle.std.specs.Prelude.{ℕ, ◌*◌, List, [], ◌∷◌, length, Option, Some, None, slice_get}
use Rattle.fleet_grid.specs.declared.fault.MapFault.{MapFault}
use Rattle.fleet_grid.specs.declared.fault.MapFault.TheVariants as m
use Rattle.fleet_scen.specs.declared.fault.ScenFault.{ScenFault}
use Rattle.fleet_scen.specs.declared.fault.ScenFault.TheVariants as s
use Rattle.fleet_plan.specs.declared.plan_fault.Conflict.{Conflict}
use Rattle.fleet_plan.specs.declared.plan_fault.Conflict.TheVariants as k
use Rattle.fleet_plan.specs.declared.text_fault.TextFault.{TextFault}
use Rattle.fleet_plan.specs.declared.text_fault.TextFault.TheVariants as t
use Rattle.fleet_plan.specs.declared.plan_fault.PlanFault.{PlanFault}
use Rattle.fleet_plan.specs.declared.plan_fault.PlanFault.TheVariants as p
use Rattle.fleet_model.specs.declared.geometry.Cell.{Cell}
use Rattle.fleet_model.specs.declared.program.ActionId.{ActionId}
use Rattle.fleet_model.specs.declared.program.Visit.{Visit}
use Rattle.fleet_search.specs.declared.fault.PlanStop.{PlanStop}
use Rattle.fleet_search.specs.declared.fault.PlanStop.TheVariants as q
use Rattle.fleet_adg.specs.declared.fault.CompileFault.{CompileFault}
use Rattle.fleet_adg.specs.declared.fault.CompileFault.TheVariants as c
use Rattle.fleet_code.specs.declared.fault.LoadFault.{LoadFault}
use Rattle.fleet_code.specs.declared.fault.LoadFault.TheVariants as l
use Rattle.fleet_verify.specs.declared.fault.VerifyFault.{VerifyFault}
use Rattle.fleet_verify.specs.declared.fault.VerifyFault.TheVariants as v
use Rattle.fleet_run.specs.declared.run.RunFault.{RunFault}
use Rattle.fleet_run.specs.declared.run.RunFault.TheVariants as r
use Rattle.fleet_c.specs.declared.fault.CallFault.{CallFault}
use Rattle.fleet_c.specs.declared.fault.CallFault.TheVariants as f
use Rattle.fleet_c.specs.declared.plain.FleetFault.{FleetFault}
use Rattle.fleet_c.specs.declared.plain.TheConstants.{MEMORY, MAP, SCEN, TEXT, CHECK, SEARCH, COMPILE, LOAD, VERIFY, RUN, VERTEX, SWAPPING, CYCLE}

-- a refusal without values
abbrev pub named : ℕ → ℕ → FleetFault
named part number = record { part = part; number = number; count = 0; fields = 0 ∷ 0 ∷ 0 ∷ 0 ∷ 0 ∷ 0 ∷ [] }

-- a refusal with one value
abbrev pub at : ℕ → ℕ → ℕ → FleetFault
at part number value = record { part = part; number = number; count = 1; fields = value ∷ 0 ∷ 0 ∷ 0 ∷ 0 ∷ 0 ∷ [] }

-- a refusal with two values
abbrev pub by : ℕ → ℕ → ℕ → ℕ → FleetFault
by part number first second = record { part = part; number = number; count = 2; fields = first ∷ second ∷ 0 ∷ 0 ∷ 0 ∷ 0 ∷ [] }

-- want of memory
abbrev pub memory_plain : FleetFault
memory_plain = named MEMORY 1

-- a fault of a map's text
abbrev pub map_plain : MapFault → FleetFault
map_plain m.OutOfMemory = memory_plain
map_plain (m.Header line) = at MAP 2 line
map_plain m.Size = named MAP 3
map_plain m.RowCount = named MAP 4
map_plain (m.RowLength row) = at MAP 5 row
map_plain (m.Glyph row column) = by MAP 6 row column
map_plain m.Trailing = named MAP 7

-- a fault of a scenario's text
abbrev pub scen_plain : ScenFault → FleetFault
scen_plain s.OutOfMemory = memory_plain
scen_plain s.Version = named SCEN 2
scen_plain (s.Fields line) = at SCEN 3 line
scen_plain (s.Number line field) = by SCEN 4 line field
scen_plain (s.OtherMap line) = at SCEN 5 line
scen_plain (s.Blocked line) = at SCEN 6 line
scen_plain (s.SharedStart line) = at SCEN 7 line
scen_plain (s.SharedGoal line) = at SCEN 8 line
scen_plain s.NoAgents = named SCEN 9
scen_plain s.TooMany = named SCEN 10
scen_plain s.Fewer = named SCEN 11

-- a fault of a plan's text
abbrev pub text_plain : TextFault → FleetFault
text_plain t.OutOfMemory = memory_plain
text_plain (t.Form line) = at TEXT 2 line
text_plain (t.Length line) = at TEXT 3 line
text_plain t.AgentCount = named TEXT 4

-- a conflict of two agents: its kind, its time and the agents
abbrev pub pair_plain : ℕ → ℕ → ℕ → ℕ → FleetFault
pair_plain kind time i j = record { part = CHECK; number = 6; count = 4; fields = kind ∷ time ∷ i ∷ j ∷ 0 ∷ 0 ∷ [] }

-- a conflict of agents: its kind, its time, and the two agents or the least of the ring
abbrev pub conflict_plain : Conflict → FleetFault
conflict_plain (k.Vertex time i j) = pair_plain VERTEX time i j
conflict_plain (k.Swapping time i j) = pair_plain SWAPPING time i j
conflict_plain (k.Cycle time least) = record { part = CHECK; number = 6; count = 3; fields = CYCLE ∷ time ∷ least ∷ 0 ∷ 0 ∷ 0 ∷ [] }

-- a fault of a plan
abbrev pub check_plain : PlanFault → FleetFault
check_plain p.OutOfMemory = memory_plain
check_plain p.Agents = named CHECK 2
check_plain (p.Start agent) = at CHECK 3 agent
check_plain (p.Goal agent) = at CHECK 4 agent
check_plain (p.Step agent time) = by CHECK 5 agent time
check_plain (p.Conflict conflict) = conflict_plain conflict

-- an agent without a path
abbrev pub search_plain : PlanStop → FleetFault
search_plain q.OutOfMemory = memory_plain
search_plain (q.NoPath agent) = at SEARCH 2 agent

-- a plan that was not compiled
abbrev pub compile_plain : CompileFault → FleetFault
compile_plain c.OutOfMemory = memory_plain
compile_plain c.TooLong = named COMPILE 2

-- a fault of the bytes of a program
abbrev pub load_plain : LoadFault → FleetFault
load_plain l.OutOfMemory = memory_plain
load_plain l.Magic = named LOAD 2
load_plain l.Truncated = named LOAD 3
load_plain l.AgentCount = named LOAD 4
load_plain l.Total = named LOAD 5
load_plain (l.Opcode offset) = at LOAD 6 offset
load_plain (l.AwaitAgent offset) = at LOAD 7 offset
load_plain (l.AwaitOrder offset) = at LOAD 8 offset
load_plain (l.AwaitCount offset) = at LOAD 9 offset
load_plain (l.Trailing offset) = at LOAD 10 offset

-- the agent of an action, or 0
abbrev pub agent_or : Option ActionId → ℕ
agent_or (Some action) = action.agent
agent_or None = 0

-- the number of an action, or 0
abbrev pub number_or : Option ActionId → ℕ
number_or (Some action) = action.number
number_or None = 0

-- the agent of the action at an index of a ring, or 0 past its end
abbrev pub agent_at : List ActionId → ℕ → ℕ
agent_at ring i = agent_or (slice_get ring i)

-- the number of the action at an index of a ring, or 0 past its end
abbrev pub number_at : List ActionId → ℕ → ℕ
number_at ring i = number_or (slice_get ring i)

-- a ring of actions: two values of each, and of the first three which they are
abbrev pub ring_plain : List ActionId → FleetFault
ring_plain ring =
    record {
      part = VERIFY;
      number = 7;
      count = length ring * 2;
      fields = agent_at ring 0 ∷ number_at ring 0 ∷ agent_at ring 1 ∷ number_at ring 1 ∷ agent_at ring 2 ∷ number_at ring 2 ∷ [];
    }

-- two visits of a cell that no chain orders
abbrev pub unordered_plain : Cell → Visit → Visit → FleetFault
unordered_plain cell first second =
    record {
      part = VERIFY;
      number = 8;
      count = 6;
      fields = cell.x ∷ cell.y ∷ first.agent ∷ first.position ∷ second.agent ∷ second.position ∷ [];
    }

-- a fault of a program
abbrev pub verify_plain : VerifyFault → FleetFault
verify_plain v.OutOfMemory = memory_plain
verify_plain v.OtherFleet = named VERIFY 2
verify_plain (v.Start agent) = at VERIFY 3 agent
verify_plain (v.Goal agent) = at VERIFY 4 agent
verify_plain (v.Step agent action) = by VERIFY 5 agent action
verify_plain (v.AwaitRange agent action) = by VERIFY 6 agent action
verify_plain (v.Cyclic ring) = ring_plain ring.items
verify_plain (v.Unordered cell first second) = unordered_plain cell first second

-- a rehearsal that stopped
abbrev pub run_plain : RunFault → FleetFault
run_plain r.OutOfMemory = memory_plain
run_plain (r.Source tick) = at RUN 2 tick
run_plain (r.Hold line) = at RUN 3 line
run_plain r.Write = named RUN 4
run_plain r.HoldLimit = named RUN 5

-- the refusal of a call
abbrev pub plain_of : CallFault → FleetFault
plain_of f.OutOfMemory = memory_plain
plain_of (f.Map fault) = map_plain fault
plain_of (f.Scen fault) = scen_plain fault
plain_of (f.Text fault) = text_plain fault
plain_of (f.Check fault) = check_plain fault
plain_of (f.Search stop) = search_plain stop
plain_of (f.Compile fault) = compile_plain fault
plain_of (f.Load fault) = load_plain fault
plain_of (f.Verify fault) = verify_plain fault
plain_of (f.Run fault) = run_plain fault
