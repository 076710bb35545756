-- The state of a machine as contracts see it, and the program that it runs.
use Rattle.std.specs.Prelude.{◌≡◌, ℕ, ◌+◌, ◌*◌, ◌/◌, ◌%◌, ◌<◌, ◌≤◌, ◌==◌, ◌&&◌, Bool, false, nat_lt, nat_le, List, length, map, set, min, get_or, take, Option, Some, None, is_none, IfSome, true, slice_get, if◌then◌else◌}
use Rattle.std.specs.List.{list_all}
use Rattle.fleet_model.specs.Program.{Program, IsWellFormed, moves, step_of, awaits_of, awaits_before}
use Rattle.fleet_model.specs.declared.geometry.Step.TheVariants.{Dwell}
use Rattle.fleet_model.specs.declared.limits.TheConstants.{MAX_AGENTS}
use Rattle.fleet_model.specs.declared.program.Await.{Await}
use Rattle.fleet_model.specs.declared.standing.Standing.{Standing}
use Rattle.fleet_model.specs.Machine.{Configuration, standing_at, count_at, next_action, finished_one, is_met, is_ready, is_moving, indices}
use Rattle.fleet_machine.specs.declared.steps.Mark.{Mark}
use Rattle.fleet_machine.specs.declared.agent_set.TheConstants.{LISTS_EACH}
use Rattle.fleet_machine.specs.WaitLists.{WaitState, home_of}

-- flag i of the flags
abbrev pub flag_of : List Bool → ℕ → Bool
flag_of flags i = get_or flags i false

-- how far one has read that has read nothing
abbrev pub unread : Mark
unread = record { before = 0; met = 0; step = Dwell }

-- how far agent i has read its program
abbrev pub mark_of : List Mark → ℕ → Mark
mark_of marks i = get_or marks i unread

-- the agents on their way, how far each has read its program, and flags for each: whether the last tick, or the one
-- under way, moves it, whether it is ready, whether an action is left to it, and whether the tick under way has to
-- judge it anew. An agent that waits stands in the list of one whose count it lacks, and waits for the least count of
-- that list or for more. So many agents have been looked at
pub record MachineState : Type 0 where
  pub configuration : Configuration
  pub marks : List Mark
  pub moving : List Bool
  pub ready : List Bool
  pub left : List Bool
  pub due : List Bool
  pub waiting : WaitState
  pub least : List ℕ
  pub looked : ℕ

-- agent i has an action left
abbrev pub is_left : Program → Configuration → ℕ → Bool
is_left p c i = nat_lt (count_at c i) (moves p i)

-- this is an await of the next action of agent i, and is not met
pub record IsUnmet (p : Program) (c : Configuration) (i : ℕ) (awaited : Await) : Type 0 where
  pub place : ℕ
  pub at : slice_get (awaits_of p i (count_at c i + 1)) place ≡ Some awaited
  pub unmet : is_met c awaited ≡ false

-- the agent is ready or has finished, or this await of its next action is not met
abbrev pub IsLacked : Program → Configuration → ℕ → Option Await → Type 0
IsLacked p c i None = is_ready p c i ≡ is_left p c i
IsLacked p c i (Some awaited) = IsUnmet p c i awaited

-- the list of those that wait for this: each agent has a few, and counts go round them
abbrev pub list_of : Await → ℕ
list_of w = w.agent * LISTS_EACH + w.count % LISTS_EACH

-- the agent whose list this is
abbrev pub agent_of : ℕ → ℕ
agent_of list = list / LISTS_EACH

-- the least count of list j: each agent in the list waits for this one or for a greater one
abbrev pub least_of : List ℕ → ℕ → ℕ
least_of least j = get_or least j 0

-- an await of the next action of agent i is not met, those that wait for it stand in list j, and it awaits so many
-- actions at least
pub record Lacks (p : Program) (c : Configuration) (least i j : ℕ) : Type 0 where
  pub awaited : Await
  pub is_unmet : IsUnmet p c i awaited
  pub list : list_of awaited ≡ j
  pub late : least ≤ awaited.count

-- agent i belongs there: in the list of an agent whose count it lacks, or, if it is ready or has finished, in no list
abbrev pub IsHome : Program → Configuration → (least : List ℕ) → ℕ → Option ℕ → Type 0
IsHome p c least i None = is_ready p c i ≡ is_left p c i
IsHome p c least i (Some j) = Lacks p c (least_of least j) i j

-- list j is that of the count of its agent, which has finished as many actions as one in the list may wait for
abbrev pub is_reached : MachineState → ℕ → Bool
is_reached m j =
    let count = count_at m.configuration (agent_of j) in
    (list_of (record { agent = agent_of j; count = count }) == j) && nat_le (least_of m.least j) count

-- the least counts, where one agent more waits for what it lacks
abbrev pub lowered : List ℕ → Option Await → List ℕ
lowered least None = least
lowered least (Some w) = set least (list_of w) (min (least_of least (list_of w)) w.count)

-- so many awaits stand before the next action of agent i, and the first ones of that action are met
pub record IsRead (p : Program) (c : Configuration) (i : ℕ) (mark : Mark) : Type 0 where
  pub before : mark.before ≡ awaits_before p i (count_at c i)
  pub few : mark.met ≤ length (awaits_of p i (count_at c i + 1))
  pub met : list_all (is_met c) (take mark.met (awaits_of p i (count_at c i + 1))) ≡ true

-- all awaits of action n of agent i are read, and its step
pub record IsReadThrough (p : Program) (i n : ℕ) (mark : Mark) : Type 0 where
  pub all : mark.met ≡ length (awaits_of p i n)
  pub step : step_of p i n ≡ Some mark.step

-- so many awaits stand before the next action of agent i, which is read through
pub record IsReadToStep (p : Program) (c : Configuration) (i : ℕ) (mark : Mark) : Type 0 where
  pub before : mark.before ≡ awaits_before p i (count_at c i)
  pub through : IsReadThrough p i (count_at c i + 1) mark

-- an agent that is ready has read its next action through
abbrev pub HasReadAll : Program → Configuration → ℕ → Mark → Type 0
HasReadAll p c i mark = is_ready p c i ≡ true → IsReadThrough p i (count_at c i + 1) mark

-- agent i of the program, which is well-formed, has its place and its mark in the machine, and an action left
pub record HasNext (p : Program) (m : MachineState) (i : ℕ) : Type 0 where
  pub well_formed : IsWellFormed p
  pub agent : i < length p
  pub standing : i < length m.configuration
  pub marks : i < length m.marks
  pub left : count_at m.configuration i < moves p i

-- agent i has read on so far: up to the first await that is not met, which was found, or through the step
pub record HasReadOn (p : Program) (m : MachineState) (i : ℕ) (mark : Mark) (found : Option Await) : Type 0 where
  pub read : IsRead p m.configuration i mark
  pub all : HasReadAll p m.configuration i mark
  pub lacked : IsLacked p m.configuration i found
  pub kept : IfSome found (λ _. mark ≡ record (mark_of m.marks i) { met = mark.met })
  pub agent : IfSome found (λ w. w.agent < MAX_AGENTS)
  pub list : IfSome found (λ w. list_of w < length p * LISTS_EACH)
  pub ready : is_ready p m.configuration i ≡ (is_left p m.configuration i && is_none found)

-- agent i is flagged as it is, has read what it is to have read, and stands in the list in which it belongs
pub record IsJudged (p : Program) (m : MachineState) (i : ℕ) : Type 0 where
  pub read : IsRead p m.configuration i (mark_of m.marks i)
  pub all : HasReadAll p m.configuration i (mark_of m.marks i)
  pub ready : flag_of m.ready i ≡ is_ready p m.configuration i
  pub left : flag_of m.left i ≡ is_left p m.configuration i
  pub home : IsHome p m.configuration m.least i (home_of m.waiting.homes i)

-- each of n agents has its mark, its flags, its lists, and a place in one
pub record HasRows (n : ℕ) (m : MachineState) : Type 0 where
  pub marks : length m.marks ≡ n
  pub ready : length m.ready ≡ n
  pub left : length m.left ≡ n
  pub due : length m.due ≡ n
  pub lists : m.waiting.lists ≡ n * LISTS_EACH
  pub homes : length m.waiting.homes ≡ n
  pub least : length m.least ≡ n * LISTS_EACH

-- the program is well-formed, and each of its agents has its places in the machine
pub record Fits (p : Program) (m : MachineState) : Type 0 where
  pub well_formed : IsWellFormed p
  pub agents : length m.configuration ≡ length p
  pub rows : HasRows (length p) m

-- agent i stands in no list, and the list of those that wait for this is one of the machine's
pub record CanWait (m : MachineState) (i : ℕ) (awaited : Await) : Type 0 where
  pub home : i < length m.waiting.homes
  pub nowhere : home_of m.waiting.homes i ≡ None
  pub agent : awaited.agent < MAX_AGENTS
  pub list : list_of awaited < m.waiting.lists
  pub least : list_of awaited < length m.least

-- the lists of agent j are among the machine's, and who stands in a list can be flagged as due
pub record CanWake (m : MachineState) (j : ℕ) : Type 0 where
  pub list : j * LISTS_EACH + LISTS_EACH ≤ m.waiting.lists
  pub least : j * LISTS_EACH + LISTS_EACH ≤ length m.least
  pub due : length m.due ≡ length m.waiting.homes

-- the machine runs this program
pub record Runs (p : Program) (m : MachineState) : Type 0 where
  pub well_formed : IsWellFormed p
  pub agents : length m.configuration ≡ length p
  pub flags : length m.moving ≡ length p
  pub rows : HasRows (length p) m
  pub judged : (i : ℕ) → i < length p → IsJudged p m i

-- agent i after its next action
abbrev pub after_next : Program → Configuration → ℕ → Standing
after_next p c i = finished_one (standing_at c i) (next_action p c i)

-- how far an agent has read that has finished the action up to whose step it had read
abbrev pub passed : Mark → Mark
passed mark = record mark { before = mark.before + mark.met; met = 0 }

-- how far agent i has read after a tick in which these are held, before it is judged anew
abbrev pub mark_after : Program → (ℕ → Bool) → MachineState → ℕ → Mark
mark_after p held m i = if is_moving p held m.configuration i then passed (mark_of m.marks i) else mark_of m.marks i

-- .. of all agents
abbrev pub marks_after : Program → (ℕ → Bool) → MachineState → List Mark
marks_after p held m = map (mark_after p held m) (indices (length p))

-- a flag for each agent, whether a tick in which these are held moves it
abbrev pub moving_flags : Program → (ℕ → Bool) → Configuration → List Bool
moving_flags p held c = map (is_moving p held c) (indices (length p))
