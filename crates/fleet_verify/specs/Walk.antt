-- The run without holds, and the positions of the agents in the order in which it reaches them.
use Rattle.std.specs.Prelude.{◌≡◌, ℕ, zero, suc, ◌+◌, ◌<◌, ◌≤◌, Bool, List, [], ◌++◌, length, map, filter, slice_index, Contains, All, IsTrue, EachIndex, false}
use Rattle.fleet_model.specs.declared.program.Await.{Await}
use Rattle.fleet_model.specs.declared.program.Visit.{Visit}
use Rattle.fleet_model.specs.Program.{Program, moves, awaits_of}
use Rattle.fleet_model.specs.Machine.{Configuration, opening, count_at, is_ready, is_finished, run, indices, IsEnd}
use Rattle.fleet_model.specs.declared.geometry.Place.{Place}
use Rattle.fleet_model.specs.declared.task.Task.{Task}
use Rattle.fleet_machine.specs.Machine.{MachineState, Runs, flag_of}
use Rattle.fleet_verify.specs.declared.unheld_run.UnheldRun.{UnheldRun}
use Rattle.fleet_verify.specs.declared.order.VisitOrder.{VisitOrder}
use Rattle.fleet_verify.specs.declared.unheld_run.Stop.{Stop}
use Rattle.fleet_verify.specs.declared.unheld_run.Stop.TheVariants.{OutOfMemory, OffGround}
use Rattle.fleet_verify.specs.Faults.{EachAction, EndsRight, StandsRight}
use Rattle.fleet_verify.specs.Order.{AreAdded}

-- the counts of the configuration
abbrev pub AreCounts : Configuration → List ℕ → Type 0
AreCounts c counts = (i : ℕ) → slice_index counts i ≡ count_at c i

-- how many actions each agent of the configuration has finished
abbrev pub counts_of : Configuration → List ℕ
counts_of c = map (λ s. s.count) c

-- by counts of finished actions: agent i has an action left, and each await of it is met
pub record IsReadyBy (p : Program) (counts : List ℕ) (i : ℕ) : Type 0 where
  pub left : slice_index counts i < moves p i
  pub met : (w : Await) → Contains (awaits_of p i (slice_index counts i + 1)) w → w.count ≤ slice_index counts w.agent

-- the positions of the agents below n that are moving
abbrev pub positions_of : (ℕ → Bool) → (ℕ → ℕ) → ℕ → List Visit
positions_of moving position n = map (λ i. record { agent = i; position = position i }) (filter moving (indices n))

-- the positions to which those of the agents below n come that finish an action after so many
abbrev pub begun_by : (ℕ → Bool) → (ℕ → ℕ) → ℕ → List Visit
begun_by moving count n = positions_of moving (λ i. count i + 1) n

-- the positions that t ticks without holds come to, tick by tick, and in each tick by agent
unfoldable pub begun_in : Program → ℕ → List Visit
begun_in p zero = map (λ i. record { agent = i; position = 0 }) (indices (length p))
begun_in p (suc t) = begun_in p t ++ begun_by (is_ready p (run p [] t)) (count_at (run p [] t)) (length p)

-- the positions to which the last tick has brought those of the agents below n that it moved
abbrev pub moved_to : MachineState → ℕ → List Visit
moved_to m n = positions_of (flag_of m.moving) (count_at m.configuration) n

-- the position of agent i: how many actions it has finished
abbrev pub position_in : MachineState → ℕ → Visit
position_in m i = record { agent = i; position = count_at m.configuration i }

-- the machine is at its start
pub record IsAtOpening (p : Program) (m : MachineState) : Type 0 where
  pub runs : Runs p m
  pub opening : m.configuration ≡ opening p

-- t ticks without holds have led the machine to the end of their run
pub record IsEnded (p : Program) (m : MachineState) (t : ℕ) : Type 0 where
  pub runs : Runs p m
  pub here : m.configuration ≡ run p [] t
  pub end : IsEnd p [] t

-- at these positions of their paths the agents are on passable ground
abbrev pub AreOnGround : (Place → Bool) → Program → List Visit → Type 0
AreOnGround passable p positions = All (λ v. StandsRight passable p v.agent v.position) positions

-- the visits that begin with these positions were added, and all positions are on passable ground
pub record AreAddedOnGround (passable : Place → Bool) (p : Program) (positions : List Visit) (order : VisitOrder) : Type 0 where
  pub added : AreAdded p positions order
  pub on_ground : AreOnGround passable p positions

-- some path leaves passable ground
abbrev pub LeavesGround : (Place → Bool) → Program → Type 0
LeavesGround passable p = EachAction p (StandsRight passable p) → ⊥

-- the run at its start, to which no visits are added yet
pub record IsAtStart (p : Program) (run : UnheldRun) : Type 0 where
  pub machine : IsAtOpening p run.machine
  pub none : AreAdded p [] run.visits

-- the run was stopped rightly: some path leaves passable ground. Want of memory may stop any run
abbrev pub IsStop : (Place → Bool) → Program → Stop → Type 0
IsStop passable p OutOfMemory = Unit {0}
IsStop passable p OffGround = LeavesGround passable p

-- the place is no passable ground, unless memory ran out
abbrev pub IsStopAt : (Place → Bool) → Place → Stop → Type 0
IsStopAt passable q OutOfMemory = Unit {0}
IsStopAt passable q OffGround = passable q ≡ false

-- the run without holds to its end, with all visits that begin in it, each of them on passable ground
pub record IsRunOnGround (passable : Place → Bool) (p : Program) (run : UnheldRun) : Type 0 where
  pub ended : IsEnded p run.machine run.ticks
  pub added : AreAdded p (begun_in p run.ticks) run.visits
  pub on_ground : AreOnGround passable p (begun_in p run.ticks)

-- all actions are finished, and each agent has the goal of its task and stands on it
pub record HasArrived (tasks : List Task) (p : Program) (c : Configuration) : Type 0 where
  pub finished : IsTrue (is_finished p c)
  pub ends : EachIndex p (EndsRight tasks p)
