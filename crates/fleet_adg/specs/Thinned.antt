-- A program without its implied awaits, and how its bytes are made: await by await, action by action.
use Rattle.std.specs.Prelude.{◌≡◌, ℕ, Bool, ◌+◌, ◌<◌, ◌≤◌, ◌++◌, List, length, slice_get, Some, Contains, ◌↔◌}
use Rattle.std.specs.List.{flat_map}
use Rattle.fleet_model.specs.declared.limits.TheConstants.{MAX_MOVES_V1}
use Rattle.fleet_model.specs.declared.geometry.Place.{Place}
use Rattle.fleet_model.specs.declared.task.Task.{Task}
use Rattle.fleet_model.specs.declared.program.Await.{Await}
use Rattle.fleet_model.specs.declared.program.Action.{Action}
use Rattle.fleet_model.specs.declared.program.ActionId.{ActionId}
use Rattle.fleet_model.specs.declared.program.AgentProgram.{AgentProgram}
use Rattle.fleet_model.specs.Program.{Program, start_of, goal_of, moves, step_of, awaits_of, AreAwaits, AreInRange, NeverStays}
use Rattle.fleet_model.specs.Chain.{IsLongestChain}
use Rattle.fleet_model.specs.Accepted.{IsAccepted}
use Rattle.fleet_code.specs.declared.format.Version.{Version}
use Rattle.fleet_code.specs.Spelling.{most_count, await, action}
use Rattle.fleet_needs.specs.declared.implied.ImpliedAwaits.{ImpliedAwaits}
use Rattle.fleet_needs.specs.Flags.{AreImplied}
use Rattle.fleet_verify.specs.Reduced.{IsThinned, HasLeastAwaits, RunEqually}
use Rattle.fleet_needs.specs.Implied.{IsImplied}

-- among the first k awaits of the action those that are not implied, in rising order of agent
pub record AreUnimplied (p : Program) (a : ActionId) (k : ℕ) (awaits : List Await) : Type 0 where
  pub formed : AreAwaits (length p) a.agent awaits
  pub known : (w : Await) → Contains awaits w ↔ ((m : ℕ) × (m < k) × (slice_get (awaits_of p a.agent a.number) m ≡ Some w) × (IsImplied p a w → ⊥))

-- an action with the step of that of the program and its awaits that are not implied
pub record IsThinnedAction (p : Program) (a : ActionId) (s : Action) : Type 0 where
  pub step : step_of p a.agent a.number ≡ Some s.step
  pub awaits : AreUnimplied p a (length (awaits_of p a.agent a.number)) s.awaits

-- so are the first n actions of agent i
pub record AreThinnedActions (p : Program) (i n : ℕ) (actions : List Action) : Type 0 where
  pub long : length actions ≡ n
  pub each : (k : ℕ) (s : Action) → slice_get actions k ≡ Some s → IsThinnedAction p (record { agent = i; number = k + 1 }) s

-- the start and the goal of agent i, and its thinned actions
pub record IsThinnedAgent (p : Program) (i : ℕ) (a : AgentProgram) : Type 0 where
  pub start : a.start ≡ start_of p i
  pub goal : a.goal ≡ goal_of p i
  pub actions : AreThinnedActions p i (moves p i) a.actions

-- so are the first n agents
pub record AreThinnedAgents (p : Program) (n : ℕ) (agents : List AgentProgram) : Type 0 where
  pub long : length agents ≡ n
  pub each : (i : ℕ) (a : AgentProgram) → slice_get agents i ≡ Some a → IsThinnedAgent p i a

-- ---- what is left of an accepted program

-- q is p without its implied awaits, accepted as p is and with as long a chain; it runs equally, loses nothing if it is
-- thinned again, and no program with the starts, goals, steps and chains of p does without an await of q
pub record IsThinnedFor (passable : Place → Bool) (tasks : List Task) (p : Program) (chain : ℕ) (q : Program) : Type 0 where
  pub is : IsThinned p q
  pub accepted : IsAccepted passable tasks q
  pub longest : IsLongestChain q chain
  pub equally : RunEqually p q
  pub again : IsThinned q q
  pub least : HasLeastAwaits p q

-- ---- its bytes

-- version 1 of the bytes has room for the number of each agent's actions, and a byte for each step
pub record FitsFirst (p : Program) : Type 0 where
  pub few : (i : ℕ) → moves p i ≤ MAX_MOVES_V1
  pub moves_only : NeverStays p

-- it is known which awaits are implied, all awaits can be met, and the version has bytes for so great counts
pub record CanThin (v : Version) (p : Program) (known : ImpliedAwaits) : Type 0 where
  pub implied : AreImplied p known
  pub in_range : AreInRange p
  pub few : (i : ℕ) → moves p i ≤ most_count v

-- bytes were added: those of something of which P holds
pub record Adds {X : Type 0} (bytes : X → List ℕ) (P : X → Type 0) (old new : List ℕ) : Type 0 where
  pub added : X
  pub holds : P added
  pub is : new ≡ old ++ bytes added

-- those of the first k awaits of the action that are not implied
abbrev pub AddsAwaits : Version → Program → ActionId → ℕ → (old new : List ℕ) → Type 0
AddsAwaits v p a k old new = Adds (flat_map (await v)) (AreUnimplied p a k) old new

-- those of the action without its implied awaits
abbrev pub AddsAction : Version → Program → ActionId → (old new : List ℕ) → Type 0
AddsAction v p a old new = Adds (action v) (IsThinnedAction p a) old new

-- those of the first n actions of agent i without their implied awaits
abbrev pub AddsActions : Version → Program → (i n : ℕ) → (old new : List ℕ) → Type 0
AddsActions v p i n old new = Adds (flat_map (action v)) (AreThinnedActions p i n) old new
